-- What shapes show.
use Rattle.std.proofs.Common.{◌≡◌, refl, ◌∙◌, ap, subst, ℕ, pos, Bool, true, false, if◌then◌else◌, List, [], ◌∷◌, ◌++◌, map, append_assoc}
use Rattle.std.proofs.Common.{append-nil}
use Rattle.std.specs.List.{AllZip}
use Rattle.prettyless_model.specs.Shows.{Item, NoneIsLate, Late, spaced, apart, ended, loose, shows}
use Rattle.prettyless_trees.specs.Counted.{text}
use Rattle.prettyless_trees.specs.Lines.{line, line_, space}
use Rattle.prettyless_model.specs.Tree.{Tree, Nil, HardLine, LineSuffix, BreakOrFlat}
use Rattle.prettyless_trees.specs.Built.{append, enclose, group, nest, softline}
use Rattle.prettyless_trees.specs.Lists.{change_all_but_last, punctuated}
use Rattle.prettyless_laws.specs.Shown.{text_items, with_gaps}
use Rattle.prettyless_trees.specs.Words.{intersperse}
use Rattle.prettyless_laws.proofs.ShownItems.{append_shows, enclose_shows, nest_shows, group_shows, line_suffix_shows, flat_alt_shows}
use Rattle.prettyless_laws.proofs.ShownItems.{if_group_break_shows, text_shows, space_shows, line_shows, line__shows, softline_shows}
use Rattle.prettyless_laws.proofs.ShownItems.{hard_line_shows, intersperse_shows, punctuated_shows, marks_stand_in_gaps}
use Rattle.prettyless_shapes.specs.Items.{ShowsAll, ShowsBlock, ShowsBoth, ShowsMore, ShowsSame, ShowsList, mark_items, edge_item}
use Rattle.prettyless_shapes.specs.Items.{trail_items, member_items, list_items}
use Rattle.prettyless_shapes.specs.Shapes.{gapped, block, hanging, commented, late_commented, edge, gap_between, trail, members, inside}
use Rattle.prettyless_shapes.specs.Shapes.{list}
use Rattle.prettyless_shapes.specs.declared.lists.ListStyle.{ListStyle}

-- ---- gaps

pub append_shows_both : (x y : Tree) → ShowsBoth x [] y (append x y)
append_shows_both x y xs ys h k = append_shows x y xs ys h k

pub append_shows_more : (x y : Tree) (more : List Item) → shows y more → ShowsMore x more (append x y)
append_shows_more x y more k xs h = append_shows x y xs more h k

-- what shows nothing, after a tree
pub append_shows_same : (x y : Tree) → shows y [] → ShowsSame x (append x y)
append_shows_same x y k xs h = subst (shows (append x y)) (append-nil xs) (append_shows x y xs [] h k)

pub gapped_shows : (x between y : Tree) (items : List Item) → shows between items → ShowsBoth x items y (gapped x between y)
gapped_shows x between y items shown xs ys h k =
    subst (shows (gapped x between y)) (append_assoc xs items ys)
    (append_shows (append x between) y (xs ++ items) ys (append_shows x between xs items h shown) k)

-- ---- indents and groups

pub nest_shows_same : (columns : ℕ) (x : Tree) → ShowsSame x (nest (pos columns) x)
nest_shows_same columns x xs h = nest_shows (pos columns) x xs h

pub group_shows_same : (x : Tree) → ShowsSame x (group x)
group_shows_same x xs h = group_shows x xs h

pub hanging_shows : (x y : Tree) (columns : ℕ) → ShowsBoth x (apart ∷ []) y (hanging x y columns)
hanging_shows x y columns xs ys h k =
    let after_line = append_shows line y (apart ∷ []) ys line_shows k in
    let nested = nest_shows (pos columns) (append line y) (apart ∷ ys) after_line in
    append_shows x (group (nest (pos columns) (append line y))) xs (apart ∷ ys) h
    (group_shows (nest (pos columns) (append line y)) (apart ∷ ys) nested)

-- line ends after two front parts, as they stand in items
block_items : (first items last : List Item)
    → (first ++ (ended ∷ items)) ++ (ended ∷ last) ≡ first ++ (ended ∷ (items ++ (ended ∷ last)))
block_items first items last = append_assoc first (ended ∷ items) (ended ∷ last)

pub block_shows : (before x after : Tree) (columns : ℕ) → ShowsBlock before x after (block before x after columns)
block_shows before x after columns first items last h i j =
    let below = append_shows HardLine x (ended ∷ []) items hard_line_shows i in
    let nested = nest_shows (pos columns) (append HardLine x) (ended ∷ items) below in
    let front = append before (nest (pos columns) (append HardLine x)) in
    let front_shows = append_shows before (nest (pos columns) (append HardLine x)) first (ended ∷ items) h nested in
    subst (shows (block before x after columns)) (block_items first items last)
    (gapped_shows front HardLine after (ended ∷ []) hard_line_shows (first ++ (ended ∷ items)) last front_shows j)

pub stacked_all_shows : (xs : List Tree) → ShowsAll (ended ∷ []) xs (intersperse HardLine xs)
stacked_all_shows xs lists each = intersperse_shows HardLine xs (ended ∷ []) lists hard_line_shows each

-- ---- comments

pub commented_shows : (x : Tree) (s : List ℕ) → ShowsMore x (spaced ∷ (text_items s ++ ended ∷ [])) (commented x s)
commented_shows x s xs h =
    let front = gapped_shows x space (text s) (spaced ∷ []) space_shows xs (text_items s) h (text_shows s) in
    subst (shows (commented x s)) (append_assoc xs (spaced ∷ text_items s) (ended ∷ []))
    (append_shows (gapped x space (text s)) HardLine (xs ++ (spaced ∷ text_items s)) (ended ∷ []) front hard_line_shows)

-- a text is not late
text_is_not_late : (s : List ℕ) → NoneIsLate (text_items s)
text_is_not_late [] = tt
text_is_not_late (b ∷ bs) = tt

pub late_commented_shows : (x : Tree) (s : List ℕ) → ShowsMore x (Late spaced ∷ map Late (text_items s)) (late_commented x s)
late_commented_shows x s xs h =
    let comment = append_shows space (text s) (spaced ∷ []) (text_items s) space_shows (text_shows s) in
    append_shows x (LineSuffix (append space (text s))) xs (Late spaced ∷ map Late (text_items s)) h
    (line_suffix_shows (append space (text s)) (spaced ∷ text_items s) comment (text_is_not_late s))

-- ---- lists

edge_shows : (padded : Bool) → shows (if padded then line else line_) ((if padded then apart else loose) ∷ [])
edge_shows true = line_shows
edge_shows false = line__shows

gap_shows : (filled : Bool) → shows (if filled then softline else line) (apart ∷ [])
gap_shows true = softline_shows
gap_shows false = line_shows

trail_shows : (trailing : Bool) (s : List ℕ)
    → shows (if trailing then BreakOrFlat (text s) Nil else Nil) (if trailing then mark_items s else [])
trail_shows false s = refl
trail_shows true [] = flat_alt_shows Nil Nil [] [] [] refl refl refl refl
trail_shows true (b ∷ bs) = if_group_break_shows (text (b ∷ bs)) (b ∷ bs) (text_shows (b ∷ bs))

module _ (style : ListStyle) (mark : List ℕ) where
  -- the members with punctuation and gaps
  members_show : (xs : List Tree) (lists : List (List Item)) → AllZip shows xs lists
      → shows (members style (text mark) xs) (member_items style mark lists)
  members_show xs lists each =
      let marked = punctuated (text mark) xs in
      let marked_items = change_all_but_last (λ (items : List Item). items ++ text_items mark) lists in
      let separated = intersperse_shows (gap_between style) marked (apart ∷ []) marked_items (gap_shows style.filled)
      (punctuated_shows (text mark) xs (text_items mark) lists (text_shows mark) each) in
      let in_gaps = marks_stand_in_gaps (text_items mark) (apart ∷ []) lists in
      append_shows (intersperse (gap_between style) marked) (trail style (text mark))
      (with_gaps (text_items mark ++ apart ∷ []) lists) (trail_items style mark)
      (subst (shows (intersperse (gap_between style) marked)) in_gaps separated) (trail_shows style.trailing mark)

  -- what is between the brackets
  inside_shows : (xs : List Tree) (lists : List (List Item)) → AllZip shows xs lists
      → shows (inside style (text mark) xs) (edge_item style ∷ (member_items style mark lists ++ edge_item style ∷ []))
  inside_shows xs lists each =
      let side = edge_shows style.padded in
      let items = member_items style mark lists in
      let front = append (edge style) (members style (text mark) xs) in
      let front_shows = append_shows (edge style) (members style (text mark) xs) (edge_item style ∷ []) items
      side (members_show xs lists each) in
      append_shows (nest (pos style.indent) front) (edge style) (edge_item style ∷ items) (edge_item style ∷ [])
      (nest_shows (pos style.indent) front (edge_item style ∷ items) front_shows) side

  module _ (before after : List ℕ) where
    -- the items inside, and the last bracket's in their place
    closed : (items : List Item)
        → (text_items before ++ (edge_item style ∷ (items ++ edge_item style ∷ []))) ++ text_items after
        ≡ text_items before ++ (edge_item style ∷ (items ++ (edge_item style ∷ text_items after)))
    closed items =
        append_assoc (text_items before) (edge_item style ∷ (items ++ edge_item style ∷ [])) (text_items after)
        ∙ ap (λ (zs : List Item). text_items before ++ (edge_item style ∷ zs))
        (append_assoc items (edge_item style ∷ []) (text_items after))

    pub list_shows : (xs : List Tree) → ShowsList style before xs mark after (list style before xs mark after)
    list_shows [] [] each =
        append_shows (text before) (text after) (text_items before) (text_items after) (text_shows before) (text_shows after)
    list_shows [] (items ∷ lists) each = absurd each
    list_shows (x ∷ xs) [] each = absurd each
    list_shows (x ∷ xs) (items ∷ lists) each =
        let inner = inside style (text mark) (x ∷ xs) in
        let whole = enclose (text before) inner (text after) in
        let shown = member_items style mark (items ∷ lists) in
        let all = enclose_shows (text before) inner (text after)
        (text_items before) (edge_item style ∷ (shown ++ edge_item style ∷ [])) (text_items after)
        (text_shows before) (inside_shows (x ∷ xs) (items ∷ lists) each) (text_shows after) in
        group_shows whole (list_items style before (items ∷ lists) mark after) (subst (shows whole) (closed shown) all)

-- ---- documents of a vector

-- each document shows items, and so does one more after them
pub each_and_one : {A : Type 0} (tree : A → Tree) (docs : List A) (doc : A) (lists : List (List Item)) (items : List Item)
    → AllZip shows (map tree docs) lists → shows (tree doc) items
    → AllZip shows (map tree (docs ++ doc ∷ [])) (lists ++ items ∷ [])
each_and_one tree [] doc [] items each one = (one, tt)
each_and_one tree [] doc (first ∷ lists) items each one = absurd each
each_and_one tree (d ∷ docs) doc [] items each one = absurd each
each_and_one tree (d ∷ docs) doc (first ∷ lists) items each one =
    (each.0, each_and_one tree docs doc lists items each.1 one)
