-- What shapes show, by what the documents show that they are made of.
use Rattle.std.specs.Prelude.{ℕ, List, [], ◌∷◌, ◌++◌, if◌then◌else◌}
use Rattle.std.specs.List.{AllZip}
use Rattle.prettyless_model.specs.Tree.{Tree}
use Rattle.prettyless_model.specs.Shows.{Item, Mark, apart, ended, loose, shows}
use Rattle.prettyless_laws.specs.Shown.{text_items, with_gaps}
use Rattle.prettyless_shapes.specs.declared.lists.ListStyle.{ListStyle}

-- the last tree shows what the first shows, this gap, and what the second shows
abbrev pub ShowsBoth : Tree → List Item → Tree → Tree → Type 0
ShowsBoth x gap y z = (xs ys : List Item) → shows x xs → shows y ys → shows z (xs ++ (gap ++ ys))

-- the last tree shows what the first shows, and more after it
abbrev pub ShowsMore : Tree → List Item → Tree → Type 0
ShowsMore x more z = (xs : List Item) → shows x xs → shows z (xs ++ more)

-- the second tree shows what the first shows
abbrev pub ShowsSame : Tree → Tree → Type 0
ShowsSame x z = (xs : List Item) → shows x xs → shows z xs

-- the last tree shows what the first three show, with a line end in each gap
abbrev pub ShowsBlock : Tree → Tree → Tree → Tree → Type 0
ShowsBlock before x after z =
    (first items last : List Item) → shows before first → shows x items → shows after last
    → shows z (first ++ (ended ∷ (items ++ (ended ∷ last))))

-- ---- lists

-- a tree shows what these trees show, with such a gap between two
abbrev pub ShowsAll : List Item → List Tree → Tree → Type 0
ShowsAll gap xs z = (lists : List (List Item)) → AllZip shows xs lists → shows z (with_gaps gap lists)

-- a text that may be left out, unless it is empty
abbrev pub mark_items : List ℕ → List Item
mark_items [] = []
mark_items (b ∷ bs) = Mark (b ∷ bs) ∷ []

-- inside each bracket: a space or a line end; without padding, any gap
abbrev pub edge_item : ListStyle → Item
edge_item style = if style.padded then apart else loose

-- after the last member: the punctuation, as an optional text, or nothing
abbrev pub trail_items : ListStyle → List ℕ → List Item
trail_items style mark = if style.trailing then mark_items mark else []

-- the members' items with the punctuation, and a space or a line end, in each gap
abbrev pub member_items : ListStyle → List ℕ → List (List Item) → List Item
member_items style mark lists = with_gaps (text_items mark ++ apart ∷ []) lists ++ trail_items style mark

-- those between brackets
abbrev pub list_items : ListStyle → List ℕ → List (List Item) → List ℕ → List ℕ → List Item
list_items style before [] mark after = text_items before ++ text_items after
list_items style before (items ∷ lists) mark after =
    let inside = member_items style mark (items ∷ lists) in
    text_items before ++ (edge_item style ∷ (inside ++ (edge_item style ∷ text_items after)))

-- a tree shows what these trees show, as members of a list
abbrev pub ShowsList : ListStyle → List ℕ → List Tree → List ℕ → List ℕ → Tree → Type 0
ShowsList style before xs mark after z =
    (lists : List (List Item)) → AllZip shows xs lists → shows z (list_items style before lists mark after)
