-- The document of a value, by recursion on the value: it is what is read of the pieces that spell it.
use Rattle.std.proofs.Common.{◌≡◌, refl, sym, ◌∙◌, ap, ℕ, zero, suc, ◌≤◌, max, Bool, true, false, not, ◌&&◌, ◌||◌, ◌==◌, List, []}
use Rattle.std.proofs.Common.{◌∷◌, ◌++◌, ◌+◌, append_assoc, arith}
use Rattle.std.specs.Prelude.{pos}
use Rattle.std.proofs.lemmas.Bool.{or_parts}
use Rattle.json.specs.Ascii as ascii
use Rattle.json.specs.Word.{is_operator, is_space, head, ends_word}
use Rattle.prettyless_trees.specs.Built.{append}
use Rattle.prettyless_trees.specs.Counted.{text}
use Rattle.prettyless_trees.specs.Lines.{space}
use Rattle.prettyless_model.specs.Tree.{Tree, Text, TextWithLen}
use Rattle.json_formatter.specs.declared.style.Style.{Style}
use Rattle.json_formatter.specs.declared.style.Fill.{Fill}
use Rattle.json_formatter.specs.declared.style.Fill.TheVariants as fills
use Rattle.json_formatter.specs.ByValue.{item_fills, items_fill, kept_if}
use Rattle.json_formatter.specs.Flat.{is_mark, piece_width}
use Rattle.json_formatter.specs.Values.{PiecedValue as Value, alone, array, object, PiecedItems as Items, no_items, item}
use Rattle.json_formatter.specs.Values.{PiecedMembers as Members, no_members}
use Rattle.json_formatter.specs.Values as g
use Rattle.json_formatter.specs.Values.{bracket, pieced as spelled, pieced_items as spelled_items, more_pieced_items as more_items}
use Rattle.json_formatter.specs.Values.{pieced_members as spelled_members, more_pieced_members as more_members}
use Rattle.json_formatter.specs.Values.{pieced_depth as depth, pieced_items_depth as items_depth, pieced_members_depth as members_depth}
use Rattle.json_formatter.specs.Values.{IsFormedPieced as IsFormed, AreFormedPiecedItems as AreFormedItems}
use Rattle.json_formatter.specs.Values.{AreFormedPiecedMembers as AreFormedMembers}
use Rattle.json_formatter.specs.Documents.{Read, Reader, Member, read, then_read, onto, is_json_sign, may_fill, opens, closes}
use Rattle.json_formatter.specs.Documents.{greatest_width, lexeme_of, opening_text}
use Rattle.json_formatter.specs.Documents.{with_value, with_comma}
use Rattle.json_formatter.specs.Documents.{member, has_blanks, list_member, list_members, trees_of, all_may_fill, listed, value}
use Rattle.json_formatter.proofs.Readers.{until_more, many_stops}
use Rattle.json_formatter.proofs.ReadOn.{member_reads, value_plain}
use Rattle.json_formatter.proofs.Shrinking.{list_member_shrinks, value_shrinks, value_keeps}

-- ---- the document

-- with the comma, where items come after it
abbrev pub item_marked : Tree → Items → Tree
item_marked t no_items = t
item_marked t (item v vs) = append t (text (ascii.comma ∷ []))

abbrev pub member_marked : Tree → Members → Tree
member_marked t no_members = t
member_marked t (g.member k v ms) = append t (text (ascii.comma ∷ []))

-- a key, its colon and a space
abbrev pub key_tree : List ℕ → Tree
key_tree k = append (append (text k) (text (ascii.colon ∷ []))) space

-- a bracket: a text, which is wider than a line where it keeps its list broken
abbrev pub opening : ℕ → Bool → Tree
opening a true = TextWithLen greatest_width (a ∷ [])
opening a false = Text (a ∷ [])

pub square_opening : (b : Bool) → opening_text (bracket 91 b) ≡ opening 91 b
square_opening true = refl
square_opening false = refl

pub curly_opening : (b : Bool) → opening_text (bracket 123 b) ≡ opening 123 b
curly_opening true = refl
curly_opening false = refl

-- its columns
pub square_width : (b : Bool) → piece_width (bracket 91 b) ≡ 1 + kept_if b
square_width true = refl
square_width false = refl

pub curly_width : (b : Bool) → piece_width (bracket 123 b) ≡ 1 + kept_if b
curly_width true = refl
curly_width false = refl

-- the document of a value, and those of the items and members of a list
abbrev mutual
  pub tree : Style → Value → Tree
  tree style (alone s) = text s
  tree style (array b vs) =
      listed false (items_fill style.fill vs) (opening ascii.open_bracket b) (item_trees style vs) (text (ascii.close_bracket ∷ []))
      (pos style.indent)
  tree style (object b ms) =
      listed (not style.compact) false (opening ascii.open_brace b) (member_trees style ms) (text (ascii.close_brace ∷ []))
      (pos style.indent)

  pub item_trees : Style → Items → List Tree
  item_trees style no_items = []
  item_trees style (item v vs) = item_marked (tree style v) vs ∷ item_trees style vs

  pub member_trees : Style → Members → List Tree
  member_trees style no_members = []
  member_trees style (g.member k v ms) = member_marked (append (key_tree k) (tree style v)) ms ∷ member_trees style ms

-- ---- lexemes that are no signs

-- a lexeme that begins with no sign
pub record IsPlain (s : List ℕ) : Type 0 where
  pub opens : opens s ≡ false
  pub closes : closes s ≡ false
  pub mark : is_mark s ≡ false
  pub brace : is_json_sign ascii.open_brace s ≡ false

-- one that begins with no sign and no space
pub formed_plain : (s : List ℕ) → ends_word s ≡ false → IsPlain s
formed_plain s e =
    let b = head s in
    let a = (or_parts (is_operator b) (is_space b) e).0 in
    let z = or_parts ((b == 123) || (b == 125) || (b == 91) || (b == 93) || (b == 58)) (b == 44) a in
    let y = or_parts ((b == 123) || (b == 125) || (b == 91) || (b == 93)) (b == 58) z.0 in
    let x = or_parts ((b == 123) || (b == 125) || (b == 91)) (b == 93) y.0 in
    let w = or_parts ((b == 123) || (b == 125)) (b == 91) x.0 in
    let v = or_parts (b == 123) (b == 125) w.0 in
    record { opens = rw (v.0, w.1) refl; closes = rw (v.1, x.1) refl; mark = rw (z.1, y.1) refl; brace = v.0 }

-- it is no bracket with a line end
pub plain_lexeme : (s : List ℕ) → opens s ≡ false → lexeme_of s ≡ s
plain_lexeme s e = rw e refl

-- a key begins with a quote
pub key_formed : (k : List ℕ) → head k ≡ 34 → ends_word k ≡ false
key_formed k e = ap (λ x. is_operator x || is_space x) e

-- the keys of members may all fill lines
abbrev pub members_fill : Fill → Members → Bool
members_fill fill no_members = true
members_fill fill (g.member k v ms) = may_fill fill k && members_fill fill ms

-- no list may
pub array_fills : (b : Bool) (fill : Fill) → may_fill fill (bracket ascii.open_bracket b) ≡ false
array_fills b fills.Numbers = refl
array_fills b fills.All = refl
array_fills b fills.Nothing = refl

pub object_fills : (b : Bool) (fill : Fill) → may_fill fill (bracket ascii.open_brace b) ≡ false
object_fills b fills.Numbers = refl
object_fills b fills.All = refl
object_fills b fills.Nothing = refl

-- ---- one more member

-- members that were read: their documents, whether all may fill lines, and what is left
record Reads (r : Read (List Member)) (rest : List (List ℕ)) (trees : List Tree) (fills : Bool) : Type 0 where
  left : r.left ≡ rest
  documents : trees_of r.found ≡ trees
  are : all_may_fill r.found ≡ fills

-- no more
reads_none : (style : Style) (d : ℕ) (s : List ℕ) (rest : List (List ℕ)) → closes s ≡ true
    → Reads (list_members style (value style d) (s ∷ rest)) (s ∷ rest) [] true
reads_none style d s rest e =
    let stops = many_stops closes (list_member style (value style d)) _ (s ∷ rest) e in
    record {
      left = ap (λ (q : Read (List Member)). q.left) stops;
      documents = ap (λ (q : Read (List Member)). trees_of q.found) stops;
      are = ap (λ (q : Read (List Member)). all_may_fill q.found) stops;
    }

-- one more
reads_more : {ss : List (List ℕ)} {s : List ℕ} {more rest : List (List ℕ)} {t : Tree} {trees : List Tree} {first later : Bool}
    (style : Style) (d : ℕ) (left : List (List ℕ)) → ss ≡ s ∷ more → closes s ≡ false → may_fill style.fill s ≡ first
    → member (value style d) ss ≡ read t left
    → Reads (list_members style (value style d) left) rest trees later
    → Reads (list_members style (value style d) ss) rest (t ∷ trees) (first && later)
reads_more {ss} {s} {more} {t = t} {later = later} style d left e f is m h =
    let v = value style d in
    let one : list_member style v (s ∷ more) ≡ read (record { tree = t; fills = may_fill style.fill s }) left =
    ap (λ (p : Read Tree). then_read p (λ (x : Tree). read (record { tree = x; fills = may_fill style.fill s })))
    (ap (member v) (sym e) ∙ m) in
    let next : list_members style v ss ≡ onto (record { tree = t; fills = may_fill style.fill s }) (list_members style v left) =
    ap (list_members style v) e
    ∙ until_more closes (list_member style v) (list_member_shrinks style v (value_shrinks style d) (value_keeps style d)) s more f
    ∙ ap (λ (p : Read Member). onto p.found (list_members style v p.left)) one in
    record {
      left = ap (λ (q : Read (List Member)). q.left) next ∙ h.left;
      documents = ap (λ (q : Read (List Member)). trees_of q.found) next ∙ ap (λ (ts : List Tree). t ∷ ts) h.documents;
      are = ap (λ (q : Read (List Member)). all_may_fill q.found) next ∙ ap (λ (x : Bool). may_fill style.fill s && x) h.are
          ∙ ap (λ (x : Bool). x && later) is;
    }

-- a list whose members were read
reads_list : (style : Style) (d : ℕ) (s close : List ℕ) (ss rest : List (List ℕ)) (trees : List Tree) (fills : Bool) → opens s ≡ true
    → opens close ≡ false → Reads (list_members style (value style d) ss) (close ∷ rest) trees fills
    → value style (suc d) (s ∷ ss) ≡ read
    (listed (has_blanks style s) (is_json_sign ascii.open_bracket s && fills) (opening_text s) trees (text close) (pos style.indent)) rest
unfolding value
reads_list style d s close ss rest trees fills e f h = rw (e, h.left, h.documents, h.are, f) refl

-- ---- values

-- where a value begins
pub record Begins (v : Value) (rest : List (List ℕ)) : Type 0 where
  pub first : List ℕ
  pub tail : List (List ℕ)
  pub is : spelled v ++ rest ≡ first ∷ tail
  pub closes : closes first ≡ false
  pub fills : (fill : Fill) → may_fill fill first ≡ item_fills fill v

pub begins : (v : Value) → IsFormed v → (rest : List (List ℕ)) → Begins v rest
begins (alone s) h rest = record { first = s; tail = rest; is = refl; closes = (formed_plain s h).closes; fills = λ fill. refl }
begins (array b vs) h rest = record { first = _; tail = spelled_items vs ++ rest; is = refl; closes = refl; fills = array_fills b }
begins (object b ms) h rest = record { first = _; tail = spelled_members ms ++ rest; is = refl; closes = refl; fills = object_fills b }

-- no colon after an item, and a comma where more come
no_colon_after : (v : Reader Tree) (t : Tree) (vs : Items) (rest : List (List ℕ))
    → with_value v t (more_items vs ++ rest) ≡ read t (more_items vs ++ rest)
no_colon_after v t no_items rest = refl
no_colon_after v t (item w vs) rest = refl

comma_after : (t : Tree) (vs : Items) (rest : List (List ℕ))
    → with_comma t (more_items vs ++ rest) ≡ read (item_marked t vs) (spelled_items vs ++ rest)
comma_after t no_items rest = refl
comma_after t (item v vs) rest = refl

comma_after_member : (t : Tree) (ms : Members) (rest : List (List ℕ))
    → with_comma t (more_members ms ++ rest) ≡ read (member_marked t ms) (spelled_members ms ++ rest)
comma_after_member t no_members rest = refl
comma_after_member t (g.member k v ms) rest = refl

-- an item, or a member, with the comma after it
reads_item : (style : Style) (d : ℕ) (v : Value) (vs : Items) (rest : List (List ℕ))
    → value style d (spelled v ++ (more_items vs ++ rest)) ≡ read (tree style v) (more_items vs ++ rest)
    → member (value style d) (spelled v ++ (more_items vs ++ rest)) ≡ read (item_marked (tree style v) vs) (spelled_items vs ++ rest)
reads_item style d v vs rest h =
    member_reads (value style d) _ _ _ _ (tree style v) (tree style v) _ h (no_colon_after (value style d) (tree style v) vs rest)
    (comma_after (tree style v) vs rest)

reads_member : (style : Style) (d : ℕ) (k : List ℕ) (v : Value) (ms : Members) (rest : List (List ℕ)) → opens k ≡ false
    → value style d (spelled v ++ (more_members ms ++ rest)) ≡ read (tree style v) (more_members ms ++ rest)
    → member (value style d) (k ∷ (ascii.colon ∷ []) ∷ (spelled v ++ (more_members ms ++ rest)))
    ≡ read (member_marked (append (key_tree k) (tree style v)) ms) (spelled_members ms ++ rest)
reads_member style d k v ms rest e h =
    member_reads (value style d) _ _ _ _ (text k) (append (key_tree k) (tree style v)) _ (value_plain style d k _ e)
    (ap (λ (p : Read Tree). then_read p (λ (t : Tree). read (append (key_tree k) t))) h)
    (comma_after_member (append (key_tree k) (tree style v)) ms rest)

-- how deep what is in a list may be
max_left : (a b d : ℕ) → max a b ≤ d → a ≤ d
max_left a b d h = omega (arith, h)

max_right : (a b d : ℕ) → max a b ≤ d → b ≤ d
max_right a b d h = omega (arith, h)

none_deeper : (a : ℕ) → suc a ≤ 0 → ⊥
none_deeper a h = absurd (omega (arith, h))

less_deep : (a d : ℕ) → suc a ≤ suc d → a ≤ d
less_deep a d h = omega (arith, h)

mutual
  -- a value is read of its lexemes, and what follows it is left
  pub reads_value : (style : Style) (d : ℕ) (v : Value) → depth v ≤ d → IsFormed v → (rest : List (List ℕ))
      → value style d (spelled v ++ rest) ≡ read (tree style v) rest
  reads_value style d (alone s) l h rest = value_plain style d s rest (formed_plain s h).opens
  reads_value style zero (array b vs) l h rest = absurd (none_deeper (items_depth vs) l)
  reads_value style (suc d) (array b vs) l h rest =
      reads_list style d (bracket 91 b) (93 ∷ []) (spelled_items vs ++ rest) rest (item_trees style vs) (items_fill style.fill vs) refl refl
      (reads_items style d vs (less_deep (items_depth vs) d l) h rest)
      ∙ ap (λ (t : Tree). read (listed false (items_fill style.fill vs) t (item_trees style vs) (text (93 ∷ [])) (pos style.indent)) rest)
      (square_opening b)
  reads_value style zero (object b ms) l h rest = absurd (none_deeper (members_depth ms) l)
  reads_value style (suc d) (object b ms) l h rest =
      reads_list style d (bracket 123 b) (125 ∷ []) (spelled_members ms ++ rest) rest (member_trees style ms)
      (members_fill style.fill ms) refl refl
      (reads_members style d ms (less_deep (members_depth ms) d l) h rest)
      ∙ ap (λ (t : Tree). read (listed (not style.compact) false t (member_trees style ms) (text (125 ∷ [])) (pos style.indent)) rest)
      (curly_opening b)

  reads_items : (style : Style) (d : ℕ) (vs : Items) → items_depth vs ≤ d → AreFormedItems vs → (rest : List (List ℕ))
      → Reads (list_members style (value style d) (spelled_items vs ++ rest)) ((ascii.close_bracket ∷ []) ∷ rest) (item_trees style vs)
      (items_fill style.fill vs)
  reads_items style d no_items l h rest = reads_none style d _ rest refl
  reads_items style d (item v vs) l h rest =
      let begin = begins v h.0 (more_items vs ++ rest) in
      let first = reads_value style d v (max_left (depth v) (items_depth vs) d l) h.0 (more_items vs ++ rest) in
      let later = reads_items style d vs (max_right (depth v) (items_depth vs) d l) h.1 rest in
      let all =
      reads_more style d (spelled_items vs ++ rest) begin.is begin.closes (begin.fills style.fill)
      (reads_item style d v vs rest first) later in
      rw (append_assoc (spelled v) (more_items vs) rest) all

  reads_members : (style : Style) (d : ℕ) (ms : Members) → members_depth ms ≤ d → AreFormedMembers ms → (rest : List (List ℕ))
      → Reads (list_members style (value style d) (spelled_members ms ++ rest)) ((ascii.close_brace ∷ []) ∷ rest) (member_trees style ms)
      (members_fill style.fill ms)
  reads_members style d no_members l h rest = reads_none style d _ rest refl
  reads_members style d (g.member k v ms) l h rest =
      let plain = formed_plain k (key_formed k h.0) in
      let first = reads_value style d v (max_left (depth v) (members_depth ms) d l) h.1 (more_members ms ++ rest) in
      let later = reads_members style d ms (max_right (depth v) (members_depth ms) d l) h.2 rest in
      let all =
      reads_more {s = k} style d (spelled_members ms ++ rest) refl plain.closes refl
      (reads_member style d k v ms rest plain.opens first) later in
      rw (append_assoc (spelled v) (more_members ms) rest) all
