-- On a flat line the document of a value is its flat line.
use Rattle.std.proofs.Common.{◌≡◌, refl, sym, ◌∙◌, ap, ap₂, subst, ℕ, zero, suc, ◌+◌, Bool, true, false, not, List, [], ◌∷◌, ◌++◌}
use Rattle.std.proofs.Common.{length, append_assoc, append-nil, inl, inr, arith}
use Rattle.std.specs.Prelude.{pos}
use Rattle.json.specs.Word.{ends_word}
use Rattle.prettyless_model.specs.Metrics.{text_width}
use Rattle.prettyless_trees.specs.Built.{IsNotNil, append, nest}
use Rattle.prettyless_trees.specs.Counted.{text}
use Rattle.prettyless_trees.specs.Lines.{space}
use Rattle.prettyless_model.specs.Tree.{Tree, Text, Append, Group}
use Rattle.json_formatter.specs.declared.style.Style.{Style}
use Rattle.json_formatter.specs.ByValue.{brace_blank, flat, item_comma, items_fill, items_kept, kept_if, member_comma, members_kept}
use Rattle.json_formatter.specs.ByValue.{more_flat_items, more_flat_members, value_width}
use Rattle.json_formatter.specs.Values.{PiecedValue as Value, alone, array, object, PiecedItems as Items, no_items, item}
use Rattle.json_formatter.specs.Values.{PiecedMembers as Members, no_members}
use Rattle.json_formatter.specs.Values as g
use Rattle.json_formatter.specs.Values.{IsFormedPieced as IsFormed, AreFormedPiecedItems as AreFormedItems}
use Rattle.json_formatter.specs.Values.{AreFormedPiecedMembers as AreFormedMembers}
use Rattle.json_formatter.specs.Documents.{margin, gap_in, listed}
use Rattle.json_formatter.specs.Flat.{blank_if, flat_width, flat_line}
use Rattle.json_formatter.proofs.LaidParts.{IsFlat, IsTextOf, text_is}
use Rattle.json_formatter.proofs.ValueTrees.{tree, item_trees, member_trees, item_marked, member_marked, key_tree, key_formed, opening}
use Rattle.json_formatter.proofs.Chains.{append_is, append_some, chain, within, AreSome, listed_is, value_some}
use Rattle.json_formatter.proofs.Chains.{items_some, members_some, text_some, key_some}

-- ---- flat lines, one after the other

pub line_joined : (xs ys : List (List ℕ)) → flat_line (xs ++ ys) ≡ flat_line xs ++ flat_line ys
line_joined [] ys = refl
line_joined (x ∷ xs) ys = ap (λ (l : List ℕ). x ++ l) (line_joined xs ys) ∙ sym (append_assoc x (flat_line xs) (flat_line ys))

pub width_joined : (xs ys : List (List ℕ)) → flat_width (xs ++ ys) ≡ flat_width xs + flat_width ys
width_joined [] ys = omega arith
width_joined (x ∷ xs) ys = let h = width_joined xs ys in omega (arith, h)

-- ---- what is flat

flat_same : {t : Tree} {a b : List ℕ} {v w : ℕ} → a ≡ b → v ≡ w → IsFlat t a v → IsFlat t b w
flat_same e f h = record { inline = h.inline; bytes = h.bytes ∙ e; columns = h.columns ∙ f }

both_flat : {x y : Tree} {a b : List ℕ} {v w : ℕ} → IsFlat x a v → IsFlat y b w → IsFlat (Append x y) (a ++ b) (v + w)
both_flat h k = record {
  inline = (h.inline, k.inline);
  bytes = ap₂ (λ (s t : List ℕ). s ++ t) h.bytes k.bytes;
  columns = ap₂ (λ (s t : ℕ). s + t) h.columns k.columns;
}

text_flat : (b : ℕ) (bs : List ℕ) → IsFlat (text (b ∷ bs)) (b ∷ bs) (text_width (b ∷ bs))
text_flat b bs = by (text_is b bs)
  where
    by : IsTextOf (b ∷ bs) (text (b ∷ bs)) → IsFlat (text (b ∷ bs)) (b ∷ bs) (text_width (b ∷ bs))
    by (inl e) = rw (e.0) (record { inline = tt; bytes = refl; columns = e.1 })
    by (inr e) = rw e (record { inline = tt; bytes = refl; columns = refl })

-- a lexeme that begins with no sign
pub word_flat : (s : List ℕ) → ends_word s ≡ false → IsFlat (text s) s (text_width s)
word_flat [] e = absurd (cc)
word_flat (b ∷ bs) e = text_flat b bs

nest_flat : (k : ℕ) (l r : Tree) (s : List ℕ) (w : ℕ) → IsFlat (Append l r) s w → IsFlat (nest (pos k) (Append l r)) s w
nest_flat zero l r s w h = h
nest_flat (suc k) l r s w h = record { inline = h.inline; bytes = h.bytes; columns = h.columns }

gap_flat : (fills : Bool) → IsFlat (gap_in fills) (32 ∷ []) 1
gap_flat true = record { inline = tt; bytes = refl; columns = refl }
gap_flat false = record { inline = tt; bytes = refl; columns = refl }

margin_flat : (blanks : Bool) → IsFlat (margin blanks) (flat_line (blank_if blanks)) (flat_width (blank_if blanks))
margin_flat true = record { inline = tt; bytes = refl; columns = refl }
margin_flat false = record { inline = tt; bytes = refl; columns = refl }

-- ---- chains

-- documents after another, each after a space
record FlatAfter (gap : Tree) (xs : List Tree) (s : List ℕ) (w : ℕ) : Type 0 where
  after : (z : Tree) (b : List ℕ) (u : ℕ) → IsFlat z b u → IsFlat (chain gap z xs) (b ++ s) (u + w)

flat_none : (gap : Tree) → FlatAfter gap [] [] 0
flat_none gap = record { after = λ z b u h. flat_same (sym (append-nil b)) (omega arith) h }

flat_one_more : {gap t : Tree} {xs : List Tree} {b s : List ℕ} {u w : ℕ} → IsFlat gap (32 ∷ []) 1 → IsFlat t b u → FlatAfter gap xs s w
    → FlatAfter gap (t ∷ xs) (32 ∷ (b ++ s)) (1 + (u + w))
flat_one_more {gap} {t} {b = b} {s = s} {u = u} {w = w} g h later = record {
  after = λ z a v k.
      flat_same
      (append_assoc (a ++ 32 ∷ []) b s ∙ append_assoc a (32 ∷ []) (b ++ s))
      (omega arith)
      (later.after (Append (Append z gap) t) ((a ++ 32 ∷ []) ++ b) ((v + 1) + u) (both_flat (both_flat k g) h));
}

-- gaps inside brackets, and members between them
edges_joined : (e b s z : List ℕ) → ((e ++ (b ++ s)) ++ e) ++ z ≡ e ++ (b ++ (s ++ (e ++ z)))
edges_joined e b s z =
    append_assoc (e ++ (b ++ s)) e z ∙ append_assoc e (b ++ s) (e ++ z) ∙ ap (λ (l : List ℕ). e ++ l) (append_assoc b s (e ++ z))

-- the bracket that opens a list
opening_flat : (a : ℕ) (keeps : Bool) → IsFlat (opening a keeps) (a ∷ []) (1 + kept_if keeps)
opening_flat a true = record { inline = tt; bytes = refl; columns = refl }
opening_flat a false = record { inline = tt; bytes = refl; columns = refl }

-- a list: its first member, and those after it
list_flat : {t : Tree} {xs : List Tree} {b s : List ℕ} {u w : ℕ} (blanks fills : Bool) (a : ℕ) (keeps : Bool) (z k : ℕ)
    → AreSome (t ∷ xs) → IsFlat t b u → FlatAfter (gap_in fills) xs s w
    → IsFlat (listed blanks fills (opening a keeps) (t ∷ xs) (Text (z ∷ [])) (pos k))
    (a ∷ (flat_line (blank_if blanks) ++ (b ++ (s ++ (flat_line (blank_if blanks) ++ z ∷ [])))))
    (((2 + (flat_width (blank_if blanks) + flat_width (blank_if blanks))) + (u + w)) + kept_if keeps)
list_flat {t} {xs} {b} {s} {u} {w} blanks fills a keeps z k some h later =
    let e = flat_line (blank_if blanks) in
    let v = flat_width (blank_if blanks) in
    let items = chain (gap_in fills) t xs in
    let close_flat : IsFlat (Text (z ∷ [])) (z ∷ []) 1 = record { inline = tt; bytes = refl; columns = refl } in
    let inside = nest_flat k (margin blanks) items _ _ (both_flat (margin_flat blanks) (later.after t b u h)) in
    let lines = both_flat inside (margin_flat blanks) in
    let front = both_flat (opening_flat a keeps) lines in
    let all = both_flat front close_flat in
    let grouped : IsFlat (Group (within (margin blanks) (opening a keeps) items (Text (z ∷ [])) k)) _ _ =
    record { inline = all.inline; bytes = all.bytes; columns = all.columns } in
    subst (λ (d : Tree). IsFlat d (a ∷ (e ++ (b ++ (s ++ (e ++ z ∷ []))))) (((2 + (v + v)) + (u + w)) + kept_if keeps))
    (sym (listed_is blanks fills a keeps z k t xs some.0 some.1))
    (flat_same (ap (λ (l : List ℕ). a ∷ l) (edges_joined e b s (z ∷ []))) (omega arith) grouped)

-- ---- items and members

-- the items after one, each after a space and with its comma
abbrev items_after : Style → Items → List ℕ
items_after style no_items = []
items_after style (item v vs) = 32 ∷ ((flat_line (flat style v) ++ item_comma vs) ++ items_after style vs)

abbrev items_after_width : Style → Items → ℕ
items_after_width style no_items = 0
items_after_width style (item v vs) =
    1 + ((value_width style v + length (item_comma vs)) + items_after_width style vs)

-- a key, its colon and a space
abbrev key_line : List ℕ → List ℕ
key_line k = flat_line (k ∷ (58 ∷ []) ∷ (32 ∷ []) ∷ [])

abbrev key_width : List ℕ → ℕ
key_width k = flat_width (k ∷ (58 ∷ []) ∷ (32 ∷ []) ∷ [])

abbrev members_after : Style → Members → List ℕ
members_after style no_members = []
members_after style (g.member k v ms) =
    32 ∷ (((key_line k ++ flat_line (flat style v)) ++ member_comma ms) ++ members_after style ms)

abbrev members_after_width : Style → Members → ℕ
members_after_width style no_members = 0
members_after_width style (g.member k v ms) =
    1 + (((key_width k + value_width style v) + length (member_comma ms)) + members_after_width style ms)

-- what comes after an item, and after a member, is its comma, those after it and the bracket
four_parts : (a b c d : List ℕ) → ((a ++ b) ++ c) ++ d ≡ a ++ (b ++ (c ++ d))
four_parts a b c d = append_assoc (a ++ b) c d ∙ append_assoc a b (c ++ d)

more_line : (style : Style) (vs : Items) → flat_line (more_flat_items style vs) ≡ item_comma vs ++ (items_after style vs ++ 93 ∷ [])
more_line style no_items = refl
more_line style (item v vs) =
    ap (λ (l : List ℕ). 44 ∷ 32 ∷ l)
    (line_joined (flat style v) (more_flat_items style vs)
    ∙ ap (λ (l : List ℕ). flat_line (flat style v) ++ l) (more_line style vs)
    ∙ sym (four_parts (flat_line (flat style v)) (item_comma vs) (items_after style vs) (93 ∷ [])))

more_width : (style : Style) (vs : Items)
    → flat_width (more_flat_items style vs) + items_kept vs ≡ length (item_comma vs) + (items_after_width style vs + 1)
more_width style no_items = refl
more_width style (item v vs) =
    let h = more_width style vs in let k = width_joined (flat style v) (more_flat_items style vs) in omega (arith, h, k)

-- the bytes and the columns of a blank inside braces
abbrev blank_line : Style → List ℕ
blank_line style = flat_line (brace_blank style)

abbrev blank_width : Style → ℕ
blank_width style = flat_width (brace_blank style)

more_members_line : (style : Style) (ms : Members)
    → flat_line (more_flat_members style ms) ≡ member_comma ms ++ (members_after style ms ++ (blank_line style ++ 125 ∷ []))
more_members_line style no_members = line_joined (brace_blank style) ((125 ∷ []) ∷ [])
more_members_line style (g.member k v ms) =
    ap (λ (l : List ℕ). 44 ∷ 32 ∷ l)
    (line_joined (k ∷ (58 ∷ []) ∷ (32 ∷ []) ∷ []) (flat style v ++ more_flat_members style ms)
    ∙ ap (λ (l : List ℕ). key_line k ++ l)
    (line_joined (flat style v) (more_flat_members style ms)
    ∙ ap (λ (l : List ℕ). flat_line (flat style v) ++ l) (more_members_line style ms))
    ∙ sym (append_assoc (key_line k) (flat_line (flat style v)) _)
    ∙ sym (four_parts (key_line k ++ flat_line (flat style v)) (member_comma ms) (members_after style ms) (blank_line style ++ 125 ∷ [])))

more_members_width : (style : Style) (ms : Members)
    → flat_width (more_flat_members style ms) + members_kept ms
    ≡ length (member_comma ms) + (members_after_width style ms + (blank_width style + 1))
more_members_width style no_members = let h = width_joined (brace_blank style) ((125 ∷ []) ∷ []) in omega (arith, h)
more_members_width style (g.member k v ms) =
    let h = more_members_width style ms in
    let j = width_joined (k ∷ (58 ∷ []) ∷ (32 ∷ []) ∷ []) (flat style v ++ more_flat_members style ms) in
    let i = width_joined (flat style v) (more_flat_members style ms) in
    omega (arith, h, j, i)

-- documents with their commas
comma_flat : (t : Tree) (b : List ℕ) (w : ℕ) → IsNotNil t → IsFlat t b w → IsFlat (append t (Text (44 ∷ []))) (b ++ 44 ∷ []) (w + 1)
comma_flat t b w some h =
    subst (λ (d : Tree). IsFlat d (b ++ 44 ∷ []) (w + 1)) (sym (append_is t (Text (44 ∷ [])) some tt))
    (both_flat h (record { inline = tt; bytes = refl; columns = refl }))

marked_flat : (t : Tree) (vs : Items) (b : List ℕ) (w : ℕ) → IsNotNil t → IsFlat t b w
    → IsFlat (item_marked t vs) (b ++ item_comma vs) (w + length (item_comma vs))
marked_flat t no_items b w some h = flat_same (sym (append-nil b)) (omega arith) h
marked_flat t (item v vs) b w some h = comma_flat t b w some h

member_marked_flat : (t : Tree) (ms : Members) (b : List ℕ) (w : ℕ) → IsNotNil t → IsFlat t b w
    → IsFlat (member_marked t ms) (b ++ member_comma ms) (w + length (member_comma ms))
member_marked_flat t no_members b w some h = flat_same (sym (append-nil b)) (omega arith) h
member_marked_flat t (g.member k v ms) b w some h = comma_flat t b w some h

key_flat : (k : List ℕ) → ends_word k ≡ false → IsFlat (key_tree k) (key_line k) (key_width k)
key_flat k e =
    let colon : IsFlat (Text (58 ∷ [])) (58 ∷ []) 1 = record { inline = tt; bytes = refl; columns = refl } in
    let gap : IsFlat space (32 ∷ []) 1 = record { inline = tt; bytes = refl; columns = refl } in
    let front = both_flat (word_flat k e) colon in
    let all = both_flat front gap in
    let is : key_tree k ≡ Append (Append (text k) (Text (58 ∷ []))) space =
    ap (λ (t : Tree). append t space) (append_is (text k) (Text (58 ∷ [])) (text_some k e) tt) in
    subst (λ (d : Tree). IsFlat d (key_line k) (key_width k)) (sym is)
    (flat_same (append_assoc k (58 ∷ []) (32 ∷ [])) (omega arith) all)

member_flat : (k : List ℕ) (t : Tree) (b : List ℕ) (w : ℕ) → ends_word k ≡ false → IsNotNil t → IsFlat t b w
    → IsFlat (append (key_tree k) t) (key_line k ++ b) (key_width k + w)
member_flat k t b w e some h =
    subst (λ (d : Tree). IsFlat d (key_line k ++ b) (key_width k + w)) (sym (append_is (key_tree k) t (key_some k e) some))
    (both_flat (key_flat k e) h)

-- two brackets
empty_flat : (blanks fills : Bool) (a : ℕ) (keeps : Bool) (z k : ℕ)
    → IsFlat (listed blanks fills (opening a keeps) [] (Text (z ∷ [])) (pos k)) (a ∷ z ∷ []) (2 + (kept_if keeps + 0))
empty_flat blanks fills a true z k = record { inline = (tt, tt); bytes = refl; columns = refl }
empty_flat blanks fills a false z k = record { inline = (tt, tt); bytes = refl; columns = refl }

pub plus_nothing : (n : ℕ) → n + 0 ≡ n
plus_nothing n = omega arith

mutual
  pub value_flat : (style : Style) (v : Value) → IsFormed v
      → IsFlat (tree style v) (flat_line (flat style v)) (value_width style v)
  value_flat style (alone s) h = flat_same (sym (append-nil s)) (omega arith) (word_flat s h)
  value_flat style (array keeps no_items) h = empty_flat false true 91 keeps 93 style.indent
  value_flat style (array keeps (item v vs)) h =
      let some = items_some style (item v vs) h in
      let fills = items_fill style.fill (item v vs) in
      let first = marked_flat (tree style v) vs _ _ (value_some style v h.0) (value_flat style v h.0) in
      let all =
      list_flat false fills 91 keeps 93 style.indent some first
      (items_flat style fills vs h.1) in
      let w = width_joined (flat style v) (more_flat_items style vs) in
      let m = more_width style vs in
      flat_same
      (ap (λ (l : List ℕ). 91 ∷ l)
      (append_assoc (flat_line (flat style v)) (item_comma vs) (items_after style vs ++ 93 ∷ [])
      ∙ ap (λ (l : List ℕ). flat_line (flat style v) ++ l) (sym (more_line style vs))
      ∙ sym (line_joined (flat style v) (more_flat_items style vs))))
      (omega (arith, w, m)) all
  value_flat style (object keeps no_members) h = empty_flat (not style.compact) false 123 keeps 125 style.indent
  value_flat style (object keeps (g.member k v ms)) h =
      let some = members_some style (g.member k v ms) h in
      let e = key_formed k h.0 in
      let pair = member_flat k (tree style v) _ _ e (value_some style v h.1) (value_flat style v h.1) in
      let first =
      member_marked_flat (append (key_tree k) (tree style v)) ms _ _
      (append_some (key_tree k) (tree style v) (key_some k e) (value_some style v h.1)) pair in
      let all =
      list_flat (not style.compact) false 123 keeps 125 style.indent some first (members_flat style false ms h.2) in
      let inside = k ∷ (58 ∷ []) ∷ (32 ∷ []) ∷ (flat style v ++ more_flat_members style ms) in
      let b = width_joined (brace_blank style) inside in
      let w = width_joined (flat style v) (more_flat_members style ms) in
      let j = width_joined (k ∷ (58 ∷ []) ∷ (32 ∷ []) ∷ []) (flat style v ++ more_flat_members style ms) in
      let m = more_members_width style ms in
      flat_same
      (ap (λ (l : List ℕ). 123 ∷ l)
      (ap (λ (l : List ℕ). blank_line style ++ l)
      (append_assoc (key_line k ++ flat_line (flat style v)) (member_comma ms) (members_after style ms ++ (blank_line style ++ 125 ∷ []))
      ∙ ap (λ (l : List ℕ). (key_line k ++ flat_line (flat style v)) ++ l) (sym (more_members_line style ms))
      ∙ append_assoc (key_line k) (flat_line (flat style v)) (flat_line (more_flat_members style ms))
      ∙ ap (λ (l : List ℕ). key_line k ++ l) (sym (line_joined (flat style v) (more_flat_members style ms)))
      ∙ sym (line_joined (k ∷ (58 ∷ []) ∷ (32 ∷ []) ∷ []) (flat style v ++ more_flat_members style ms)))
      ∙ sym (line_joined (brace_blank style) inside)))
      (omega (arith, b, w, j, m)) all

  items_flat : (style : Style) (fills : Bool) (vs : Items) → AreFormedItems vs
      → FlatAfter (gap_in fills) (item_trees style vs) (items_after style vs) (items_after_width style vs)
  items_flat style fills no_items h = flat_none (gap_in fills)
  items_flat style fills (item v vs) h =
      flat_one_more (gap_flat fills) (marked_flat (tree style v) vs _ _ (value_some style v h.0) (value_flat style v h.0))
      (items_flat style fills vs h.1)

  members_flat : (style : Style) (fills : Bool) (ms : Members) → AreFormedMembers ms
      → FlatAfter (gap_in fills) (member_trees style ms) (members_after style ms) (members_after_width style ms)
  members_flat style fills no_members h = flat_none (gap_in fills)
  members_flat style fills (g.member k v ms) h =
      let e = key_formed k h.0 in
      flat_one_more (gap_flat fills)
      (member_marked_flat (append (key_tree k) (tree style v)) ms _ _
      (append_some (key_tree k) (tree style v) (key_some k e) (value_some style v h.1))
      (member_flat k (tree style v) _ _ e (value_some style v h.1) (value_flat style v h.1)))
      (members_flat style fills ms h.2)
