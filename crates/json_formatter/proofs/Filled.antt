-- Items are laid in lines that are filled.
use Rattle.std.proofs.Common.{◌≡◌, refl, sym, ◌∙◌, ap, subst, ℕ, suc, ◌+◌, ◌≤◌, Bool, true, false, ◌&&◌, nat_le, List, [], ◌∷◌, ◌++◌}
use Rattle.std.proofs.Common.{length, append_assoc, append-nil}
use Rattle.std.proofs.lemmas.Bool.{and_parts}
use Rattle.json.specs.Word.{ends_word}
use Rattle.prettyless_model.specs.declared.mode.Mode.TheVariants.{Break}
use Rattle.prettyless_model.specs.Column.{saturating_add}
use Rattle.prettyless_model.specs.Metrics.{text_width}
use Rattle.prettyless_model.specs.Layout.{State, Entry, breaks, entry, lay, rest_fits}
use Rattle.prettyless_model.specs.Look.{look}
use Rattle.prettyless_model.proofs.Looks.{answer-then}
use Rattle.prettyless_laws.proofs.Inline.{group_is_text, unfit_is_broken}
use Rattle.prettyless_model.specs.Options.{options_at}
use Rattle.prettyless_trees.specs.Built.{softline}
use Rattle.prettyless_trees.specs.Counted.{text}
use Rattle.prettyless_trees.specs.Lines.{line, space}
use Rattle.prettyless_model.specs.Tree.{Tree, Text, Append}
use Rattle.json_formatter.specs.declared.style.Style.{Style}
use Rattle.json_formatter.specs.ByValue.{filled_after, filled_lines, item_comma, items_fill, new_line}
use Rattle.json_formatter.specs.Documents.{may_fill}
use Rattle.json_formatter.specs.Flat.{flat_line, flat_width}
use Rattle.json_formatter.specs.Values.{PiecedValue as Value, alone, array, object, PiecedItems as Items, no_items, item}
use Rattle.json_formatter.specs.Values.{AreFormedPiecedItems as AreFormedItems}
use Rattle.json_formatter.proofs.Chains.{append_is, chain, text_some}
use Rattle.json_formatter.proofs.FlatTrees.{plus_nothing}
use Rattle.json_formatter.proofs.LaidLists.{Lays, LaysLines, word_lays}
use Rattle.json_formatter.proofs.LaidParts.{At, StandsAt, in_break, Writes, Follows, greatest, then_writes, writes_same, writes_rested}
use Rattle.json_formatter.proofs.LaidParts.{text_writes, line_writes, end_follows, comma_follows, sum_twice, text_fits_as, word_follows}
use Rattle.json_formatter.proofs.ValueTrees.{tree, item_trees, item_marked}

-- ---- one number

-- a document is laid so before a line end, and ends at column c
record LaysTo (style : Style) (n : ℕ) (t : Tree) (j : ℕ) (st : State) (bytes : List ℕ) (c : ℕ) : Type 0 where
  written : (rest : List Entry) → Follows style.width rest 0 → Writes (in_break style n t j rest st) bytes (At c)

-- what comes first in a document comes first where it follows
appended_follows : (width i k : ℕ) (l r : Tree) (rest : List Entry) → Follows width (entry i l ∷ entry i r ∷ rest) k
    → Follows width (entry i (Append l r) ∷ rest) k
appended_follows width i k l r rest h = λ c p q m.
    ap (λ (x : Bool). nat_le c.position width && x)
    (answer-then (look width l i Break c false) (λ e q. look width r i Break e q) (λ e q. rest_fits width rest e q))
    ∙ h c p q m

-- a lexeme, and a number with its comma
text_follows : (width i : ℕ) (s : List ℕ) (k : ℕ) (rest : List Entry) → ends_word s ≡ false → Follows width rest k
    → Follows width (entry i (text s) ∷ rest) (text_width s + k)
text_follows width i [] k rest e h = absurd (cc)
text_follows width i (b ∷ bs) k rest e h = word_follows width i b bs k rest h

number_follows : (width j : ℕ) (s : List ℕ) (vs : Items) (rest : List Entry) → ends_word s ≡ false → Follows width rest 0
    → Follows width (entry j (item_marked (text s) vs) ∷ rest) (text_width s + length (item_comma vs))
number_follows width j s no_items rest e h = text_follows width j s 0 rest e h
number_follows width j s (item v vs) rest e h =
    rw (append_is (text s) (Text (44 ∷ [])) (text_some s e) tt)
    (appended_follows width j (text_width s + 1) (text s) (Text (44 ∷ [])) rest
    (text_follows width j s 1 (entry j (Text (44 ∷ [])) ∷ rest) e (comma_follows width j rest h)))

-- it is laid from column c on
number_lays : (style : Style) (n j c : ℕ) (s : List ℕ) (vs : Items) (u : State) → ends_word s ≡ false → At c u
    → LaysTo style n (item_marked (text s) vs) j u (s ++ item_comma vs) (saturating_add c (text_width s + length (item_comma vs)))
unfolding lay
number_lays style n j c s no_items u e h = record {
  written = λ rest f.
      rw (plus_nothing (text_width s))
      (writes_same refl (append-nil s) (word_lays (options_at style.width) (breaks (options_at style.width) (suc n)) s j c rest u e h));
}
number_lays style n j c s (item v vs) u e h = record {
  written = λ rest f.
      rw (append_is (text s) (Text (44 ∷ [])) (text_some s e) tt, ← (sum_twice c (text_width s) 1))
      (then_writes
      (word_lays (options_at style.width) (breaks (options_at style.width) (suc n)) s j c (entry j (Text (44 ∷ [])) ∷ rest) u e h)
      (λ w r. text_writes (options_at style.width) 1 (saturating_add c (text_width s)) 44 [] w r));
}

-- ---- the gap before a number

-- a space, or a line end; and the column after it
abbrev gap_bytes : ℕ → Bool → List ℕ
gap_bytes j true = 32 ∷ []
gap_bytes j false = new_line j

abbrev gap_end : ℕ → ℕ → Bool → ℕ
gap_end c j true = saturating_add c 1
gap_end c j false = j

-- a space where the number fits after it with what follows, and else a line end
gap_lays : {j c k : ℕ} {u : State} {y : Bool} (style : Style) (n : ℕ) (t : Tree) (rest : List Entry) → j ≤ greatest
    → StandsAt style.width c k (entry j t ∷ rest) u
    → nat_le (saturating_add c (1 + k)) style.width ≡ y
    → Writes (in_break style n softline j (entry j t ∷ rest) u) (gap_bytes j y) (At (gap_end c j y))
gap_lays {j} {c} {u = u} {y = true} style n t rest l place e =
    writes_same
    (group_is_text (options_at style.width) (breaks (options_at style.width) (suc n)) line j Break (entry j t ∷ rest) u tt
    (text_fits_as style 1 32 [] place ∙ e))
    refl (text_writes (options_at style.width) 1 c 32 [] u place.at)
gap_lays {j} {u = u} {y = false} style n t rest l place e =
    writes_same
    (unfit_is_broken (options_at style.width) (breaks (options_at style.width) (suc n)) line j (entry j t ∷ rest) u tt
    (text_fits_as style 1 32 [] place ∙ e))
    refl (line_writes style n j j space t rest u place.at.0 l)

-- one more number
one_more : {style : Style} {n j c : ℕ} {z : Tree} {b : List ℕ} {st : State} {y : Bool} (s : List ℕ) (vs : Items) → j ≤ greatest
    → ends_word s ≡ false → LaysTo style n z j st b c
    → nat_le (saturating_add c (1 + (text_width s + length (item_comma vs)))) style.width ≡ y
    → LaysTo style n (Append (Append z softline) (item_marked (text s) vs)) j st (b ++ (gap_bytes j y ++ (s ++ item_comma vs)))
    (saturating_add (gap_end c j y) (text_width s + length (item_comma vs)))
unfolding lay
one_more {style} {n} {j} {c} {z} {b} {st} {y} s vs l e h fit = record {
  written = λ rest f.
      let t = item_marked (text s) vs in
      let both =
      then_writes
      (h.written (entry j softline ∷ entry j t ∷ rest) (end_follows style.width (entry j softline ∷ entry j t ∷ rest) (λ d. refl)))
      (λ u r. gap_lays style n t rest l (record { at = r; follows = number_follows style.width j s vs rest e f }) fit) in
      writes_same refl (sym (append_assoc b (gap_bytes j y) (s ++ item_comma vs)))
      (then_writes both (λ u r. (number_lays style n j (gap_end c j y) s vs u e r).written rest f));
}

-- ---- numbers

number_line : (s : List ℕ) → flat_line (s ∷ []) ≡ s
number_line s = append-nil s

number_width : (s : List ℕ) → flat_width (s ∷ []) ≡ text_width s
number_width s = plus_nothing (text_width s)

-- what the definition has for one more number
filled_more : (style : Style) (j c : ℕ) (s : List ℕ) (vs : Items) (y : Bool)
    → nat_le (saturating_add c (1 + (text_width s + length (item_comma vs)))) style.width ≡ y
    → filled_after style j c (item (alone s) vs)
    ≡ gap_bytes j y ++ ((s ++ item_comma vs) ++ filled_after style j (saturating_add (gap_end c j y)
    (text_width s + length (item_comma vs))) vs)
filled_more style j c s vs true fit =
    rw (number_line s, number_width s, sum_twice c 1 (text_width s + length (item_comma vs)), fit) refl
filled_more style j c s vs false fit =
    rw (number_line s, number_width s, sum_twice c 1 (text_width s + length (item_comma vs)), fit) refl

-- numbers after a document that ends at column c
filled_lay : {style : Style} {n j : ℕ} {st : State} (vs : Items) {c : ℕ} {z : Tree} {b : List ℕ} → j ≤ greatest
    → items_fill style.fill vs ≡ true → AreFormedItems vs → LaysTo style n z j st b c
    → Lays style n (chain softline z (item_trees style vs)) j st (b ++ filled_after style j c vs)
filled_lay no_items {b = b} l e h before = record {
  written = λ rest f. writes_same refl (append-nil b) (writes_rested (before.written rest f));
}
filled_lay {style} {n} {j} {st} (item (alone s) vs) {c} {z} {b} l e h before =
    let w = text_width s + length (item_comma vs) in
    let y = nat_le (saturating_add c (1 + w)) style.width in
    let more = one_more {y = y} s vs l h.0 before refl in
    let later = filled_lay vs l (and_parts (may_fill style.fill s) (items_fill style.fill vs) e).1 h.1 more in
    subst (Lays style n (chain softline z (item_trees style (item (alone s) vs))) j st)
    (append_assoc b (gap_bytes j y ++ (s ++ item_comma vs)) _
    ∙ ap (λ (x : List ℕ). b ++ x) (append_assoc (gap_bytes j y) (s ++ item_comma vs) _ ∙ sym (filled_more style j c s vs y refl)))
    later
filled_lay (item (array keeps ws) vs) l e h before = absurd (cc)
filled_lay (item (object keeps ms) vs) l e h before = absurd (cc)

-- the first number, and those after it
pub filled_items : (style : Style) (n j : ℕ) (v : Value) (vs : Items) → j ≤ greatest → items_fill style.fill (item v vs) ≡ true
    → AreFormedItems (item v vs)
    → LaysLines style n j true (item_marked (tree style v) vs) (item_trees style vs) (filled_lines style j (item v vs))
filled_items style n j (alone s) vs l e h =
    let w = text_width s + length (item_comma vs) in
    record {
      bytes = (s ++ item_comma vs) ++ filled_after style j (saturating_add j w) vs;
      is = rw (number_line s, number_width s) refl;
      lays = λ u r.
          filled_lay vs l (and_parts (may_fill style.fill s) (items_fill style.fill vs) e).1 h.1 (number_lays style n j j s vs u h.0 r);
    }
filled_items style n j (array keeps ws) vs l e h = absurd (cc)
filled_items style n j (object keeps ms) vs l e h = absurd (cc)
