-- Lists and lines that are laid again.
use Rattle.std.proofs.Common.{◌≡◌, refl, sym, ◌∙◌, ap, subst, ℕ, zero, suc, ℤ, pos, Bool, true, false, List, [], ◌∷◌, ◌++◌, append_assoc}
use Rattle.std.proofs.Common.{if◌then◌else◌}
use Rattle.prettyless_model.specs.Metrics.{is_ascii}
use Rattle.prettyless_model.specs.Tree.{Tree, Nil, Text, TextWithLen, HardLine, Append, Group}
use Rattle.prettyless_trees.specs.Built.{is_nil}
use Rattle.prettyless_model.specs.declared.mode.Mode.{Mode}
use Rattle.prettyless_model.specs.declared.mode.Mode.TheVariants.{Break, Flat}
use Rattle.prettyless_trees.specs.Built.{append, group, nest, nest_by}
use Rattle.prettyless_trees.specs.Counted as counted
use Rattle.toml_documents.specs.Documents.{lines_with, separated}
use Rattle.prettyless_laws.specs.Bits.{Bit, end_of_line, word_bits}
use Rattle.prettyless_laws.proofs.Again.{Again, first_mode, later_modes}
use Rattle.toml_documents.proofs.AgainLaws.{BracketedDocumentsStay, FlatBracketsStay, LinesStay, after_gap, bracketed, bracketed_bits}
use Rattle.toml_documents.specs.declared.gaps.Gap.{Gap}
use Rattle.toml_documents.specs.declared.gaps.Gap.TheVariants as gap
use Rattle.prettyless_laws.proofs.NodesAgain.{again_append, again_flat_group, again_group, again_nest, again_same, append_is, joined}
use Rattle.toml_documents.proofs.SeparatedAgain.{again_separated, again_text}

-- ---- what is something

some_joined : (q : Bool) (x u : Tree) → is_nil x ≡ false → is_nil (joined false q x u) ≡ false
some_joined true x u e = e
some_joined false x u e = refl

some_append : (x u : Tree) → is_nil x ≡ false → is_nil (append x u) ≡ false
some_append x u e =
    ap is_nil (append_is x u) ∙ (λ i. is_nil (joined (e i) (is_nil u) x u)) ∙ some_joined (is_nil u) x u e

some_string : (b : Bool) (w : ℕ) (s : List ℕ) → is_nil (if b then Text s else TextWithLen w s) ≡ false
some_string true w s = refl
some_string false w s = refl

some_text : (b : ℕ) (s : List ℕ) → is_nil (counted.text (b ∷ s)) ≡ false
some_text b s = some_string (is_ascii (b ∷ s)) _ (b ∷ s)

some_nest_by : (k : ℤ) (x : Tree) → is_nil x ≡ false → is_nil (nest_by k x) ≡ false
some_nest_by k Nil e = e
some_nest_by k _ e = refl

some_nest : (n : ℕ) (x : Tree) → is_nil x ≡ false → is_nil (nest (pos n) x) ≡ false
some_nest zero x e = e
some_nest (suc n) x e = some_nest_by (pos (suc n)) x e

-- a group of two documents, one after the other
group_append : (x u : Tree) → is_nil x ≡ false → is_nil u ≡ false → group (append x u) ≡ Group (append x u)
group_append x u e f =
    let both : append x u ≡ Append x u = append_is x u ∙ (λ i. joined (e i) (f i) x u) in
    ap group both ∙ ap Group (sym both)

group_separated : (g : Gap) (x u : Tree) → is_nil x ≡ false → is_nil u ≡ false → group (separated g x u) ≡ Group (separated g x u)
group_separated gap.Nothing x u e f = group_append x u e f
group_separated gap.Space x u e f = group_append (append x _) u (some_append x _ e) f
group_separated gap.Beside x u e f = group_append (append x _) u (some_append x _ e) f
group_separated gap.Edge x u e f = group_append (append x _) u (some_append x _ e) f
group_separated gap.Line x u e f = group_append (append x _) u (some_append x _ e) f
group_separated gap.Fill x u e f = group_append (append x _) u (some_append x _ e) f
group_separated gap.BlankLine x u e f = group_append (append (append x _) _) u (some_append (append x _) _ (some_append x _ e)) f
group_separated gap.Break x u e f = group_append (append x _) u (some_append x _ e) f
group_separated gap.BlankBreak x u e f = group_append (append (append x _) _) u (some_append (append x _) _ (some_append x _ e)) f

-- ---- brackets

-- what is between brackets, with them
abbrev in_brackets : ℕ → Gap → List ℕ → Tree → List ℕ → Tree
in_brackets n g opening x closing = separated g (nest (pos n) (append (counted.text opening) x)) (counted.text closing)

brackets_again : (n : ℕ) (g : Gap) (opening closing : List ℕ) (x y : Tree) (m : Mode) (ms left : List Mode) (bits : List Bit)
    → Again x y m ms left bits
    → Again (in_brackets n g opening x closing) (in_brackets n g opening y closing) m ms (after_gap g m left)
    (bracketed_bits g m left opening bits closing)
brackets_again n g opening closing x y m ms left bits h =
    let inside = append (counted.text opening) x in
    let again = append (counted.text opening) y in
    again_separated g (nest (pos n) inside) (nest (pos n) again) (counted.text closing) (counted.text closing) m ms left
    (after_gap g m left)
    (word_bits opening ++ bits) (word_bits closing)
    (again_nest n inside again m ms left (word_bits opening ++ bits)
    (again_append (counted.text opening) (counted.text opening) x y m ms ms left (word_bits opening) bits (again_text opening m ms) h))
    (again_text closing m (after_gap g m left))

group_brackets : (n : ℕ) (g : Gap) (a b : ℕ) (s t : List ℕ) (x : Tree)
    → bracketed n g (a ∷ s) x (b ∷ t) ≡ Group (in_brackets n g (a ∷ s) x (b ∷ t))
group_brackets n g a b s t x =
    let inside = append (counted.text (a ∷ s)) x in
    group_separated g (nest (pos n) inside) (counted.text (b ∷ t))
    (some_nest n inside (some_append (counted.text (a ∷ s)) x (some_text a s)))
    (some_text b t)

as_groups : (n : ℕ) (g : Gap) (a b : ℕ) (s t : List ℕ) (x y : Tree) (m : Mode) (ms left : List Mode) (bits : List Bit)
    → Again (Group (in_brackets n g (a ∷ s) x (b ∷ t))) (Group (in_brackets n g (a ∷ s) y (b ∷ t))) m ms left bits
    → Again (bracketed n g (a ∷ s) x (b ∷ t)) (bracketed n g (a ∷ s) y (b ∷ t)) m ms left bits
as_groups n g a b s t x y m ms left bits h =
    subst (λ (z : Tree). Again z (bracketed n g (a ∷ s) y (b ∷ t)) m ms left bits) (sym (group_brackets n g a b s t x))
    (subst (λ (z : Tree). Again (Group (in_brackets n g (a ∷ s) x (b ∷ t))) z m ms left bits) (sym (group_brackets n g a b s t y)) h)

-- a list where lines are broken: it is laid in the first of the modes
pub again_bracketed : BracketedDocumentsStay
again_bracketed n g a b s t x y ms left bits h =
    let spelled = bracketed_bits g (first_mode ms) left (a ∷ s) bits (b ∷ t) in
    as_groups n g a b s t x y Break ms (after_gap g (first_mode ms) left) spelled
    (again_group (in_brackets n g (a ∷ s) x (b ∷ t)) (in_brackets n g (a ∷ s) y (b ∷ t)) ms (after_gap g (first_mode ms) left) spelled
    (brackets_again n g (a ∷ s) (b ∷ t) x y (first_mode ms) (later_modes ms) left bits h))

flat_after : (g : Gap) (ms : List Mode) → after_gap g Flat ms ≡ ms
flat_after gap.Fill ms = refl
flat_after g ms = refl

-- and where they are flat
pub again_flat_bracketed : FlatBracketsStay
again_flat_bracketed n g a b s t x y ms left bits h =
    let spelled = bracketed_bits g Flat left (a ∷ s) bits (b ∷ t) in
    subst (λ (ns : List Mode). Again (bracketed n g (a ∷ s) x (b ∷ t)) (bracketed n g (a ∷ s) y (b ∷ t)) Flat ms ns spelled)
    (flat_after g left)
    (as_groups n g a b s t x y Flat ms (after_gap g Flat left) spelled
    (again_flat_group (in_brackets n g (a ∷ s) x (b ∷ t)) (in_brackets n g (a ∷ s) y (b ∷ t)) ms (after_gap g Flat left) spelled
    (brackets_again n g (a ∷ s) (b ∷ t) x y Flat ms left bits h)))

-- ---- lines

ended_again : (u v : Tree) (ms left : List Mode) (us : List Bit) → Again u v Break ms left us
    → Again (append u HardLine) (append v HardLine) Break ms left (us ++ end_of_line ∷ [])
ended_again u v ms left us h =
    again_append u v HardLine HardLine Break ms left left us (end_of_line ∷ []) h (again_same HardLine Break left)

-- lines, and one more
pub again_lines : LinesStay
again_lines false x y u v ms ns left xs us h k =
    again_append x y (append u HardLine) (append v HardLine) Break ms ns left xs (us ++ end_of_line ∷ []) h (ended_again u v ns left us k)
again_lines true x y u v ms ns left xs us h k =
    subst (Again (lines_with true x u) (lines_with true y v) Break ms left) (append_assoc xs (end_of_line ∷ []) (us ++ end_of_line ∷ []))
    (again_append (append x HardLine) (append y HardLine) (append u HardLine) (append v HardLine) Break ms ns left (xs ++ end_of_line ∷ [])
    (us ++ end_of_line ∷ []) (ended_again x y ms ns xs h) (ended_again u v ns left us k))
