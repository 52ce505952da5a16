-- The probe by readings: where no choice by column or nesting stands, it answers what the atoms do.
use Rattle.std.proofs.Common.{◌≡◌, ℕ, List, [], ◌∷◌, ◌++◌, length, refl, ap, ◌∙◌, sym, append_assoc, Bool, true, false, not, ◌&&◌, nat_le}
use Rattle.std.proofs.Common.{if◌then◌else◌}
use Rattle.prettyless_model.specs.declared.options.RenderOptions.{RenderOptions}
use Rattle.prettyless_model.specs.Tree.{Tree, Nil, Fail, Text, TextWithLen, MultilineText, WeakSpace, HardLine, WeakLine, Append}
use Rattle.prettyless_model.specs.Tree.{LineSuffix, Indented, ExpandParent, Flatten, BreakOrFlat, Group, Union, PartialUnion, Chosen}
use Rattle.prettyless_model.specs.Column.{commit}
use Rattle.prettyless_model.specs.Indent.{indent_by}
use Rattle.prettyless_model.specs.Look.{Answers, GoesOn, answer_of, look, look_text}
use Rattle.prettyless_model.specs.Layout.{State, Entry, probe, rest_fits, some_pending}
use Rattle.prettyless_model.specs.declared.column.Column.{Column}
use Rattle.prettyless_model.specs.declared.mode.Mode.{Mode}
use Rattle.prettyless_model.specs.declared.mode.Mode.TheVariants.{Break, Flat}
use Rattle.prettyless_laws.specs.Reading.{Atom, reading, fits, ink_of, rest_atoms, IsPlain, ArePlain}
use Rattle.prettyless_model.proofs.Looks.{answer-each, answer-then}

-- a look that goes on by a test, or answers no
goes_on_by : (t : Bool) (c : Column) (p : Bool) (next : Column → Bool → Bool) → answer_of (if t then GoesOn c p else Answers false)
    next ≡ (t && next c p)
goes_on_by true c p next = refl
goes_on_by false c p next = refl

goes_on_or : (t b : Bool) (c : Column) (p : Bool) (next : Column → Bool → Bool) → answer_of (if t then GoesOn c p else Answers b)
    next ≡ (if t then next c p else b)
goes_on_or true b c p next = refl
goes_on_or false b c p next = refl

text_reads : (w n : ℕ) (s : List ℕ) (c : Column) (p : Bool) (more : List Atom) → answer_of (look_text w n s c p) (λ e q. fits w e q more)
    ≡ fits w c p (ink_of n s ++ more)
text_reads w n [] c p more = refl
text_reads w n (b ∷ bs) c p more = goes_on_by (nat_le (commit n c).position w) (commit n c) p (λ e q. fits w e q more)

look_reads : (w : ℕ) (d : Tree) (i : ℕ) (m : Mode) (c : Column) (p : Bool) (more : List Atom) → IsPlain d
    → answer_of (look w d i m c p) (λ e q. fits w e q more) ≡ fits w c p (reading d m ++ more)
look_reads w Nil i m c p more h = refl
look_reads w Fail i m c p more h = refl
look_reads w (Text s) i m c p more h = text_reads w (length s) s c p more
look_reads w (TextWithLen n s) i m c p more h = text_reads w n s c p more
look_reads w (MultilineText s) i Break c p more h = refl
look_reads w (MultilineText s) i Flat c p more h = refl
look_reads w WeakSpace i m c p more h = refl
look_reads w HardLine i Break c p more h = refl
look_reads w HardLine i Flat c p more h = refl
look_reads w WeakLine i Break c p more h = goes_on_or (c.fresh && not p) _ c p (λ e q. fits w e q more)
look_reads w WeakLine i Flat c p more h = goes_on_or (c.fresh && not p) _ c p (λ e q. fits w e q more)
look_reads w (Append l r) i m c p more h =
    answer-then (look w l i m c p) (λ e q. look w r i m e q) (λ e q. fits w e q more)
    ∙ answer-each (look w l i m c p) (λ e q. answer_of (look w r i m e q) (λ u v. fits w u v more))
    (λ e q. fits w e q (reading r m ++ more))
    (λ e q. look_reads w r i m e q more h.1)
    ∙ look_reads w l i m c p (reading r m ++ more) h.0
    ∙ ap (fits w c p) (sym (append_assoc (reading l m) (reading r m) more))
look_reads w (LineSuffix d) i m c p more h = refl
look_reads w (Indented how d) i m c p more h = look_reads w d (indent_by how i c) m c p more h
look_reads w ExpandParent i Break c p more h = refl
look_reads w ExpandParent i Flat c p more h = refl
look_reads w (Flatten d) i m c p more h = look_reads w d i Flat c p more h
look_reads w (BreakOrFlat b f) i Break c p more h = look_reads w b i Break c p more h.0
look_reads w (BreakOrFlat b f) i Flat c p more h = look_reads w f i Flat c p more h.1
look_reads w (Group d) i m c p more h = look_reads w d i m c p more h
look_reads w (Union l r) i Break c p more h = look_reads w r i Break c p more h.1
look_reads w (Union l r) i Flat c p more h = look_reads w l i Flat c p more h.0
look_reads w (PartialUnion l r) i Break c p more h = look_reads w r i Break c p more h.1
look_reads w (PartialUnion l r) i Flat c p more h = look_reads w l i Flat c p more h.0
look_reads w (Chosen test y n) i m c p more h = absurd h

rest_reads : (w : ℕ) (rest : List Entry) (c : Column) (p : Bool) → ArePlain rest → rest_fits w rest c p ≡ fits w c p (rest_atoms rest)
rest_reads w [] c p h = refl
rest_reads w (x ∷ rest) c p h =
    answer-each (look w x.tree x.indent Break c p) (λ e q. rest_fits w rest e q) (λ e q. fits w e q (rest_atoms rest))
    (λ e q. rest_reads w rest e q h.1)
    ∙ look_reads w x.tree x.indent Break c p (rest_atoms rest) h.0

pub probe_reads : (o : RenderOptions) (d : Tree) (i : ℕ) (m : Mode) (rest : List Entry) (st : State) → IsPlain d → ArePlain rest
    → probe o d i m rest st ≡ fits o.width st.column (some_pending st.pending) (reading d m ++ rest_atoms rest)
probe_reads o d i m rest st h k =
    answer-each (look o.width d i m st.column (some_pending st.pending)) (λ e q. rest_fits o.width rest e q)
    (λ e q. fits o.width e q (rest_atoms rest))
    (λ e q. rest_reads o.width rest e q k)
    ∙ look_reads o.width d i m st.column (some_pending st.pending) (rest_atoms rest) h
