-- Regrouping: from a state whose pending documents are regrouped, a regrouped document is laid as the document itself.
use Rattle.std.proofs.Common.{◌≡◌, ℕ, zero, suc, ◌+◌, List, [], ◌∷◌, ◌++◌, length, refl, ap, sym, ◌∙◌, arith, Bool, true, false, ◌&&◌}
use Rattle.std.proofs.Common.{if◌then◌else◌, map}
use Rattle.std.proofs.lemmas.List.{map_push}
use Rattle.prettyless_model.specs.Spaces.{spaces}
use Rattle.prettyless_model.specs.declared.options.RenderOptions.{RenderOptions}
use Rattle.prettyless_model.specs.declared.options.IndentationPolicy.{IndentationPolicy}
use Rattle.prettyless_model.specs.declared.options.IndentationPolicy.TheVariants.{Eager, Deferred}
use Rattle.prettyless_model.specs.Tree.{Tree, Text, TextWithLen, HardLine, WeakLine, Append, LineSuffix, Indented, Flatten, BreakOrFlat}
use Rattle.prettyless_model.specs.Tree.{Group, Union, PartialUnion, Chosen, size}
use Rattle.prettyless_model.specs.Column.{gap, prospective, padding_fits}
use Rattle.prettyless_model.specs.Indent.{indent_by}
use Rattle.prettyless_model.specs.Choice.{choice_holds}
use Rattle.prettyless_model.specs.Look.{answer_of, by_mode, look}
use Rattle.prettyless_model.specs.Layout.{State, Outcome, Done, Failed, Entry, Breaks, after_bytes, and_then, lay, lay_each, lay_text}
use Rattle.prettyless_model.specs.Layout.{lay_ending, some_pending, probe, accept, in_trial, is_suppressed, flushed, entry, entries}
use Rattle.prettyless_model.specs.Layout.{next_indent, rest_fits, break_with, end_with, breaks, finish, layout, layout_by, initial}
use Rattle.prettyless_model.specs.Layout.{bytes_of}
use Rattle.prettyless_model.specs.declared.mode.Mode.{Mode}
use Rattle.prettyless_model.specs.declared.mode.Mode.TheVariants.{Break, Flat}
use Rattle.prettyless_model.proofs.Levels.{more_levels, suffixes_size}
use Rattle.prettyless_model.proofs.Looks.{answer-same}
use Rattle.prettyless_model.proofs.Outcomes.{same-either}
use Rattle.prettyless_laws.specs.Regrouped.{right}
use Rattle.prettyless_laws.specs.Parts.{FollowAlike, ReadsAlike}
use Rattle.prettyless_laws.proofs.Following.{alike_same, alike_after, either-same, breaks_alike}
use Rattle.prettyless_laws.proofs.Appended.{appended_lays, right_looks}

-- ---- states and outcomes

-- the state whose pending documents are regrouped
abbrev pub right_state : State → State
right_state st = record st { pending = map right st.pending }

abbrev pub right_outcome : Outcome → Outcome
right_outcome (Done b st) = Done b (right_state st)
right_outcome (Failed b) = Failed b

some-rights : (ps : List Tree) → some_pending (map right ps) ≡ some_pending ps
some-rights [] = refl
some-rights (p ∷ ps) = refl

right-after : (b : List ℕ) (x : Outcome) → after_bytes b (right_outcome x) ≡ right_outcome (after_bytes b x)
right-after b (Done c st) = refl
right-after b (Failed c) = refl

right-then : (x y : Outcome) (f g : State → Outcome) → y ≡ right_outcome x → ((u : State) → g (right_state u) ≡ right_outcome (f u))
    → and_then y g ≡ right_outcome (and_then x f)
right-then (Done b st) y f g e h = ap (λ (z : Outcome). and_then z g) e ∙ ap (after_bytes b) (h st) ∙ right-after b (f st)
right-then (Failed b) y f g e h = ap (λ (z : Outcome). and_then z g) e

-- ---- choices, texts and line ends

right-either : (t : Bool) (x y : Outcome) → (if t then right_outcome x else right_outcome y) ≡ right_outcome (if t then x else y)
right-either true x y = refl
right-either false x y = refl

right-accept : (o : RenderOptions) (was : Bool) (x y : Outcome) → accept o was (right_outcome x) (right_outcome y) ≡ right_outcome
    (accept o was x y)
right-accept o was (Done b st) y =
    ap (λ (t : Bool). if st.within && padding_fits o.width t st.column then Done b (record (right_state st) { within = was })
    else right_outcome y) (some-rights st.pending)
    ∙ right-either (st.within && padding_fits o.width (some_pending st.pending) st.column) (Done b (record st { within = was })) y
right-accept o was (Failed b) y = refl

right-text : (o : RenderOptions) (w : ℕ) (s : List ℕ) (st : State) → lay_text o w s (right_state st) ≡ right_outcome (lay_text o w s st)
right-text o w [] st = refl
right-text o w (b ∷ bs) st = refl

right-ending : (o : RenderOptions) (p : IndentationPolicy) (k : ℕ) (st : State) → lay_ending o p k (right_state st) ≡ right_outcome
    (lay_ending o p k st)
right-ending o Eager k st = refl
right-ending o Deferred k st = refl

-- ---- breaks that regroup, and probes

-- a break is laid the same from where what is pending is regrouped, and so is what follows
abbrev pub BreaksRegrouped : Breaks → Type 0
BreaksRegrouped brk = (d : Tree) (i : ℕ) (m : Mode) (r s : List Entry) (st : State) → FollowAlike s r
    → brk d i m s (right_state st) ≡ right_outcome (brk d i m r st)

-- such a break, which also reads what follows alike
record Regroups (brk : Breaks) : Type 0 where
  alike : ReadsAlike brk
  regrouped : BreaksRegrouped brk

right_probe : (o : RenderOptions) (d : Tree) (i : ℕ) (m : Mode) (r s : List Entry) (st : State) → FollowAlike s r
    → probe o (right d) i m s (right_state st) ≡ probe o d i m r st
right_probe o d i m r s st h =
    ap (λ (t : Bool). answer_of (look o.width (right d) i m st.column t) (λ c p. rest_fits o.width s c p)) (some-rights st.pending)
    ∙ answer-same (look o.width (right d) i m st.column (some_pending st.pending)) (look o.width d i m st.column (some_pending st.pending))
    (λ c p. rest_fits o.width s c p) (λ c p. rest_fits o.width r c p)
    (right_looks d o.width i m st.column (some_pending st.pending)) (λ c p. h.1 o.width c p)

-- ---- documents

lay_right : (o : RenderOptions) {brk : Breaks} → Regroups brk → (d : Tree) (i : ℕ) (m : Mode) (r s : List Entry)
    (st : State) → FollowAlike s r → lay o brk (right d) i m s (right_state st) ≡ right_outcome (lay o brk d i m r st)
unfolding lay
lay_right o k (Text t) i m r s st h = right-text o (length t) t st
lay_right o k (TextWithLen w t) i m r s st h = right-text o w t st
lay_right o k HardLine i Break r s st h = k.regrouped HardLine i Break r s st h
lay_right o k WeakLine i m r s st h = k.regrouped WeakLine i m r s st h
lay_right o {brk} k (Append x y) i m r s st h =
    appended_lays o brk k.alike (right x) (right y) i m s (right_state st)
    ∙ right-then (lay o brk x i m (entry i y ∷ r) st) (lay o brk (right x) i m (entry i (right y) ∷ s) (right_state st))
    (λ u. lay o brk y i m r u) (λ u. lay o brk (right y) i m s u)
    (lay_right o k x i m (entry i y ∷ r) (entry i (right y) ∷ s) st
    (alike_after i (right y) y s r (λ w c p. right_looks y w i Break c p) h))
    (λ u. lay_right o k y i m r s u h)
lay_right o k (LineSuffix d) i m r s st h = ap (λ (x : List Tree). Done [] (record st { pending = x }))
    (sym (map_push right st.pending d))
lay_right o k (Indented how d) i m r s st h = lay_right o k d (indent_by how i st.column) m r s st h
lay_right o k (Flatten d) i m r s st h = lay_right o k d i Flat r s st h
lay_right o k (BreakOrFlat x y) i Break r s st h = lay_right o k x i Break r s st h
lay_right o k (BreakOrFlat x y) i Flat r s st h = lay_right o k y i Flat r s st h
lay_right o {brk} k (Group d) i m r s st h =
    ap (λ (t : Bool). lay o brk (right d) i (by_mode m (if t then Flat else Break) Flat) s (right_state st))
    (right_probe o d i Flat r s st h)
    ∙ lay_right o k d i (by_mode m (if probe o d i Flat r st then Flat else Break) Flat) r s st h
lay_right o {brk} k (Union x y) i Break r s st h =
    ap (λ (z : Outcome). accept o st.within z (lay o brk (right y) i Break s (right_state st)))
    (lay_right o k x i Break r s (in_trial st) h)
    ∙ ap (accept o st.within (right_outcome (lay o brk x i Break r (in_trial st)))) (lay_right o k y i Break r s st h)
    ∙ right-accept o st.within (lay o brk x i Break r (in_trial st)) (lay o brk y i Break r st)
lay_right o k (Union x y) i Flat r s st h = lay_right o k x i Flat r s st h
lay_right o {brk} k (PartialUnion x y) i Break r s st h =
    either-same (probe o (right x) i Break s (right_state st)) (probe o x i Break r st)
    (lay o brk (right x) i Break s (right_state st)) (lay o brk (right y) i Break s (right_state st))
    (right_outcome (lay o brk x i Break r st)) (right_outcome (lay o brk y i Break r st))
    (right_probe o x i Break r s st h) (lay_right o k x i Break r s st h) (lay_right o k y i Break r s st h)
    ∙ right-either (probe o x i Break r st) (lay o brk x i Break r st) (lay o brk y i Break r st)
lay_right o k (PartialUnion x y) i Flat r s st h = lay_right o k x i Flat r s st h
lay_right o {brk} k (Chosen test x y) i m r s st h =
    same-either (choice_holds test (prospective st.column) i)
    (lay o brk (right x) i m s (right_state st)) (lay o brk (right y) i m s (right_state st)) (right_outcome (lay o brk x i m r st))
    (right_outcome (lay o brk y i m r st))
    (lay_right o k x i m r s st h) (lay_right o k y i m r s st h)
    ∙ right-either (choice_holds test (prospective st.column) i) (lay o brk x i m r st) (lay o brk y i m r st)
lay_right o k _ i Break r s st h = refl
lay_right o k _ i Flat r s st h = refl

alike_rights : (i : ℕ) (ds : List Tree) (r s : List Entry) → FollowAlike s r
    → FollowAlike (entries i (map right ds) ++ s) (entries i ds ++ r)
alike_rights i [] r s h = h
alike_rights i (d ∷ ds) r s h = alike_after i (right d) d (entries i (map right ds) ++ s) (entries i ds ++ r)
    (λ w c p. right_looks d w i Break c p) (alike_rights i ds r s h)

each_right : (o : RenderOptions) {brk : Breaks} → Regroups brk
    → (ds : List Tree) (i : ℕ) (m : Mode) (r s : List Entry) (st : State) → FollowAlike s r
    → lay_each o brk (map right ds) i m s (right_state st) ≡ right_outcome (lay_each o brk ds i m r st)
unfolding lay_each
each_right o k [] i m r s st h = refl
each_right o {brk} k (d ∷ ds) i m r s st h =
    right-then (lay o brk d i m (entries i ds ++ r) st) (lay o brk (right d) i m (entries i (map right ds) ++ s) (right_state st))
    (λ u. lay_each o brk ds i m r u) (λ u. lay_each o brk (map right ds) i m s u)
    (lay_right o k d i m (entries i ds ++ r) (entries i (map right ds) ++ s) st (alike_rights i ds r s h))
    (λ u. each_right o k ds i m r s u h)

-- ---- breaks and the end

break_right : (o : RenderOptions) {brk : Breaks} → Regroups brk → (ps : List Tree) (d : Tree) (i : ℕ) (m : Mode)
    (r s : List Entry) (st : State) → FollowAlike s r → break_with o brk (map right ps) d i m s (right_state st) ≡ right_outcome
    (break_with o brk ps d i m r st)
break_right o k [] d i m r s st h =
    ap (λ (n : ℕ). if is_suppressed d st.column then Done [] (right_state st) else lay_ending o o.indentation_policy n
    (right_state st)) (h.0 i)
    ∙ ap (λ (x : Outcome). if is_suppressed d st.column then Done [] (right_state st) else x)
    (right-ending o o.indentation_policy (next_indent i r) st)
    ∙ right-either (is_suppressed d st.column) (Done [] st) (lay_ending o o.indentation_policy (next_indent i r) st)
break_right o {brk} k (p ∷ ps) d i m r s st h =
    ap (after_bytes (spaces (gap st.column)))
    (right-then (lay_each o brk (p ∷ ps) i m (entry i d ∷ r) (flushed o st))
    (lay_each o brk (map right (p ∷ ps)) i m (entry i d ∷ s) (flushed o (right_state st))) (brk d i m r) (brk d i m s)
    (each_right o k (p ∷ ps) i m (entry i d ∷ r) (entry i d ∷ s) (flushed o st) (alike_after i d d s r (λ w c p. refl) h))
    (λ u. k.regrouped d i m r s u h))
    ∙ right-after (spaces (gap st.column)) (and_then (lay_each o brk (p ∷ ps) i m (entry i d ∷ r) (flushed o st)) (brk d i m r))

breaks_right : (o : RenderOptions) (n : ℕ) → Regroups (breaks o n)
unfolding breaks
breaks_right o zero = record { alike = breaks_alike o zero; regrouped = λ d i m r s st h. refl }
breaks_right o (suc n) = record {
  alike = breaks_alike o (suc n);
  regrouped = λ d i m r s st h. break_right o (breaks_right o n) st.pending d i m r s st h;
}

end_right : (o : RenderOptions) {brk : Breaks} → Regroups brk → (again : State → Outcome)
    → ((u : State) → again (right_state u) ≡ right_outcome (again u)) → (ps : List Tree) (st : State)
    → end_with o brk again (map right ps) (right_state st) ≡ right_outcome (end_with o brk again ps st)
end_right o k again g [] st = refl
end_right o {brk} k again g (p ∷ ps) st =
    ap (after_bytes (spaces (gap st.column)))
    (right-then (lay_each o brk (p ∷ ps) 0 Break [] (flushed o st))
    (lay_each o brk (map right (p ∷ ps)) 0 Break [] (flushed o (right_state st))) again again
    (each_right o k (p ∷ ps) 0 Break [] [] (flushed o st) (alike_same []))
    g)
    ∙ right-after (spaces (gap st.column)) (and_then (lay_each o brk (p ∷ ps) 0 Break [] (flushed o st)) again)

finish_right : (o : RenderOptions) {brk : Breaks} → Regroups brk → (n : ℕ) (st : State)
    → finish o brk n (right_state st) ≡ right_outcome (finish o brk n st)
unfolding finish
finish_right o k zero st = refl
finish_right o {brk} k (suc n) st = end_right o k (finish o brk n) (finish_right o k n) st.pending st

-- ---- the whole layout

layout_by_right : (o : RenderOptions) (n : ℕ) (d : Tree) → layout_by o n (right d) ≡ right_outcome (layout_by o n d)
unfolding layout_by
layout_by_right o n d =
    right-then (lay o (breaks o n) d 0 Break [] initial) (lay o (breaks o n) (right d) 0 Break [] initial) (finish o (breaks o n) n)
    (finish o (breaks o n) n)
    (lay_right o (breaks_right o n) d 0 Break [] [] initial (alike_same []))
    (finish_right o (breaks_right o n) n)

right-bytes : (x : Outcome) → bytes_of (right_outcome x) ≡ bytes_of x
right-bytes (Done b st) = refl
right-bytes (Failed b) = refl

-- with as many levels as either needs
pub layout_right : (o : RenderOptions) (d : Tree) → layout o d ≡ layout o (right d)
layout_right o d =
    let n = size d + size (right d) in
    sym (more_levels o n d (omega (arith, suffixes_size d)))
    ∙ sym (ap bytes_of (layout_by_right o n d) ∙ right-bytes (layout_by o n d))
    ∙ more_levels o n (right d) (omega (arith, suffixes_size (right d)))

pub layouts_shared : (o : RenderOptions) (d e : Tree) → right d ≡ right e → layout o d ≡ layout o e
layouts_shared o d e h = layout_right o d ∙ ap (layout o) h ∙ sym (layout_right o e)
