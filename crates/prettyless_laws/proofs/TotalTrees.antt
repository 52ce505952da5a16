-- Total trees: in Break nothing in them fails, and in Flat only what the probe answered yes to is laid.
use Rattle.std.proofs.Common.{◌≡◌, ℕ, zero, suc, ◌+◌, ◌<◌, ◌≤◌, List, [], ◌∷◌, ◌++◌, length, refl, arith, Bool, true, false, if◌then◌else◌}
use Rattle.std.proofs.Common.{inl, inr}
use Rattle.std.specs.Prelude.{All}
use Rattle.std.proofs.Math.Numerals.{add-one}
use Rattle.std.proofs.lemmas.List.Elements.{All-nil, All-cons, All-head, All-tail, All-append, All-push, All-same}
use Rattle.prettyless_model.specs.Spaces.{spaces}
use Rattle.prettyless_model.specs.declared.options.RenderOptions.{RenderOptions}
use Rattle.prettyless_model.specs.Tree.{Tree, Fail, Text, TextWithLen, HardLine, WeakLine, Append, LineSuffix, Indented, Flatten}
use Rattle.prettyless_model.specs.Tree.{BreakOrFlat, Group, Union, PartialUnion, Chosen, size}
use Rattle.prettyless_model.specs.Choice.{choice_holds}
use Rattle.prettyless_model.specs.Column.{gap, prospective}
use Rattle.prettyless_model.specs.Indent.{indent_by}
use Rattle.prettyless_model.specs.Layout.{State, Outcome, Done, Failed, Whole, Entry, Breaks, after_bytes, and_then, lay, lay_each, probe}
use Rattle.prettyless_model.specs.Layout.{in_trial, flushed, entry, entries, break_with, end_with, breaks, finish, layout}
use Rattle.prettyless_model.specs.Layout.{layout_by, initial}
use Rattle.prettyless_model.specs.Layout.{bytes_of}
use Rattle.prettyless_model.specs.Levels.{suffixes, queued}
use Rattle.prettyless_model.specs.declared.mode.Mode.{Mode}
use Rattle.prettyless_model.specs.declared.mode.Mode.TheVariants.{Break, Flat}
use Rattle.prettyless_model.proofs.Levels.{LeavesAtMost, Keeps, lay_keeps, all_suffixes, suffixes_queued, each_keeps, breaks_keep}
use Rattle.prettyless_model.proofs.Levels.{suffixes_size}
use Rattle.prettyless_model.proofs.Outcomes.{holds-either, holds-accept, holds-text, holds-plain}
use Rattle.prettyless_laws.specs.FlatLines.{LeavesPending, SkipsWeakLines}
use Rattle.prettyless_laws.specs.TotalTrees.{IsTotal}
use Rattle.prettyless_laws.proofs.FlatLines.{one_line, breaks_skip}

-- ---- outcomes that do not fail

-- the outcome is no failure, and what is pending after it is total
abbrev Lays : Outcome → Type 0
Lays (Done b st) = All IsTotal st.pending
Lays (Failed b) = ⊥

lays-after : (b : List ℕ) (x : Outcome) → Lays x → Lays (after_bytes b x)
lays-after b (Done c st) h = h
lays-after b (Failed c) h = h

lays-then : (n : ℕ) (x : Outcome) (f : State → Outcome) → LeavesAtMost n x → Lays x
    → ((u : State) → All IsTotal u.pending → queued u.pending ≤ n → Lays (f u)) → Lays (and_then x f)
lays-then n (Done b st) f l h g = lays-after b (f st) (g st h l)
lays-then n (Failed b) f l h g = absurd h

-- ---- breaks that do not fail

-- a break that does not fail where no more than this is pending, and that is total
abbrev LaysTo : ℕ → Breaks → Type 0
LaysTo h brk = (d : Tree) (i : ℕ) (rest : List Entry) (st : State) → All IsTotal st.pending → queued st.pending ≤ h
    → Lays (brk d i Break rest st)

-- such a break, which also skips weak lines and leaves no more pending than it found
record LaysTotal (h : ℕ) (brk : Breaks) : Type 0 where
  skips : SkipsWeakLines brk
  keeps : Keeps brk
  lays : LaysTo h brk

-- ---- trees in Flat

suffixes_total : (d : Tree) (ds : List Tree) → IsTotal d → LeavesPending d ds → All IsTotal ds
suffixes_total Fail ds t h = absurd t
suffixes_total (Append l r) ds t h =
    All-same IsTotal ds (h.0 ++ h.1) h.4 (All-append IsTotal h.0 h.1 (suffixes_total l h.0 t.0 h.2) (suffixes_total r h.1 t.1 h.3))
suffixes_total (LineSuffix d) ds t h = All-same IsTotal ds (d ∷ []) h (All-cons IsTotal d [] t (All-nil IsTotal))
suffixes_total (Indented how d) ds t h = suffixes_total d ds t h
suffixes_total (Flatten d) ds t h = absurd t
suffixes_total (BreakOrFlat b f) ds t h = suffixes_total f ds t.1 h
suffixes_total (Group d) ds t h = suffixes_total d ds t h
suffixes_total (Union l r) ds t h = suffixes_total l ds t.0 h
suffixes_total (PartialUnion l r) ds t h = suffixes_total l ds t.0 h
suffixes_total (Chosen test y n) ds t (inl h) = suffixes_total y ds t.0 h
suffixes_total (Chosen test y n) ds t (inr h) = suffixes_total n ds t.1 h
suffixes_total _ ds t h = All-same IsTotal ds [] h (All-nil IsTotal)

flat_lays : (o : RenderOptions) (brk : Breaks) → SkipsWeakLines brk → (d : Tree) (i : ℕ) (rest : List Entry) (st : State) → IsTotal d
    → All IsTotal st.pending → probe o d i Flat rest st ≡ true → Lays (lay o brk d i Flat rest st)
flat_lays o brk k d i rest st t p h =
    let x = one_line o d i rest st h in
    rw (x.done brk k i (inr refl) rest)
    (All-same IsTotal x.state.pending (st.pending ++ x.own) x.pending
    (All-append IsTotal st.pending x.own p (suffixes_total d x.own t x.leaves)))

-- ---- trees in Break

-- what holds in Flat where a probe answers yes, and in Break, holds in the mode that it chooses
in_mode : (P : Mode → Type 0) (t : Bool) → (t ≡ true → P Flat) → P Break → P (if t then Flat else Break)
in_mode P true f b = f refl
in_mode P false f b = b

lay_lays : (o : RenderOptions) {brk : Breaks} {h : ℕ} → LaysTotal h brk
    → (d : Tree) (i : ℕ) (rest : List Entry) (st : State) → IsTotal d → All IsTotal st.pending → suffixes d + queued st.pending ≤ h
    → Lays (lay o brk d i Break rest st)
unfolding lay
lay_lays o g Fail i rest st t p l = absurd t
lay_lays o g (Text x) i rest st t p l = holds-text Lays o (length x) x st (λ b c v. p)
lay_lays o g (TextWithLen w x) i rest st t p l = holds-text Lays o w x st (λ b c v. p)
lay_lays o g HardLine i rest st t p l = g.lays HardLine i rest st p (omega arith)
lay_lays o g WeakLine i rest st t p l = g.lays WeakLine i rest st p (omega arith)
lay_lays o {brk} g (Append x y) i rest st t p l =
    lays-then (suffixes x + queued st.pending) (lay o brk x i Break (entry i y ∷ rest) st) (λ u. lay o brk y i Break rest u)
    (lay_keeps o brk g.keeps x i Break (entry i y ∷ rest) st)
    (lay_lays o g x i (entry i y ∷ rest) st t.0 p (omega arith))
    (λ u q n. lay_lays o g y i rest u t.1 q (omega arith))
lay_lays o g (LineSuffix d) i rest st t p l = All-push IsTotal st.pending d p t
lay_lays o g (Indented how d) i rest st t p l = lay_lays o g d (indent_by how i st.column) rest st t p l
lay_lays o g (Flatten d) i rest st t p l = absurd t
lay_lays o g (BreakOrFlat x y) i rest st t p l = lay_lays o g x i rest st t.0 p (omega arith)
lay_lays o {brk} g (Group d) i rest st t p l =
    in_mode (λ m. Lays (lay o brk d i m rest st)) (probe o d i Flat rest st)
    (λ e. flat_lays o brk g.skips d i rest st t p e)
    (lay_lays o g d i rest st t p l)
lay_lays o {brk} g (Union x y) i rest st t p l =
    holds-accept Lays (λ b z was e. e) o st.within (lay o brk x i Break rest (in_trial st)) (lay o brk y i Break rest st)
    (lay_lays o g x i rest (in_trial st) t.0 p (omega arith))
    (lay_lays o g y i rest st t.1 p (omega arith))
lay_lays o {brk} g (PartialUnion x y) i rest st t p l =
    holds-either Lays (probe o x i Break rest st) (lay o brk x i Break rest st) (lay o brk y i Break rest st)
    (lay_lays o g x i rest st t.0 p (omega arith))
    (lay_lays o g y i rest st t.1 p (omega arith))
lay_lays o {brk} g (Chosen test x y) i rest st t p l =
    holds-either Lays (choice_holds test (prospective st.column) i) (lay o brk x i Break rest st) (lay o brk y i Break rest st)
    (lay_lays o g x i rest st t.0 p (omega arith))
    (lay_lays o g y i rest st t.1 p (omega arith))
lay_lays o g _ i rest st t p l = p

each_lays : (o : RenderOptions) {brk : Breaks} {h : ℕ} → LaysTotal h brk
    → (ds : List Tree) (i : ℕ) (rest : List Entry) (st : State) → All IsTotal ds → All IsTotal st.pending
    → all_suffixes ds + queued st.pending ≤ h → Lays (lay_each o brk ds i Break rest st)
unfolding lay_each
each_lays o g [] i rest st t p l = p
each_lays o {brk} g (d ∷ ds) i rest st t p l =
    lays-then (suffixes d + queued st.pending) (lay o brk d i Break (entries i ds ++ rest) st) (λ u. lay_each o brk ds i Break rest u)
    (lay_keeps o brk g.keeps d i Break (entries i ds ++ rest) st)
    (lay_lays o g d i (entries i ds ++ rest) st (All-head IsTotal d ds t) p (omega arith))
    (λ u q n. each_lays o g ds i rest u (All-tail IsTotal d ds t) q (omega arith))

-- ---- what waits, breaks and the end

-- what is pending is laid, and then what lays what they leave pending
pending_lays : (o : RenderOptions) {brk : Breaks} {h : ℕ} → LaysTotal h brk
    → (ps : List Tree) (i : ℕ) (rest : List Entry) (st : State) (again : State → Outcome) → All IsTotal ps → all_suffixes ps ≤ h
    → ((u : State) → All IsTotal u.pending → queued u.pending ≤ all_suffixes ps → Lays (again u))
    → Lays (after_bytes (spaces (gap st.column)) (and_then (lay_each o brk ps i Break rest (flushed o st)) again))
pending_lays o {brk} g ps i rest st again t l f =
    lays-after (spaces (gap st.column)) (and_then (lay_each o brk ps i Break rest (flushed o st)) again)
    (lays-then (all_suffixes ps + queued (flushed o st).pending) (lay_each o brk ps i Break rest (flushed o st)) again
    (each_keeps o brk g.keeps ps i Break rest (flushed o st))
    (each_lays o g ps i rest (flushed o st) t (All-nil IsTotal) (omega arith))
    (λ u q n. f u q (omega arith)))

none_lays : (o : RenderOptions) (brk : Breaks) (ps : List Tree) (d : Tree) (i : ℕ) (rest : List Entry) (st : State) → All IsTotal st.pending
    → queued ps ≤ 0 → Lays (break_with o brk ps d i Break rest st)
none_lays o brk [] d i rest st p l = holds-plain Lays o d i rest st (λ b c v. p)
none_lays o brk (x ∷ xs) d i rest st p l = absurd (omega arith)

break_lays : (o : RenderOptions) {brk : Breaks} {h : ℕ} → LaysTotal h brk
    → (ps : List Tree) (d : Tree) (i : ℕ) (rest : List Entry) (st : State) → All IsTotal ps → All IsTotal st.pending → queued ps ≤ suc h
    → Lays (break_with o brk ps d i Break rest st)
break_lays o g [] d i rest st t p l = holds-plain Lays o d i rest st (λ b c v. p)
break_lays o {brk} g (x ∷ xs) d i rest st t p l =
    pending_lays o g (x ∷ xs) i (entry i d ∷ rest) st (brk d i Break rest) t (omega (arith, suffixes_queued xs))
    (λ u q n. g.lays d i rest u q (omega (arith, suffixes_queued xs)))

breaks_lay : (o : RenderOptions) (n : ℕ) → LaysTotal n (breaks o (suc n))
unfolding breaks
breaks_lay o zero = record {
  skips = breaks_skip o zero;
  keeps = breaks_keep o (suc zero);
  lays = λ d i rest st p l. none_lays o (breaks o zero) st.pending d i rest st p l;
}
breaks_lay o (suc n) = record {
  skips = breaks_skip o (suc n);
  keeps = breaks_keep o (suc (suc n));
  lays = λ d i rest st p l. break_lays o (breaks_lay o n) st.pending d i rest st p p l;
}

end_lays : (o : RenderOptions) {brk : Breaks} {h : ℕ} → LaysTotal h brk
    → (again : State → Outcome) (ps : List Tree) (st : State) → All IsTotal ps → All IsTotal st.pending → queued ps ≤ suc h
    → ((u : State) → All IsTotal u.pending → queued u.pending < queued ps → Lays (again u)) → Lays (end_with o brk again ps st)
end_lays o g again [] st t p l f = p
end_lays o g again (x ∷ xs) st t p l f =
    pending_lays o g (x ∷ xs) 0 [] st again t (omega (arith, suffixes_queued xs)) (λ u q n. f u q (omega (arith, suffixes_queued xs)))

finish_lays : (o : RenderOptions) {brk : Breaks} {h : ℕ} → LaysTotal h brk → (n : ℕ) (st : State)
    → All IsTotal st.pending → queued st.pending < n → queued st.pending ≤ suc h → Lays (finish o brk n st)
unfolding finish
finish_lays o g zero st p l m = absurd (omega arith)
finish_lays o {brk} g (suc n) st p l m =
    end_lays o g (finish o brk n) st.pending st p p m (λ u q r. finish_lays o g n u q (omega arith) (omega arith))

-- ---- the whole layout

layout_by_lays : (o : RenderOptions) (n : ℕ) (d : Tree) → IsTotal d → suffixes d ≤ n → Lays (layout_by o (suc n) d)
unfolding layout_by
layout_by_lays o n d t l =
    lays-then (suffixes d + queued initial.pending) (lay o (breaks o (suc n)) d 0 Break [] initial) (finish o (breaks o (suc n)) (suc n))
    (lay_keeps o (breaks o (suc n)) (breaks_keep o (suc n)) d 0 Break [] initial)
    (lay_lays o (breaks_lay o n) d 0 [] initial t (All-nil IsTotal) (omega arith))
    (λ u q r. finish_lays o (breaks_lay o n) (suc n) u q (omega arith) (omega arith))

whole : (x : Outcome) → Lays x → (b : List ℕ) × (bytes_of x ≡ Whole b)
whole (Done b st) h = (b, refl)
whole (Failed b) h = absurd h

pub total_layout : (o : RenderOptions) (d : Tree) → IsTotal d → (b : List ℕ) × (layout o d ≡ Whole b)
unfolding layout
total_layout o d t = rw (add-one (size d))
    (whole (layout_by o (suc (size d)) d) (layout_by_lays o (size d) d t (omega (arith, suffixes_size d))))
