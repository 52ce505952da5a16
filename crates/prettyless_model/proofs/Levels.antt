-- Levels: a break and the end that have more of them than can be spent answer the same.
use Rattle.std.proofs.Common.{◌≡◌, ℕ, zero, suc, ◌+◌, ◌<◌, ◌≤◌, List, [], ◌∷◌, ◌++◌, length, refl, ap, sym, ◌∙◌, arith, if◌then◌else◌}
use Rattle.std.proofs.Math.Numerals.{add-one}
use Rattle.prettyless_model.specs.Spaces.{spaces}
use Rattle.prettyless_model.specs.declared.options.RenderOptions.{RenderOptions}
use Rattle.prettyless_model.specs.Tree.{Tree, Fail, Text, TextWithLen, MultilineText, HardLine, WeakLine, Append, LineSuffix, Indented}
use Rattle.prettyless_model.specs.Tree.{Flatten, BreakOrFlat, Group, Union, PartialUnion, Chosen, size}
use Rattle.prettyless_model.specs.Column.{gap, prospective}
use Rattle.prettyless_model.specs.Indent.{indent_by}
use Rattle.prettyless_model.specs.Choice.{choice_holds}
use Rattle.prettyless_model.specs.Look.{by_mode}
use Rattle.prettyless_model.specs.Layout.{State, Outcome, Done, Failed, Entry, Breaks, after_bytes, and_then, lay, lay_each, probe, accept}
use Rattle.prettyless_model.specs.Layout.{in_trial, flushed, entry, entries, break_with, end_with, breaks, finish, layout}
use Rattle.prettyless_model.specs.Layout.{layout_by, initial}
use Rattle.prettyless_model.specs.Layout.{bytes_of}
use Rattle.prettyless_model.specs.Levels.{suffixes, queued, settle, settle_end}
use Rattle.prettyless_model.specs.declared.mode.Mode.{Mode}
use Rattle.prettyless_model.specs.declared.mode.Mode.TheVariants.{Break, Flat}
use Rattle.prettyless_model.proofs.Outcomes.{same-either, holds-either, holds-accept, holds-text, holds-plain}

-- ---- how much is pending after an outcome

-- at most this much is pending afterwards
abbrev pub LeavesAtMost : ℕ → Outcome → Type 0
LeavesAtMost n (Done b st) = queued st.pending ≤ n
LeavesAtMost n (Failed b) = Unit {0}

leaves-after : (n : ℕ) (b : List ℕ) (o : Outcome) → LeavesAtMost n o → LeavesAtMost n (after_bytes b o)
leaves-after n b (Done c st) h = h
leaves-after n b (Failed c) h = tt

leaves-more : (n k : ℕ) (o : Outcome) → n ≤ k → LeavesAtMost n o → LeavesAtMost k o
leaves-more n k (Done c st) l h = omega arith
leaves-more n k (Failed c) l h = tt

leaves-then : (n k : ℕ) (o : Outcome) (f : State → Outcome) → LeavesAtMost n o → ((u : State) → queued u.pending ≤ n → LeavesAtMost k (f u))
    → LeavesAtMost k (and_then o f)
leaves-then n k (Done b st) f h g = leaves-after k b (f st) (g st h)
leaves-then n k (Failed b) f h g = tt

then-agrees : (n : ℕ) (o : Outcome) (f g : State → Outcome) → LeavesAtMost n o → ((u : State) → queued u.pending ≤ n → f u ≡ g u)
    → and_then o f ≡ and_then o g
then-agrees n (Done b st) f g h e = ap (after_bytes b) (e st h)
then-agrees n (Failed b) f g h e = refl

queued-one : (ps : List Tree) (d : Tree) → queued (ps ++ d ∷ []) ≡ queued ps + (suffixes d + 1)
queued-one [] d = omega arith
queued-one (p ∷ ps) d = omega (arith, queued-one ps d)

-- ---- breaks that keep, and breaks that agree

-- a break leaves no more pending than it found
abbrev pub Keeps : Breaks → Type 0
Keeps brk = (d : Tree) (i : ℕ) (m : Mode) (rest : List Entry) (st : State) → LeavesAtMost (queued st.pending) (brk d i m rest st)

-- two breaks answer the same where no more than this is pending
abbrev pub Agree : ℕ → Breaks → Breaks → Type 0
Agree h a b = (d : Tree) (i : ℕ) (m : Mode) (rest : List Entry) (st : State) → queued st.pending ≤ h → a d i m rest st ≡ b d i m rest st

-- such breaks, of which the first leaves no more pending than it found
record Agreeing (h : ℕ) (a b : Breaks) : Type 0 where
  same : Agree h a b
  keeps : Keeps a

-- ---- what a layout leaves pending

pub lay_keeps : (o : RenderOptions) (brk : Breaks) → Keeps brk → (d : Tree) (i : ℕ) (m : Mode) (rest : List Entry) (st : State)
    → LeavesAtMost (suffixes d + queued st.pending) (lay o brk d i m rest st)
unfolding lay
lay_keeps o brk k Fail i m rest st = tt
lay_keeps o brk k (Text s) i m rest st = holds-text (LeavesAtMost (0 + queued st.pending)) o (length s) s st (λ b c t. omega arith)
lay_keeps o brk k (TextWithLen w s) i m rest st = holds-text (LeavesAtMost (0 + queued st.pending)) o w s st (λ b c t. omega arith)
lay_keeps o brk k (MultilineText s) i Break rest st = omega arith
lay_keeps o brk k (MultilineText s) i Flat rest st = tt
lay_keeps o brk k HardLine i Break rest st = leaves-more _ _ (brk HardLine i Break rest st) (omega arith) (k HardLine i Break rest st)
lay_keeps o brk k HardLine i Flat rest st = tt
lay_keeps o brk k WeakLine i m rest st = leaves-more _ _ (brk WeakLine i m rest st) (omega arith) (k WeakLine i m rest st)
lay_keeps o brk k (Append l r) i m rest st =
    leaves-then (suffixes l + queued st.pending) _ (lay o brk l i m (entry i r ∷ rest) st) (λ u. lay o brk r i m rest u)
    (lay_keeps o brk k l i m (entry i r ∷ rest) st)
    (λ u h. leaves-more (suffixes r + queued u.pending) _ (lay o brk r i m rest u) (omega arith) (lay_keeps o brk k r i m rest u))
lay_keeps o brk k (LineSuffix d) i m rest st = omega (arith, queued-one st.pending d)
lay_keeps o brk k (Indented how d) i m rest st = lay_keeps o brk k d (indent_by how i st.column) m rest st
lay_keeps o brk k (Flatten d) i m rest st = lay_keeps o brk k d i Flat rest st
lay_keeps o brk k (BreakOrFlat b f) i Break rest st = leaves-more _ _ (lay o brk b i Break rest st) (omega arith)
    (lay_keeps o brk k b i Break rest st)
lay_keeps o brk k (BreakOrFlat b f) i Flat rest st = leaves-more _ _ (lay o brk f i Flat rest st) (omega arith)
    (lay_keeps o brk k f i Flat rest st)
lay_keeps o brk k (Group d) i m rest st = lay_keeps o brk k d i (by_mode m (if probe o d i Flat rest st then Flat else Break) Flat) rest st
lay_keeps o brk k (Union l r) i Break rest st =
    holds-accept (LeavesAtMost (suffixes l + suffixes r + queued st.pending)) (λ b z was e. e) o st.within
    (lay o brk l i Break rest (in_trial st)) (lay o brk r i Break rest st)
    (leaves-more _ _ (lay o brk l i Break rest (in_trial st)) (omega arith) (lay_keeps o brk k l i Break rest (in_trial st)))
    (leaves-more _ _ (lay o brk r i Break rest st) (omega arith) (lay_keeps o brk k r i Break rest st))
lay_keeps o brk k (Union l r) i Flat rest st = leaves-more _ _ (lay o brk l i Flat rest st) (omega arith)
    (lay_keeps o brk k l i Flat rest st)
lay_keeps o brk k (PartialUnion l r) i Break rest st =
    holds-either (LeavesAtMost (suffixes l + suffixes r + queued st.pending)) (probe o l i Break rest st) (lay o brk l i Break rest st)
    (lay o brk r i Break rest st)
    (leaves-more _ _ (lay o brk l i Break rest st) (omega arith) (lay_keeps o brk k l i Break rest st))
    (leaves-more _ _ (lay o brk r i Break rest st) (omega arith) (lay_keeps o brk k r i Break rest st))
lay_keeps o brk k (PartialUnion l r) i Flat rest st = leaves-more _ _ (lay o brk l i Flat rest st) (omega arith)
    (lay_keeps o brk k l i Flat rest st)
lay_keeps o brk k (Chosen test l r) i m rest st =
    holds-either (LeavesAtMost (suffixes l + suffixes r + queued st.pending)) (choice_holds test (prospective st.column) i)
    (lay o brk l i m rest st) (lay o brk r i m rest st)
    (leaves-more _ _ (lay o brk l i m rest st) (omega arith) (lay_keeps o brk k l i m rest st))
    (leaves-more _ _ (lay o brk r i m rest st) (omega arith) (lay_keeps o brk k r i m rest st))
lay_keeps o brk k _ i m rest st = omega arith

abbrev pub all_suffixes : List Tree → ℕ
all_suffixes [] = 0
all_suffixes (d ∷ ds) = suffixes d + all_suffixes ds

pub suffixes_queued : (ds : List Tree) → all_suffixes ds + length ds ≡ queued ds
suffixes_queued [] = refl
suffixes_queued (d ∷ ds) = omega (arith, suffixes_queued ds)

pub each_keeps : (o : RenderOptions) (brk : Breaks) → Keeps brk → (ds : List Tree) (i : ℕ) (m : Mode) (rest : List Entry) (st : State)
    → LeavesAtMost (all_suffixes ds + queued st.pending) (lay_each o brk ds i m rest st)
unfolding lay_each
each_keeps o brk k [] i m rest st = omega arith
each_keeps o brk k (d ∷ ds) i m rest st =
    leaves-then (suffixes d + queued st.pending) _ (lay o brk d i m (entries i ds ++ rest) st) (λ u. lay_each o brk ds i m rest u)
    (lay_keeps o brk k d i m (entries i ds ++ rest) st)
    (λ u h. leaves-more (all_suffixes ds + queued u.pending) _ (lay_each o brk ds i m rest u) (omega arith)
    (each_keeps o brk k ds i m rest u))

break_keeps : (o : RenderOptions) (brk : Breaks) → Keeps brk → (ps : List Tree) (d : Tree) (i : ℕ) (m : Mode) (rest : List Entry)
    (st : State) → queued st.pending ≤ queued ps → LeavesAtMost (queued ps) (break_with o brk ps d i m rest st)
break_keeps o brk k [] d i m rest st l = holds-plain (LeavesAtMost (queued [])) o d i rest st (λ b c t. l)
break_keeps o brk k (p ∷ ps) d i m rest st l =
    leaves-after _ (spaces (gap st.column)) (and_then (lay_each o brk (p ∷ ps) i m (entry i d ∷ rest) (flushed o st)) (brk d i m rest))
    (leaves-then (all_suffixes (p ∷ ps) + queued (flushed o st).pending) _ (lay_each o brk (p ∷ ps) i m (entry i d ∷ rest) (flushed o st))
    (brk d i m rest)
    (each_keeps o brk k (p ∷ ps) i m (entry i d ∷ rest) (flushed o st))
    (λ u h. leaves-more (queued u.pending) _ (brk d i m rest u) (omega (arith, suffixes_queued ps)) (k d i m rest u)))

pub breaks_keep : (o : RenderOptions) (n : ℕ) → Keeps (breaks o n)
unfolding breaks
breaks_keep o zero = λ d i m rest st. tt
breaks_keep o (suc n) = λ d i m rest st. break_keeps o (breaks o n) (breaks_keep o n) st.pending d i m rest st (omega arith)

-- ---- layouts by two breaks that agree

lay_agrees : (o : RenderOptions) {h : ℕ} {a b : Breaks} → Agreeing h a b → (d : Tree) (i : ℕ) (m : Mode) (rest : List Entry)
    (st : State) → suffixes d + queued st.pending ≤ h → lay o a d i m rest st ≡ lay o b d i m rest st
unfolding lay
lay_agrees o e HardLine i Break rest st l = e.same HardLine i Break rest st (omega arith)
lay_agrees o e WeakLine i m rest st l = e.same WeakLine i m rest st (omega arith)
lay_agrees o {h} {a} {b} e (Append x y) i m rest st l =
    then-agrees (suffixes x + queued st.pending) (lay o a x i m (entry i y ∷ rest) st) (λ u. lay o a y i m rest u)
    (λ u. lay o b y i m rest u)
    (lay_keeps o a e.keeps x i m (entry i y ∷ rest) st)
    (λ u q. lay_agrees o e y i m rest u (omega arith))
    ∙ ap (λ (x : Outcome). and_then x (λ u. lay o b y i m rest u)) (lay_agrees o e x i m (entry i y ∷ rest) st (omega arith))
lay_agrees o e (Indented how d) i m rest st l = lay_agrees o e d (indent_by how i st.column) m rest st l
lay_agrees o e (Flatten d) i m rest st l = lay_agrees o e d i Flat rest st l
lay_agrees o e (BreakOrFlat x y) i Break rest st l = lay_agrees o e x i Break rest st (omega arith)
lay_agrees o e (BreakOrFlat x y) i Flat rest st l = lay_agrees o e y i Flat rest st (omega arith)
lay_agrees o e (Group d) i m rest st l =
    lay_agrees o e d i (by_mode m (if probe o d i Flat rest st then Flat else Break) Flat) rest st l
lay_agrees o {h} {a} {b} e (Union x y) i Break rest st l =
    ap (λ (z : Outcome). accept o st.within z (lay o a y i Break rest st))
    (lay_agrees o e x i Break rest (in_trial st) (omega arith))
    ∙ ap (accept o st.within (lay o b x i Break rest (in_trial st))) (lay_agrees o e y i Break rest st (omega arith))
lay_agrees o e (Union x y) i Flat rest st l = lay_agrees o e x i Flat rest st (omega arith)
lay_agrees o {h} {a} {b} e (PartialUnion x y) i Break rest st l =
    same-either (probe o x i Break rest st) (lay o a x i Break rest st) (lay o a y i Break rest st) (lay o b x i Break rest st)
    (lay o b y i Break rest st)
    (lay_agrees o e x i Break rest st (omega arith)) (lay_agrees o e y i Break rest st (omega arith))
lay_agrees o e (PartialUnion x y) i Flat rest st l = lay_agrees o e x i Flat rest st (omega arith)
lay_agrees o {h} {a} {b} e (Chosen test x y) i m rest st l =
    same-either (choice_holds test (prospective st.column) i) (lay o a x i m rest st) (lay o a y i m rest st) (lay o b x i m rest st)
    (lay o b y i m rest st)
    (lay_agrees o e x i m rest st (omega arith)) (lay_agrees o e y i m rest st (omega arith))
lay_agrees o e _ i m rest st l = refl

each_agrees : (o : RenderOptions) {h : ℕ} {a b : Breaks} → Agreeing h a b → (ds : List Tree) (i : ℕ) (m : Mode) (rest : List Entry)
    (st : State) → all_suffixes ds + queued st.pending ≤ h → lay_each o a ds i m rest st ≡ lay_each o b ds i m rest st
unfolding lay_each
each_agrees o e [] i m rest st l = refl
each_agrees o {h} {a} {b} e (d ∷ ds) i m rest st l =
    then-agrees (suffixes d + queued st.pending) (lay o a d i m (entries i ds ++ rest) st) (λ u. lay_each o a ds i m rest u)
    (λ u. lay_each o b ds i m rest u)
    (lay_keeps o a e.keeps d i m (entries i ds ++ rest) st)
    (λ u q. each_agrees o e ds i m rest u (omega arith))
    ∙ ap (λ (x : Outcome). and_then x (λ u. lay_each o b ds i m rest u))
    (lay_agrees o e d i m (entries i ds ++ rest) st (omega arith))

break_agrees : (o : RenderOptions) {h : ℕ} {a b : Breaks} → Agreeing h a b → (ps : List Tree) (d : Tree) (i : ℕ) (m : Mode)
    (rest : List Entry) (st : State) → queued ps ≤ suc h → break_with o a ps d i m rest st ≡ break_with o b ps d i m rest st
break_agrees o e [] d i m rest st l = refl
break_agrees o {h} {a} {b} e (p ∷ ps) d i m rest st l =
    ap (after_bytes (spaces (gap st.column)))
    (then-agrees (all_suffixes (p ∷ ps) + queued (flushed o st).pending) (lay_each o a (p ∷ ps) i m (entry i d ∷ rest) (flushed o st))
    (a d i m rest) (b d i m rest)
    (each_keeps o a e.keeps (p ∷ ps) i m (entry i d ∷ rest) (flushed o st))
    (λ u q. e.same d i m rest u (omega (arith, suffixes_queued ps)))
    ∙ ap (λ (x : Outcome). and_then x (b d i m rest))
    (each_agrees o e (p ∷ ps) i m (entry i d ∷ rest) (flushed o st) (omega (arith, suffixes_queued ps))))

-- ---- enough levels for a break

none_queued : (o : RenderOptions) (a b : Breaks) (ps : List Tree) (d : Tree) (i : ℕ) (m : Mode) (rest : List Entry) (st : State)
    → queued ps ≤ 0 → break_with o a ps d i m rest st ≡ break_with o b ps d i m rest st
none_queued o a b [] d i m rest st l = refl
none_queued o a b (p ∷ ps) d i m rest st l = absurd (omega arith)

-- more levels than what is pending give the same answer
levels : (o : RenderOptions) (n k h : ℕ) → h ≤ n → h ≤ k → Agree h (breaks o (suc n)) (breaks o (suc k))
unfolding breaks
levels o zero k h p q = λ d i m rest st l. none_queued o (breaks o zero) (breaks o k) st.pending d i m rest st (omega arith)
levels o (suc n) zero h p q = λ d i m rest st l. none_queued o (breaks o (suc n)) (breaks o zero) st.pending d i m rest st (omega arith)
levels o (suc n) (suc k) zero p q = λ d i m rest st l. none_queued o (breaks o (suc n)) (breaks o (suc k)) st.pending d i m rest st l
levels o (suc n) (suc k) (suc h) p q = λ d i m rest st l.
    break_agrees o (record { same = levels o n k h (omega arith) (omega arith); keeps = breaks_keep o (suc n) }) st.pending d i m rest st l

settle_agrees : (o : RenderOptions) (q : ℕ) → Agreeing q (breaks o (suc q)) (settle o)
unfolding settle
settle_agrees o q = record {
  same = λ d i m rest st l. levels o q (queued st.pending) (queued st.pending) l (omega arith) d i m rest st (omega arith);
  keeps = breaks_keep o (suc q);
}

settle_break : (o : RenderOptions) (q : ℕ) (ps : List Tree) (d : Tree) (i : ℕ) (m : Mode) (rest : List Entry) (st : State) → queued ps ≤ q
    → break_with o (breaks o q) ps d i m rest st ≡ break_with o (settle o) ps d i m rest st
settle_break o zero ps d i m rest st l = none_queued o (breaks o zero) (settle o) ps d i m rest st l
settle_break o (suc q) ps d i m rest st l = break_agrees o (settle_agrees o q) ps d i m rest st l

-- a break that runs by its own equation
abbrev pub Fixed : RenderOptions → Breaks → Type 0
Fixed o brk = (d : Tree) (i : ℕ) (m : Mode) (rest : List Entry) (st : State) → brk d i m rest st ≡ break_with o brk st.pending d i m rest st

-- the levels that a break has are enough
pub settle_fixed : (o : RenderOptions) → Fixed o (settle o)
unfolding settle breaks
settle_fixed o = λ d i m rest st. settle_break o (queued st.pending) st.pending d i m rest st (omega arith)

-- ---- the end of the document

end_agrees : (o : RenderOptions) {h : ℕ} {a b : Breaks} → Agreeing h a b → (f g : State → Outcome) → (ps : List Tree) (st : State)
    → queued ps ≤ suc h → ((u : State) → queued u.pending < queued ps → f u ≡ g u) → end_with o a f ps st ≡ end_with o b g ps st
end_agrees o e f g [] st l r = refl
end_agrees o {h} {a} e f g (p ∷ ps) st l r =
    ap (after_bytes (spaces (gap st.column)))
    (then-agrees (all_suffixes (p ∷ ps) + queued (flushed o st).pending) (lay_each o a (p ∷ ps) 0 Break [] (flushed o st)) f g
    (each_keeps o a e.keeps (p ∷ ps) 0 Break [] (flushed o st))
    (λ u q. r u (omega (arith, suffixes_queued ps)))
    ∙ ap (λ (x : Outcome). and_then x g) (each_agrees o e (p ∷ ps) 0 Break [] (flushed o st) (omega (arith, suffixes_queued ps))))

finish_agrees : (o : RenderOptions) {h : ℕ} {a b : Breaks} → Agreeing h a b → (n k : ℕ) (st : State) → queued st.pending < n
    → queued st.pending < k → queued st.pending ≤ suc h → finish o a n st ≡ finish o b k st
unfolding finish
finish_agrees o e zero k st l m q = absurd (omega arith)
finish_agrees o e (suc n) zero st l m q = absurd (omega arith)
finish_agrees o {h} {a} {b} e (suc n) (suc k) st l m q =
    end_agrees o e (finish o a n) (finish o b k) st.pending st q (λ u r. finish_agrees o e n k u (omega arith) (omega arith) (omega arith))

settle_keeps : (o : RenderOptions) → Keeps (settle o)
unfolding settle
settle_keeps o = λ d i m rest st. breaks_keep o (suc (queued st.pending)) d i m rest st

end_fixed_at : (o : RenderOptions) (q : ℕ) (ps : List Tree) (st : State) → queued ps ≤ q → end_with o (settle o) (finish o (settle o) q) ps
    st ≡ end_with o (settle o) (settle_end o) ps st
unfolding settle_end
end_fixed_at o q ps st l =
    let same : Agreeing q (settle o) (settle o) = record { same = λ d i m rest u h. refl; keeps = settle_keeps o } in
    end_agrees o same (finish o (settle o) q) (settle_end o) ps st (omega arith)
    (λ u r. finish_agrees o same q (suc (queued u.pending)) u (omega arith) (omega arith) (omega arith))

-- the end's own equation
pub end_fixed : (o : RenderOptions) (st : State) → settle_end o st ≡ end_with o (settle o) (settle_end o) st.pending st
unfolding settle_end finish
end_fixed o st = end_fixed_at o (queued st.pending) st.pending st (omega arith)

-- ---- the whole layout

pub suffixes_size : (d : Tree) → suffixes d < size d
suffixes_size (Append l r) = omega (arith, suffixes_size l, suffixes_size r)
suffixes_size (LineSuffix d) = omega (arith, suffixes_size d)
suffixes_size (Indented how d) = omega (arith, suffixes_size d)
suffixes_size (Flatten d) = omega (arith, suffixes_size d)
suffixes_size (BreakOrFlat l r) = omega (arith, suffixes_size l, suffixes_size r)
suffixes_size (Group d) = omega (arith, suffixes_size d)
suffixes_size (Union l r) = omega (arith, suffixes_size l, suffixes_size r)
suffixes_size (PartialUnion l r) = omega (arith, suffixes_size l, suffixes_size r)
suffixes_size (Chosen test l r) = omega (arith, suffixes_size l, suffixes_size r)
suffixes_size _ = omega arith

layout_at : (o : RenderOptions) (n : ℕ) (d : Tree) → suffixes d ≤ n
    → layout_by o (suc n) d ≡ and_then (lay o (settle o) d 0 Break [] initial) (settle_end o)
unfolding layout_by settle_end
layout_at o n d l =
    then-agrees (suffixes d + queued initial.pending) (lay o (breaks o (suc n)) d 0 Break [] initial)
    (finish o (breaks o (suc n)) (suc n)) (settle_end o)
    (lay_keeps o (breaks o (suc n)) (breaks_keep o (suc n)) d 0 Break [] initial)
    (λ u q. finish_agrees o (settle_agrees o n) (suc n) (suc (queued u.pending)) u (omega arith) (omega arith) (omega arith))
    ∙ ap (λ (x : Outcome). and_then x (settle_end o))
    (lay_agrees o (settle_agrees o n) d 0 Break [] initial (omega arith))

-- the layout, whose levels are never spent
pub layout_is : (o : RenderOptions) (d : Tree) → layout o d ≡ bytes_of (and_then (lay o (settle o) d 0 Break [] initial) (settle_end o))
unfolding layout
layout_is o d = ap bytes_of (ap (λ (n : ℕ). layout_by o n d) (add-one (size d)) ∙ layout_at o (size d) d (omega (arith, suffixes_size d)))

-- the law of the levels
pub more_levels : (o : RenderOptions) (n : ℕ) (d : Tree) → suffixes d < n → bytes_of (layout_by o n d) ≡ layout o d
more_levels o zero d l = absurd (omega arith)
more_levels o (suc n) d l = ap bytes_of (layout_at o n d (omega arith)) ∙ sym (layout_is o d)
