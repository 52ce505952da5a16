-- Content, counted: each byte of what a document spells, and of what waited, is written or waits still.
use Rattle.std.proofs.Common.{◌≡◌, ℕ, zero, suc, ◌+◌, ◌==◌, List, [], ◌∷◌, ◌++◌, length, refl, ap, sym, ◌∙◌, arith, cond, if◌then◌else◌}
use Rattle.std.proofs.lemmas.List.Sums.{sum_by-append}
use Rattle.prettyless_model.specs.Spaces.{spaces}
use Rattle.prettyless_model.specs.declared.options.RenderOptions.{RenderOptions}
use Rattle.prettyless_model.specs.Tree.{Tree, Nil, Fail, Text, TextWithLen, MultilineText, WeakSpace, HardLine, WeakLine, Append}
use Rattle.prettyless_model.specs.Tree.{LineSuffix, Indented, ExpandParent, Flatten, BreakOrFlat, Group, Union, PartialUnion, Chosen, size}
use Rattle.prettyless_model.specs.Column.{gap, blank, prospective}
use Rattle.prettyless_model.specs.Metrics.{metrics}
use Rattle.prettyless_model.specs.Indent.{indent_by}
use Rattle.prettyless_model.specs.Choice.{choice_holds}
use Rattle.prettyless_model.specs.Look.{by_mode}
use Rattle.prettyless_model.specs.Layout.{State, Outcome, Done, Failed, Entry, Breaks, Whole, after_bytes, and_then, lay, lay_each}
use Rattle.prettyless_model.specs.Layout.{lay_text, lay_payload, probe, in_trial, plain_break, flushed, entry, entries, break_with}
use Rattle.prettyless_model.specs.Layout.{end_with}
use Rattle.prettyless_model.specs.Layout.{breaks, finish, layout, layout_by, initial, bytes_of}
use Rattle.prettyless_model.specs.Spelling.{ink, spells}
use Rattle.prettyless_model.specs.Content.{count}
use Rattle.prettyless_model.specs.declared.mode.Mode.{Mode}
use Rattle.prettyless_model.specs.declared.mode.Mode.TheVariants.{Break, Flat}
use Rattle.prettyless_model.proofs.Ink.{ink-append, ink-spaces}
use Rattle.prettyless_model.proofs.Words.{row, spells_one_more}
use Rattle.prettyless_model.proofs.Endings.{NothingPending, layout_by_ends}
use Rattle.prettyless_model.proofs.Outcomes.{holds-either, holds-accept}
use Rattle.prettyless_model.proofs.Writes.{Writes, text_writes, payload_writes, plain_writes}

-- ---- words and counts

-- the pending documents spell this word in a row
pub record PendingWord (st : State) (q : List ℕ) : Type 0 where
  pub spelled : spells (row st.pending) q

-- the byte is n times in the bytes and in some word that the pending documents spell, taken together
abbrev pub Leaves : ℕ → ℕ → Outcome → Type 0
Leaves c n (Done b st) = (q : List ℕ) × PendingWord st q × (count c (ink b) + count c q ≡ n)
Leaves c n (Failed b) = Unit {0}

count-append : (c : ℕ) (a b : List ℕ) → count c (a ++ b) ≡ count c a + count c b
count-append c a b = sum_by-append (λ x. cond (x == c) 1 0) a b

count_ink : (c : ℕ) (a b : List ℕ) → count c (ink (a ++ b)) ≡ count c (ink a) + count c (ink b)
count_ink c a b = ap (count c) (ink-append a b) ∙ count-append c (ink a) (ink b)

-- ---- outcomes, one after another

-- what is written while the pending documents stay
leaves_writes : (c : ℕ) (v w : List ℕ) {q : List ℕ} {st : State} (o : Outcome) → Writes v st.pending o → w ≡ v → PendingWord st q
    → Leaves c (count c w + count c q) o
leaves_writes c v w {q} (Done b after) h e s =
    (q, record { spelled = rw h.1 s.spelled }, ap (λ (x : List ℕ). count c x + count c q) (h.0 ∙ sym e))
leaves_writes c v w (Failed b) h e s = tt

leaves_same : (c n k : ℕ) (o : Outcome) → n ≡ k → Leaves c n o → Leaves c k o
leaves_same c n k o e h = rw (← e) h

leaves-after : (c n k : ℕ) (b : List ℕ) (o : Outcome) → count c (ink b) + n ≡ k → Leaves c n o → Leaves c k (after_bytes b o)
leaves-after c n k b (Done a st) e h = (h.0, h.1, omega (arith, count_ink c b a, h.2))
leaves-after c n k b (Failed a) e h = tt

-- one outcome after another, of which the second adds v
leaves-then : (c n v k : ℕ) (o : Outcome) (f : State → Outcome) → n + v ≡ k → Leaves c n o
    → ((st : State) (q : List ℕ) → PendingWord st q → Leaves c (v + count c q) (f st)) → Leaves c k (and_then o f)
leaves-then c n v k (Done b st) f e h g = leaves-after c (v + count c h.0) k b (f st) (omega (arith, h.2)) (g st h.0 h.1)
leaves-then c n v k (Failed b) f e h g = tt

-- ---- what conserves a byte

-- what goes on from a state loses nothing of what waits, and adds nothing
pub record Retains (c : ℕ) (f : State → Outcome) : Type 0 where
  pub leaves : (st : State) (q : List ℕ) → PendingWord st q → Leaves c (count c q) (f st)

-- a break does so
pub record Conserves (c : ℕ) (brk : Breaks) : Type 0 where
  pub retains : (d : Tree) (i : ℕ) (m : Mode) (rest : List Entry) → Retains c (brk d i m rest)

-- ---- one document, and documents in a row

pub lay_counts : (o : RenderOptions) {brk : Breaks} {c : ℕ} → Conserves c brk → (d : Tree) (i : ℕ) (m : Mode) (rest : List Entry)
    {st : State} {q : List ℕ} (w : List ℕ) → spells d w → PendingWord st q
    → Leaves c (count c w + count c q) (lay o brk d i m rest st)
unfolding lay
lay_counts o {brk} {c} k Nil i m rest {st} w h s = leaves_writes c [] w (Done [] st) (refl, refl) h s
lay_counts o k Fail i m rest w h s = tt
lay_counts o {brk} {c} k (Text x) i m rest {st} w h s =
    leaves_writes c (ink x) w (lay_text o (length x) x st) (text_writes o (length x) x st) h s
lay_counts o {brk} {c} k (TextWithLen n x) i m rest {st} w h s =
    leaves_writes c (ink x) w (lay_text o n x st) (text_writes o n x st) h s
lay_counts o {brk} {c} k (MultilineText x) i Break rest {st} w h s =
    leaves_writes c (ink x) w (lay_payload o (metrics x) x st) (payload_writes o (metrics x) x st) h s
lay_counts o k (MultilineText x) i Flat rest w h s = tt
lay_counts o {brk} {c} k WeakSpace i m rest {st} w h s =
    leaves_writes c [] w (Done [] (record st { column = blank st.column })) (refl, refl) h s
lay_counts o {brk} {c} k HardLine i Break rest {st} {q} w h s =
    leaves_same c _ _ (brk HardLine i Break rest st) (omega (arith, ap (count c) h)) ((k.retains HardLine i Break rest).leaves st q s)
lay_counts o k HardLine i Flat rest w h s = tt
lay_counts o {brk} {c} k WeakLine i m rest {st} {q} w h s =
    leaves_same c _ _ (brk WeakLine i m rest st) (omega (arith, ap (count c) h)) ((k.retains WeakLine i m rest).leaves st q s)
lay_counts o {brk} {c} k (Append x y) i m rest {st} {q} w h s =
    leaves-then c (count c h.0 + count c q) (count c h.1) _ (lay o brk x i m (entry i y ∷ rest) st) (λ z. lay o brk y i m rest z)
    (omega (arith, ap (count c) h.4, count-append c h.0 h.1))
    (lay_counts o k x i m (entry i y ∷ rest) h.0 h.2 s)
    (λ z r e. lay_counts o k y i m rest h.1 h.3 e)
lay_counts o {brk} {c} k (LineSuffix d) i m rest {st} {q} w h s =
    (q ++ w, record { spelled = spells_one_more st.pending d q w s.spelled h }, omega (arith, count-append c q w))
lay_counts o k (Indented how d) i m rest {st} w h s = lay_counts o k d (indent_by how i st.column) m rest w h s
lay_counts o {brk} {c} k ExpandParent i m rest {st} w h s = leaves_writes c [] w (Done [] st) (refl, refl) h s
lay_counts o k (Flatten d) i m rest w h s = lay_counts o k d i Flat rest w h s
lay_counts o k (BreakOrFlat x y) i Break rest w h s = lay_counts o k x i Break rest w h.0 s
lay_counts o k (BreakOrFlat x y) i Flat rest w h s = lay_counts o k y i Flat rest w h.1 s
lay_counts o k (Group d) i m rest {st} w h s =
    lay_counts o k d i (by_mode m (if probe o d i Flat rest st then Flat else Break) Flat) rest w h s
lay_counts o {brk} {c} k (Union x y) i Break rest {st} {q} w h s =
    holds-accept (Leaves c (count c w + count c q)) (λ b z was e. (e.0, record { spelled = e.1.spelled }, e.2)) o st.within
    (lay o brk x i Break rest (in_trial st))
    (lay o brk y i Break rest st)
    (lay_counts o k x i Break rest w h.0 (record { spelled = s.spelled }))
    (lay_counts o k y i Break rest w h.1 s)
lay_counts o k (Union x y) i Flat rest w h s = lay_counts o k x i Flat rest w h.0 s
lay_counts o {brk} {c} k (PartialUnion x y) i Break rest {st} {q} w h s =
    holds-either (Leaves c (count c w + count c q)) (probe o x i Break rest st) (lay o brk x i Break rest st) (lay o brk y i Break rest st)
    (lay_counts o k x i Break rest w h.0 s)
    (lay_counts o k y i Break rest w h.1 s)
lay_counts o k (PartialUnion x y) i Flat rest w h s = lay_counts o k x i Flat rest w h.0 s
lay_counts o {brk} {c} k (Chosen test x y) i m rest {st} {q} w h s =
    holds-either (Leaves c (count c w + count c q)) (choice_holds test (prospective st.column) i) (lay o brk x i m rest st)
    (lay o brk y i m rest st)
    (lay_counts o k x i m rest w h.0 s)
    (lay_counts o k y i m rest w h.1 s)

each_counts : (o : RenderOptions) {brk : Breaks} {c : ℕ} → Conserves c brk → (ds : List Tree) (i : ℕ) (m : Mode) (rest : List Entry)
    {st : State} {q : List ℕ} (w : List ℕ) → spells (row ds) w → PendingWord st q
    → Leaves c (count c w + count c q) (lay_each o brk ds i m rest st)
unfolding lay_each
each_counts o {brk} {c} k [] i m rest {st} w h s = leaves_writes c [] w (Done [] st) (refl, refl) h s
each_counts o {brk} {c} k (d ∷ ds) i m rest {st} {q} w h s =
    leaves-then c (count c h.0 + count c q) (count c h.1) _ (lay o brk d i m (entries i ds ++ rest) st) (λ z. lay_each o brk ds i m rest z)
    (omega (arith, ap (count c) h.4, count-append c h.0 h.1))
    (lay_counts o k d i m (entries i ds ++ rest) h.0 h.2 s)
    (λ z r e. each_counts o k ds i m rest h.1 h.3 e)

-- ---- what waits, breaks and the end

-- what waits is laid, and what goes on conserves what waits still
waiting_counts : (o : RenderOptions) {brk : Breaks} {c : ℕ} → Conserves c brk → (ps : List Tree) (i : ℕ) (m : Mode) (rest : List Entry)
    (st : State) {again : State → Outcome} (q : List ℕ) → spells (row ps) q → Retains c again
    → Leaves c (count c q) (after_bytes (spaces (gap st.column)) (and_then (lay_each o brk ps i m rest (flushed o st)) again))
waiting_counts o {brk} {c} k ps i m rest st {again} q h g =
    leaves-after c (count c q) (count c q) (spaces (gap st.column)) (and_then (lay_each o brk ps i m rest (flushed o st)) again)
    (omega (arith, ap (count c) (ink-spaces (gap st.column))))
    (leaves-then c (count c q + 0) 0 (count c q) (lay_each o brk ps i m rest (flushed o st)) again (omega arith)
    (each_counts o k ps i m rest {st = flushed o st} {q = []} q h (record { spelled = refl }))
    (λ u r e. leaves_same c (count c r) (0 + count c r) (again u) (omega arith) (g.leaves u r e)))

break_counts : (o : RenderOptions) {brk : Breaks} {c : ℕ} → Conserves c brk → (ps : List Tree) (d : Tree) (i : ℕ) (m : Mode)
    (rest : List Entry) {st : State} {q : List ℕ} → spells (row ps) q → PendingWord st q
    → Leaves c (count c q) (break_with o brk ps d i m rest st)
break_counts o {brk} {c} k [] d i m rest {st} h s =
    leaves_same c _ _ (plain_break o d i rest st) (omega arith)
    (leaves_writes c [] [] (plain_break o d i rest st) (plain_writes o d i rest st) refl s)
break_counts o k (p ∷ ps) d i m rest {st} {q} h s =
    waiting_counts o k (p ∷ ps) i m (entry i d ∷ rest) st q h (k.retains d i m rest)

breaks_count : (o : RenderOptions) (n c : ℕ) → Conserves c (breaks o n)
unfolding breaks
breaks_count o zero c = record { retains = λ d i m rest. record { leaves = λ st q s. tt } }
breaks_count o (suc n) c = record {
  retains = λ d i m rest. record { leaves = λ st q s. break_counts o (breaks_count o n c) st.pending d i m rest s.spelled s };
}

end_counts : (o : RenderOptions) {brk : Breaks} {c : ℕ} → Conserves c brk → {again : State → Outcome} → Retains c again
    → (ps : List Tree) {st : State} {q : List ℕ} → spells (row ps) q → PendingWord st q
    → Leaves c (count c q) (end_with o brk again ps st)
end_counts o k g [] {st} {q} h s = (q, s, omega arith)
end_counts o k g (p ∷ ps) {st} {q} h s = waiting_counts o k (p ∷ ps) 0 Break [] st q h g

finish_counts : (o : RenderOptions) {brk : Breaks} {c : ℕ} → Conserves c brk → (n : ℕ) → Retains c (finish o brk n)
unfolding finish
finish_counts o k zero = record { leaves = λ st q s. tt }
finish_counts o k (suc n) = record { leaves = λ st q s. end_counts o k (finish_counts o k n) st.pending s.spelled s }

-- ---- the whole layout

layout_by_counts : (o : RenderOptions) (n c : ℕ) (d : Tree) (w : List ℕ) → spells d w → Leaves c (count c w) (layout_by o n d)
unfolding layout_by
layout_by_counts o n c d w h =
    leaves-then c (count c w + 0) 0 (count c w) (lay o (breaks o n) d 0 Break [] initial) (finish o (breaks o n) n) (omega arith)
    (lay_counts o (breaks_count o n c) d 0 Break [] {st = initial} {q = []} w h (record { spelled = refl }))
    (λ u r e. leaves_same c (count c r) (0 + count c r) (finish o (breaks o n) n u) (omega arith)
    ((finish_counts o (breaks_count o n c) n).leaves u r e))

whole_counts : (x : Outcome) (c n : ℕ) (b : List ℕ) → Leaves c n x → NothingPending x → bytes_of x ≡ Whole b → count c (ink b) ≡ n
whole_counts (Done a st) c n b h s e =
    let same : a ≡ b = cc in
    let none : spells (row []) h.0 = rw s at h.1.spelled in
    omega (arith, ap (λ (x : List ℕ). count c (ink x)) same, ap (count c) none, h.2)
whole_counts (Failed a) c n b h s e = absurd (cc)

pub content_counted : (o : RenderOptions) (d : Tree) (w b : List ℕ) → spells d w → layout o d ≡ Whole b → (c : ℕ)
    → count c (ink b) ≡ count c w
unfolding layout
content_counted o d w b h e c =
    whole_counts (layout_by o (size d + 1) d) c (count c w) b (layout_by_counts o (size d + 1) c d w h) (layout_by_ends o (size d + 1) d) e
