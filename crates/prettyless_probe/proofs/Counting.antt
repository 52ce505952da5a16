-- How many nodes a probe reads, node by node.
use Rattle.std.proofs.Common.{◌≡◌, ℕ, ◌+◌, ◌-◌, ◌^◌, ◌<◌, ◌≤◌, min, List, [], ◌∷◌, refl, Result, Ok, Err, IfOk, OnOk, Bool, true, false}
use Rattle.std.proofs.Common.{◌&&◌, ◌||◌, nat_lt, ◌∙◌, ap, arith, sym, if◌then◌else◌, IsTrue}
use Rattle.prettyless_model.specs.Tree as t
use Rattle.prettyless_model.specs.Tree.{Tree, size}
use Rattle.prettyless_model.specs.Choice.{column_holds, nesting_holds}
use Rattle.prettyless_model.specs.Column.{prospective}
use Rattle.prettyless_model.specs.Look.{Look, Answers, GoesOn, look, look_then}
use Rattle.prettyless_model.specs.declared.choice.ColumnTest.{ColumnTest}
use Rattle.prettyless_model.specs.declared.choice.NestingTest.{NestingTest}
use Rattle.prettyless_model.specs.declared.column.Column.{Column}
use Rattle.prettyless_model.specs.declared.mode.Mode.{Mode}
use Rattle.prettyless_model.specs.declared.mode.Mode.TheVariants.{Break}
use Rattle.prettyless_summary.specs.Summary.{HasSummaries, Summarizes, has_summary, look_by}
use Rattle.prettyless_summary.specs.declared.summary.Summary.{Summary}
use Rattle.prettyless_probe.specs.Stack.{Task, make_task}
use Rattle.prettyless_summary.specs.Known.{before_choice}
use Rattle.prettyless_summary.proofs.Has.{has_one}
use Rattle.prettyless_summary.proofs.Knowing.{Leads, leads}
use Rattle.prettyless_probe.specs.Reads.{answers_before, by_sums, is_answer, parts_read, probe_reads, read_after, reads, reads_all}
use Rattle.prettyless_probe.specs.Reads.{reads_below, reads_from, with_below}
use Rattle.prettyless_probe.specs.Glances.{IsLearned}
use Rattle.prettyless_probe.specs.declared.visit.ProbeStep.TheVariants.{Silent}

-- what is read after one look and then another
pub after-then : (x : Look) (f : Column → Bool → Look) (g : Column → Bool → ℕ) →
    read_after (look_then x f) g ≡ read_after x (λ c p. read_after (f c p) g)
after-then (Answers b) f g = refl
after-then (GoesOn c p) f g = refl

after-sum : (x : Look) (f g : Column → Bool → ℕ) → read_after x (λ c p. f c p + g c p) ≡ read_after x f + read_after x g
after-sum (Answers b) f g = refl
after-sum (GoesOn c p) f g = refl

pub below_too : (b : Bool) (n k : ℕ) → b ≡ false → with_below b n + k ≡ 1 + (n + k)
below_too b n k e = rw e (omega arith)

-- what comes after a look may be said another way
pub after-each : (x : Look) (f g : Column → Bool → ℕ) → ((c : Column) (p : Bool) → f c p ≡ g c p) → read_after x f ≡ read_after x g
after-each (Answers b) f g h = refl
after-each (GoesOn c p) f g h = h c p

-- one document after another is two tasks
pub reads-append : (sums : Bool) (w i : ℕ) (m : Mode) (l r : Tree) (ts : List Task) (next : Column → Bool → ℕ) (c : Column) (p : Bool)
    → (sums && has_summary (t.Append l r) m) ≡ false →
    reads_all sums w (make_task i m (t.Append l r) ∷ ts) next c p
    ≡ 1 + reads_all sums w (make_task i m l ∷ make_task i m r ∷ ts) next c p
reads-append sums w i m l r ts next c p e =
    let rest : Column → Bool → ℕ = λ d q. reads_all sums w ts next d q in
    let first : ℕ = reads sums w l i m c p in
    let second : ℕ = read_after (look w l i m c p) (λ d q. reads sums w r i m d q) in
    omega (
      arith,
      below_too (sums && has_summary (t.Append l r) m) (first + second)
          (read_after (look w (t.Append l r) i m c p) rest) e,
      after-then (look w l i m c p) (λ d q. look w r i m d q) rest,
      after-sum (look w l i m c p) (λ d q. reads sums w r i m d q) (λ d q. read_after (look w r i m d q) rest),
    )

reads-either : (test : Bool) (sums : Bool) (w i : ℕ) (m : Mode) (y n : Tree) (ts : List Task) (next : Column → Bool → ℕ) (c : Column)
    (p : Bool) →
    1 + (if test then reads sums w y i m c p else reads sums w n i m c p)
    + read_after (if test then look w y i m c p else look w n i m c p) (λ d q. reads_all sums w ts next d q)
    ≡ 1 + reads_all sums w (make_task i m (if test then y else n) ∷ ts) next c p
reads-either true sums w i m y n ts next c p = omega arith
reads-either false sums w i m y n ts next c p = omega arith

-- a choice is the task of the document that is taken
pub reads_column : (sums : Bool) (w i : ℕ) (m : Mode) (y n : Tree) (ts : List Task) (next : Column → Bool → ℕ) (c : Column) (p : Bool)
    (test : ColumnTest) →
    reads_all sums w (make_task i m (t.OnColumn test y n) ∷ ts) next c p
    ≡ 1 + reads_all sums w (make_task i m (if column_holds test (prospective c) i then y else n) ∷ ts) next c p
reads_column sums w i m y n ts next c p test = reads-either (column_holds test (prospective c) i) sums w i m y n ts next c p

pub reads_nesting : (sums : Bool) (w i : ℕ) (m : Mode) (y n : Tree) (ts : List Task) (next : Column → Bool → ℕ) (c : Column) (p : Bool)
    (test : NestingTest) →
    reads_all sums w (make_task i m (t.OnNesting test y n) ∷ ts) next c p
    ≡ 1 + reads_all sums w (make_task i m (if nesting_holds test i then y else n) ∷ ts) next c p
reads_nesting sums w i m y n ts next c p test = reads-either (nesting_holds test i) sums w i m y n ts next c p

-- ---- Counts that stay at their greatest value

-- one node is read, and so many are left
pub one_read : (k old x y : ℕ) → k ≡ min (old + 1) (2 ^ 64 - 1) → x ≡ 1 + y → min (k + y) (2 ^ 64 - 1) ≡ min (old + x) (2 ^ 64 - 1)
one_read k old x y h e = omega (arith, h, e)

-- one node is read, the last one
pub last_read : (k old x : ℕ) → k ≡ min (old + 1) (2 ^ 64 - 1) → x ≡ 1 → k ≡ min (old + x) (2 ^ 64 - 1)
last_read k old x h e = omega (arith, h, e)

-- nothing is left to read
pub all_read : (k old x : ℕ) → k ≤ 2 ^ 64 - 1 → min (k + 0) (2 ^ 64 - 1) ≡ min (old + x) (2 ^ 64 - 1) → k ≡ min (old + x) (2 ^ 64 - 1)
all_read k old x l h = omega (arith, l, h)

-- ---- Each document is a node

with_some : (b : Bool) (n : ℕ) → 0 < with_below b n
with_some true n = omega arith
with_some false n = omega arith

-- a document is one node at least
pub some_read : (sums : Bool) (w : ℕ) (d : Tree) (i : ℕ) (m : Mode) (c : Column) (p : Bool) → 0 < reads sums w d i m c p
some_read sums w (t.Append l r) i m c p = with_some (sums && has_summary (t.Append l r) m) _
some_read sums w (t.Indented how d) i m c p = with_some (sums && has_summary (t.Indented how d) m) _
some_read sums w (t.Flatten d) i m c p = with_some (sums && has_summary (t.Flatten d) m) _
some_read sums w (t.BreakOrFlat b f) i m c p = with_some (sums && has_summary (t.BreakOrFlat b f) m) _
some_read sums w (t.Group d) i m c p = with_some (sums && has_summary (t.Group d) m) _
some_read sums w (t.Union l r) i m c p = with_some (sums && has_summary (t.Union l r) m) _
some_read sums w (t.PartialUnion l r) i m c p = with_some (sums && has_summary (t.PartialUnion l r) m) _
some_read sums w (t.Chosen test y n) i m c p = omega arith
some_read sums w (t.LineSuffix d) i m c p = omega arith
some_read sums w t.Nil i m c p = omega arith
some_read sums w t.Fail i m c p = omega arith
some_read sums w (t.Text s) i m c p = omega arith
some_read sums w (t.TextWithLen k s) i m c p = omega arith
some_read sums w (t.MultilineText s) i m c p = omega arith
some_read sums w t.WeakSpace i m c p = omega arith
some_read sums w t.HardLine i m c p = omega arith
some_read sums w t.WeakLine i m c p = omega arith
some_read sums w t.ExpandParent i m c p = omega arith

pub ruleset looks_read = (reads-append, reads_column, reads_nesting, below_too)

-- ---- Where summaries are read

one_alone : (b : Bool) (n : ℕ) → b ≡ true → with_below b n ≡ 1
one_alone b n e = rw e refl

-- a document that has a summary is read as one node
pub read_known : (w : ℕ) (d : Tree) (i : ℕ) (m : Mode) (c : Column) (p : Bool) → has_summary d m ≡ true → reads true w d i m c p ≡ 1
read_known w (t.Append l r) i m c p h = one_alone (has_summary (t.Append l r) m) _ h
read_known w (t.Indented how d) i m c p h = one_alone (has_summary (t.Indented how d) m) _ h
read_known w (t.Flatten d) i m c p h = one_alone (has_summary (t.Flatten d) m) _ h
read_known w (t.BreakOrFlat b f) i m c p h = one_alone (has_summary (t.BreakOrFlat b f) m) _ h
read_known w (t.Group d) i m c p h = one_alone (has_summary (t.Group d) m) _ h
read_known w (t.Union l r) i m c p h = one_alone (has_summary (t.Union l r) m) _ h
read_known w (t.PartialUnion l r) i m c p h = one_alone (has_summary (t.PartialUnion l r) m) _ h
read_known w (t.Chosen test y n) i m c p h = absurd (cc)
read_known w (t.LineSuffix d) i m c p h = refl
read_known w t.Nil i m c p h = refl
read_known w t.Fail i m c p h = refl
read_known w (t.Text s) i m c p h = refl
read_known w (t.TextWithLen k s) i m c p h = refl
read_known w (t.MultilineText s) i m c p h = refl
read_known w t.WeakSpace i m c p h = refl
read_known w t.HardLine i m c p h = refl
read_known w t.WeakLine i m c p h = refl
read_known w t.ExpandParent i m c p h = refl

-- a document that has a summary, and then tasks
pub reads_by_one : (w i : ℕ) (m : Mode) (d : Tree) (ts : List Task) (next : Column → Bool → ℕ) (c : Column) (p : Bool)
    → has_summary d m ≡ true →
    reads_all true w (make_task i m d ∷ ts) next c p ≡ 1 + read_after (look w d i m c p) (reads_all true w ts next)
reads_by_one w i m d ts next c p h =
    ap (λ (n : ℕ). n + read_after (look w d i m c p) (reads_all true w ts next)) (read_known w d i m c p h)

-- summaries are read of a document that has one, and else where few nodes were visited
pub sums_own : (has own few : Bool) → (has && own) ≡ true → (has && (own || few)) ≡ true
sums_own true true few e = refl
sums_own true false few e = absurd (cc)
sums_own false own few e = absurd (cc)

pub sums_few : (has own few : Bool) → (has && few) ≡ true → (has && (own || few)) ≡ true
sums_few true true few e = refl
sums_few true false few e = e
sums_few false own few e = absurd (cc)

pub sums_none : (has own few : Bool) → (has && own) ≡ false → (has && few) ≡ false → (has && (own || few)) ≡ false
sums_none true true few e h = absurd (cc)
sums_none true false few e h = h
sums_none false own few e h = refl

-- what two say together is so of the first
pub only_first : (a b : Bool) → (a && b) ≡ true → a ≡ true
only_first true b e = refl
only_first false b e = absurd (cc)

unlike : (b : Bool) → b ≡ true → b ≡ false → ⊥
unlike true e h = cc
unlike false e h = cc

-- a document all of whose nodes have summaries has one
pub known_none : {A : Type 0} (d : Tree) (m : Mode) → HasSummaries d → has_summary d m ≡ false → A
known_none d m all none = absurd (unlike (has_summary d m) (has_one d m all) none)

-- what is false where another one is true is not so with it
not_both : (a b : Bool) → (IsTrue a → b ≡ false) → (a && b) ≡ false
not_both true b h = h refl
not_both false b h = refl

-- a document of which nothing is learned begins with no answer, and has no summary
pub no_answer : (has : Bool) (w i : ℕ) (m : Mode) (d : Tree) (c : Column) (p : Bool) → IsLearned has Silent w d i m c p
    → (IsTrue has → size d < 2 ^ 32) → (has && answers_before w d i m c p) ≡ false
no_answer has w i m d c p h few = not_both has (answers_before w d i m c p) (λ on. (h on (few on)).before)

pub no_summary : (has : Bool) (w i : ℕ) (m : Mode) (d : Tree) (c : Column) (p : Bool) → IsLearned has Silent w d i m c p
    → (IsTrue has → size d < 2 ^ 32) → (has && has_summary d m) ≡ false
no_summary has w i m d c p h few = not_both has (has_summary d m) (λ on. (h on (few on)).has)

-- nothing is read after an answer
read_if : (b : Bool) (x : Look) (next : Column → Bool → ℕ) → (b ≡ true → is_answer x ≡ true) →
    1 + read_after x next ≡ (if b then 1 else 1 + read_after x next)
read_if false x next h = refl
read_if true (Answers b) next h = refl
read_if true (GoesOn c p) next h = absurd (unlike false (h refl) refl)

-- what comes before a choice has an answer, where there is no choice, just where the document has
answers_alike : (b : Bool) (x y : Look) → b ≡ true → Leads b x y → is_answer x ≡ is_answer y
answers_alike true x y e h = ap is_answer h
answers_alike false x y e h = absurd (cc)

-- a probe of a document by its summary, and then of what follows it
pub reads_by_summary : (has : Bool) (old w i : ℕ) (m : Mode) (s : Summary) (d : Tree) (mine under ts : List Task) (c : Column) (p : Bool)
    → has ≡ true → has_summary d m ≡ true → Summarizes s d m → mine ≡ [] → under ≡ ts →
    1 + read_after (look_by w s c p) (reads_all true w mine (reads_below true w false under)) ≡ probe_reads has old w d i m ts c p
reads_by_summary true old w i m s d mine under ts c p on one known none same =
    let own : Bool = has_summary d m in
    let next : Column → Bool → ℕ = reads_below true w false ts in
    let alike = answers_alike own (look w (before_choice d m) i m c p) (look w d i m c p) one (leads w i m d c p) in
    ap (λ (z : List Task). 1 + read_after (look_by w s c p) (reads_all true w z (reads_below true w false under))) none
    ∙ ap (λ (z : List Task). 1 + read_after (look_by w s c p) (reads_below true w false z)) same
    ∙ ap (λ (x : Look). 1 + read_after x next) (known i w c p)
    ∙ read_if (answers_before w d i m c p) (look w d i m c p) next (λ e. sym alike ∙ e)
    ∙ ap (λ (n : ℕ). if answers_before w d i m c p then 1 else n) (sym (reads_by_one w i m d [] next c p one)
    ∙ ap (λ (b : Bool). reads_from b w d i m ts c p) (sym (sums_own true own (nat_lt old parts_read) one)))
reads_by_summary false old w i m s d mine under ts c p on one known none same = absurd (cc)

-- a probe of a document that reads summaries, or that does not
pub reads_by_nodes : (sums : Bool) (has : Bool) (old w i : ℕ) (m : Mode) (d : Tree) (mine under ts : List Task) (c : Column) (p : Bool)
    → (has && answers_before w d i m c p) ≡ false → by_sums has old d m ≡ sums → mine ≡ [] → under ≡ ts →
    reads_all sums w (make_task i m d ∷ mine) (reads_below sums w false under) c p ≡ probe_reads has old w d i m ts c p
reads_by_nodes sums has old w i m d mine under ts c p before chosen none same =
    ap (λ (z : List Task). reads_all sums w (make_task i m d ∷ z) (reads_below sums w false under) c p) none
    ∙ ap (λ (z : List Task). reads_from sums w d i m z c p) same
    ∙ ap (λ (b : Bool). reads_from b w d i m ts c p) (sym chosen)
    ∙ ap (λ (b : Bool). if b then 1 else reads_from (by_sums has old d m) w d i m ts c p) (sym before)

-- what follows, where the first of it has no summary
pub reads_unknown : (w : ℕ) (t : Task) (ts : List Task) (c : Column) (p : Bool) → has_summary t.tree Break ≡ false →
    reads_below true w false (t ∷ ts) c p ≡ reads_all true w (make_task t.indent Break t.tree ∷ []) (reads_below true w false ts) c p
reads_unknown w t ts c p h = rw h refl

-- ---- Results

pub if_ok : {T E : Type 0} (r : Result T E) (P Q : T → Type 0) → ((a : T) → P a → Q a) → IfOk r P → IfOk r Q
if_ok (Ok x) P Q via h = via x h
if_ok (Err e) P Q via h = h

pub on_ok_from : {T E A : Type 0} (r : Result T E) → A → OnOk r A
on_ok_from (Ok x) h = h
on_ok_from (Err e) h = tt
