-- How many nodes a probe reads: those that it looks at, up to the end of the line. One whose summary is known is read as one.
use Rattle.std.specs.Prelude.{◌≡◌, ℕ, ◌+◌, ◌-◌, ◌^◌, ◌<◌, min, Bool, IsTrue, true, false, ◌&&◌, ◌||◌, nat_lt, List, [], ◌∷◌, Option, Some, None, if◌then◌else◌}
use Rattle.prettyless_model.specs.Tree as t
use Rattle.prettyless_model.specs.Tree.{Tree, size}
use Rattle.prettyless_model.specs.Choice.{choice_holds}
use Rattle.prettyless_model.specs.Column.{prospective}
use Rattle.prettyless_model.specs.Indent.{indent_by}
use Rattle.prettyless_model.specs.Look.{Look, Answers, GoesOn, by_mode, look}
use Rattle.prettyless_model.specs.declared.column.Column.{Column}
use Rattle.prettyless_model.specs.declared.mode.Mode.{Mode}
use Rattle.prettyless_model.specs.declared.mode.Mode.TheVariants.{Break, Flat}
use Rattle.prettyless_summary.specs.Summary.{has_summary}
use Rattle.prettyless_summary.specs.Known.{before_choice}
use Rattle.prettyless_probe.specs.Stack.{Task, make_task, nodes, task}
use Rattle.prettyless_probe.specs.declared.command.Command.{Command}
use Rattle.prettyless_probe.specs.declared.visit.ProbeStep.{ProbeStep}
use Rattle.prettyless_probe.specs.declared.visit.ProbeStep.TheVariants.{Answer, Next, Silent}

-- what is read after a look: nothing where it answers
abbrev pub read_after : Look → (Column → Bool → ℕ) → ℕ
read_after (Answers b) next = 0
read_after (GoesOn c p) next = next c p

-- a node, and so many below it; where its summary is read they are not
abbrev pub with_below : Bool → ℕ → ℕ
with_below true n = 1
with_below false n = 1 + n

-- How many nodes are read of a document at an indent in a mode, from a column on, as `look` looks at it. `sums` says whether summaries
-- are read; `p` whether a document is pending.
abbrev pub reads : Bool → ℕ → Tree → ℕ → Mode → Column → Bool → ℕ
reads sums width (t.Append l r) i m c p =
    with_below (sums && has_summary (t.Append l r) m)
    (reads sums width l i m c p + read_after (look width l i m c p) (λ e q. reads sums width r i m e q))
reads sums width (t.Indented how d) i m c p =
    with_below (sums && has_summary (t.Indented how d) m) (reads sums width d (indent_by how i c) m c p)
reads sums width (t.Flatten d) i m c p = with_below (sums && has_summary (t.Flatten d) m) (reads sums width d i Flat c p)
reads sums width (t.BreakOrFlat b f) i m c p =
    with_below (sums && has_summary (t.BreakOrFlat b f) m) (by_mode m (reads sums width b i m c p) (reads sums width f i m c p))
reads sums width (t.Group d) i m c p = with_below (sums && has_summary (t.Group d) m) (reads sums width d i m c p)
reads sums width (t.Union l r) i m c p =
    with_below (sums && has_summary (t.Union l r) m) (by_mode m (reads sums width r i m c p) (reads sums width l i m c p))
reads sums width (t.PartialUnion l r) i m c p =
    with_below (sums && has_summary (t.PartialUnion l r) m) (by_mode m (reads sums width r i m c p) (reads sums width l i m c p))
reads sums width (t.Chosen test y n) i m c p =
    1 + (if choice_holds test (prospective c) i then reads sums width y i m c p else reads sums width n i m c p)
-- a node with no document below it, or a line suffix, whose document is read at no time
reads sums width d i m c p = 1

-- of tasks, each at its own indent in its own mode, and then of what comes next
abbrev pub reads_all : Bool → ℕ → List Task → (Column → Bool → ℕ) → Column → Bool → ℕ
reads_all sums width [] next c p = next c p
reads_all sums width (t ∷ ts) next c p =
    reads sums width t.tree t.indent t.mode c p
    + read_after (look width t.tree t.indent t.mode c p) (λ e q. reads_all sums width ts next e q)

-- Of what follows a document, each task in Break. Tasks one after another that have summaries are read by one sum: `summed` says whether
-- the sum of those before is that of the next one too.
abbrev pub reads_below : Bool → ℕ → Bool → List Task → Column → Bool → ℕ
reads_below sums width summed [] c p = 0
reads_below sums width summed (t ∷ ts) c p =
    (if sums && has_summary t.tree Break && summed then 0 else reads sums width t.tree t.indent Break c p)
    + read_after (look width t.tree t.indent Break c p) (λ e q. reads_below sums width (sums && has_summary t.tree Break) ts e q)

-- so many nodes probes visit before one reads node by node where nodes have summaries
abbrev pub parts_read : ℕ
parts_read = 1000

-- Whether a probe of a document in a mode reads summaries, where nodes have them and probes visited so many nodes before it: the document
-- has one, or they visited few.
abbrev pub by_sums : Bool → ℕ → Tree → Mode → Bool
by_sums has old d m = has && (has_summary d m || nat_lt old parts_read)

-- of a document, with summaries read or not, and what follows it
abbrev pub reads_from : Bool → ℕ → Tree → ℕ → Mode → List Task → Column → Bool → ℕ
reads_from sums width d i m ts c p = reads_all sums width (make_task i m d ∷ []) (reads_below sums width false ts) c p

-- whether a look is an answer
abbrev pub is_answer : Look → Bool
is_answer (Answers b) = true
is_answer (GoesOn c p) = false

-- whether what comes before the first choice of a document answers a probe
abbrev pub answers_before : ℕ → Tree → ℕ → Mode → Column → Bool → Bool
answers_before width d i m c p = is_answer (look width (before_choice d m) i m c p)

-- How many nodes a probe of a document reads, of it and of what follows it, where probes visited so many nodes before. Where nodes have
-- summaries, what comes before the first choice of the document is read as one.
abbrev pub probe_reads : Bool → ℕ → ℕ → Tree → ℕ → Mode → List Task → Column → Bool → ℕ
probe_reads has old width d i m ts c p =
    if has && answers_before width d i m c p then 1 else reads_from (by_sums has old d m) width d i m ts c p

-- what a probe has still to read after the result at a node: of the node that is read next, if there is one, and of the tasks after it
abbrev pub reads_on : {N : Type 0} → (N → Tree) → Bool → ℕ → ProbeStep (Command N) → List Task → (Column → Bool → ℕ) → Column → Bool → ℕ
reads_on f sums width (Answer b) ts next c p = 0
reads_on f sums width (Next n) ts next c p = reads_all sums width (task f n ∷ ts) next c p
reads_on f sums width Silent ts next c p = reads_all sums width ts next c p

-- what is read from a node on, if there is one
abbrev pub reads_next : {N : Type 0} → Option N → (N → ℕ) → ℕ
reads_next None from = 0
reads_next (Some n) from = from n

-- a count that rose by k, or to the greatest value
abbrev pub RisesTo : ℕ → ℕ → ℕ → Type 0
RisesTo k old new = new ≡ min (old + k) (2 ^ 64 - 1)

-- what a probe reads by summaries, if nodes have them, is few enough for no number of a sum to pass 32 bits
abbrev pub IsFew : Bool → Tree → List Task → Type 0
IsFew has d ts = IsTrue has → size d + nodes ts < 2 ^ 32
