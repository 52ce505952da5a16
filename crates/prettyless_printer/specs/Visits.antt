-- How many nodes a run visits. Where no line suffix is, each node of the commands is visited at most once by the
-- printer; a probe visits each node of the commands at most once, and each node that needs a probe starts one at most.
use Rattle.std.specs.Prelude.{◌≡◌, ℕ, ◌+◌, ◌-◌, ◌*◌, ◌^◌, ◌≤◌, min, List, [], ◌∷◌, Result, Ok, Err}
use Rattle.prettyless_sink.specs.declared.visits.Visits.{Visits}
use Rattle.prettyless_model.specs.Tree.{Tree, size, probed}
use Rattle.prettyless_model.specs.Content.{suffix_depth}
use Rattle.prettyless_model.specs.declared.mode.Mode.TheVariants.{Break}
use Rattle.prettyless_probe.specs.Stack.{Task, make_task, nodes}
use Rattle.prettyless_printer.specs.Points.{Standing, state_at}
use Rattle.prettyless_printer.specs.declared.answer.TurnResult.{TurnResult}
use Rattle.prettyless_printer.specs.declared.answer.TurnResult.TheVariants.{Complete, Failed, Choice, Shift}

-- how deep line suffixes are in tasks, added up: 0 where there are none
abbrev pub suffix_depths : List Task → ℕ
suffix_depths [] = 0
suffix_depths (t ∷ ts) = suffix_depth t.tree + suffix_depths ts

-- no line suffix is on the stack, and no document is pending
pub record Plain (p : Standing) : Type 0 where
  pub none : suffix_depths p.tasks ≡ 0
  pub pending : (state_at p).pending ≡ []

-- what the probes of tasks may visit, each at most n nodes
abbrev pub charges : ℕ → List Task → ℕ
charges n [] = 0
charges n (t ∷ ts) = n * probed t.tree + charges n ts

-- the visits with n more nodes of the printer, in a count that stays at its greatest value
abbrev pub visited_more : ℕ → Visits → Visits
visited_more n v = record v { printer = min (v.printer + n) (2 ^ 64 - 1) }

-- no count fell
pub record Rise (v w : Visits) : Type 0 where
  pub printer : v.printer ≤ w.printer
  pub probes : v.probes ≤ w.probes

-- the nodes that leave, as the tasks ts become us, pay for the visits from v to w
pub record CountsAtMost (ts us : List Task) (v w : Visits) : Type 0 where
  pub left : nodes us ≤ nodes ts
  pub printer : w.printer + nodes us ≤ v.printer + nodes ts
  pub probes : (n : ℕ) → nodes ts ≤ n → w.probes + charges n us ≤ v.probes + charges n ts

-- the visits of a turn
abbrev pub TurnCountsAtMost : {N E : Type 0} → (N → Tree) → Standing → Standing → Visits → Visits → Result (TurnResult N) E → Type 0
TurnCountsAtMost f p q v w (Ok Complete) = Plain q × CountsAtMost p.tasks q.tasks v w
TurnCountsAtMost f p q v w (Ok Shift) = Plain q × CountsAtMost p.tasks q.tasks v w
TurnCountsAtMost f p q v w (Ok Failed) = CountsAtMost p.tasks q.tasks v w
TurnCountsAtMost f p q v w (Ok (Choice c)) =
    Plain q × (suffix_depth (f c.first) ≡ 0) × (suffix_depth (f c.second) ≡ 0)
    × CountsAtMost p.tasks (make_task c.indent Break (f c.first) ∷ make_task c.indent Break (f c.second) ∷ q.tasks) v w
TurnCountsAtMost f p q v w (Err e) = CountsAtMost p.tasks [] v w

-- the visits of a run from tasks to what the printer has left
abbrev pub RunCountsAtMost : {A E : Type 0} → List Task → Standing → Visits → Visits → Result A E → Type 0
RunCountsAtMost ts q v w (Ok r) = Plain q × CountsAtMost ts q.tasks v w
RunCountsAtMost ts q v w (Err e) = CountsAtMost ts [] v w

-- the visits of a render: with no line suffix, at most the nodes, and for probes as many for each node that needs one
pub record Visited (d : Tree) (v w : Visits) : Type 0 where
  pub printer : suffix_depth d ≡ 0 → w.printer ≤ v.printer + size d
  pub probes : suffix_depth d ≡ 0 → w.probes ≤ v.probes + size d * probed d
