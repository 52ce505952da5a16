-- The step of a turn's current task was taken, or its texts were laid: what the ensured clauses say of the turn.
use Rattle.std.proofs.Common.{◌≡◌, ℕ, Bool, [], Ok, ap, ◌∙◌, subst, sym}
use Rattle.prettyless_sink.specs.Sink.{rise}
use Rattle.prettyless_sink.specs.declared.visits.Visits.{Visits}
use Rattle.prettyless_model.specs.Tree.{Tree}
use Rattle.prettyless_model.specs.Counts.{each_probe}
use Rattle.prettyless_probe.specs.Probing.{RisesBy}
use Rattle.prettyless_probe.specs.Stack.{Task, stack_of}
use Rattle.prettyless_step.specs.Costs.{StepCosts}
use Rattle.prettyless_step.specs.Printing.{IsStepped, Shows, state_of, tasks_of}
use Rattle.prettyless_step.specs.declared.printer.Printer.{Printer}
use Rattle.prettyless_step.specs.declared.printer.StepResult.{StepResult}
use Rattle.prettyless_step.proofs.Shown.{step_at}
use Rattle.prettyless_printer.specs.Course.{Asks}
use Rattle.prettyless_printer.specs.Points.{Point, Seen, point, standing, state_at}
use Rattle.prettyless_printer.specs.Spending.{Spends, left, rule_of}
use Rattle.prettyless_printer.specs.Visits.{Plain, visited_more}
use Rattle.prettyless_printer.proofs.Courses.{asks_here}
use Rattle.prettyless_printer.proofs.Descends.{InHand, shown, visit}
use Rattle.prettyless_printer.proofs.Spending.{TakesTask, left_with, takes}
use Rattle.prettyless_printer.proofs.Standings.{step_from}

-- The step of the current task was taken, and answered this.
pub record TookStep {N : Type 0} (f : N → Tree) (has : Bool) (limit : ℕ) (a : Point) (t : Task) (p q : Printer N) (s : Seen) (k : ℕ)
    (v x : Visits) (n : ℕ) (r : StepResult N) : Type 0 where
  -- what the visit counts
  pub took : TakesTask f (rule_of has limit) a t p s (visited_more k v) (visited_more n x)
  -- each probe that it needs visited a node at least
  pub asked : RisesBy (each_probe t.tree t.mode) v.probes x.probes
  -- what its probe read
  pub asks : Asks has a.printer.options t (tasks_of f p) (state_at (standing f p)) v.probes x.probes
  -- what the code answered
  pub shows : Shows f t.mode r (step_from a.printer.options t (standing f p)) p q

pub took_step : {N E : Type 0} (f : N → Tree) {has : Bool} {limit n : ℕ} {a : Point} {t : Task} {s : Seen} {x : Visits}
    {r r' : StepResult N} (k : ℕ) (v : Visits) (p q : Printer N)
    → InHand a t (point f p s (visited_more k v)) → n ≡ rise k
    → StepCosts {E = E} (Ok r) has p.options t.tree t.indent t.mode (tasks_of f p) (state_of f p) limit v x → r ≡ r' → IsStepped r'
    → Shows f t.mode r (step_at p.options t (tasks_of f p) (state_of f p)) p q
    → (Plain a.printer → Spends (rule_of has limit) (left a.printer [] a.visits) (left_with t (standing f p) (visited_more k v)))
    → TookStep f has limit a t p q s k v x n r'
took_step f {n = n} {t = t} {x = x} {r} {r'} k v p q hand e costs is stepped shows spent =
    let answered : IsStepped r = subst IsStepped (sym is) stepped in
    record {
      took = takes f p hand (visit f k v p x n hand e costs.printer costs.rises costs.counted) (costs.within answered) costs.counted
          costs.few spent;
      asked = costs.asked answered;
      asks = asks_here f t p hand.options costs.rises costs.counted (λ needs few. costs.reads needs few answered);
      shows = shown f p q r r' hand is shows;
    }

-- Texts were laid after room was made for them: commands and queue are those of before.
pub record KeepsRest {N : Type 0} (f : N → Tree) (p q : Printer N) : Type 0 where
  pub commands : q.commands ≡ p.commands
  pub tasks : tasks_of f q ≡ tasks_of f p
  pub queue : q.queue ≡ p.queue

pub keeps_rest : {N : Type 0} (f : N → Tree) (p q r : Printer N) → q ≡ record p { flat = q.flat } → r.commands ≡ q.commands
    → r.queue ≡ q.queue → KeepsRest f p r
keeps_rest {N} f p q r room commands queue =
    let same : r.commands ≡ p.commands = commands ∙ ap (λ (z : Printer N). z.commands) room in
    record { commands = same; tasks = ap (stack_of f) same; queue = queue ∙ ap (λ (z : Printer N). z.queue) room }
