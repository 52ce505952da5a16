-- Counts from below: what tasks are still to count, and lower bounds of the counts.
use Rattle.std.specs.Prelude.{ℕ, ◌+◌, ◌<◌, nat_le, List, [], ◌∷◌, length, if◌then◌else◌, Result, Ok, Err, Bool, true, false}
use Rattle.prettyless_model.specs.declared.options.RenderOptions.{RenderOptions}
use Rattle.prettyless_sink.specs.declared.visits.Visits.{Visits}
use Rattle.prettyless_model.specs.Tree.{Tree}
use Rattle.prettyless_model.specs.Layout.{State, lay, in_trial}
use Rattle.prettyless_model.specs.Levels.{settle}
use Rattle.prettyless_model.specs.Counts.{Weight, each_node, each_probe, counted_then, counted_accept, tally, laid_nodes, laid_probes}
use Rattle.prettyless_model.specs.declared.mode.Mode.TheVariants.{Break}
use Rattle.prettyless_probe.specs.Stack.{Task, follow}
use Rattle.prettyless_step.specs.Steps.{chosen}
use Rattle.prettyless_probe.specs.Probing.{RisesBy}
use Rattle.prettyless_printer.specs.Points.{Standing, state_at}
use Rattle.prettyless_printer.specs.declared.answer.TurnResult.{TurnResult}
use Rattle.prettyless_printer.specs.declared.answer.TurnResult.TheVariants.{Complete, Failed, Choice, Shift}

-- what tasks count, one after another, until only n of them are left
unfoldable pub tally_above : RenderOptions → ℕ → List Task → State → Weight → ℕ
tally_above o n [] st w = 0
tally_above o n (t ∷ ts) st w =
    if nat_le n (length ts)
    then tally o t.tree t.indent t.mode (follow ts) st w + counted_then (lay o (settle o) t.tree t.indent t.mode (follow ts) st)
    (λ u. tally_above o n ts u w)
    else 0

-- what a choice between two branches counts, and then the tasks after it
abbrev pub tally_choice : RenderOptions → ℕ → ℕ → Tree → Tree → List Task → State → Weight → ℕ
tally_choice o n i x y ts st w =
    counted_accept o (lay o (settle o) x i Break (follow ts) (in_trial st)) (tally o x i Break (follow ts) (in_trial st) w)
    (tally o y i Break (follow ts) st w)
    + counted_then (chosen o (settle o) i x y (follow ts) st) (λ u. tally_above o n ts u w)

-- nothing is left to count
abbrev pub nothing_left : Weight → ℕ
nothing_left w = 0

-- Lower bounds of the counts: with what is left to count they have no less than before, or are at the greatest value.
pub record CountsAtLeast (before left : Weight → ℕ) (v w : Visits) : Type 0 where
  pub printer : RisesBy (before each_node) v.printer (w.printer + left each_node)
  pub probes : RisesBy (before each_probe) v.probes (w.probes + left each_probe)

-- what the printer's stack is to count until only n tasks are left
abbrev pub stack_tally : Standing → ℕ → Weight → ℕ
stack_tally p n w = tally_above p.options n p.tasks (state_at p) w

-- what a choice is to count, and then the printer's stack
abbrev pub choice_tally : Standing → ℕ → ℕ → Tree → Tree → Weight → ℕ
choice_tally p n i x y w = tally_choice p.options n i x y p.tasks (state_at p) w

-- what a trial of a branch is to count
abbrev pub trial_tally : Standing → ℕ → Tree → Weight → ℕ
trial_tally p i d w = tally p.options d i Break (follow p.tasks) (in_trial (state_at p)) w

-- what a turn counts, seen from each place below the top of the stack
abbrev pub TurnCountsAtLeast : {N E : Type 0} → (N → Tree) → Standing → Standing → Visits → Visits → Result (TurnResult N) E → Type 0
TurnCountsAtLeast f p q v w (Ok Complete) = (n : ℕ) → n < length p.tasks → CountsAtLeast (stack_tally p n) (stack_tally q n) v w
TurnCountsAtLeast f p q v w (Ok Shift) = (n : ℕ) → n < length p.tasks → CountsAtLeast (stack_tally p n) (stack_tally q n) v w
TurnCountsAtLeast f p q v w (Ok Failed) = Unit {0}
TurnCountsAtLeast f p q v w (Ok (Choice c)) =
    (n : ℕ) → n < length p.tasks → CountsAtLeast (stack_tally p n) (choice_tally q n c.indent (f c.first) (f c.second)) v w
TurnCountsAtLeast f p q v w (Err e) = Unit {0}

-- a trial that is kept has counted its branch
abbrev pub TrialCountsAtLeast : Standing → ℕ → Tree → Visits → Visits → Bool → Type 0
TrialCountsAtLeast p i d v w true = CountsAtLeast (trial_tally p i d) nothing_left v w
TrialCountsAtLeast p i d v w false = Unit {0}

-- A render counts at least the nodes that the layout lays, and at least the probes that it needs, up to the greatest count.
pub record VisitedAtLeast (o : RenderOptions) (d : Tree) (v w : Visits) : Type 0 where
  pub printer : RisesBy (laid_nodes o d) v.printer w.printer
  pub probes : RisesBy (laid_probes o d) v.probes w.probes
