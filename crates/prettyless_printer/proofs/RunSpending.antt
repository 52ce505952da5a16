-- What a run has left while its nodes leave, outside of trials and in choices.
use Rattle.std.proofs.Common.{◌≡◌, ℕ, ◌<◌, List, [], ◌∷◌, length, ap, sym, arith, subst, Bool, Result, Ok, Err}
use Rattle.prettyless_sink.specs.declared.visits.Visits.{Visits}
use Rattle.prettyless_model.specs.declared.mode.Mode.TheVariants.{Break}
use Rattle.prettyless_model.specs.Tree.{Tree}
use Rattle.prettyless_probe.specs.Stack.{make_task}
use Rattle.prettyless_printer.specs.declared.run.Run.{Run}
use Rattle.prettyless_printer.specs.Points.{Standing, state_at, Seen, Point, standing}
use Rattle.prettyless_printer.specs.Visits.{Plain}
use Rattle.prettyless_printer.specs.Open.{BeginsTrial, Held, Opens, held_of, seconds}
use Rattle.prettyless_printer.specs.Paths.{Path, PathToChoice, run_of}
use Rattle.prettyless_printer.specs.Renders.{Continues, RunsCommands}
use Rattle.prettyless_printer.specs.Runs.{RunReachesChoice, Station}
use Rattle.prettyless_printer.specs.Spending.{IsPlainChoice, Left, Rule, Spends, SpendsAs, left, left_alone, left_choice, left_of, rule_of}
use Rattle.prettyless_printer.proofs.Spending.{spends_same, spends_then}
use Rattle.prettyless_printer.proofs.OpenSpending.{spends_more}

-- runs in a row, of which the second one may have ended in an error
pub spends_then_as : {A E : Type 0} {r : Rule} {a b : Left} (c : Left) (result : Result A E) → Spends r a b → SpendsAs r b c result
    → SpendsAs r a c result
spends_then_as c (Ok x) h k = spends_then h k
spends_then_as c (Err e) h k = spends_then h k

-- outside of trials no second branch waits
alone : {N : Type 0} (f : N → Tree) (q : Run N) → held_of f q ≡ [] → left_of f q ≡ left_alone f q
alone f q none = ap (λ (us : List Held). left (standing f q.printer) (seconds us) q.visits) none

pub seconds_none : {N : Type 0} {r : Rule} {a : Left} (f : N → Tree) (q : Run N) → held_of f q ≡ [] → Spends r a (left_of f q)
    → Spends r a (left_alone f q)
seconds_none {r} {a} f q none h = subst (λ (l : Left). Spends r a l) (alone f q none) h

pub none_seconds : {N : Type 0} {r : Rule} {a : Left} (f : N → Tree) (q : Run N) → held_of f q ≡ [] → Spends r a (left_alone f q)
    → Spends r a (left_of f q)
none_seconds {r} {a} f q none h = subst (λ (l : Left). Spends r a l) (sym (alone f q none)) h

pub from_none : {N : Type 0} {r : Rule} {b : Left} (f : N → Tree) (q : Run N) → held_of f q ≡ [] → Spends r (left_of f q) b
    → Spends r (left_alone f q) b
from_none {r} {b} f q none h = subst (λ (l : Left). Spends r l b) (alone f q none) h

-- a run of all commands has reached a point, and goes on there
pub path_spends : {has : Bool} {limit : ℕ} {a b : Point} {c : Left} → Path (run_of a) b → Plain a.printer →
    Spends (rule_of has limit) (left a.printer [] a.visits) (left b.printer [] b.visits) →
    (Plain b.printer → Spends (rule_of has limit) (left b.printer [] b.visits) c) →
    Spends (rule_of has limit) (left a.printer [] a.visits) c
path_spends path plain h k = spends_then h (k (path.at_most (plain.none, plain.pending)).0)

plain_waiting : {a b : Point} {i : ℕ} {x y : Tree} → PathToChoice (run_of a) i x y b → Plain a.printer → IsPlainChoice b.printer x y
plain_waiting waiting plain =
    let k = waiting.at_most (plain.none, plain.pending) in
    record { plain = k.0; first = k.1; second = k.2 }

-- a choice is made, or is open
pub waiting_spends : {has : Bool} {limit : ℕ} {a b : Point} {start c : Left} {i : ℕ} {x y : Tree} → PathToChoice (run_of a) i x y b
    → Plain a.printer →
    Spends (rule_of has limit) start (left_choice i x y b.printer b.visits) →
    (IsPlainChoice b.printer x y → Spends (rule_of has limit) (left_choice i x y b.printer b.visits) c) →
    Spends (rule_of has limit) start c
waiting_spends waiting plain h k =
    spends_then h (k (plain_waiting waiting plain))

-- the trial of a choice is opened, and no other one is open
pub opens_spends : {N : Type 0} {r : Rule} {f : N → Tree} {p q : Standing} {s : Seen} {us vs : List Held} {i : ℕ} {x y : Tree} {v : Visits}
    → us ≡ [] → Opens f i y p s us vs → BeginsTrial i x p q → q.queue ≡ p.queue → Spends r (left_choice i x y p v) (left q (seconds vs) v)
opens_spends {r} {p} {i} {x} {y} {v} none opens begins h =
    spends_more opens begins h
    (subst (λ (z : List Held). Spends r (left_choice i x y p v)
    (record (left p (seconds z) v) { tasks = make_task i Break x ∷ make_task i Break y ∷ p.tasks })) (sym none)
    (spends_same r (left_choice i x y p v)))

-- without line suffixes nothing is pending where the commands are laid
pub nothing_pending : {A E : Type 0} (fails : E → Type 0) {a b c : Point} (x : A) → Continues a b → Plain a.printer
    → RunsCommands {A = A} {E = E} fails b c (Ok x) → 0 < length (state_at c.printer).pending → ⊥
nothing_pending fails x h plain k some = omega (arith, some, ap length (k.at_most (h.at_most plain).0).0.pending)

-- a run has reached a choice without line suffixes
pub came_plain : {a : Point} {z : Station} (h : RunReachesChoice a z) → Plain a.printer
    → IsPlainChoice h.at.printer h.first h.second
came_plain h plain = plain_waiting h.waiting (h.continues.at_most plain).0
