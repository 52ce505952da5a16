-- What open trials have left while their nodes leave.
use Rattle.std.proofs.Common.{◌≡◌, ℕ, ◌+◌, ◌≤◌, List, [], ◌∷◌, ◌++◌, refl, ap, sym, ◌∙◌, arith, subst, take, Bool, Result, IsErr, Ok, Err}
use Rattle.std.proofs.lemmas.List.{map-append}
use Rattle.std.proofs.Math.Seq.{take-nil}
use Rattle.std.proofs.lemmas.List.Sums.{sum_by-append}
use Rattle.std.specs.List.{sum_by}
use Rattle.prettyless_sink.specs.declared.visits.Visits.{Visits}
use Rattle.prettyless_model.specs.declared.mode.Mode.TheVariants.{Break}
use Rattle.prettyless_model.specs.Tree.{Tree, size}
use Rattle.prettyless_model.specs.Content.{suffix_depth}
use Rattle.prettyless_summary.specs.Summary.{HasSummaries}
use Rattle.prettyless_probe.specs.Stack.{Task, make_task, nodes}
use Rattle.prettyless_probe.specs.Sums.{HaveSummaries, TreesHaveSummaries}
use Rattle.prettyless_probe.proofs.Stacks.{nodes-append}
use Rattle.prettyless_step.proofs.Summaries.{trees_have_push}
use Rattle.prettyless_printer.specs.Points.{Seen, Standing, Point}
use Rattle.prettyless_printer.specs.Visits.{Plain}
use Rattle.prettyless_printer.specs.Trials.{Trial, Restores}
use Rattle.prettyless_printer.specs.Open.{BeginsTrial, Chain, Held, Open, Opens, seconds}
use Rattle.prettyless_printer.specs.Spending.{AllHaveSummaries, IsPlainTrial, Left, Rule, Spends, SpendsAs, left, none_left, rule_of}
use Rattle.prettyless_printer.proofs.Chains.{InnermostRejected}
use Rattle.prettyless_printer.proofs.TrialSteps.{began_plain}
use Rattle.prettyless_printer.proofs.Spending.{on_tasks, spends_then}
use Rattle.prettyless_printer.proofs.Standings.{Pushed}

-- ---- Line suffixes

-- A trial without line suffixes.
record PlainTrial (t : Trial) : Type 0 where
  start : Plain t.start.printer
  branch : suffix_depth t.branch ≡ 0

chain_plain : (o : Trial) (us : List Held) (t : Trial) → Chain o us t → PlainTrial o → PlainTrial t
chain_plain o [] t h plain = subst PlainTrial (sym h) plain
chain_plain o (u ∷ us) t h plain =
    let w = h.1.choice.waiting.at_most (began_plain o plain.start plain.branch) in
    chain_plain h.0 us t h.2 (record { start = w.0; branch = w.1 })

-- the outermost trial being without line suffixes, the innermost one is too
pub open_plain : (s : Trial) (y : Tree) (b : Point) (us : List Held) → Open s y us b → IsPlainTrial s y → Plain b.printer
open_plain s y b [] h plain = absurd h
open_plain s y b (u ∷ us) h plain =
    let t = h.trial in
    let began = chain_plain s us t h.chain (record { start = plain.plain; branch = plain.first }) in
    (h.on.path.at_most (began_plain t began.start began.branch)).0

-- ---- A turn of the innermost trial

-- the same beside the second branches of open trials
pub spends_beside : {r : Rule} {ts us : List Task} {q q' : List Tree} {v w : Visits} (ds : List Tree)
    → Spends r (on_tasks ts q v) (on_tasks us q' w) →
    Spends r (record (on_tasks ts q v) { seconds = ds }) (record (on_tasks us q' w) { seconds = ds })
spends_beside {q'} ds h = record {
  nodes = omega (arith, h.nodes);
  printer = omega (arith, h.printer);
  queue = h.queue;
  capped = λ most l m. h.capped most l (omega (arith, m));
  have = λ g. ((h.have (g.0, tt)).0, g.1);
  few = λ t small g. h.few t (omega (arith, small)) (g.0, tt);
}

-- In an outermost trial without line suffixes, trials were open at a point, and trials are open at another one.
pub record OpenBetween (s : Trial) (y : Tree) (us vs : List Held) (a b : Point) : Type 0 where
  pub before : Open s y us a
  pub now : Open s y vs b
  pub plain : IsPlainTrial s y

-- the innermost of open trials takes a turn, or comes to its end
pub open_spends : {has : Bool} {limit : ℕ} {s : Trial} {y : Tree} {us vs ws : List Held} {a b : Point} {start : Left} {ts : List Task}
    {q : List Tree} {w : Visits} → ws ≡ vs → OpenBetween s y us vs a b →
    Spends (rule_of has limit) start (left b.printer (seconds vs) b.visits) →
    (Plain b.printer → Spends (rule_of has limit) (left b.printer [] b.visits) (on_tasks ts q w)) →
    Spends (rule_of has limit) start (record (on_tasks ts q w) { seconds = seconds ws })
open_spends {has} {limit} {s} {y} {us} {vs} {ws} {a} {b} {start} {ts} {q} {w} same between h k =
    subst (λ (z : List Held). Spends (rule_of has limit) start (record (on_tasks ts q w) { seconds = seconds z })) (sym same)
    (spends_then h (spends_beside (seconds vs) (k (open_plain s y b vs between.now between.plain))))

-- what ended in an error has nothing left
pub spends_error_as : {A E : Type 0} {r : Rule} {a : Left} (b : Left) (result : Result A E) → IsErr result → Spends r a (none_left b.visits)
    → SpendsAs r a b result
spends_error_as b (Ok x) e h = cc
spends_error_as b (Err x) e h = h

-- ---- Trials that begin and end

-- Less is left, and nothing was visited.
pub record LeavesOnly (a b : Left) : Type 0 where
  pub nodes : nodes b.tasks + sum_by size b.seconds ≤ nodes a.tasks + sum_by size a.seconds
  pub queue : a.queue ≡ [] → b.queue ≡ []
  pub have : AllHaveSummaries a → AllHaveSummaries b
  pub visits : b.visits ≡ a.visits

pub spends_leaving : (r : Rule) {a b : Left} → LeavesOnly a b → Spends r a b
spends_leaving r h = record {
  nodes = h.nodes;
  printer = omega (arith, h.nodes, ap (λ (v : Visits). v.printer) h.visits);
  queue = h.queue;
  capped = λ most l m. omega (arith, l, ap (λ (v : Visits). v.probes) h.visits);
  have = h.have;
  few = λ t small g. (
    0,
    omega (arith, ap (λ (v : Visits). v.probes) h.visits),
    omega (arith, ap (λ (v : Visits). v.printer) h.visits),
  );
}

trees_have_pop : (ds : List Tree) (d : Tree) → TreesHaveSummaries (ds ++ d ∷ []) → TreesHaveSummaries ds × HasSummaries d
trees_have_pop [] d h = (tt, h.0)
trees_have_pop (e ∷ ds) d h =
    let k = trees_have_pop ds d h.1 in
    ((h.0, k.0), k.1)

have_below : (ts us : List Task) → HaveSummaries (ts ++ us) → HaveSummaries us
have_below [] us h = h
have_below (t ∷ ts) us h = have_below ts us h.1

-- the second branches of trials, of which the last one is popped
seconds_push : (us vs : List Held) (u : Held) → us ≡ vs ++ u ∷ [] → seconds us ≡ seconds vs ++ u.second ∷ []
seconds_push us vs u e = ap seconds e ∙ map-append (λ (x : Held). x.second) vs (u ∷ [])

sizes_push : (ds : List Tree) (d : Tree) → sum_by size (ds ++ d ∷ []) ≡ sum_by size ds + size d
sizes_push ds d = omega (arith, sum_by-append size ds (d ∷ []))

kept_leaves : (p q : Standing) (ds : List Tree) (d : Tree) (v : Visits) → q.tasks ≡ p.tasks → q.queue ≡ p.queue
    → LeavesOnly (left p (ds ++ d ∷ []) v) (left q ds v)
kept_leaves p q ds d v e h = record {
  nodes = omega (arith, ap nodes e, sizes_push ds d);
  queue = λ none. h ∙ none;
  have = λ g. (subst HaveSummaries (sym e) g.0, (trees_have_pop ds d g.1).0);
  visits = refl;
}

-- the innermost trial is kept
pub spends_kept : {r : Rule} {a : Left} {us : List Held} {v : Visits} (p q : Standing) (vs : List Held) (u : Held) → us ≡ vs ++ u ∷ []
    → q.tasks ≡ p.tasks → q.queue ≡ p.queue → Spends r a (left p (seconds us) v) → Spends r a (left q (seconds vs) v)
spends_kept {r} {a} {us} {v} p q vs u popped e h k =
    spends_then (subst (λ (z : List Tree). Spends r a (left p z v)) (seconds_push us vs u popped) k)
    (spends_leaving r (kept_leaves p q (seconds vs) u.second v e h))

back_leaves : {ts : List Task} {i : ℕ} {d : Tree} (p q : Standing) (above : List Task) (ds : List Tree) (v : Visits) → p.tasks ≡ above ++ ts
    → q.tasks ≡ make_task i Break d ∷ ts → (p.queue ≡ [] → q.queue ≡ []) → LeavesOnly (left p (ds ++ d ∷ []) v) (left q ds v)
back_leaves {ts} {d} p q above ds v e h queue = record {
  nodes = omega (arith, ap nodes e, nodes-append above ts, ap nodes h, sizes_push ds d);
  queue = queue;
  have = λ g.
      let both = trees_have_pop ds d g.1 in
      (subst HaveSummaries (sym h) (both.1, have_below above ts (subst HaveSummaries e g.0)), both.0);
  visits = refl;
}

take_none : (n : ℕ) (xs : List Tree) → xs ≡ [] → take n xs ≡ []
take_none n xs e = ap (take n) e ∙ take-nil n

-- the innermost trial is undone, and its second branch comes next
pub spends_back : {r : Rule} {a : Left} {b : Point} {us : List Held} {q : Standing} {v : Visits} (p : Standing) (vs : List Held) (u : Held)
    → us ≡ vs ++ u ∷ [] → InnermostRejected u b → Restores u.mark b.printer p → Pushed (make_task u.indent Break u.second) p q
    → q.queue ≡ p.queue →
    Spends r a (left b.printer (seconds us) v) → Spends r a (left q (seconds vs) v)
spends_back {r} {a} {b} {us} {q} {v} p vs u popped fell back pushed h k =
    let t = fell.trial in
    let tasks : p.tasks ≡ t.start.printer.tasks =
    back.0 fell.fallen.above t.start.printer.tasks fell.fallen.stack (sym fell.marked.marks.commands) in
    spends_then (subst (λ (z : List Tree). Spends r a (left b.printer z v)) (seconds_push us vs u popped) k)
    (spends_leaving r
    (back_leaves b.printer q fell.fallen.above (seconds vs) v fell.fallen.stack
    (pushed.tasks ∙ ap (λ (z : List Task). make_task u.indent Break u.second ∷ z) tasks)
    (λ none. h ∙ back.1 ∙ take_none u.mark.queue.len b.printer.queue none)))

more_leaves : {p q : Standing} {i : ℕ} {x : Tree} (y : Tree) (ds : List Tree) (v : Visits) → BeginsTrial i x p q → q.queue ≡ p.queue →
    LeavesOnly (record (left p ds v) { tasks = make_task i Break x ∷ make_task i Break y ∷ p.tasks }) (left q (ds ++ y ∷ []) v)
more_leaves y ds v begins h = record {
  nodes = omega (arith, ap nodes begins.tasks, sizes_push ds y);
  queue = λ none. h ∙ none;
  have = λ g. (subst HaveSummaries (sym begins.tasks) (g.0.0, g.0.1.1), trees_have_push ds y g.1 g.0.1.0);
  visits = refl;
}

-- a trial more is open
pub spends_more : {N : Type 0} {r : Rule} {a : Left} {f : N → Tree} {p q : Standing} {s : Seen} {us vs : List Held} {i : ℕ} {x y : Tree}
    {v : Visits} → Opens f i y p s us vs → BeginsTrial i x p q → q.queue ≡ p.queue →
    Spends r a (record (left p (seconds us) v) { tasks = make_task i Break x ∷ make_task i Break y ∷ p.tasks })
    → Spends r a (left q (seconds vs) v)
spends_more {r} {a} {p} {q} {us} {vs} {i} {x} {y} {v} opens begins h k =
    subst (λ (z : List Tree). Spends r a (left q z v))
    (sym (seconds_push vs us (record { mark = opens.mark; indent = i; second = y }) opens.more))
    (spends_then k (spends_leaving r (more_leaves y (seconds us) v begins h)))
