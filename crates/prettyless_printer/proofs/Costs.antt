-- The measure of open trials: 2 to the power of the work of the present form, and of each form that the rejection of an open
-- trial leads to. It falls at each turn, where a trial is opened, and where one ends.
use Rattle.std.proofs.Common.{◌≡◌, ℕ, zero, suc, ◌+◌, ◌-◌, ◌*◌, ◌^◌, ◌≤◌, ◌<◌, List, [], ◌∷◌, ◌++◌, length, refl, ap, ◌∙◌, sym, arith}
use Rattle.std.proofs.Common.{subst, append_assoc, Ok, take, drop, length-append, IsSome}
use Rattle.std.proofs.lemmas.List.{drop_at, take_at}
use Rattle.std.proofs.Math.Pow.{pow-lt}
use Rattle.std.proofs.Math.Nat.{two-pow-succ, one-le-pow, pow-le-pow_right}
use Rattle.std.specs.Str.{IsUtf8}
use Rattle.prettyless_sink.specs.Sink.{known}
use Rattle.prettyless_model.specs.Layout.{State}
use Rattle.prettyless_model.specs.declared.mode.Mode.TheVariants.{Break}
use Rattle.prettyless_model.specs.Tree.{Tree, size}
use Rattle.prettyless_probe.specs.Stack.{Task, make_task, nodes}
use Rattle.prettyless_step.specs.Steps.{pending_work}
use Rattle.prettyless_probe.proofs.Sizes.{size_positive}
use Rattle.prettyless_printer.specs.declared.answer.Choice.{Choice}
use Rattle.prettyless_printer.specs.declared.answer.TrialState.TheVariants as trial_state
use Rattle.prettyless_printer.specs.Points.{Standing, state_at, QueueGrows, Point, work_at}
use Rattle.prettyless_printer.specs.Trials.{Trial, TrialRunning, Restores}
use Rattle.prettyless_printer.specs.Open.{BeginsTrial, Chain, Held, Link, Marked, Opens}
use Rattle.prettyless_printer.proofs.Trying.{grows-grows, restored, restored_queue}
use Rattle.prettyless_printer.proofs.Standings.{Flagged, Pushed}
use Rattle.prettyless_printer.proofs.Chains.{Took, chain_last, chain_pop, first_last}

-- ---- The measure

-- the last k tasks
abbrev lowest_tasks : ℕ → List Task → List Task
lowest_tasks k ts = drop (length ts - k) ts

-- the work that is left once a printer is back at a mark, with a second branch to come
abbrev pub second_work : Standing → Held → ℕ
second_work p u = 2 * size u.second
    + (2 * nodes (lowest_tasks u.mark.commands p.tasks) + pending_work (drop u.mark.queue.start (take u.mark.queue.len p.queue)))

-- what open trials may yet cost
abbrev pub cost : Standing → List Held → ℕ
cost p [] = 0
cost p (u ∷ us) = 2 ^ second_work p u + cost p us

-- the measure
abbrev pub left_at : Point → List Held → ℕ
left_at a us = 2 ^ work_at a + cost a.printer us

cost_push : (p : Standing) (us : List Held) (u : Held) → cost p (us ++ u ∷ []) ≡ cost p us + 2 ^ second_work p u
cost_push p [] u = omega arith
cost_push p (v ∷ us) u = omega (arith, cost_push p us u)

-- ---- What is above where a trial began

-- a printer has all that another one had: tasks are above its tasks, and the queue has grown
abbrev Above : Standing → Standing → Type 0
Above p q = (above : List Task) × (q.tasks ≡ above ++ p.tasks) × QueueGrows p q

above-above : (p q r : Standing) → Above p q → Above q r → Above p r
above-above p q r a b = (
  b.0 ++ a.0,
  b.1 ∙ ap (λ (x : List Task). b.0 ++ x) a.1 ∙ sym (append_assoc b.0 a.0 p.tasks),
  grows-grows p q r a.2 b.2,
)

-- a trial is above where it began
above_trial : {t : Trial} {below : ℕ} {b : Point} → TrialRunning t below b → Above t.start.printer b.printer
above_trial h =
    let k = (h.path.bytes h.is_known).1.0 in
    (k.above, k.stack_is, h.path.queue)

-- an inner trial began above where the outer one began
above_link : (o : Trial) (u : Held) (t : Trial) → IsSome o.start.sink.bytes → Link o u t → Above o.start.printer t.start.printer
above_link o u t is_known h =
    let w = h.choice.waiting in
    let k = (w.bytes is_known).1.0 in
    (k.above, k.stack_is, w.queue)

above_chain : (o : Trial) (us : List Held) (t : Trial) (p : Standing) → IsSome o.start.sink.bytes → Chain o us t
    → Above t.start.printer p → Above o.start.printer p
above_chain o [] t p is_known h a = subst (λ (x : Trial). Above x.start.printer p) h a
above_chain o (u ∷ us) t p is_known h a =
    above-above o.start.printer h.0.start.printer p (above_link o u h.0 is_known h.1)
    (above_chain h.0 us t p h.1.holds.marked.is_known h.2 a)

-- the work after a rejection is that of where the trial began
second_is : (u : Held) (a : Point) (p : Standing) → Marked u.mark a → Above a.printer p → second_work p u ≡ 2 * size u.second + work_at a
second_is u a p marked h =
    let m = u.mark in
    let k = marked.marks in
    let queue = a.printer.queue in
    let back : lowest_tasks m.commands p.tasks ≡ a.printer.tasks =
    ap (λ (z : List Task). drop (length z - m.commands) z) h.1 ∙ drop_at h.0 a.printer.tasks (length (h.0 ++ a.printer.tasks) - m.commands)
    (omega (arith, length-append h.0 a.printer.tasks, k.commands)) in
    let front : take m.queue.len p.queue ≡ queue = ap (take m.queue.len) h.2.1 ∙ take_at queue h.2.0 m.queue.len (sym k.queued) in
    let waits : drop m.queue.start (take m.queue.len p.queue) ≡ drop a.printer.start queue =
    ap (λ (n : ℕ). drop n (take m.queue.len p.queue)) k.start ∙ ap (drop a.printer.start) front in
    omega (arith, ap nodes back, ap pending_work waits)

-- what open trials may cost is the same as long as nothing of where they began is taken away
cost_one : (u : Held) (a : Point) (p q : Standing) → Marked u.mark a → Above a.printer p → Above a.printer q
    → 2 ^ second_work p u ≡ 2 ^ second_work q u
cost_one u a p q marked x y = ap (λ (z : ℕ). 2 ^ z) (second_is u a p marked x ∙ sym (second_is u a q marked y))

cost_chain : (o : Trial) (us : List Held) (t : Trial) (p q : Standing) → Chain o us t → Above t.start.printer p
    → Above t.start.printer q → cost p us ≡ cost q us
cost_chain o [] t p q h a b = refl
cost_chain o (u ∷ us) t p q h a b =
    let c = h.0 in
    let marked = h.1.holds.marked in
    omega (
      arith,
      cost_one u c.start p q marked (above_chain c us t p marked.is_known h.2 a) (above_chain c us t q marked.is_known h.2 b),
      cost_chain c us t p q h.2 a b,
    )

cost_same : (s : Trial) (u : Held) (us : List Held) (t : Trial) (p q : Standing) → Marked u.mark s.start → Chain s us t
    → Above t.start.printer p → Above t.start.printer q → cost p (u ∷ us) ≡ cost q (u ∷ us)
cost_same s u us t p q marked h a b =
    omega (
      arith,
      cost_one u s.start p q marked (above_chain s us t p marked.is_known h a) (above_chain s us t q marked.is_known h b),
      cost_chain s us t p q h a b,
    )

-- ---- Powers

-- a power is one at least
pow_one : (n : ℕ) → 0 < 2 ^ n
pow_one n = omega (arith, one-le-pow n 2 (omega arith))

pow_le : (a b : ℕ) → a ≤ b → 2 ^ a ≤ 2 ^ b
pow_le a b l = pow-le-pow_right {n = 2} (omega arith) {i = a} {j = b} l

-- two powers below a third one
pow_two : (a b c : ℕ) → a < c → b < c → 2 ^ a + 2 ^ b ≤ 2 ^ c
pow_two a b zero l h = absurd (omega arith)
pow_two a b (suc c) l h = omega (arith, two-pow-succ c, pow_le a c (omega arith), pow_le b c (omega arith))

-- ---- The measure falls

module _ {N E : Type 0} {f : N → Tree} {s : Trial} {y : Tree} {a b : Point} where
  -- the innermost trial goes on
  pub less_goes : {us : List Held} → Took {E = E} f s y us a b (Ok trial_state.Running) → left_at b us < left_at a us
  less_goes {us = []} h = absurd h.trials
  less_goes {us = u ∷ us} h =
      let k = h.trials in
      let z = h.courses k.trial k.on in
      omega (
        arith,
        pow-lt {i = work_at b} {j = work_at a} z.1,
        cost_same s u us k.trial a.printer b.printer k.holds.marked k.chain (above_trial k.on) (above_trial z.0),
      )

  -- a trial more is open
  pub less_more : {us vs : List Held} {z : Choice N} (c : Point) → Took {E = E} f s y us a b (Ok (trial_state.Choice z))
      → Opens f z.indent (f z.second) b.printer b.sink us vs → BeginsTrial z.indent (f z.first) b.printer c.printer
      → IsUtf8 (known b.sink.bytes) → left_at c vs < left_at a us
  less_more {us = []} c h opens begins text = absurd h.trials
  less_more {us = o ∷ us} {z} c h opens begins text =
      let q = c.printer in
      let u : Held = record { mark = opens.mark; indent = z.indent; second = f z.second } in
      let l = h.trials in
      let t = l.trial in
      let k = h.courses t l.on in
      let marked : Marked opens.mark b = record { marks = opens.marks; is_known = k.0.is_known; text = text } in
      let waits = (k.0.waiting.bytes l.on.is_known).1.0 in
      let over_b : Above b.printer q = (make_task z.indent Break (f z.first) ∷ [], begins.tasks, begins.grows) in
      let over_t : Above t.start.printer q =
      above-above t.start.printer b.printer q (waits.above, waits.stack_is, k.0.waiting.queue) over_b in
      let same = cost_same s o us t a.printer q l.holds.marked l.chain (above_trial l.on) over_t in
      let split = ap (cost q) opens.more ∙ cost_push q (o ∷ us) u in
      let second = second_is u b q marked over_b in
      let first : work_at c ≡ 2 * size (f z.first) + work_at b =
      omega (arith, ap nodes begins.tasks, ap (λ (i : State). pending_work i.pending) begins.state) in
      let two = pow_two (work_at c) (second_work q u) (work_at a - 1)
      (omega (arith, first, second, k.1, size_positive (f z.second), size_positive (f z.first)))
      (omega (arith, first, second, k.1, size_positive (f z.second), size_positive (f z.first))) in
      omega (arith, two, same, split, pow-lt {i = work_at a - 1} {j = work_at a} (omega (arith, k.1)))

  -- an inner trial is kept
  kept_split : (vs : List Held) (u : Held) (c : Point) → 0 < length vs → Took {E = E} f s y (vs ++ u ∷ []) a b (Ok trial_state.Complete)
      → Flagged u.mark.within b.printer c.printer → left_at c vs < left_at a (vs ++ u ∷ [])
  kept_split [] u c some h kept = absurd (omega (arith, some))
  kept_split (o ∷ vs) u c some h kept =
      let q = c.printer in
      let k = h.trials in
      let t = k.trial in
      let z = h.courses t k.on in
      let lasts = z.0 in
      let p = chain_pop s vs u t k.chain in
      let link = above_link p.trial u t (chain_last o vs s p.trial (first_last k.holds.marked) p.chain).is_known p.link in
      let now = (lasts.path.bytes lasts.is_known).1.0 in
      let over : Above t.start.printer q =
      (now.above, kept.tasks ∙ now.stack_is, grows-grows t.start.printer b.printer q lasts.path.queue kept.grows) in
      let same = cost_same s o vs p.trial a.printer q k.holds.marked p.chain
      (above-above p.trial.start.printer t.start.printer a.printer link (above_trial k.on))
      (above-above p.trial.start.printer t.start.printer q link over) in
      omega (
        arith,
        pow_le (work_at c) (work_at a) (omega (arith, z.1, ap nodes kept.tasks, ap (λ (i : State). pending_work i.pending) kept.state)),
        same,
        cost_push a.printer (o ∷ vs) u,
        pow_one (second_work a.printer u),
      )

  -- an inner trial is undone
  other_split : (vs : List Held) (u : Held) (r : Standing) (c : Point) → 0 < length vs
      → Took {E = E} f s y (vs ++ u ∷ []) a b (Ok trial_state.Rejected) → Restores u.mark b.printer r
      → Pushed (make_task u.indent Break u.second) r c.printer → left_at c vs < left_at a (vs ++ u ∷ [])
  other_split [] u r c some h back pushed = absurd (omega (arith, some))
  other_split (o ∷ vs) u r c some h back pushed =
      let q = c.printer in
      let k = h.trials in
      let t = k.trial in
      let fell = h.courses t k.on in
      let p = chain_pop s vs u t k.chain in
      let start = p.link.holds.marked in
      let link = above_link p.trial u t (chain_last o vs s p.trial (first_last k.holds.marked) p.chain).is_known p.link in
      let tasks_r : r.tasks ≡ t.start.printer.tasks = back.0 fell.above t.start.printer.tasks fell.stack (sym start.marks.commands) in
      let state_r : state_at r ≡ state_at t.start.printer =
      restored b.printer r start.marks fell.grows back in
      let queue_r = restored_queue b.printer r start.marks fell.grows back in
      let over_q : Above t.start.printer q = (
        make_task u.indent Break u.second ∷ [],
        pushed.tasks ∙ ap (λ (z : List Task). make_task u.indent Break u.second ∷ z) tasks_r,
        (pushed.grows.0, pushed.grows.1 ∙ ap (λ (z : List Tree). z ++ pushed.grows.0) queue_r),
      ) in
      let same = cost_same s o vs p.trial a.printer q k.holds.marked p.chain
      (above-above p.trial.start.printer t.start.printer a.printer link (above_trial k.on))
      (above-above p.trial.start.printer t.start.printer q link over_q) in
      let work : work_at c ≡ second_work a.printer u =
      omega (
        arith,
        ap nodes pushed.tasks,
        ap nodes tasks_r,
        ap (λ (i : State). pending_work i.pending) pushed.state,
        ap (λ (i : State). pending_work i.pending) state_r,
        second_is u t.start a.printer start (above_trial k.on),
      ) in
      omega (arith, ap (λ (z : ℕ). 2 ^ z) work, same, cost_push a.printer (o ∷ vs) u, pow_one (work_at a))

  -- the same of all that were open
  pub less_kept : {us : List Held} (vs : List Held) (u : Held) (c : Point) → us ≡ vs ++ u ∷ [] → 0 < length vs
      → Took {E = E} f s y us a b (Ok trial_state.Complete) → Flagged u.mark.within b.printer c.printer → left_at c vs < left_at a us
  less_kept vs u c popped some h kept =
      subst (λ (z : List Held). left_at c vs < left_at a z) (sym popped)
      (kept_split vs u c some (subst (λ (z : List Held). Took {E = E} f s y z a b (Ok trial_state.Complete)) popped h) kept)

  pub less_other : {us : List Held} (vs : List Held) (u : Held) (r : Standing) (c : Point) → us ≡ vs ++ u ∷ [] → 0 < length vs
      → Took {E = E} f s y us a b (Ok trial_state.Rejected) → Restores u.mark b.printer r
      → Pushed (make_task u.indent Break u.second) r c.printer → left_at c vs < left_at a us
  less_other vs u r c popped some h back pushed =
      subst (λ (z : List Held). left_at c vs < left_at a z) (sym popped)
      (other_split vs u r c some (subst (λ (z : List Held). Took {E = E} f s y z a b (Ok trial_state.Rejected)) popped h) back pushed)
