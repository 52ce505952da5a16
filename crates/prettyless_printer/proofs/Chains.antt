-- Open trials, each inside the one before it: what each waits for, and what becomes of all of them.
use Rattle.std.proofs.Common.{◌≡◌, ℕ, List, [], ◌∷◌, ◌++◌, length, refl, ap, ◌∙◌, sym, subst, Ok, Err, true, Bool}
use Rattle.std.proofs.Common.{IsSome, ◌<◌, ◌+◌, arith, get_or, zero, suc, IsErr, Result}
use Rattle.std.proofs.lemmas.List.{length-map, map-append}
use Rattle.std.specs.Str.{IsUtf8}
use Rattle.prettyless_sink.specs.Sink.{known}
use Rattle.prettyless_sink.specs.declared.visits.Visits.{Visits}
use Rattle.prettyless_model.specs.Layout.{State}
use Rattle.prettyless_model.specs.declared.mode.Mode.TheVariants.{Break}
use Rattle.prettyless_model.specs.Tree.{Tree}
use Rattle.prettyless_probe.specs.Stack.{make_task}
use Rattle.prettyless_printer.specs.declared.trial.Mark.{Mark}
use Rattle.prettyless_printer.specs.declared.trial.OpenTrial.{OpenTrial}
use Rattle.prettyless_printer.specs.declared.answer.Choice.{Choice}
use Rattle.prettyless_printer.specs.declared.answer.TrialState.{TrialState}
use Rattle.prettyless_printer.specs.declared.answer.TrialState.TheVariants as trial_state
use Rattle.prettyless_printer.specs.declared.answer.TrialResult.{TrialResult}
use Rattle.prettyless_printer.specs.Points.{Standing, Seen, Point, point_at}
use Rattle.prettyless_printer.specs.Trials.{Trial, AtChoice, Marks, TrialTurns, TrialRejected, TrialComplete, TrialRunning, Restores}
use Rattle.prettyless_printer.specs.Trials.{TrialError, Tries, make_trial}
use Rattle.prettyless_printer.specs.Trials.{trial_run}
use Rattle.prettyless_printer.specs.Open.{BeginsTrial, Chain, Undone, TrialsEnd, Held, Link, Marked, Open, Opens, all_held, below_all}
use Rattle.prettyless_printer.specs.Open.{below_last, held}
use Rattle.prettyless_printer.proofs.PathSteps.{goes_on_kept, goes_on_other}
use Rattle.prettyless_printer.proofs.Standings.{Flagged, Pushed}
use Rattle.prettyless_printer.proofs.TrialSteps.{CutBack, began_plain, choice_error, rejected_error, trial_over, trial_run_begins}
use Rattle.prettyless_printer.proofs.TrialSteps.{trial_undone}
use Rattle.prettyless_printer.proofs.Visits.{rise_then, at_most_first, at_most_then}

-- ---- Trials in one another

-- a trial more is open
unfoldable pub chain_push : (o : Trial) (us : List Held) (t : Trial) (u : Held) (c : Trial) → Chain o us t → Link t u c
    → Chain o (us ++ u ∷ []) c
chain_push o [] t u c h link = (c, subst (λ (x : Trial). Link x u c) h link, refl)
chain_push o (v ∷ us) t u c h link = (h.0, h.1, chain_push h.0 us t u c h.2 link)

-- The innermost trial, and the one outside it.
pub record Popped (o : Trial) (us : List Held) (u : Held) (c : Trial) : Type 0 where
  pub trial : Trial
  pub chain : Chain o us trial
  pub link : Link trial u c

unfoldable pub chain_pop : (o : Trial) (us : List Held) (u : Held) (c : Trial) → Chain o (us ++ u ∷ []) c → Popped o us u c
chain_pop o [] u c h = record {
  trial = o;
  chain = refl;
  link = subst (λ (x : Trial). Link o u x) (sym h.2) h.1;
}
chain_pop o (v ∷ us) u c h =
    let y = chain_pop h.0 us u c h.2 in
    record { trial = y.trial; chain = (h.0, h.1, y.chain); link = y.link }

-- how many commands are below the last one, which was put there
pub below_push : (v : Held) (us : List Held) (u : Held) → below_last v (us ++ u ∷ []) ≡ u.mark.commands
below_push v [] u = refl
below_push v (w ∷ us) u = below_push w us u

-- The innermost trial began with as many commands, and with bytes that are known.
pub record Last (n : ℕ) (t : Trial) : Type 0 where
  pub height : n ≡ length t.start.printer.tasks
  pub is_known : IsSome t.start.sink.bytes

-- the outermost one
pub first_last : {m : Mark} {t : Trial} → Marked m t.start → Last m.commands t
first_last marked = record { height = marked.marks.commands; is_known = marked.is_known }

pub chain_last : (u : Held) (us : List Held) (o t : Trial) → Last u.mark.commands o → Chain o us t → Last (below_last u us) t
chain_last u [] o t last h = subst (λ (x : Trial). Last u.mark.commands x) (sym h) last
chain_last u (v ∷ us) o t last h =
    chain_last v us h.0 t (first_last h.1.holds.marked) h.2

-- what ended in an error inside did so outside
error_outside : (o c : Trial) (y : Tree) (b : Point) → AtChoice o c.indent c.branch y c.start → TrialError c b → TrialError o b
error_outside o c y b choice error = record {
  rise = rise_then choice.waiting.rise error.rise;
  at_most = λ began.
      let w = choice.waiting.at_most began in
      at_most_then w.3 (at_most_first (make_task c.indent Break c.branch) (make_task c.indent Break y)
      (error.at_most (began_plain c w.0 w.1)));
}

chain_error : (o : Trial) (us : List Held) (t : Trial) (b : Point) → Chain o us t → TrialError t b → TrialError o b
chain_error o [] t b h error = subst (λ (x : Trial). TrialError x b) h error
chain_error o (u ∷ us) t b h error = error_outside o h.0 u.second b h.1.choice (chain_error h.0 us t b h.2 error)

-- it ended in an error wherever as much was visited
pub error_at : {t : Trial} {b c : Point} → c.visits ≡ b.visits → TrialError t b → TrialError t c
error_at {t} {c} e h =
    subst (λ (v : Visits). TrialError t (point_at c.printer c.sink v)) (sym e) (record { rise = h.rise; at_most = h.at_most })

-- a trial that begins
pub on_begun : {a : Point} {m : Mark} {i : ℕ} {d : Tree} {q : Standing} → Marked m a → BeginsTrial i d a.printer q
    → TrialRunning (make_trial a i d) m.commands (point_at q a.sink a.visits)
on_begun {a} {i} {d} {q} marked begins = record {
  is_known = marked.is_known;
  path = trial_run_begins a q i d begins;
  within = ap (λ (z : State). z.within) begins.state;
  height = marked.marks.commands;
}

-- the outermost one begins
unfoldable pub open_begins : {a : Point} {m : Mark} {i : ℕ} {x : Tree} {q : Standing} (y : Tree) → Marked m a
    → BeginsTrial i x a.printer q →
    Open (make_trial a i x) y (record { mark = m; indent = i; second = y } ∷ []) (point_at q a.sink a.visits)
open_begins {a} {i} {x} y marked begins = record {
  holds = record { indent = refl; second = refl; marked = marked };
  trial = make_trial a i x;
  chain = refl;
  on = on_begun marked begins;
}

-- a trial of a first branch is opened, inside of others
unfoldable pub more_inner : {N : Type 0} (f : N → Tree) {s : Trial} {y : Tree} {a b : Point} {q : Standing} (u : Held)
    (us : List Held) (z : Choice N) (h : Open s y (u ∷ us) a) → AtChoice h.trial z.indent (f z.first) (f z.second) b →
    (m : Mark) → Marks m b.printer b.sink → BeginsTrial z.indent (f z.first) b.printer q → IsUtf8 (known b.sink.bytes) →
    Open s y (u ∷ us ++ record { mark = m; indent = z.indent; second = f z.second } ∷ []) (point_at q b.sink b.visits)
more_inner f {s} {b = b} {q = q} u us z h choice m marks begins text =
    let w : Held = record { mark = m; indent = z.indent; second = f z.second } in
    let marked : Marked m b = record { marks = marks; is_known = choice.is_known; text = text } in
    let t : Trial = make_trial b z.indent (f z.first) in
    record {
      holds = h.holds;
      trial = t;
      chain = chain_push s us h.trial w t h.chain
          (record { holds = record { indent = refl; second = refl; marked = marked }; choice = choice });
      on = subst (λ (n : ℕ). TrialRunning t n (point_at q b.sink b.visits)) (sym (below_push u us w)) (on_begun marked begins);
    }

-- ---- A turn of the innermost trial

-- Trials were open at a point, and the innermost one took a turn, or came to its end; the same are open then.
pub record Took {N E : Type 0} (f : N → Tree) (s : Trial) (y : Tree) (us : List Held) (a b : Point) (r : Result (TrialState N) E) : Type 0
  where
    pub trials : Open s y us a
    pub courses : TrialTurns f (below_all us) a b r

pub took : {N : Type 0} (E : Type 0) (f : N → Tree) {s : Trial} {y : Tree} {us vs : List Held} {a b : Point} {r : Result (TrialState N) E}
    → vs ≡ us → Open s y us a → TrialTurns f (below_all us) a b r → Took f s y vs a b r
took E f {s} {y} {a = a} {b = b} {r = r} same trials courses =
    subst (λ (z : List Held). Took f s y z a b r) (sym same) (record { trials = trials; courses = courses })

module _ {N E : Type 0} {f : N → Tree} {s : Trial} {y : Tree} {a b : Point} where
  -- the innermost one goes on
  pub open_goes : {us : List Held} → Took {E = E} f s y us a b (Ok trial_state.Running) → Open s y us b
  open_goes {us = []} h = absurd h.trials
  open_goes {us = u ∷ us} h =
      let k = h.trials in
      record { holds = k.holds; trial = k.trial; chain = k.chain; on = (h.courses k.trial k.on).0 }

  -- it stopped
  pub open_stops : {us : List Held} → Took {E = E} f s y us a b (Ok trial_state.Shift) → Open s y us b
  open_stops {us = []} h = absurd h.trials
  open_stops {us = u ∷ us} h =
      let k = h.trials in
      record { holds = k.holds; trial = k.trial; chain = k.chain; on = h.courses k.trial k.on }

  -- it ended in an error
  pub open_error : {us : List Held} {e : E} → Took f s y us a b (Err e) → TrialError s b
  open_error {us = []} h = absurd h.trials
  open_error {us = u ∷ us} h =
      let k = h.trials in
      chain_error s us k.trial b k.chain (h.courses k.trial k.on)

  -- it was undone, and its second branch was refused memory
  pub open_rejected_error : {us : List Held} → Took {E = E} f s y us a b (Ok trial_state.Rejected) → TrialError s b
  open_rejected_error {us = []} h = absurd h.trials
  open_rejected_error {us = u ∷ us} h =
      let k = h.trials in
      chain_error s us k.trial b k.chain (rejected_error (h.courses k.trial k.on))

  -- a trial more was refused memory
  pub open_choice_error : {us : List Held} {z : Choice N} → Took {E = E} f s y us a b (Ok (trial_state.Choice z)) → TrialError s b
  open_choice_error {us = []} h = absurd h.trials
  open_choice_error {us = u ∷ us} {z} h =
      let k = h.trials in
      chain_error s us k.trial b k.chain (choice_error z.indent (f z.first) (f z.second) (h.courses k.trial k.on).0)

  -- a trial of a first branch is opened
  pub open_more : {us vs : List Held} {z : Choice N} {q : Standing} → Took {E = E} f s y us a b (Ok (trial_state.Choice z))
      → Opens f z.indent (f z.second) b.printer b.sink us vs → BeginsTrial z.indent (f z.first) b.printer q → IsUtf8 (known b.sink.bytes)
      → Open s y vs (point_at q b.sink b.visits)
  open_more {us = []} h opens begins text = absurd h.trials
  open_more {us = u ∷ us} {z} {q} h opens begins text =
      subst (λ (ws : List Held). Open s y ws (point_at q b.sink b.visits)) (sym opens.more)
      (more_inner f u us z h.trials (h.courses h.trials.trial h.trials.on).0 opens.mark opens.marks begins text)

-- ---- A trial that is kept

-- it is over, with the flag as it was
pub kept_branch : {E : Type 0} {t : Trial} {m : Mark} {b : Point} {r : Standing} → Marked m t.start → TrialComplete t b
    → Flagged m.within b.printer r → Tries {E = E} t.indent t.branch t.start (point_at r b.sink b.visits) (Ok true)
kept_branch {b} {r} marked lasts kept = trial_over lasts (subst (λ (w : Bool). Flagged w b.printer r) marked.marks.within kept)

-- the outermost one is kept
kept_last : {N E : Type 0} {f : N → Tree} {s : Trial} {y : Tree} {a b : Point} {u : Held} {r : Standing}
    → Took {E = E} f s y (u ∷ []) a b (Ok trial_state.Complete) → Flagged u.mark.within b.printer r →
    Tries {E = E} s.indent s.branch s.start (point_at r b.sink b.visits) (Ok true)
kept_last {E} {b} {u} {r} h kept =
    let k = h.trials in
    let marked = subst (λ (x : Trial). Marked u.mark x.start) (sym k.chain) k.holds.marked in
    subst (λ (x : Trial). Tries {E = E} x.indent x.branch x.start (point_at r b.sink b.visits) (Ok true)) k.chain
    (kept_branch marked (h.courses k.trial k.on).0 kept)

-- an inner one is kept
unfoldable pub kept_inner : {N E : Type 0} {f : N → Tree} {s : Trial} {y : Tree} {a b : Point} {r : Standing} (v : Held) (vs : List Held)
    (u : Held)
    → Took {E = E} f s y (v ∷ vs ++ u ∷ []) a b (Ok trial_state.Complete) → Flagged u.mark.within b.printer r →
    Open s y (v ∷ vs) (point_at r b.sink b.visits)
kept_inner {E} {s} {b} {r} v vs u h kept =
    let k = h.trials in
    let t = k.trial in
    let lasts = (h.courses t k.on).0 in
    let p = chain_pop s vs u t k.chain in
    let marked = p.link.holds.marked in
    let outer = chain_last v vs s p.trial (first_last k.holds.marked) p.chain in
    let tries = kept_branch {E = E} marked lasts kept in
    let path = goes_on_kept {r = trial_run p.trial} {b = t.start} {c = point_at r b.sink b.visits} {s = t.start.sink} {t = b.sink}
    p.link.choice.waiting tries lasts.path.same_lender
    (λ is_known. ((lasts.path.bytes is_known).0, (λ piece same. same, tries.failures))) in
    record {
      holds = k.holds;
      trial = p.trial;
      chain = p.chain;
      on = record {
        is_known = outer.is_known;
        path = path;
        within = ap (λ (z : State). z.within) kept.state ∙ marked.marks.within ∙ p.link.choice.within;
        height = outer.height;
      };
    }

-- the same of all that were open
module _ {N E : Type 0} {f : N → Tree} {s : Trial} {y : Tree} {a b : Point} {us : List Held} {r : Standing} where
  pub open_kept : (vs : List Held) (u : Held) → us ≡ vs ++ u ∷ [] → 0 < length vs
      → Took {E = E} f s y us a b (Ok trial_state.Complete) → Flagged u.mark.within b.printer r → Open s y vs (point_at r b.sink b.visits)
  open_kept [] u popped some h = absurd (omega (arith, some))
  open_kept (v ∷ vs) u popped some h =
      kept_inner v vs u (subst (λ (z : List Held). Took {E = E} f s y z a b (Ok trial_state.Complete)) popped h)

  pub last_kept : (vs : List Held) (u : Held) → us ≡ vs ++ u ∷ [] → vs ≡ []
      → Took {E = E} f s y us a b (Ok trial_state.Complete) → Flagged u.mark.within b.printer r
      → Tries {E = E} s.indent s.branch s.start (point_at r b.sink b.visits) (Ok true)
  last_kept vs u popped none h = kept_last (subst (λ (z : List Held). Took {E = E} f s y z a b (Ok trial_state.Complete))
      (popped ∙ ap (λ (z : List Held). z ++ u ∷ []) none) h)

-- ---- A trial that is undone

-- the outermost one is undone, and its second branch comes next
back_last : {N E : Type 0} {f : N → Tree} {s : Trial} {y : Tree} {a b : Point} {u : Held} {q : Standing} {w : Seen} (r : Standing)
    → Took {E = E} f s y (u ∷ []) a b (Ok trial_state.Rejected) → Restores u.mark b.printer r → CutBack u.mark b.sink w
    → Pushed (make_task u.indent Break u.second) r q → Undone E s y (point_at q w b.visits)
back_last {E} {s} {b} {u} r h back cut pushed =
    let k = h.trials in
    let fell = subst (λ (x : Trial). TrialRejected x b) k.chain (h.courses k.trial k.on) in
    record {
      back = r;
      tries = trial_undone {E = E} r fell k.holds.marked.marks back cut;
      tasks = pushed.tasks ∙ ap (λ (i : ℕ). make_task i Break u.second ∷ r.tasks) k.holds.indent
          ∙ ap (λ (d : Tree). make_task s.indent Break d ∷ r.tasks) k.holds.second;
      state = pushed.state;
      options = pushed.options;
      grows = pushed.grows;
    }

-- an inner one is undone
unfoldable pub back_inner : {N E : Type 0} {f : N → Tree} {s : Trial} {y : Tree} {a b : Point} {q : Standing} {w : Seen} (v : Held)
    (vs : List Held)
    (u : Held) (r : Standing) → Took {E = E} f s y (v ∷ vs ++ u ∷ []) a b (Ok trial_state.Rejected) → Restores u.mark b.printer r
    → CutBack u.mark b.sink w → Pushed (make_task u.indent Break u.second) r q → Open s y (v ∷ vs) (point_at q w b.visits)
back_inner {E} {s} {b} {q} {w} v vs u r h back cut pushed =
    let k = h.trials in
    let t = k.trial in
    let fell = h.courses t k.on in
    let p = chain_pop s vs u t k.chain in
    let marked = p.link.holds.marked in
    let outer = chain_last v vs s p.trial (first_last k.holds.marked) p.chain in
    let tries = trial_undone {E = E} r fell marked.marks back cut in
    let path = goes_on_other {r = trial_run p.trial} {b = t.start} {c = point_at q w b.visits} {s = t.start.sink} {t = w}
    p.link.choice.waiting tries (subst (λ (i : ℕ). Pushed (make_task i Break u.second) r q) p.link.holds.indent pushed)
    (cut.lender ∙ fell.same_lender) (λ is_known. (cut.is_known, (λ same. same, tries.failures))) in
    record {
      holds = k.holds;
      trial = p.trial;
      chain = p.chain;
      on = record {
        is_known = outer.is_known;
        path = path;
        within = ap (λ (z : State). z.within) pushed.state ∙ back.4 ∙ marked.marks.within ∙ p.link.choice.within;
        height = outer.height;
      };
    }

-- the same of all that were open
module _ {N E : Type 0} {f : N → Tree} {s : Trial} {y : Tree} {a b : Point} {us : List Held} {q : Standing} {w : Seen} where
  pub open_other : (vs : List Held) (u : Held) (r : Standing) → us ≡ vs ++ u ∷ [] → 0 < length vs
      → Took {E = E} f s y us a b (Ok trial_state.Rejected) → Restores u.mark b.printer r → CutBack u.mark b.sink w
      → Pushed (make_task u.indent Break u.second) r q → Open s y vs (point_at q w b.visits)
  open_other [] u r popped some h = absurd (omega (arith, some))
  open_other (v ∷ vs) u r popped some h =
      back_inner v vs u r (subst (λ (z : List Held). Took {E = E} f s y z a b (Ok trial_state.Rejected)) popped h)

  pub last_other : (vs : List Held) (u : Held) (r : Standing) → us ≡ vs ++ u ∷ [] → vs ≡ []
      → Took {E = E} f s y us a b (Ok trial_state.Rejected) → Restores u.mark b.printer r → CutBack u.mark b.sink w
      → Pushed (make_task u.indent Break u.second) r q → Undone E s y (point_at q w b.visits)
  last_other vs u r popped none h = back_last r (subst (λ (z : List Held). Took {E = E} f s y z a b (Ok trial_state.Rejected))
      (popped ∙ ap (λ (z : List Held). z ++ u ∷ []) none) h)

-- The innermost of open trials, with what is held of it.
pub record Innermost (u : Held) (n : ℕ) (a : Point) : Type 0 where
  pub trial : Trial
  pub marked : Marked u.mark trial.start
  pub on : TrialRunning trial n a

innermost_split : (s : Trial) (y : Tree) {a : Point} (vs : List Held) (u : Held) → Open s y (vs ++ u ∷ []) a
    → Innermost u (below_all (vs ++ u ∷ [])) a
innermost_split s y [] u h =
    record { trial = h.trial; marked = subst (λ (x : Trial). Marked u.mark x.start) (sym h.chain) h.holds.marked; on = h.on }
innermost_split s y (v ∷ vs) u h = record { trial = h.trial; marked = (chain_pop s vs u h.trial h.chain).link.holds.marked; on = h.on }

-- A point at which the innermost trial, of which this is held, is rejected.
pub record InnermostRejected (u : Held) (b : Point) : Type 0 where
  pub trial : Trial
  pub marked : Marked u.mark trial.start
  pub fallen : TrialRejected trial b

pub open_rejected : {N E : Type 0} {f : N → Tree} {s : Trial} {y : Tree} {a b : Point} {us : List Held} (vs : List Held) (u : Held)
    → us ≡ vs ++ u ∷ [] → Took {E = E} f s y us a b (Ok trial_state.Rejected) → InnermostRejected u b
open_rejected {E} {f} {s} {y} {a} {b} vs u popped h =
    let k = subst (λ (z : List Held). Took {E = E} f s y z a b (Ok trial_state.Rejected)) popped h in
    let last = innermost_split s y vs u k.trials in
    record { trial = last.trial; marked = last.marked; fallen = k.courses last.trial last.on }

-- ---- Lists of open trials

-- one is open at least
pub open_some : (s : Trial) (y : Tree) (a : Point) (us : List Held) → Open s y us a → 0 < length us
open_some s y a [] h = absurd h
open_some s y a (u ∷ us) h = omega arith

-- the innermost of a list of open trials
pub below_index : {N : Type 0} (f : N → Tree) (us : List (OpenTrial N)) (k : ℕ) (u : OpenTrial N) → k + 1 ≡ length us
    → (get_or us k u).mark.commands ≡ below_all (all_held f us)
below_index f [] k u e = absurd (omega (arith, e))
below_index f (v ∷ []) zero u e = refl
below_index f (v ∷ []) (suc k) u e = absurd (omega (arith, e))
below_index f (v ∷ w ∷ us) zero u e = absurd (omega (arith, e))
below_index f (v ∷ w ∷ us) (suc k) u e = below_index f (w ∷ us) k u (omega (arith, e))

-- one more trial is held
pub all_held-push : {N : Type 0} (f : N → Tree) (us vs : List (OpenTrial N)) (u : OpenTrial N) → us ≡ vs ++ u ∷ []
    → all_held f us ≡ all_held f vs ++ held f u ∷ []
all_held-push f us vs u e = ap (all_held f) e ∙ map-append (held f) vs (u ∷ [])

-- so many are held as are open
pub length-all_held : {N : Type 0} (f : N → Tree) (us : List (OpenTrial N)) → length (all_held f us) ≡ length us
length-all_held f us = length-map us (held f)

-- a refusal of memory ends open trials wherever as much was visited
pub ends_error : (E : Type 0) (limit : ℕ) (s : Trial) (y : Tree) {b : Point} (us : List Held) (r : Result TrialResult E) → IsErr r
    → TrialError s b → TrialsEnd limit s y b us r
ends_error E limit s y us (Ok x) e h = cc
ends_error E limit s y us (Err x) e h = h
