-- The course of open trials: how what is held of them waits, and what becomes of the innermost one.
use Rattle.std.proofs.Common.{◌≡◌, ℕ, ◌≤◌, ◌<◌, Bool, true, false, List, [], ◌∷◌, ◌++◌, length, refl, ap, sym, ◌∙◌, arith, subst, inl}
use Rattle.std.proofs.Common.{inr}
use Rattle.std.proofs.Common.{IsErr, Result, Ok, Err}
use Rattle.std.specs.Str.{IsUtf8}
use Rattle.prettyless_sink.specs.Sink.{known}
use Rattle.prettyless_sink.specs.declared.error.RenderError.{RenderError}
use Rattle.prettyless_sink.specs.declared.error.RenderError.TheVariants.{Document, Memory, Sink}
use Rattle.prettyless_model.specs.declared.options.RenderOptions.{RenderOptions}
use Rattle.prettyless_model.specs.declared.mode.Mode.TheVariants.{Break}
use Rattle.prettyless_model.specs.Tree.{Tree}
use Rattle.prettyless_probe.specs.Stack.{make_task}
use Rattle.prettyless_printer.specs.declared.answer.Choice.{Choice}
use Rattle.prettyless_printer.specs.declared.answer.TrialState.{TrialState}
use Rattle.prettyless_printer.specs.declared.answer.TrialState.TheVariants as trial_state
use Rattle.prettyless_printer.specs.declared.answer.TrialResult.{TrialResult}
use Rattle.prettyless_printer.specs.declared.run.Run.{Run}
use Rattle.prettyless_printer.specs.declared.trial.Mark.{Mark}
use Rattle.prettyless_printer.specs.Points.{Point, Seen, Standing, point_at, state_at, trial_point}
use Rattle.prettyless_printer.specs.Trials.{Restores, Trial, TrialComplete, TrialRejected, TrialRunning, TrialTurns}
use Rattle.prettyless_printer.specs.Trials.{make_trial}
use Rattle.prettyless_printer.specs.Open.{BeginsTrial, Chain, Held, Link, Marked, Open, Opens, below_all, held_of}
use Rattle.prettyless_printer.specs.Course.{Around, Comes, KeepBranch, RunPlace, TakeSecond, TryBranch, Waiting, end_fits, place}
use Rattle.prettyless_printer.specs.CourseOf.{ComesInTrials, ComesToChoice, FailsIn, TrialGoesOn, IsIn, RejectedIn, StopsInPart, StopsWhere}
use Rattle.prettyless_printer.specs.CourseOf.{TrialCourse, TrialCourses, TrialsCourse, TurnCourse, around, chain_waits, place_at}
use Rattle.prettyless_printer.specs.CourseOf.{waiting_of}
use Rattle.prettyless_printer.proofs.Chains.{back_inner, chain_pop, chain_push, kept_inner, more_inner}
use Rattle.prettyless_printer.proofs.Courses.{come_by, come_same, come_then, refused_here, stops_in_part_after}
use Rattle.prettyless_printer.proofs.Standings.{Flagged, Pushed}
use Rattle.prettyless_printer.proofs.TrialSteps.{CutBack}
use Rattle.prettyless_printer.proofs.Trying.{none_above, restored}

-- ---- The options

chain_options : (o : Trial) (us : List Held) (t : Trial) → Chain o us t → t.start.printer.options ≡ o.start.printer.options
chain_options o [] t h = ap (λ (x : Trial). x.start.printer.options) h
chain_options o (u ∷ us) t h = chain_options h.0 us t h.2 ∙ h.1.choice.waiting.options

-- they are the same in all open trials
pub open_options : (s : Trial) (y : Tree) (us : List Held) (b : Point) → Open s y us b → b.printer.options ≡ s.start.printer.options
open_options s y [] b h = absurd h
open_options s y (u ∷ us) b h = h.on.path.options ∙ chain_options s us h.trial h.chain

pub same_options : (s : Trial) (y : Tree) (us vs : List Held) (a b : Point) → Open s y us a → Open s y vs b
    → b.printer.options ≡ a.printer.options
same_options s y us vs a b h k = open_options s y vs b k ∙ sym (open_options s y us a h)

-- ---- How trials wait

-- one more
push_waits : (o : Trial) (us : List Held) (t : Trial) (u : Held) (c : Trial) (h : Chain o us t) (link : Link t u c) (ws : List Waiting)
    → chain_waits o (us ++ u ∷ []) c (chain_push o us t u c h link) ws ≡ waiting_of c u.second ∷ chain_waits o us t h ws
unfolding chain_push
push_waits o [] t u c h link ws = refl
push_waits o (v ∷ us) t u c h link ws = push_waits h.0 us t u c h.2 link (waiting_of h.0 v.second ∷ ws)

-- the innermost one, and those outside of it
pop_waits : (o : Trial) (us : List Held) (u : Held) (c : Trial) (h : Chain o (us ++ u ∷ []) c) (ws : List Waiting)
    → chain_waits o (us ++ u ∷ []) c h ws
    ≡ waiting_of c u.second ∷ chain_waits o us (chain_pop o us u c h).trial (chain_pop o us u c h).chain ws
unfolding chain_pop
pop_waits o [] u c h ws = ap (λ (x : Trial). waiting_of x u.second ∷ ws) (sym h.2)
pop_waits o (v ∷ us) u c h ws = pop_waits h.0 us u c h.2 (waiting_of h.0 v.second ∷ ws)

-- The innermost of those that wait is this trial.
pub record Innermost (t : Trial) (ws : List Waiting) : Type 0 where
  pub second : Tree
  pub outer : List Waiting
  pub is : ws ≡ waiting_of t second ∷ outer

chain_inner : (o : Trial) (us : List Held) (t : Trial) (y : Tree) (ws : List Waiting) (h : Chain o us t)
    → Innermost t (chain_waits o us t h (waiting_of o y ∷ ws))
chain_inner o [] t y ws h = record { second = y; outer = ws; is = ap (λ (x : Trial). waiting_of x y ∷ ws) (sym h) }
chain_inner o (u ∷ us) t y ws h = chain_inner h.0 us t u.second (waiting_of o y ∷ ws) h.2

-- a printer is in a trial that is running
is_in : {t : Trial} {n : ℕ} {b : Point} (y : Tree) → TrialRunning t n b → IsIn (waiting_of t y) n b.printer
is_in y on =
    let inside = (on.path.bytes on.is_known).1.0 in
    record { height = on.height; within = on.within; above = inside.above; stack = inside.stack_is }

-- ---- What happens to the innermost one

-- it is kept
kept_follows : {o : RenderOptions} {t : Trial} {y : Tree} {b : Point} {m : Mark} {r : Standing} {outer ws : List Waiting} {has : Bool}
    {k refused : ℕ} → b.printer.options ≡ o → ws ≡ waiting_of t y ∷ outer → Marked m t.start → TrialComplete t b
    → Flagged m.within b.printer r
    → Comes o (place_at b.printer k (around ws has refused)) (place_at r k (around outer has refused))
kept_follows {o} {t} {y} {b} {m} {r} {outer} {ws} {has} {k} {refused} same is marked lasts flagged =
    let inside = (lasts.path.bytes lasts.is_known).1.0 in
    let state : state_at r ≡ record (state_at b.printer) { within = t.start.printer.within } =
    flagged.state ∙ ap (λ (w : Bool). record (state_at b.printer) { within = w }) marked.marks.within in
    come_by KeepBranch (record {
      trial = waiting_of t y;
      outer = outer;
      trials = is;
      ended = none_above inside.above t.start.printer.tasks b.printer.tasks inside.stack_is lasts.ended;
      within = lasts.within;
      fits = subst (λ (z : RenderOptions). end_fits z (state_at b.printer) ≡ true) (sym lasts.path.options ∙ same) lasts.fits;
      goes = λ j. place (flagged.tasks j) (state j) k (around outer has refused);
    })

-- it is undone, and its second branch comes next
undone_follows : {o : RenderOptions} {a : RunPlace} {t : Trial} {y : Tree} {b : Point} {m : Mark} {i : ℕ} {r q : Standing} {outer : List
    Waiting}
    {has : Bool} {k refused : ℕ} → StopsWhere (RejectedIn o (waiting_of t y) (around (waiting_of t y ∷ outer) has refused)) o a k refused
    → Marked m t.start → i ≡ t.indent → TrialRejected t b → Restores m b.printer r → Pushed (make_task i Break y) r q
    → Comes o a (place_at q k (around outer has refused))
undone_follows {o} {a} {t} {y} {b} {m} {i} {r} {q} {outer} {has} {k} {refused} stops marked at fell back pushed =
    let marks = marked.marks in
    let tasks : q.tasks ≡ make_task t.indent Break y ∷ t.start.printer.tasks =
    pushed.tasks ∙ (λ j. make_task (at j) Break y ∷ back.0 fell.above t.start.printer.tasks fell.stack (sym marks.commands) j) in
    let state : state_at q ≡ state_at t.start.printer = pushed.state ∙ restored b.printer r marks fell.grows back in
    come_then stops.comes (come_by TakeSecond (record {
      trial = waiting_of t y;
      outer = outer;
      trials = ap (λ (u : Around). u.trials) stops.there.1;
      rejected = stops.there.0;
      goes = λ j. place (tasks j) (state j) (sym stops.read j)
          (record { trials = outer; has = (sym stops.there.1 j).has; refused = (sym stops.there.1 j).refused });
    }))

-- a trial more is open
pub tried_follows : {o : RenderOptions} {a : RunPlace} {i : ℕ} {x y : Tree} (b : Point) {q : Standing} {ws : List Waiting} {has : Bool}
    {k refused : ℕ} → ComesToChoice o a (around ws has refused) i x y b.printer k → BeginsTrial i x b.printer q
    → Comes o a (place_at q k (around (waiting_of (make_trial b i x) y ∷ ws) has refused))
tried_follows {o} {a} {i} {x} {y} b {q} {ws} {has} {k} {refused} h begins =
    come_then h.comes (come_by TryBranch (record {
      indent = i;
      first = x;
      second = y;
      below = b.printer.tasks;
      union = h.chooses;
      goes = λ j. place (begins.tasks j) (begins.state j) k (around (waiting_of (make_trial b i x) y ∷ ws) has refused);
    }))

-- ---- Where a turn of it comes to

-- it goes on
pub goes_in : {w : Waiting} {below : ℕ} {p : Standing} (ws : List Waiting) (has : Bool) (refused : ℕ) → IsIn w below p
    → below < length p.tasks → TrialGoesOn (around (w ∷ ws) has refused) p.tasks (state_at p)
goes_in ws has refused within more = (omega (arith, more, within.height), within.within)

-- it is at its end, and the padding does not fit
pub rejected_at_end : {w : Waiting} {below k : ℕ} {p : Standing} {ws : List Waiting} {has : Bool} {refused : ℕ} → IsIn w below p
    → length p.tasks ≤ below → end_fits p.options (state_at p) ≡ false
    → StopsWhere (RejectedIn p.options w (around (w ∷ ws) has refused)) p.options (place_at p k (around (w ∷ ws) has refused)) k refused
rejected_at_end {w} {k = k} {p = p} {ws = ws} {has = has} {refused = refused} within done unfit = record {
  at = place_at p k (around (w ∷ ws) has refused);
  comes = come_same p.options (place_at p k (around (w ∷ ws) has refused));
  there = (inr (inr (none_above within.above w.tasks p.tasks within.stack (omega (arith, done, within.height)), unfit)), refl);
  read = refl;
  refusals = refl;
}

-- it went past the width
pub rejected_past : {o : RenderOptions} {a : RunPlace} {w : Waiting} {ws : List Waiting} {has : Bool} {k refused : ℕ} (q : Standing)
    → Comes o a (place_at q k (around (w ∷ ws) has refused)) → q.within ≡ false
    → StopsWhere (RejectedIn o w (around (w ∷ ws) has refused)) o a k refused
rejected_past {w = w} {ws = ws} {has = has} {k = k} {refused = refused} q h past = record {
  at = place_at q k (around (w ∷ ws) has refused);
  comes = h;
  there = (inr (inl past), refl);
  read = refl;
  refusals = refl;
}

-- it failed
pub rejected_failed : {o : RenderOptions} {a : RunPlace} {w : Waiting} {ws : List Waiting} {has : Bool} {k refused : ℕ}
    → StopsWhere (FailsIn o (around (w ∷ ws) has refused)) o a k refused
    → StopsWhere (RejectedIn o w (around (w ∷ ws) has refused)) o a k refused
rejected_failed h =
    record { at = h.at; comes = h.comes; there = (inl h.there.0, h.there.1); read = h.read; refusals = h.refusals }

-- its sink failed, or memory was refused
pub stopped_in_part : {P : RunPlace → Type 0} {o : RenderOptions} {a : RunPlace} {k refused : ℕ} → StopsWhere P o a k refused
    → StopsInPart o a k refused
stopped_in_part h = record { at = h.at; comes = h.comes; part = inl (sym h.read); refusals = h.refusals }

pub error_in_part : {N E : Type 0} (f : N → Tree) {o : RenderOptions} {a : RunPlace} (u : Around) (q : Standing) {k : ℕ} (e : RenderError E)
    → TurnCourse {E = E} f o a u q k (Err e) → StopsInPart o a k u.refused
error_in_part f u q (Document e) h = absurd h
error_in_part f u q (Sink e) h = stopped_in_part h
error_in_part f u q (Memory e) h = h

-- ---- A turn of the innermost one

-- it is the innermost of those that wait
at_inner : {o : RenderOptions} {a : RunPlace} (t : Trial) (z : Tree) (outer : List Waiting) {ws : List Waiting} (b : Standing) (k : ℕ)
    (has : Bool) (refused : ℕ)
    → ws ≡ waiting_of t z ∷ outer → Comes o a (place_at b k (around ws has refused))
    → Comes o a (place_at b k (around (waiting_of t z ∷ outer) has refused))
at_inner {o} {a} t z outer b k has refused is h = subst (λ (v : List Waiting). Comes o a (place_at b k (around v has refused))) is h

-- its turn
turn_of : {N : Type 0} (E : Type 0) (f : N → Tree) {o : RenderOptions} (has : Bool) {a : Point} (b : Point)
    {n : ℕ} {t : Trial} (z : Tree) (outer : List Waiting)
    (refused : ℕ) (r : Result (TrialState N) E) → a.printer.options ≡ o → TrialCourses f n has a b r → TrialRunning t n a
    → TrialCourse f o (place_at a.printer a.visits.probes (around (waiting_of t z ∷ outer) has refused)) (waiting_of t z)
    (around (waiting_of t z ∷ outer) has refused) b.printer b.visits.probes r
turn_of E f has {a = a} b {t = t} z outer refused r same courses on =
    subst (λ (x : RenderOptions). TrialCourse f x (place_at a.printer a.visits.probes (around (waiting_of t z ∷ outer) has refused))
    (waiting_of t z) (around (waiting_of t z ∷ outer) has refused) b.printer b.visits.probes r) same
    (courses (waiting_of t z) outer refused (is_in z on))

module _ {N : Type 0} (E : Type 0) (f : N → Tree) {o : RenderOptions} {a0 : RunPlace} (has : Bool)
    {refused : ℕ} {s : Trial} {y : Tree} {a : Point} (b : Point)
  where
    -- it goes on
    pub course_goes : (us : List Held) → ComesInTrials o a0 has refused s y us a → a.printer.options ≡ o
        → TrialTurns {E = E} f (below_all us) a b (Ok trial_state.Running) → TrialCourses {E = E} f (below_all us)
        has a b (Ok trial_state.Running)
        → ComesInTrials o a0 has refused s y us b
    course_goes [] now same turns courses = absurd now.trials
    course_goes (u ∷ us) now same turns courses =
        let k = now.trials in
        let inner = chain_inner s us k.trial y [] k.chain in
        record {
          trials = record { holds = k.holds; trial = k.trial; chain = k.chain; on = (turns k.trial k.on).0 };
          comes = subst (λ (v : List Waiting). Comes o a0 (place_at b.printer b.visits.probes (around v has refused))) (sym inner.is)
              (come_then (at_inner k.trial inner.second inner.outer a.printer a.visits.probes has refused inner.is now.comes)
              (turn_of E f has b inner.second inner.outer refused (Ok trial_state.Running) same courses k.on));
        }

    -- it stopped
    pub course_stays : (us : List Held) → ComesInTrials o a0 has refused s y us a → a.printer.options ≡ o
        → TrialTurns {E = E} f (below_all us) a b (Ok trial_state.Shift) → TrialCourses {E = E} f (below_all us)
        has a b (Ok trial_state.Shift)
        → ComesInTrials o a0 has refused s y us b
    course_stays [] now same turns courses = absurd now.trials
    course_stays (u ∷ us) now same turns courses =
        let k = now.trials in
        let inner = chain_inner s us k.trial y [] k.chain in
        record {
          trials = record { holds = k.holds; trial = k.trial; chain = k.chain; on = turns k.trial k.on };
          comes = subst (λ (v : List Waiting). Comes o a0 (place_at b.printer b.visits.probes (around v has refused))) (sym inner.is)
              (come_then (at_inner k.trial inner.second inner.outer a.printer a.visits.probes has refused inner.is now.comes)
              (turn_of E f has b inner.second inner.outer refused (Ok trial_state.Shift) same courses k.on));
        }

    -- it was refused memory, in its turn or after it
    pub course_error : (e : E) (us : List Held) → ComesInTrials o a0 has refused s y us a → a.printer.options ≡ o
        → TrialCourses {E = E} f (below_all us) has a b (Err e) → StopsInPart o a0 b.visits.probes refused
    course_error e [] now same courses = absurd now.trials
    course_error e (u ∷ us) now same courses =
        let k = now.trials in
        let inner = chain_inner s us k.trial y [] k.chain in
        stops_in_part_after (at_inner k.trial inner.second inner.outer a.printer a.visits.probes has refused inner.is now.comes)
        (turn_of E f has b inner.second inner.outer refused (Err e) same courses k.on)

    pub course_error_rejected : (us : List Held) → ComesInTrials o a0 has refused s y us a → a.printer.options ≡ o
        → TrialCourses {E = E} f (below_all us) has a b (Ok trial_state.Rejected) → StopsInPart o a0 b.visits.probes refused
    course_error_rejected [] now same courses = absurd now.trials
    course_error_rejected (u ∷ us) now same courses =
        let k = now.trials in
        let inner = chain_inner s us k.trial y [] k.chain in
        let stops = turn_of E f has b inner.second inner.outer refused (Ok trial_state.Rejected) same courses k.on in
        stops_in_part_after (at_inner k.trial inner.second inner.outer a.printer a.visits.probes has refused inner.is now.comes)
        (record { at = stops.at; comes = stops.comes; part = inl (sym stops.read); refusals = stops.refusals })

    pub course_error_choice : (z : Choice N) (us : List Held) → ComesInTrials o a0 has refused s y us a → a.printer.options ≡ o
        → TrialCourses {E = E} f (below_all us) has a b (Ok (trial_state.Choice z)) → StopsInPart o a0 b.visits.probes refused
    course_error_choice z [] now same courses = absurd now.trials
    course_error_choice z (u ∷ us) now same courses =
        let k = now.trials in
        let inner = chain_inner s us k.trial y [] k.chain in
        let there = turn_of E f has b inner.second inner.outer refused (Ok (trial_state.Choice z)) same courses k.on in
        stops_in_part_after (at_inner k.trial inner.second inner.outer a.printer a.visits.probes has refused inner.is now.comes)
        (refused_here there.comes)

    -- a trial more is open
    pub course_more : (z : Choice N) {q : Standing} (us vs : List Held) → ComesInTrials o a0 has refused s y us a → a.printer.options ≡ o
        → TrialTurns {E = E} f (below_all us) a b (Ok (trial_state.Choice z))
        → TrialCourses {E = E} f (below_all us) has a b (Ok (trial_state.Choice z))
        → Opens f z.indent (f z.second) b.printer b.sink us vs → BeginsTrial z.indent (f z.first) b.printer q → IsUtf8 (known b.sink.bytes)
        → ComesInTrials o a0 has refused s y vs (point_at q b.sink b.visits)
    unfolding more_inner
    course_more z [] vs now same turns courses opens begins text = absurd now.trials
    course_more z {q} (u ∷ us) vs now same turns courses opens begins text =
        let k = now.trials in
        let inner = chain_inner s us k.trial y [] k.chain in
        let choice = (turns k.trial k.on).0 in
        let w : Held = record { mark = opens.mark; indent = z.indent; second = f z.second } in
        let t : Trial = make_trial b z.indent (f z.first) in
        let marked : Marked opens.mark b = record { marks = opens.marks; is_known = choice.is_known; text = text } in
        let link : Link k.trial w t = record { holds = record { indent = refl; second = refl; marked = marked }; choice = choice } in
        let there = come_then (at_inner k.trial inner.second inner.outer a.printer a.visits.probes has refused inner.is now.comes)
        (tried_follows b (turn_of E f has b inner.second inner.outer refused (Ok (trial_state.Choice z)) same courses k.on) begins) in
        let waits = push_waits s us k.trial w t k.chain link (waiting_of s y ∷ [])
        ∙ ap (λ (v : List Waiting). waiting_of t (f z.second) ∷ v) inner.is in
        subst (λ (ws : List Held). ComesInTrials o a0 has refused s y ws (point_at q b.sink b.visits)) (sym opens.more)
        (record {
          trials = more_inner f u us z k choice opens.mark opens.marks begins text;
          comes = subst (λ (v : List Waiting). Comes o a0 (place_at q b.visits.probes (around v has refused))) (sym waits) there;
        })

    -- an inner one is kept
    course_kept_inner : {r : Standing} (v : Held) (vs : List Held) (u : Held) → ComesInTrials o a0 has refused s y (v ∷ vs ++ u ∷ []) a
        → a.printer.options ≡ o → TrialTurns {E = E} f (below_all (v ∷ vs ++ u ∷ [])) a b (Ok trial_state.Complete)
        → TrialCourses {E = E} f (below_all (v ∷ vs ++ u ∷ [])) has a b (Ok trial_state.Complete)
        → Flagged u.mark.within b.printer r → ComesInTrials o a0 has refused s y (v ∷ vs) (point_at r b.sink b.visits)
    unfolding kept_inner
    course_kept_inner {r} v vs u now same turns courses flagged =
        let k = now.trials in
        let t = k.trial in
        let p = chain_pop s vs u t k.chain in
        let outer = chain_waits s vs p.trial p.chain (waiting_of s y ∷ []) in
        let is = pop_waits s vs u t k.chain (waiting_of s y ∷ []) in
        let lasts = (turns t k.on).0 in
        record {
          trials = kept_inner {E = E} {f = f} v vs u (record { trials = k; courses = turns }) flagged;
          comes = come_then (at_inner t u.second outer a.printer a.visits.probes has refused is now.comes)
              (come_then (turn_of E f has b u.second outer refused (Ok trial_state.Complete) same courses k.on)
              (kept_follows (lasts.path.options ∙ sym k.on.path.options ∙ same) refl p.link.holds.marked lasts flagged));
        }

    pub course_kept : {us : List Held} {r : Standing} (vs : List Held) (u : Held) → us ≡ vs ++ u ∷ [] → 0 < length vs
        → ComesInTrials o a0 has refused s y us a → a.printer.options ≡ o → TrialTurns {E = E} f (below_all us)
        a b (Ok trial_state.Complete)
        → TrialCourses {E = E} f (below_all us) has a b (Ok trial_state.Complete) → Flagged u.mark.within b.printer r
        → ComesInTrials o a0 has refused s y vs (point_at r b.sink b.visits)
    course_kept [] u popped some now same turns courses flagged = absurd (omega (arith, some))
    course_kept (v ∷ vs) u popped some now same turns courses flagged =
        course_kept_inner v vs u (subst (λ (z : List Held). ComesInTrials o a0 has refused s y z a) popped now) same
        (subst (λ (z : List Held). TrialTurns {E = E} f (below_all z) a b (Ok trial_state.Complete)) popped turns)
        (subst (λ (z : List Held). TrialCourses {E = E} f (below_all z) has a b (Ok trial_state.Complete)) popped courses) flagged

    -- the outermost one is kept
    course_kept_outer : {r : Standing} (u : Held) → ComesInTrials o a0 has refused s y (u ∷ []) a
        → a.printer.options ≡ o → TrialTurns {E = E} f (below_all (u ∷ [])) a b (Ok trial_state.Complete)
        → TrialCourses {E = E} f (below_all (u ∷ [])) has a b (Ok trial_state.Complete)
        → Flagged u.mark.within b.printer r → Comes o a0 (place_at r b.visits.probes (around [] has refused))
    course_kept_outer u now same turns courses flagged =
        let k = now.trials in
        let lasts = (turns k.trial k.on).0 in
        come_then (at_inner k.trial y [] a.printer a.visits.probes has refused (ap (λ (x : Trial). waiting_of x y ∷ []) (sym k.chain))
        now.comes)
        (come_then (turn_of E f has b y [] refused (Ok trial_state.Complete) same courses k.on)
        (kept_follows (lasts.path.options ∙ sym k.on.path.options ∙ same) refl
        (subst (λ (x : Trial). Marked u.mark x.start) (sym k.chain) k.holds.marked) lasts flagged))

    pub course_kept_last : {us : List Held} {r : Standing} (vs : List Held) (u : Held) → us ≡ vs ++ u ∷ [] → vs ≡ []
        → ComesInTrials o a0 has refused s y us a → a.printer.options ≡ o → TrialTurns {E = E} f (below_all us)
        a b (Ok trial_state.Complete)
        → TrialCourses {E = E} f (below_all us) has a b (Ok trial_state.Complete) → Flagged u.mark.within b.printer r
        → Comes o a0 (place_at r b.visits.probes (around [] has refused))
    course_kept_last vs u popped none now same turns courses flagged =
        let only = popped ∙ ap (λ (z : List Held). z ++ u ∷ []) none in
        course_kept_outer u (subst (λ (z : List Held). ComesInTrials o a0 has refused s y z a) only now) same
        (subst (λ (z : List Held). TrialTurns {E = E} f (below_all z) a b (Ok trial_state.Complete)) only turns)
        (subst (λ (z : List Held). TrialCourses {E = E} f (below_all z) has a b (Ok trial_state.Complete)) only courses) flagged

    -- an inner one is undone
    course_back_inner : {q : Standing} {w : Seen} (v : Held) (vs : List Held) (u : Held) (r : Standing)
        → ComesInTrials o a0 has refused s y (v ∷ vs ++ u ∷ []) a
        → a.printer.options ≡ o → TrialTurns {E = E} f (below_all (v ∷ vs ++ u ∷ [])) a b (Ok trial_state.Rejected)
        → TrialCourses {E = E} f (below_all (v ∷ vs ++ u ∷ [])) has a b (Ok trial_state.Rejected)
        → Restores u.mark b.printer r → CutBack u.mark b.sink w → Pushed (make_task u.indent Break u.second) r q
        → ComesInTrials o a0 has refused s y (v ∷ vs) (point_at q w b.visits)
    unfolding back_inner
    course_back_inner v vs u r now same turns courses back cut pushed =
        let k = now.trials in
        let t = k.trial in
        let p = chain_pop s vs u t k.chain in
        let outer = chain_waits s vs p.trial p.chain (waiting_of s y ∷ []) in
        let is = pop_waits s vs u t k.chain (waiting_of s y ∷ []) in
        record {
          trials = back_inner {E = E} {f = f} v vs u r (record { trials = k; courses = turns }) back cut pushed;
          comes = come_then (at_inner t u.second outer a.printer a.visits.probes has refused is now.comes)
              (undone_follows (turn_of E f has b u.second outer refused (Ok trial_state.Rejected) same courses k.on) p.link.holds.marked
              p.link.holds.indent (turns t k.on) back pushed);
        }

    pub course_other : {us : List Held} {q : Standing} {w : Seen} (vs : List Held) (u : Held) (r : Standing) → us ≡ vs ++ u ∷ []
        → 0 < length vs → ComesInTrials o a0 has refused s y us a → a.printer.options ≡ o
        → TrialTurns {E = E} f (below_all us) a b (Ok trial_state.Rejected)
        → TrialCourses {E = E} f (below_all us) has a b (Ok trial_state.Rejected)
        → Restores u.mark b.printer r → CutBack u.mark b.sink w → Pushed (make_task u.indent Break u.second) r q
        → ComesInTrials o a0 has refused s y vs (point_at q w b.visits)
    course_other [] u r popped some now same turns courses back cut pushed = absurd (omega (arith, some))
    course_other (v ∷ vs) u r popped some now same turns courses back cut pushed =
        course_back_inner v vs u r (subst (λ (z : List Held). ComesInTrials o a0 has refused s y z a) popped now) same
        (subst (λ (z : List Held). TrialTurns {E = E} f (below_all z) a b (Ok trial_state.Rejected)) popped turns)
        (subst (λ (z : List Held). TrialCourses {E = E} f (below_all z) has a b (Ok trial_state.Rejected)) popped courses) back cut pushed

    -- the outermost one is undone
    course_back_outer : {q : Standing} (u : Held) (r : Standing) → ComesInTrials o a0 has refused s y (u ∷ []) a
        → a.printer.options ≡ o → TrialTurns {E = E} f (below_all (u ∷ [])) a b (Ok trial_state.Rejected)
        → TrialCourses {E = E} f (below_all (u ∷ [])) has a b (Ok trial_state.Rejected)
        → Restores u.mark b.printer r → Pushed (make_task u.indent Break u.second) r q
        → Comes o a0 (place_at q b.visits.probes (around [] has refused))
    course_back_outer {q} u r now same turns courses back pushed =
        let k = now.trials in
        come_then (at_inner k.trial y [] a.printer a.visits.probes has refused (ap (λ (x : Trial). waiting_of x y ∷ []) (sym k.chain))
        now.comes)
        (undone_follows (turn_of E f has b y [] refused (Ok trial_state.Rejected) same courses k.on)
        (subst (λ (x : Trial). Marked u.mark x.start) (sym k.chain) k.holds.marked)
        (k.holds.indent ∙ ap (λ (x : Trial). x.indent) (sym k.chain)) (turns k.trial k.on) back
        (subst (λ (d : Tree). Pushed (make_task u.indent Break d) r q) k.holds.second pushed))

    pub course_other_last : {us : List Held} {q : Standing} (vs : List Held) (u : Held) (r : Standing) → us ≡ vs ++ u ∷ [] → vs ≡ []
        → ComesInTrials o a0 has refused s y us a → a.printer.options ≡ o
        → TrialTurns {E = E} f (below_all us) a b (Ok trial_state.Rejected)
        → TrialCourses {E = E} f (below_all us) has a b (Ok trial_state.Rejected)
        → Restores u.mark b.printer r → Pushed (make_task u.indent Break u.second) r q
        → Comes o a0 (place_at q b.visits.probes (around [] has refused))
    course_other_last vs u r popped none now same turns courses back pushed =
        let only = popped ∙ ap (λ (z : List Held). z ++ u ∷ []) none in
        course_back_outer u r (subst (λ (z : List Held). ComesInTrials o a0 has refused s y z a) only now) same
        (subst (λ (z : List Held). TrialTurns {E = E} f (below_all z) a b (Ok trial_state.Rejected)) only turns)
        (subst (λ (z : List Held). TrialCourses {E = E} f (below_all z) has a b (Ok trial_state.Rejected)) only courses) back pushed

-- ---- By other names

-- the same trials are held
pub in_held : {o : RenderOptions} {a : RunPlace} {has : Bool} {refused : ℕ} {s : Trial} {y : Tree} {us vs : List Held} {b : Point} → us ≡ vs
    → ComesInTrials o a has refused s y vs b → ComesInTrials o a has refused s y us b
in_held {o} {a} {has} {refused} {s} {y} {b = b} e h = subst (λ (z : List Held). ComesInTrials o a has refused s y z b) (sym e) h

pub in_run : {N : Type 0} (f : N → Tree) {o : RenderOptions} {a : RunPlace} {has : Bool} {refused : ℕ} {s : Trial} {y : Tree} (q r : Run N)
    → q ≡ r → ComesInTrials o a has refused s y (held_of f r) (trial_point f r)
    → ComesInTrials o a has refused s y (held_of f q) (trial_point f q)
in_run f {o} {a} {has} {refused} {s} {y} q r e h =
    subst (λ (z : Run _). ComesInTrials o a has refused s y (held_of f z) (trial_point f z)) (sym e) h

pub opens_in : {N : Type 0} {f : N → Tree} {i : ℕ} {y : Tree} {p : Standing} {s : Seen} {us vs ws : List Held} → us ≡ vs
    → Opens f i y p s us ws → Opens f i y p s vs ws
opens_in {f = f} {i} {y} {p} {s} {ws = ws} e h = subst (λ (z : List Held). Opens f i y p s z ws) e h

-- as much was read
pub part_at : {o : RenderOptions} {a : RunPlace} {k n refused : ℕ} → n ≡ k → StopsInPart o a k refused → StopsInPart o a n refused
part_at {o} {a} {refused = refused} e h = subst (λ (z : ℕ). StopsInPart o a z refused) (sym e) h

-- it ended in an error
pub trials_error : {E : Type 0} {o : RenderOptions} {a : RunPlace} (has : Bool) {refused : ℕ} (s : Trial) (y : Tree) (b : Point)
    (us : List Held)
    (r : Result TrialResult E) → IsErr r → StopsInPart o a b.visits.probes refused → TrialsCourse o a has refused s y b us r
trials_error has s y b us (Ok x) e h = absurd (cc)
trials_error has s y b us (Err x) e h = h
