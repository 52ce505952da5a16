-- The course of a run outside of trials and in choices.
use Rattle.std.proofs.Common.{◌≡◌, ℕ, ◌<◌, Bool, true, List, [], ◌∷◌, ◌++◌, length, refl, ap, sym, ◌∙◌, arith, subst, inl, inr}
use Rattle.std.proofs.Common.{Result, Ok, Err}
use Rattle.std.specs.String.{string_bytes}
use Rattle.std.proofs.lemmas.Str.{IsUtf8-string_bytes}
use Rattle.prettyless_sink.specs.Sink.{rise}
use Rattle.prettyless_sink.specs.declared.error.RenderError.{RenderError}
use Rattle.prettyless_sink.specs.declared.error.RenderError.TheVariants.{Document, Memory, Sink}
use Rattle.prettyless_model.specs.declared.options.RenderOptions.{RenderOptions}
use Rattle.prettyless_model.specs.declared.mode.Mode.TheVariants.{Break}
use Rattle.prettyless_model.specs.Tree.{Tree}
use Rattle.prettyless_model.specs.Layout.{flushed, initial, some_pending}
use Rattle.prettyless_probe.specs.Stack.{make_task, tasks}
use Rattle.prettyless_printer.specs.declared.answer.RunResult.{RunResult}
use Rattle.prettyless_printer.specs.declared.answer.RunResult.TheVariants as run_result
use Rattle.prettyless_printer.specs.declared.run.Run.{Run}
use Rattle.prettyless_sink.specs.declared.render.Render.{Ghosts}
use Rattle.prettyless_sink.specs.declared.visits.RenderCost.{RenderCost}
use Rattle.prettyless_printer.specs.Points.{Point, Seen, Standing, buffer_seen, point_at, point_of, seen_by, standing, state_at}
use Rattle.prettyless_printer.specs.Points.{trial_point}
use Rattle.prettyless_printer.specs.Trials.{make_trial}
use Rattle.prettyless_printer.specs.Open.{BeginsTrial, Held, Open, Opens, held_of}
use Rattle.prettyless_printer.specs.Paths.{Chooses, run_of}
use Rattle.prettyless_printer.specs.Renders.{Begins}
use Rattle.prettyless_printer.specs.Runs.{InChoice, ReachesWith, RunReaches, RunReachesChoice, Station, station_at, station_of}
use Rattle.prettyless_printer.specs.Course.{Around, Comes, FlushEnd, GoOverTable, NextFails, RunPlace, RefuseTable, Waiting, place}
use Rattle.prettyless_printer.specs.CourseOf.{ChoiceCourse, ComesAlone, ComesInChoice, ComesInTrials, ComesToChoice, ComesToStation}
use Rattle.prettyless_printer.specs.CourseOf.{refused_after}
use Rattle.prettyless_printer.specs.CourseOf.{EndCourse, EndCourses, EndCourseOrStop, RefusedOnce, RenderCourse, ErrorCourse, FailsIn}
use Rattle.prettyless_printer.specs.CourseOf.{IsDone, NoneFails}
use Rattle.prettyless_printer.specs.CourseOf.{TrialGoesOn, StopsWhere, TurnCourse, WaitWith, WaitsInChoice, around, choice_waits, place_at}
use Rattle.prettyless_step.specs.Printing.{tasks_of}
use Rattle.prettyless_step.specs.declared.printer.Printer.{Printer}
use Rattle.prettyless_step.specs.declared.queue.Queue.{Queue}
use Rattle.prettyless_printer.specs.declared.answer.TurnResult.{TurnResult}
use Rattle.prettyless_printer.proofs.Forgetting.{PendingSame, pending_same}
use Rattle.prettyless_printer.proofs.Chains.{open_begins}
use Rattle.prettyless_printer.proofs.Courses.{come_by, come_then, refused_here, stops_after, stops_here, stops_in_part_after}
use Rattle.prettyless_printer.proofs.OpenCourses.{open_options, tried_follows}

-- under options that are the same
pub comes_at : {o o' : RenderOptions} {a b : RunPlace} → o' ≡ o → Comes o' a b → Comes o a b
comes_at {a = a} {b = b} same h = subst (λ (z : RenderOptions). Comes z a b) same h

-- ---- Errors, after what came before

pub error_after : {E : Type 0} {o : RenderOptions} {a b : RunPlace} (probes refused : ℕ) (e : RenderError E) → Comes o a b
    → ErrorCourse o b probes refused e → ErrorCourse o a probes refused e
error_after probes refused (Document e) h k = stops_after h k
error_after probes refused (Sink e) h k = stops_after h k
error_after probes refused (Memory e) h k = stops_in_part_after h k

-- a turn ended in an error
pub turn_error : {N E : Type 0} (f : N → Tree) (o : RenderOptions) (a : RunPlace) (u : Around) (q : Standing) (k : ℕ) (e : RenderError E)
    → TurnCourse {E = E} f o a u q k (Err e) → ErrorCourse o a k u.refused e
turn_error f o a u q k (Document e) h = absurd h
turn_error f o a u q k (Sink e) h = h
turn_error f o a u q k (Memory e) h = h

-- a node failed
pub fails_alone : {o : RenderOptions} {a : RunPlace} {u : Around} {k refused : ℕ} → StopsWhere (FailsIn o u) o a k refused
    → StopsWhere (NextFails o) o a k refused
fails_alone h = record { at = h.at; comes = h.comes; there = h.there.0; read = h.read; refusals = h.refusals }

-- ---- Choices

-- the trials of a choice are still open
pub in_choice : {o : RenderOptions} {b : RunPlace} {has : Bool} {refused i : ℕ} {x y : Tree} {a : Point} {w : Station} (z : Station)
    (h : InChoice i x y a w)
    → z.point.sink ≡ a.sink
    → ComesInTrials o b has refused (make_trial (point_at a.printer h.before a.visits) i x) y z.held
    (point_at z.point.printer z.buffer z.point.visits) → ComesInChoice o b has refused i x y a z
in_choice z h same k = record {
  choice = record { before = h.before; empty = h.empty; trials = k.trials; sink = same };
  comes = k.comes;
}

-- the trial of a choice is opened, and no other one is open
pub choice_begins : {N : Type 0} {f : N → Tree} {o : RenderOptions} {b : RunPlace} {has : Bool} {refused i : ℕ} {x y : Tree} (s : Seen)
    (r q : Run N) → held_of f r ≡ [] → string_bytes r.buffer.text ≡ [] → q ≡ record r { printer = q.printer; trials = q.trials }
    → Opens f i y (standing f r.printer) (buffer_seen r.buffer) (held_of f r) (held_of f q)
    → BeginsTrial i x (standing f r.printer) (standing f q.printer)
    → ComesToChoice o b (around [] has refused) i x y (standing f r.printer) r.visits.probes
    → ComesInChoice o b has refused i x y (point_of f r s) (station_of f q s)
unfolding open_begins
choice_begins {N} {f} {o} {b} {has} {refused} {i} {x} {y} s r q none empty others opens begun waits =
    let one : Held = record { mark = opens.mark; indent = i; second = y } in
    let buffer : Seen = buffer_seen r.buffer in
    let start : Point = trial_point f r in
    let alone : held_of f q ≡ one ∷ [] = opens.more ∙ ap (λ (u : List Held). u ++ one ∷ []) none in
    subst (λ (z : Run N). ComesInChoice o b has refused i x y (point_of f r s) (station_of f z s)) (sym others)
    (subst (λ (us : List Held). ComesInChoice o b has refused i x y (point_of f r s)
    (station_at (standing f q.printer) s r.visits us buffer)) (sym alone)
    (record {
      choice = record {
        before = buffer;
        empty = empty;
        trials = open_begins y (record { marks = opens.marks; is_known = refl; text = IsUtf8-string_bytes r.buffer.text }) begun;
        sink = refl;
      };
      comes = tried_follows start waits begun;
    }))

-- what came before a choice
pub choice_after : {E : Type 0} {o : RenderOptions} {b c : RunPlace} (has : Bool) (refused i : ℕ) (x y : Tree) (a : Point) (z : Station)
    (r : Result RunResult (RenderError E)) → Comes o b c → ChoiceCourse o c has refused i x y a z r
    → ChoiceCourse o b has refused i x y a z r
choice_after has refused i x y a z (Ok run_result.Finished) h k = come_then h k
choice_after has refused i x y a z (Ok run_result.Shift) h k = record { choice = k.choice; comes = come_then h k.comes }
choice_after has refused i x y a z (Err e) h k = error_after z.point.visits.probes refused e h k

-- ---- Stations

pub station_alone : {o : RenderOptions} {b : RunPlace} {has : Bool} {refused : ℕ} (z : Station) → z.held ≡ [] → ComesAlone o b has refused z
    → ComesToStation o b has refused z
station_alone z none h =
    record { waiting = []; are = subst (λ (us : List Held). WaitWith us z []) (sym none) refl; comes = h }

wait_in_choice : (us : List Held) {z : Station} {ws : List Waiting} → 0 < length us → WaitsInChoice z ws → WaitWith us z ws
wait_in_choice [] some h = absurd (omega (arith, some))
wait_in_choice (u ∷ us) some h = h

pub waits_in_choice : (us : List Held) (z : Station) (ws : List Waiting) → 0 < length us → WaitWith us z ws → WaitsInChoice z ws
waits_in_choice [] z ws some h = absurd (omega (arith, some))
waits_in_choice (u ∷ us) z ws some h = h

open_some : (s : _) (y : Tree) (us : List Held) (b : Point) → Open s y us b → 0 < length us
open_some s y [] b h = absurd h
open_some s y (u ∷ us) b h = omega arith

pub station_in_choice : {o : RenderOptions} {b : RunPlace} {has : Bool} {refused i : ℕ} {x y : Tree} {a : Point} (z : Station)
    → ComesInChoice o b has refused i x y a z → ComesToStation o b has refused z
station_in_choice {i = i} {x} {y} {a} z h = record {
  waiting = choice_waits i x y a z h.choice;
  are = wait_in_choice z.held (open_some _ y z.held (point_at z.point.printer z.buffer z.point.visits) h.choice.trials)
      (record { indent = i; first = x; second = y; start = a; choice = h.choice; are = refl });
  comes = h.comes;
}

-- ---- To the end

pub end_after : {E : Type 0} {o : RenderOptions} {b c : RunPlace} (has : Bool) (refused : ℕ) (z : Station)
    (r : Result RunResult (RenderError E))
    → Comes o b c → EndCourseOrStop o c has refused z r → EndCourseOrStop o b has refused z r
end_after has refused z (Ok run_result.Finished) h k = stops_after h k
end_after has refused z (Ok run_result.Shift) h k = record { waiting = k.waiting; are = k.are; comes = come_then h k.comes }
end_after has refused z (Err e) h k = error_after z.point.visits.probes refused e h k

-- nothing is left
pub done_here : {o : RenderOptions} {b : RunPlace} (p : Standing) (k : ℕ) (has : Bool) (refused : ℕ)
    → Comes o b (place_at p k (around [] has refused)) → p.tasks ≡ [] → (state_at p).pending ≡ []
    → StopsWhere IsDone o b k refused
done_here p k has refused h tasks pending = record {
  at = place_at p k (around [] has refused);
  comes = h;
  there = record { tasks = tasks; pending = pending; alone = refl };
  read = refl;
  refusals = refl;
}

-- what is pending comes next
pub flush_comes : {o : RenderOptions} (p q : Standing) (k : ℕ) (has : Bool) (refused : ℕ) → p.options ≡ o → p.tasks ≡ []
    → some_pending (state_at p).pending ≡ true → q.tasks ≡ tasks 0 Break (state_at p).pending → state_at q ≡ flushed p.options (state_at p)
    → Comes o (place_at p k (around [] has refused)) (place_at q k (around [] has refused))
flush_comes {o} p q k has refused same none some stack state = come_by FlushEnd (record {
  alone = refl;
  ended = none;
  some = some;
  goes = λ j. place (stack j) ((state ∙ ap (λ (z : RenderOptions). flushed z (state_at p)) same) j) k (around [] has refused);
})

-- it ended in an error, and no document has failed
pub flush_error : (A : Type 0) {E : Type 0} {o : RenderOptions} {a b : RunPlace} (e : RenderError E) → NoneFails {A = A} (Err e)
    → Comes o a b
    → ErrorCourse o a b.probes b.around.refused e
flush_error A (Document e) none h = absurd none
flush_error A (Sink e) none h = stops_here h
flush_error A (Memory e) none h = refused_here h

-- a run stops at a station, under options that are the same
pub station_after : {o o' : RenderOptions} {a b : RunPlace} {has : Bool} {refused : ℕ} (z : Station) → o' ≡ o → Comes o a b
    → ComesToStation o' b has refused z → ComesToStation o a has refused z
station_after z same h k = record { waiting = k.waiting; are = k.are; comes = come_then h (comes_at same k.comes) }

-- under options that are the same, after what came before
pub end_then : {E : Type 0} {o o' : RenderOptions} {b c : RunPlace} (has : Bool) (refused : ℕ) (z : Station)
    (r : Result RunResult (RenderError E)) → o' ≡ o → Comes o b c → EndCourseOrStop o' c has refused z r
    → EndCourseOrStop o b has refused z r
end_then {c = c} has refused z r same h k =
    end_after has refused z r h (subst (λ (o : RenderOptions). EndCourseOrStop o c has refused z r) same k)

-- ---- Choices that were open

-- outside of trials none waits
pub waits_alone : (us : List Held) (z : Station) (ws : List Waiting) → us ≡ [] → WaitWith us z ws → ws ≡ []
waits_alone us z ws none are = subst (λ (vs : List Held). WaitWith vs z ws) none are

-- the options are those of before
pub resumed_options : {A E : Type 0} {a b : Point} {x : A} (z : Station) (h : RunReachesChoice a z)
    → Chooses {A = A} {E = E} h.indent h.first h.second h.at b (Ok x) → b.printer.options ≡ z.point.printer.options
resumed_options z h chooses =
    let i = h.indent in
    let path = chooses.runs (run_of h.c) h.waiting in
    path.options ∙ sym h.waiting.options
    ∙ sym (open_options (make_trial (point_at h.at.printer h.choice.before h.at.visits) i h.first) h.second z.held
    (point_at z.point.printer z.buffer z.point.visits) h.choice.trials)

-- ---- Turns outside of trials

-- a turn of a run, under the options that it began with
pub took_turn : {N : Type 0} (E : Type 0) (f : N → Tree) {o : RenderOptions} (has : Bool) (refused : ℕ) (p q : Printer N) (k n : ℕ)
    (r : Result (TurnResult N) (RenderError E)) → p.options ≡ o → ((u : Around) → u.has ≡ has
    → TrialGoesOn u (tasks_of f p) (state_at (standing f p)) → TurnCourse f p.options (place_at (standing f p) k u) u (standing f q) n r)
    → TurnCourse f o (place_at (standing f p) k (around [] has refused)) (around [] has refused) (standing f q) n r
took_turn E f has refused p q k n r same course =
    let u = around [] has refused in
    subst (λ (z : RenderOptions). TurnCourse f z (place_at (standing f p) k u) u (standing f q) n r) same (course u refl (tt, tt))

-- a choice that comes next, by what came before and under options that are the same
pub waits_after : {o o' : RenderOptions} {a b : RunPlace} {u : Around} {i : ℕ} {x y : Tree} {q : Standing} {k : ℕ} → o' ≡ o → Comes o a b
    → ComesToChoice o b u i x y q k → ComesToChoice o' a u i x y q k
waits_after {a = a} {u = u} {i} {x} {y} {q} {k} same h waits =
    subst (λ (z : RenderOptions). ComesToChoice z a u i x y q k) (sym same)
    (record { task = waits.task; comes = come_then h waits.comes; chooses = waits.chooses })

pub in_choice_at : {o o' : RenderOptions} {b : RunPlace} {has : Bool} {refused i : ℕ} {x y : Tree} {a : Point} {z : Station} → o' ≡ o
    → ComesInChoice o' b has refused i x y a z → ComesInChoice o b has refused i x y a z
in_choice_at same h = record { choice = h.choice; comes = comes_at same h.comes }

pub error_at : {E : Type 0} {o o' : RenderOptions} (b : RunPlace) (probes refused : ℕ) (e : RenderError E) → o' ≡ o
    → ErrorCourse o' b probes refused e → ErrorCourse o b probes refused e
error_at b probes refused e same h = subst (λ (z : RenderOptions). ErrorCourse z b probes refused e) same h

-- line suffixes that were laid are forgotten
pub course_forgets : {N : Type 0} (f : N → Tree) {o : RenderOptions} {a : RunPlace} {k : ℕ} {u : Around} (p : Printer N) (q : Queue N)
    → PendingSame p.queue q → Comes o a (place_at (standing f p) k u) → Comes o a (place_at (standing f (record p { queue = q })) k u)
course_forgets f {o} {a} {k} {u} p q same h =
    subst (λ (z : RunPlace). Comes o a z)
    (λ j. place (tasks_of f p) (record { column = p.column; pending = sym (pending_same f p.queue q same) j; within = p.within }) k u) h

-- ---- Over a table

pub end_course_after : {A E : Type 0} {o : RenderOptions} {b c : RunPlace} (probes refused : ℕ) (r : Result A (RenderError E)) → Comes o b c
    → EndCourse o c probes refused r → EndCourse o b probes refused r
end_course_after probes refused (Ok x) h k = stops_after h k
end_course_after probes refused (Err e) h k = error_after probes refused e h k

-- what is left stands in a table, and the run goes on there
pub goes_over_table : {A E : Type 0} {w z : Station} (has : Bool) (probes : ℕ) (r : Result A (RenderError E)) → w ≡ z
    → EndCourses true w probes r → EndCourses has z probes r
goes_over_table {w = w} {z} has probes r same h = λ ws refused are.
    end_course_after probes refused r (come_by GoOverTable refl)
    ((subst (λ (x : Station). EndCourses true x probes r) same h) ws refused are)

-- the options are those with which a run began
reached_options : (us : List Held) (a : Point) (z : Station) → ReachesWith us a z → z.point.printer.options ≡ a.printer.options
reached_options [] a z h = h.options
reached_options (u ∷ us) a z h =
    open_options (make_trial (point_at h.at.printer h.choice.before h.at.visits) h.indent h.first) h.second z.held
    (point_at z.point.printer z.buffer z.point.visits) h.choice.trials ∙ h.waiting.options ∙ h.continues.options

pub reaches_options : (a : Point) (z : Station) → RunReaches a z → z.point.printer.options ≡ a.printer.options
reaches_options a z h = reached_options z.held a z h

-- a run that stands at a station goes to the end
pub station_ends : {A E : Type 0} {o : RenderOptions} {b : RunPlace} {has : Bool} {refused : ℕ} (probes : ℕ) (z : Station)
    (r : Result A (RenderError E))
    → z.point.printer.options ≡ o → ComesToStation o b has refused z → EndCourses has z probes r → EndCourse o b probes refused r
station_ends {o = o} {has = has} {refused} probes z r same h k =
    end_course_after probes refused r h.comes
    (subst (λ (x : RenderOptions). EndCourse x (place_at z.point.printer z.point.visits.probes (around h.waiting has refused))
    probes refused r)
    same (k h.waiting refused h.are))

-- one more is one more with those before
rise_after : (before old new : ℕ) → new ≡ rise old → refused_after before new ≡ rise (refused_after before old)
rise_after before old new e = omega (arith, e)

-- no table was made, and one was refused or not, whichever were before
pub station_refuses : {o : RenderOptions} {b : RunPlace} {has : Bool} {room old new : ℕ} {w z : Station} (before : ℕ) → w ≡ z
    → RefusedOnce room old new
    → ComesToStation o b has (refused_after before old) z → ComesToStation o b has (refused_after before new) w
station_refuses {o} {b} {has} {new = new} {z = z} before same (inl e) h =
    subst (λ (x : Station). ComesToStation o b has (refused_after before new) x) (sym same)
    (subst (λ (n : ℕ). ComesToStation o b has (refused_after before n) z) (sym e) h)
station_refuses {o} {b} {has} {old = old} {new} {z = z} before same (inr e) h =
    subst (λ (x : Station). ComesToStation o b has (refused_after before new) x) (sym same) (record {
      waiting = h.waiting;
      are = h.are;
      comes = come_then h.comes (come_by RefuseTable
          (λ j. place_at z.point.printer z.point.visits.probes (around h.waiting has (rise_after before old new e.1 j))));
    })

-- it goes on from there, and stops
pub station_stops : {o : RenderOptions} {b : RunPlace} {has : Bool} {refused : ℕ} (z w : Station) → z.point.printer.options ≡ o
    → (h : ComesToStation o b has refused z)
    → ComesToStation z.point.printer.options (place_at z.point.printer z.point.visits.probes (around h.waiting has refused)) has refused w
    → ComesToStation o b has refused w
station_stops z w same h k = station_after w same h.comes k

pub station_still : {N S E : Type 0} (f : N → Tree) (g : Ghosts S E) {r q : Run N} {s t : S} → (t ≡ s) × (q ≡ r)
    → station_of f q (seen_by g t) ≡ station_of f r (seen_by g s)
station_still f g same = λ j. station_of f (same.1 j) (seen_by g (same.0 j))

pub stops_at_options : {P : RunPlace → Type 0} {o o' : RenderOptions} {a : RunPlace} {probes refused : ℕ} → o' ≡ o
    → StopsWhere P o' a probes refused → StopsWhere P o a probes refused
stops_at_options same h =
    record { at = h.at; comes = comes_at same h.comes; there = h.there; read = h.read; refusals = h.refusals }

-- a run begins before a document, after renders that were refused tables
pub begun_course : {A E : Type 0} (has : Bool) {o : RenderOptions} {d : Tree} {p : Standing} {k old : ℕ} (v w : RenderCost)
    (r : Result A (RenderError E)) → Begins o d p → k ≡ v.visits.probes → old ≡ v.refused
    → EndCourse p.options (place_at p k (around [] has old)) w.visits.probes w.refused r → RenderCourse has o d v w r
begun_course has {d = d} {p = p} {k} {old} v w r begins same refused h =
    subst (λ (x : RenderOptions). EndCourse x (place (make_task 0 Break d ∷ []) initial v.visits.probes (around [] has v.refused))
    w.visits.probes w.refused r) begins.options
    (subst (λ (x : RunPlace). EndCourse p.options x w.visits.probes w.refused r)
    (λ j. place (begins.tasks j) (begins.state j) (same j) (around [] has (refused j))) h)
