-- A trial: begun, on its way, kept or undone.
use Rattle.std.proofs.Common.{◌≡◌, ℕ, ◌≤◌, List, [], ◌∷◌, ◌++◌, length, refl, ap, sym, ◌∙◌, append_assoc, append-nil, length-append, arith}
use Rattle.std.proofs.Common.{Bool, true, false, ◌&&◌, subst, take, drop, if◌then◌else◌, Ok}
use Rattle.std.specs.String.{string_bytes}
use Rattle.std.proofs.lemmas.List.{take_at}
use Rattle.std.proofs.lemmas.Str.{IsUtf8-string_bytes, IsCharBoundary-from_take}
use Rattle.std.specs.Str.{IsUtf8}
use Rattle.std.specs.String.Boundary.{IsSplitPoint}
use Rattle.std.specs.declared.string.String.{String}
use Rattle.prettyless_sink.specs.Sink.{known}
use Rattle.prettyless_model.specs.declared.options.RenderOptions.{RenderOptions}
use Rattle.prettyless_model.specs.Tree.{Tree}
use Rattle.prettyless_model.specs.Column.{padding_fits}
use Rattle.prettyless_model.specs.Layout.{State, Outcome, Done, accept, lay, some_pending, in_trial}
use Rattle.prettyless_model.specs.Levels.{settle}
use Rattle.prettyless_model.specs.declared.mode.Mode.TheVariants.{Break}
use Rattle.prettyless_model.proofs.Outcomes.{after-nil, then-done}
use Rattle.prettyless_probe.specs.Stack.{Task, make_task, follow}
use Rattle.prettyless_step.specs.Steps.{lay_all, pending_work}
use Rattle.prettyless_printer.specs.Progress.{Inside, ChoiceNext, Decides}
use Rattle.prettyless_printer.specs.Points.{Standing, state_at, QueueBegins, QueueGrows, Seen, Point}
use Rattle.prettyless_printer.specs.Open.{BeginsTrial}
use Rattle.prettyless_printer.specs.Trials.{Trial, TrialRejected, TrialComplete, Marks, Restores, TrialDecides, Tries, work_limit, trial_of}
use Rattle.prettyless_printer.proofs.Progresses.{choice_next_kept, choice_next_other, inside_end}
use Rattle.prettyless_printer.proofs.Standings.{Flagged, Pushed}
use Rattle.prettyless_printer.specs.declared.trial.Mark.{Mark}

-- ---- A trial that begins

-- the trial is on its way, in q
abbrev pub Trying : Standing → ℕ → Tree → List ℕ → Standing → List ℕ → Type 0
Trying p i d old q out = Inside p.options (trial_of p i d) (work_limit p d) p.tasks old q.tasks (state_at q) out

lay_all-one : (o : RenderOptions) (i : ℕ) (d : Tree) (ts : List Task) (st : State) → lay_all o (settle o) (make_task i Break d ∷ [])
    (follow ts) st ≡ lay o (settle o) d i Break (follow ts) st
unfolding lay_all
lay_all-one o i d ts st = then-done (lay o (settle o) d i Break (follow ts) st)

pub trying_begins : {p q : Standing} {i : ℕ} {d : Tree} (old : List ℕ) → BeginsTrial i d p q → Trying p i d old q old
trying_begins {p} {q} {i} {d} old h = record {
  above = make_task i Break d ∷ [];
  bytes = [];
  stack_is = h.tasks;
  out_is = sym (append-nil old);
  same = after-nil (lay_all p.options (settle p.options) (make_task i Break d ∷ []) (follow p.tasks) (state_at q))
      ∙ lay_all-one p.options i d p.tasks (state_at q) ∙ ap (lay p.options (settle p.options) d i Break (follow p.tasks)) h.state;
  bound = omega (arith, ap (λ (u : State). pending_work u.pending) h.state);
}

pub begins-grows : (ds : List Tree) (q r : Standing) → QueueBegins ds q → QueueGrows q r → QueueBegins ds r
begins-grows ds q r a b = (a.0 ++ b.0, b.1 ∙ ap (λ (x : List Tree). x ++ b.0) a.1 ∙ append_assoc ds a.0 b.0)

pub grows-grows : (p q r : Standing) → QueueGrows p q → QueueGrows q r → QueueGrows p r
grows-grows p q r a b = begins-grows p.queue q r a b

-- a queue that is the same
pub grows_same : (p : Standing) → QueueGrows p p
grows_same p = ([], sym (append-nil p.queue))

-- the flag alone is another one
pub flagged : (flag : Bool) (p : Standing) → Flagged flag p (record p { within = flag })
flagged flag p = record { tasks = refl; state = refl; options = refl; grows = grows_same p }

-- a task alone is pushed
pub pushed : {t : Task} {p : Standing} (q : Standing) → q.tasks ≡ t ∷ p.tasks → q.queue ≡ p.queue → state_at q ≡ state_at p
    → q.options ≡ p.options → Pushed t p q
pushed {p} q e g h o = record { tasks = e; state = h; options = o; grows = ([], g ∙ sym (append-nil p.queue)) }

-- ---- A trial that is taken back

-- what was added since the mark is all that the queue has more
pub queue_marked : (p q : Standing) (m : Mark) (s : Seen) → Marks m p s → QueueGrows p q → m.queue.len ≤ length q.queue
queue_marked p q m s e g = omega (arith, e.queued, ap length g.1, length-append p.queue g.0)

pub restored_queue : {p : Standing} {m : Mark} {s : Seen} (q r : Standing) → Marks m p s → QueueGrows p q → Restores m q r
    → r.queue ≡ p.queue
restored_queue {p} q r e g h =
    h.1 ∙ ap (λ (x : ℕ). take x q.queue) (e.queued) ∙ ap (take (length p.queue)) g.1 ∙ take_at p.queue g.0 (length p.queue) refl

-- the state is as before
pub restored : {p : Standing} {m : Mark} {s : Seen} (q r : Standing) → Marks m p s → QueueGrows p q → Restores m q r
    → state_at r ≡ state_at p
restored {p} q r e g h =
    let n : r.start ≡ p.start = h.2 ∙ e.start in
    let a : drop r.start r.queue ≡ drop p.start p.queue = ap (λ (x : ℕ). drop x r.queue) n ∙ ap (drop p.start) (restored_queue q r e g h) in
    let c : r.column ≡ p.column = h.3 ∙ e.column in
    let o : r.within ≡ p.within = h.4 ∙ e.within in
    λ j. record { column = c j; pending = a j; within = o j }

-- a trial that is undone: what it wrote is cut off, and its outcome is not accepted
pub trial_rejected : {t : Trial} {b : Point} {m : Mark} (r : Standing) (new : List ℕ) → TrialRejected t b
    → Marks m t.start.printer t.start.sink
    → Restores m b.printer r → new ≡ take m.written (known b.sink.bytes) →
    TrialDecides t.start.printer r t.indent t.branch (known t.start.sink.bytes) new false
trial_rejected {t} {b} {m} r new fell marks back cut =
    let p = t.start.printer in
    let old = known t.start.sink.bytes in
    let s : state_at r ≡ state_at p = restored b.printer r marks fell.grows back in (
      back.0 fell.above p.tasks fell.stack (sym marks.commands),
      back.5 ∙ fell.options,
      ([], restored_queue b.printer r marks fell.grows back ∙ sym (append-nil p.queue)),
      back.4 ∙ marks.within,
      omega (arith, ap (λ (x : State). pending_work x.pending) s),
      (cut ∙ ap (take m.written) fell.wrote ∙ take_at old fell.bytes m.written (sym marks.written), s, fell.rejected),
    )

-- ---- A trial at its end

pub none_above : (above below stack : List Task) → stack ≡ above ++ below → length stack ≤ length below → stack ≡ below
none_above [] below stack e l = e
none_above (a ∷ above) below stack e l = absurd (omega (arith, ap length e, length-append above below))

-- a trial that came to its end
pub trial_ends : (p q : Standing) (i : ℕ) (d : Tree) (old out : List ℕ) → Trying p i d old q out → length q.tasks ≤ length p.tasks →
    (q.tasks ≡ p.tasks) × (bytes : List ℕ) × (out ≡ old ++ bytes) × (trial_of p i d ≡ Done bytes (state_at q))
    × (pending_work (state_at q).pending ≤ work_limit p d)
trial_ends p q i d old out y l =
    let z = inside_end y l in
    (none_above y.above p.tasks q.tasks y.stack_is l, z.0, z.1, z.2, z.3)

-- where it is within the width, the padding decides
pub padding_decides : (p q : Standing) (i : ℕ) (d : Tree) (bytes : List ℕ) (fits : Bool) → trial_of p i d ≡ Done bytes (state_at q)
    → q.within ≡ true → padding_fits p.options.width (some_pending (state_at q).pending) q.column ≡ fits → (other : Outcome) →
    accept p.options p.within (trial_of p i d) other
    ≡ (if fits then Done bytes (record (state_at q) { within = p.within }) else other)
padding_decides p q i d bytes fits e w h other =
    let done : Bool → Outcome = λ v. if v then Done bytes (record (state_at q) { within = p.within }) else other in
    ap (λ (x : Outcome). accept p.options p.within x other) e
    ∙ ap (λ (v : Bool). done (v && padding_fits p.options.width (some_pending (state_at q).pending) q.column)) w ∙ ap done h

-- a trial that is kept
pub trial_kept : {t : Trial} {b : Point} {r : Standing} → TrialComplete t b → Flagged t.start.printer.within b.printer r →
    TrialDecides t.start.printer r t.indent t.branch (known t.start.sink.bytes) (known b.sink.bytes) true
trial_kept {t} {b} {r} lasts kept =
    let p = t.start.printer in
    let q = b.printer in
    let path = lasts.path in
    let z = trial_ends p q t.indent t.branch (known t.start.sink.bytes) (known b.sink.bytes) (path.bytes lasts.is_known).1.0
    lasts.ended in (
      kept.tasks ∙ z.0,
      kept.options ∙ path.options,
      begins-grows p.queue q r path.queue kept.grows,
      ap (λ (x : State). x.within) kept.state,
      omega (arith, z.4, ap (λ (x : State). pending_work x.pending) kept.state),
      (
        z.1,
        z.2,
        λ other. padding_decides p q t.indent t.branch z.1 true z.3 lasts.within lasts.fits other ∙ ap (Done z.1) (sym kept.state),
      ),
    )

-- ---- A choice

-- what a trial decides, under options that are the same
decides_at : (q r : Standing) (o : RenderOptions) (j : ℕ) (x : Tree) (kept : Bool) (old new : List ℕ) → q.options ≡ o →
    Decides kept q.options (trial_of q j x) q.within old new (state_at q) (state_at r) →
    Decides kept o (lay o (settle o) x j Break (follow q.tasks) (in_trial (state_at q))) q.within old new (state_at q) (state_at r)
decides_at q r o j x kept old new e h =
    subst (λ (z : RenderOptions). Decides kept z (lay z (settle z) x j Break (follow q.tasks) (in_trial (state_at q))) q.within old new
    (state_at q) (state_at r)) e h

module _ {E : Type 0} {o : RenderOptions} {whole : Outcome} {limit : ℕ} {below : List Task} {old out : List ℕ} {j : ℕ} {x y : Tree}
    {a b : Point} where
  -- a choice, and its trial kept
  pub choice_kept : Tries {E = E} j x a b (Ok true) → ChoiceNext o whole limit below old j x y a.printer.tasks (state_at a.printer) out
      → a.printer.options ≡ o → (bytes : List ℕ) × (known b.sink.bytes ≡ known a.sink.bytes ++ bytes)
      × Inside o whole limit below old b.printer.tasks (state_at b.printer) (out ++ bytes)
  choice_kept tries waits e =
      let q = a.printer in
      let d = tries.decided in
      let k = decides_at q b.printer o j x true (known a.sink.bytes) (known b.sink.bytes) e d.5 in (
        k.0,
        k.1,
        subst (λ (z : List Task). Inside o whole limit below old z (state_at b.printer) (out ++ k.0)) (sym d.0)
            (choice_next_kept waits (k.2 (lay o (settle o) y j Break (follow q.tasks) (state_at q))) d.4),
      )

  -- a choice, and its trial rejected: the second branch comes next
  pub choice_other : {q : Standing} → Tries {E = E} j x a b (Ok false)
      → ChoiceNext o whole limit below old j x y a.printer.tasks (state_at a.printer) out → a.printer.options ≡ o
      → Pushed (make_task j Break y) b.printer q
      → (known b.sink.bytes ≡ known a.sink.bytes) × Inside o whole limit below old q.tasks (state_at q) out
  choice_other {q} tries waits e pushed =
      let d = tries.decided in
      let k = decides_at a.printer b.printer o j x false (known a.sink.bytes) (known b.sink.bytes) e d.5 in (
        k.0,
        subst (λ (z : List Task). Inside o whole limit below old z (state_at q) out)
            (sym (pushed.tasks ∙ ap (λ (z : List Task). make_task j Break y ∷ z) d.0))
            (subst (λ (u : State). Inside o whole limit below old (make_task j Break y ∷ a.printer.tasks) u out)
            (sym (pushed.state ∙ k.1)) (choice_next_other waits k.2)),
      )

-- a text may be cut where it ended before something was appended
pub cut_back : {Z : Type 0} (old : List ℕ) (t : String Z) (n : ℕ) (bytes : List ℕ) → IsUtf8 old → n ≡ length old
    → string_bytes t ≡ old ++ bytes → IsSplitPoint (string_bytes t) n
cut_back old t n bytes u k e =
    let l : n ≤ length (string_bytes t) = omega (arith, ap length e, length-append old bytes) in
    let front : take n (string_bytes t) ≡ old = ap (take n) e ∙ take_at old bytes n (sym k) in
    let b = IsCharBoundary-from_take (string_bytes t) n (IsUtf8-string_bytes t) l (subst IsUtf8 (sym front) u) in
    (l, λ _ h. b.1 h)
