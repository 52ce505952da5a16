-- Runs that stop and go on, over whatever type of nodes: what is left of a run is a run, and the two together are one.
use Rattle.std.proofs.Common.{◌≡◌, ℕ, ◌≤◌, ◌<◌, List, [], ◌∷◌, ◌++◌, length, refl, ap, sym, ◌∙◌, append_assoc, append-nil, arith, subst}
use Rattle.std.proofs.Common.{Result, Ok, Err}
use Rattle.std.proofs.lemmas.List.{length-map}
use Rattle.std.specs.Prelude.{OnOk}
use Rattle.prettyless_sink.specs.Sink.{AppendsBeginning, known, rise}
use Rattle.prettyless_sink.specs.declared.error.RenderError.{RenderError}
use Rattle.prettyless_sink.specs.declared.error.RenderError.TheVariants.{Document, Sink, Memory}
use Rattle.prettyless_sink.specs.declared.visits.Visits.{Visits}
use Rattle.prettyless_model.specs.declared.options.RenderOptions.{RenderOptions}
use Rattle.prettyless_model.specs.Layout.{State, Outcome, Done, Failed, Bytes, Whole, Cut, after_bytes, and_then, bytes_in, bytes_of}
use Rattle.prettyless_model.specs.Levels.{settle, settle_end}
use Rattle.prettyless_model.specs.Counts.{Weight}
use Rattle.prettyless_model.proofs.Outcomes.{after-after, then-after}
use Rattle.prettyless_probe.specs.Stack.{Task, nodes}
use Rattle.prettyless_step.specs.Steps.{lay_all, pending_work}
use Rattle.prettyless_model.specs.Tree.{Tree}
use Rattle.prettyless_printer.specs.declared.answer.RunResult.{RunResult}
use Rattle.prettyless_printer.specs.declared.answer.RunResult.TheVariants as run_result
use Rattle.prettyless_printer.specs.declared.trial.OpenTrial.{OpenTrial}
use Rattle.prettyless_printer.specs.Points.{Point, Seen, Standing, point_at, state_at, work_at}
use Rattle.prettyless_printer.specs.Visits.{CountsAtMost, RunCountsAtMost}
use Rattle.prettyless_printer.specs.AtLeast.{CountsAtLeast, nothing_left, stack_tally}
use Rattle.prettyless_printer.specs.Open.{Held, all_held, held}
use Rattle.prettyless_printer.specs.Runs.{InChoice, ReachesWith, RunReaches, RunReachesChoice, RunsToEndOrStops, Station, StopsPastLimit}
use Rattle.prettyless_printer.specs.Paths.{Chooses, Path, PathToChoice, run_of}
use Rattle.prettyless_printer.specs.Renders.{Continues, Finishing, FlushesEnd, Rendered, RunsToEnd, RunsCommands, rest_of, to_end}
use Rattle.prettyless_printer.proofs.Renders.{ending_again, ending_done, ending_stopped, finishing_begins, finishing_ends}
use Rattle.prettyless_printer.proofs.Renders.{finishing_stopped, round_less, Ending}
use Rattle.prettyless_printer.proofs.Chains.{open_some}
use Rattle.prettyless_printer.proofs.PathSteps as steps
use Rattle.prettyless_printer.proofs.PathSteps.{run_error}
use Rattle.prettyless_printer.proofs.Visits.{at_most_same, at_most_then, rise_same, rise_then}
use Rattle.prettyless_printer.proofs.AtLeast.{at_least_at, at_least_same, at_least_then}

-- ---- What is written of a whole

-- bytes after others
abbrev bytes_after : List ℕ → Bytes → Bytes
bytes_after b (Whole c) = Whole (b ++ c)
bytes_after b (Cut c) = Cut (b ++ c)

bytes_of-after : (b : List ℕ) (o : Outcome) → bytes_of (after_bytes b o) ≡ bytes_after b (bytes_of o)
bytes_of-after b (Done c st) = refl
bytes_of-after b (Failed c) = refl

bytes_in-after : (b : List ℕ) (y : Bytes) → bytes_in (bytes_after b y) ≡ b ++ bytes_in y
bytes_in-after b (Whole c) = refl
bytes_in-after b (Cut c) = refl

-- of a whole, something was written
module _ {whole : Outcome} {p : Standing} {old out : List ℕ} (h : Finishing whole p old out) where
  -- the bytes of a whole are what was written and those of what is left
  finishing_bytes : bytes_of whole ≡ bytes_after h.bytes (bytes_of (to_end p))
  finishing_bytes = sym (ap bytes_of h.same) ∙ bytes_of-after h.bytes (to_end p)

  -- what was written, and then the rest of the whole or a beginning of it
  finishing_rest : {new : List ℕ} (bytes : List ℕ) → new ≡ out ++ bytes → new ≡ old ++ (h.bytes ++ bytes)
  finishing_rest bytes e = e ∙ ap (λ (x : List ℕ). x ++ bytes) h.out_is ∙ append_assoc old h.bytes bytes

  finishing_then : {q : Standing} {new : List ℕ} → Finishing (to_end p) q out new → Finishing whole q old new
  finishing_then {q} k = record {
    bytes = h.bytes ++ k.bytes;
    out_is = finishing_rest k.bytes k.out_is;
    same = sym (after-after h.bytes k.bytes (to_end q)) ∙ ap (after_bytes h.bytes) k.same ∙ h.same;
  }

  finishing_part : {new : List ℕ} → AppendsBeginning out new (bytes_in (bytes_of (to_end p)))
      → AppendsBeginning old new (bytes_in (bytes_of whole))
  finishing_part q = (
    h.bytes ++ q.0,
    q.1,
    ap bytes_in finishing_bytes ∙ bytes_in-after h.bytes (bytes_of (to_end p)) ∙ ap (λ (x : List ℕ). h.bytes ++ x) q.2
        ∙ sym (append_assoc h.bytes q.0 q.1),
    finishing_rest q.0 q.3,
  )

  -- what is left is rendered
  finishing_rendered : {A E : Type 0} {n k : ℕ} (fails : E → Type 0) (new : List ℕ) (m : ℕ) (r : Result A (RenderError E)) → k ≡ n →
      Rendered fails (bytes_of (to_end p)) out new k m r → Rendered fails (bytes_of whole) old new n m r
  finishing_rendered fails new m (Ok x) a q =
      (h.bytes ++ q.0, finishing_bytes ∙ ap (bytes_after h.bytes) q.1, finishing_rest q.0 q.2, q.3 ∙ a)
  finishing_rendered fails new m (Err (Document e)) a q =
      (h.bytes ++ q.0, finishing_bytes ∙ ap (bytes_after h.bytes) q.1, finishing_rest q.0 q.2, q.3 ∙ a, q.4)
  finishing_rendered fails new m (Err (Sink e)) a q = (finishing_part q.0, q.1 ∙ ap rise a)
  finishing_rendered fails new m (Err (Memory e)) a q = (finishing_part q.0, q.1 ∙ a)

-- ---- Runs in a row

-- the counts of a run that went on
run_counts_then : {A E : Type 0} {ts us : List Task} {v w : Visits} (q : Standing) (x : Visits) (r : Result A E) → CountsAtMost ts us v w
    → RunCountsAtMost us q w x r → RunCountsAtMost ts q v x r
run_counts_then q x (Ok y) h k = (k.0, at_most_then h k.1)
run_counts_then q x (Err e) h k = at_most_then h k

tally_then : {A E : Type 0} {a b : Weight → ℕ} {v w : Visits} (x : Visits) (r : Result A E) → CountsAtLeast a b v w
    → OnOk r (CountsAtLeast b nothing_left w x) → OnOk r (CountsAtLeast a nothing_left v x)
tally_then x (Ok y) h k = at_least_then h k
tally_then x (Err e) h k = tt

-- the same run, for another answer
pub done_anyhow : {A B E : Type 0} (fails : E → Type 0) {a b : Point} (x : A) (y : B) → RunsToEnd fails a b (Ok x)
    → RunsToEnd fails a b (Ok y)
done_anyhow fails x y h = record {
  same_lender = h.same_lender;
  bytes = h.bytes;
  rise = h.rise;
  at_most = h.at_most;
  at_least = h.at_least;
}

pub error_anyhow : {A B E : Type 0} (fails : E → Type 0) {a b : Point} (e : RenderError E) → RunsToEnd {A = A} fails a b (Err e)
    → RunsToEnd {A = B} fails a b (Err e)
error_anyhow fails (Document e) h =
    record { same_lender = h.same_lender; bytes = h.bytes; rise = h.rise; at_most = h.at_most; at_least = tt }
error_anyhow fails (Sink e) h =
    record { same_lender = h.same_lender; bytes = h.bytes; rise = h.rise; at_most = h.at_most; at_least = tt }
error_anyhow fails (Memory e) h =
    record { same_lender = h.same_lender; bytes = h.bytes; rise = h.rise; at_most = h.at_most; at_least = tt }

-- a run has come nowhere yet
pub continues_same : (a : Point) → Continues a a
continues_same a = record {
  options = refl;
  same_lender = refl;
  bytes = λ is_known. (is_known, (finishing_begins a.printer (known a.sink.bytes), refl));
  rise = rise_same a.visits;
  at_most = λ plain. (plain, at_most_same a.printer.tasks a.visits);
  at_least = at_least_same (stack_tally a.printer 0) a.visits;
}

-- it has come further
pub continues_then : {a b c : Point} → Continues a b → Continues b c → Continues a c
continues_then h k = record {
  options = k.options ∙ h.options;
  same_lender = k.same_lender ∙ h.same_lender;
  bytes = λ is_known.
      let y = h.bytes is_known in
      let z = k.bytes y.0 in (
        z.0,
        (
          finishing_then y.1.0 z.1.0,
          z.1.1 ∙ y.1.1,
        ),
      );
  rise = rise_then h.rise k.rise;
  at_most = λ plain.
      let y = h.at_most plain in
      let z = k.at_most y.0 in
      (z.0, at_most_then y.1 z.1);
  at_least = at_least_then h.at_least k.at_least;
}

-- What a run leaves and a run of that, which begins where the first one stands, are a run: the two may have nodes of different types.
pub continues_to_end : {A E : Type 0} (fails : E → Type 0) {a b c : Point} (r : Result A (RenderError E)) → Continues a b
    → RunsToEnd fails b c r → RunsToEnd fails a c r
continues_to_end fails {a} {b} {c} r h k = record {
  same_lender = k.same_lender ∙ h.same_lender;
  bytes = λ is_known.
      let y = h.bytes is_known in
      let z = k.bytes y.0 in (
        z.0,
        finishing_rendered y.1.0 fails (known c.sink.bytes) c.sink.failures r y.1.1 z.1,
      );
  rise = rise_then h.rise k.rise;
  at_most = λ plain.
      let y = h.at_most plain in
      run_counts_then c.printer c.visits r y.1 (k.at_most y.0);
  at_least = tally_then c.visits r h.at_least k.at_least;
}

-- a path of all commands
pub path_continues : {a b : Point} → Path (run_of a) b → Continues a b
path_continues {a} {b} p = record {
  options = p.options;
  same_lender = p.same_lender;
  bytes = λ is_known.
      let y = p.bytes is_known in
      let i = y.1.0 in
      let o = a.printer.options in
      let left : Outcome = lay_all o (settle o) i.above [] (state_at b.printer) in
      let rest : rest_of b.printer ≡ left =
      ap (λ (z : RenderOptions). lay_all z (settle z) b.printer.tasks [] (state_at b.printer)) p.options
      ∙ ap (λ (ts : List Task). lay_all o (settle o) ts [] (state_at b.printer)) (i.stack_is ∙ append-nil i.above) in (
        y.0,
        (
          record {
            bytes = i.bytes;
            out_is = i.out_is;
            same = ap (λ (x : Outcome). after_bytes i.bytes (and_then x (settle_end b.printer.options))) rest
                ∙ ap (λ (z : RenderOptions). after_bytes i.bytes (and_then left (settle_end z))) p.options
                ∙ sym (then-after i.bytes left (settle_end o)) ∙ ap (λ (x : Outcome). and_then x (settle_end o)) i.same;
          },
          y.1.1,
        ),
      );
  rise = p.rise;
  at_most = λ plain. p.at_most (plain.none, plain.pending);
  at_least = p.at_least;
}

-- ---- The rounds of the end

-- the commands ended in an error
pub work_stopped : {A B E : Type 0} (fails : E → Type 0) {a b : Point} (e : RenderError E) → RunsCommands {A = A} fails a b (Err e)
    → RunsToEnd {A = B} fails a b (Err e)
work_stopped {B} fails {a} {b} e h = record {
  same_lender = h.same_lender;
  bytes = λ is_known.
      let y = h.bytes is_known in
      (y.0, finishing_stopped B fails (known b.sink.bytes) b.sink.failures e (finishing_begins a.printer (known a.sink.bytes)) refl y.1);
  rise = h.rise;
  at_most = h.at_most;
  at_least = tt;
}

-- what the commands left at the end
work_ending : {A E : Type 0} (fails : E → Type 0) {a b : Point} (x : A) → RunsCommands fails a b (Ok x)
    → (z : (bytes : List ℕ) × (rest_of a.printer ≡ Done bytes (state_at b.printer)) × (known b.sink.bytes ≡ known a.sink.bytes ++ bytes)
    × (b.sink.failures ≡ a.sink.failures)) →
    Ending (to_end a.printer) a.printer.options b.printer (known a.sink.bytes) (known b.sink.bytes)
work_ending fails {a} x h z =
    finishing_ends (finishing_begins a.printer (known a.sink.bytes)) z.1 z.2

-- the commands are laid, and nothing waits: that is all
pub work_ends : {A B E : Type 0} (fails : E → Type 0) {a b : Point} (x : A) (y : B) → RunsCommands fails a b (Ok x)
    → length (state_at b.printer).pending ≤ 0 → RunsToEnd fails a b (Ok y)
work_ends fails x y h none = record {
  same_lender = h.same_lender;
  bytes = λ is_known.
      let z = h.bytes is_known in
      let all = ending_done (work_ending fails x h z.1) none in
      (z.0, (all.0, all.1, all.2, z.1.3));
  rise = h.rise;
  at_most = h.at_most;
  at_least = h.at_least;
}

-- a round takes work away
pub round_work_falls : {A B E : Type 0} (fails : E → Type 0) {a b : Point} {q : Standing} {t : Seen} (x : A) (y : B)
    → RunsCommands {A = A} {E = E} fails a b (Ok x) → FlushesEnd {A = B} {E = E} b.printer q b.sink t (Ok y) →
    0 < length (state_at b.printer).pending → work_at (point_at q t b.visits) < work_at a
round_work_falls fails {b} x y h k some =
    omega (
      arith,
      ap nodes k.stack,
      ap (λ (u : State). pending_work u.pending) k.state,
      round_less (state_at b.printer).pending some,
      h.work_falls,
    )

-- what waits is laid next
pub round_continues : {A B E : Type 0} (fails : E → Type 0) {a b : Point} {q : Standing} {t : Seen} (x : A) (y : B)
    → RunsCommands {A = A} {E = E} fails a b (Ok x) → FlushesEnd {A = B} {E = E} b.printer q b.sink t (Ok y) →
    0 < length (state_at b.printer).pending → Continues a (point_at q t b.visits)
round_continues fails x y h k some = record {
  options = k.options ∙ h.options;
  same_lender = k.same_lender ∙ h.same_lender;
  bytes = λ is_known.
      let z = h.bytes is_known in
      let w = k.bytes z.0 in
      (w.0, (ending_again (work_ending fails x h z.1) h.options k some w.1.0, w.1.1 ∙ z.1.3));
  rise = h.rise;
  at_most = λ plain. absurd (omega (arith, some, ap length (h.at_most plain).0.pending));
  at_least = at_least_at (λ k. omega arith) (λ k. omega arith) h.at_least;
}

-- the gap before what waits ended in an error
pub round_stopped : {A B C E : Type 0} (fails before : E → Type 0) {a b : Point} {q : Standing} {t : Seen} (x : A) (e : RenderError E)
    → RunsCommands {A = A} {E = E} before a b (Ok x) → FlushesEnd {A = B} {E = E} b.printer q b.sink t (Err e) →
    0 < length (state_at b.printer).pending → RunsToEnd {A = C} fails a (point_at q t b.visits) (Err e)
round_stopped {C} fails before {t} x e h k some = record {
  same_lender = k.same_lender ∙ h.same_lender;
  bytes = λ is_known.
      let z = h.bytes is_known in
      let w = k.bytes z.0 in
      (w.0, ending_stopped C fails (known t.bytes) t.failures e (work_ending before x h z.1) some z.1.3 w.1);
  rise = h.rise;
  at_most = λ plain. absurd (omega (arith, some, ap length (h.at_most plain).0.pending));
  at_least = tt;
}

-- ---- Open trials

-- nothing is held of trials only where none is open
pub none_open : {N : Type 0} (f : N → Tree) (us : List (OpenTrial N)) → all_held f us ≡ [] → us ≡ []
none_open f [] h = refl
none_open f (u ∷ us) h = absurd (omega (arith, ap length h))

-- something is held of trials that are open
pub some_open : {N : Type 0} (f : N → Tree) (us : List (OpenTrial N)) → 0 < length us → 0 < length (all_held f us)
some_open f us some = omega (arith, length-map us (held f), some)

-- a run has come outside of trials
pub comes_alone : (a : Point) (z : Station) → z.held ≡ [] → Continues a z.point → RunReaches a z
comes_alone a z none h = subst (λ (us : List Held). ReachesWith us a z) (sym none) h

pub came_alone : (a : Point) (z : Station) → z.held ≡ [] → RunReaches a z → Continues a z.point
came_alone a z none h = subst (λ (us : List Held). ReachesWith us a z) none h

-- it has reached a choice, whose trials are open
reaches_with : (a : Point) (z : Station) (us : List Held) → 0 < length us → RunReachesChoice a z → ReachesWith us a z
reaches_with a z [] some h = absurd (omega (arith, some))
reaches_with a z (u ∷ us) some h = h

pub comes_in_choice : {a c at : Point} (z : Station) {i : ℕ} {x y : Tree} → Continues a c → PathToChoice (run_of c) i x y at
    → InChoice i x y at z → RunReaches a z
comes_in_choice {a} {c} {at} z {i} {x} {y} h waiting choice =
    reaches_with a z z.held (open_some _ _ _ z.held choice.trials)
    (record { c = c; continues = h; indent = i; first = x; second = y; at = at; waiting = waiting; choice = choice })

reached_with : (a : Point) (z : Station) (us : List Held) → 0 < length us → ReachesWith us a z → RunReachesChoice a z
reached_with a z [] some h = absurd (omega (arith, some))
reached_with a z (u ∷ us) some h = h

pub came_in_choice : (a : Point) (z : Station) → 0 < length z.held → RunReaches a z → RunReachesChoice a z
came_in_choice a z some h = reached_with a z z.held some h

-- it came further before
comes_then : (a b : Point) (z : Station) (us : List Held) → Continues a b → ReachesWith us b z → ReachesWith us a z
comes_then a b z [] h k = continues_then h k
comes_then a b z (u ∷ us) h k = record {
  c = k.c;
  continues = continues_then h k.continues;
  indent = k.indent;
  first = k.first;
  second = k.second;
  at = k.at;
  waiting = k.waiting;
  choice = k.choice;
}

pub stops_then : (limit : ℕ) (a b : Point) (z : Station) → Continues a b → StopsPastLimit limit b z → StopsPastLimit limit a z
stops_then limit a b z h k = record { comes = comes_then a b z z.held h k.comes; past = k.past }

-- what a run leaves and a run of that, which may stop, are a run that may stop
pub runs_then : {E : Type 0} (fails : E → Type 0) (limit : ℕ) (a b : Point) (z : Station) (r : Result RunResult (RenderError E))
    → Continues a b → RunsToEndOrStops fails limit b z r → RunsToEndOrStops fails limit a z r
runs_then fails limit a b z (Ok run_result.Finished) h k = continues_to_end fails (Ok run_result.Finished) h k
runs_then fails limit a b z (Ok run_result.Shift) h k = stops_then limit a b z h k
runs_then fails limit a b z (Err e) h k = continues_to_end fails (Err e) h k

-- a choice in which a run came is made
pub choice_continues : {E : Type 0} {a c at b : Point} (i : ℕ) (x y : Tree) → Continues a c → PathToChoice (run_of c) i x y at
    → Chooses {A = RunResult} {E = E} i x y at b (Ok run_result.Finished) → Continues a b
choice_continues {c} i x y h waiting k = continues_then h (path_continues (k.runs (run_of c) waiting))

-- it ended in an error
pub choice_stopped : {E : Type 0} (fails : E → Type 0) {a c at b : Point} (i : ℕ) (x y : Tree) (e : RenderError E) → Continues a c
    → PathToChoice (run_of c) i x y at → Chooses {A = RunResult} {E = E} i x y at b (Err e) → RunsToEnd {A = RunResult} fails a b (Err e)
choice_stopped fails {c} i x y e h waiting k =
    continues_to_end fails (Err e) h
    (work_stopped {A = RunResult} fails e (run_error fails e (steps.error_anyhow fails e (k.runs (run_of c) waiting))))
