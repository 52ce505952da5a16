-- A run from the first command, with the rounds of the end, is a render of the layout.
use Rattle.std.proofs.Common.{subst, Result, Ok, ◌≡◌, ℕ, ◌+◌, ◌*◌, ◌≤◌, ◌<◌, List, [], ◌∷◌, ◌++◌, length, refl, ap, sym, ◌∙◌, append_assoc}
use Rattle.std.proofs.Common.{append-nil, arith, Err}
use Rattle.prettyless_sink.specs.Sink.{AppendsBeginning, known, rise}
use Rattle.prettyless_model.specs.Spaces.{spaces}
use Rattle.prettyless_model.specs.declared.options.RenderOptions.{RenderOptions}
use Rattle.prettyless_sink.specs.declared.error.RenderError.{RenderError}
use Rattle.prettyless_sink.specs.declared.error.RenderError.TheVariants.{Document, Sink, Memory}
use Rattle.prettyless_model.specs.Tree.{Tree, size}
use Rattle.prettyless_model.specs.Column.{gap}
use Rattle.prettyless_model.specs.Layout.{State, Outcome, Done, Failed, Breaks, after_bytes, and_then, lay, lay_each, flushed, end_with}
use Rattle.prettyless_model.specs.Layout.{initial, layout, bytes_of, bytes_in, Bytes, Whole}
use Rattle.prettyless_model.specs.Levels.{settle, settle_end}
use Rattle.prettyless_model.specs.declared.mode.Mode.TheVariants.{Break}
use Rattle.prettyless_model.proofs.Outcomes.{after-nil, after-after, then-done}
use Rattle.prettyless_model.proofs.Levels.{end_fixed, layout_is}
use Rattle.prettyless_probe.specs.Stack.{Task, make_task, nodes, tasks}
use Rattle.prettyless_step.specs.Steps.{lay_all, pending_work}
use Rattle.prettyless_printer.specs.Points.{Point, Seen, Standing, state_at}
use Rattle.prettyless_printer.specs.Suffixes.{IsLinearButSuffixes, most_visits, unions}
use Rattle.prettyless_printer.specs.ShiftPolicy.{probe_factor, probe_grace}
use Rattle.prettyless_printer.specs.Linear.{IsLinearBound, IsLinear}
use Rattle.prettyless_printer.specs.Turns.{bytes_before}
use Rattle.prettyless_printer.specs.Renders.{Finishing, FlushesEnd, Renders, RunsToEnd, rest_of, to_end, Stopped, Flushed, Rendered}
use Rattle.prettyless_printer.proofs.Progresses.{bytes_before-after}
use Rattle.prettyless_printer.proofs.Runs.{lay_all-tasks}
use Rattle.prettyless_printer.proofs.Steps.{nodes-tasks}
use Rattle.prettyless_printer.proofs.Visits.{visited}
use Rattle.prettyless_printer.proofs.AtLeast.{visited_at_least}

-- ---- What is written of a whole

pub finishing_begins : (p : Standing) (out : List ℕ) → Finishing (to_end p) p out out
finishing_begins p out = record { bytes = []; out_is = sym (append-nil out); same = after-nil (to_end p) }

bytes_in-of : (o : Outcome) → bytes_in (bytes_of o) ≡ bytes_before o
bytes_in-of (Done b st) = refl
bytes_in-of (Failed b) = refl

bytes_before-then : (o : Outcome) (k : State → Outcome) → (more : List ℕ) × (bytes_before (and_then o k) ≡ bytes_before o ++ more)
bytes_before-then (Done b st) k = (bytes_before (k st), bytes_before-after b (k st))
bytes_before-then (Failed b) k = ([], sym (append-nil b))

-- a beginning of what the commands lay is one of the whole
finishing_beginning : {whole : Outcome} {p : Standing} {old out new : List ℕ} → Finishing whole p old out
    → AppendsBeginning out new (bytes_before (rest_of p)) → AppendsBeginning old new (bytes_in (bytes_of whole))
finishing_beginning {whole} {p} {old} h q =
    let m = bytes_before-then (rest_of p) (settle_end p.options) in (
      h.bytes ++ q.0,
      q.1 ++ m.0,
      bytes_in-of whole ∙ sym (ap bytes_before h.same) ∙ bytes_before-after h.bytes (to_end p)
          ∙ ap (λ (x : List ℕ). h.bytes ++ x) (m.1 ∙ ap (λ (x : List ℕ). x ++ m.0) q.2 ∙ append_assoc q.0 q.1 m.0)
          ∙ sym (append_assoc h.bytes q.0 (q.1 ++ m.0)),
      q.3 ∙ ap (λ (x : List ℕ). x ++ q.0) h.out_is ∙ append_assoc old h.bytes q.0,
    )

-- the commands ended in an error
pub finishing_stopped : (A : Type 0) {E : Type 0} {whole : Outcome} {p : Standing} {old out : List ℕ} {n k : ℕ} (fails : E → Type 0)
    (new : List ℕ) (m : ℕ) (e : RenderError E) → Finishing whole p old out → k ≡ n → Stopped fails (rest_of p) out new k m e →
    Rendered {A = A} fails (bytes_of whole) old new n m (Err e)
finishing_stopped A {p} {old} fails new m (Document e) h a q = (
  h.bytes ++ q.0,
  ap bytes_of (sym h.same ∙ ap (λ (x : Outcome). after_bytes h.bytes (and_then x (settle_end p.options))) q.1),
  q.2 ∙ ap (λ (x : List ℕ). x ++ q.0) h.out_is ∙ append_assoc old h.bytes q.0,
  q.3 ∙ a,
  q.4,
)
finishing_stopped A fails new m (Sink e) h a q = (finishing_beginning h q.0, q.1 ∙ ap rise a)
finishing_stopped A fails new m (Memory e) h a q = (finishing_beginning h q.0, q.1 ∙ a)

-- ---- The rounds of the end

-- the commands are laid: what is left is the end
pub record Ending (whole : Outcome) (o : RenderOptions) (q : Standing) (old new : List ℕ) : Type 0 where
  pub bytes : List ℕ
  pub new_is : new ≡ old ++ bytes
  pub same : after_bytes bytes (end_with o (settle o) (settle_end o) (state_at q).pending (state_at q)) ≡ whole

pub finishing_ends : {whole : Outcome} {p q : Standing} {old out new b : List ℕ} → Finishing whole p old out
    → rest_of p ≡ Done b (state_at q) → new ≡ out ++ b → Ending whole p.options q old new
finishing_ends {p} {q} {old} {b} h r w = record {
  bytes = h.bytes ++ b;
  new_is = w ∙ ap (λ (x : List ℕ). x ++ b) h.out_is ∙ append_assoc old h.bytes b;
  same = ap (after_bytes (h.bytes ++ b)) (sym (end_fixed p.options (state_at q)))
      ∙ sym (after-after h.bytes b (settle_end p.options (state_at q)))
      ∙ ap (λ (x : Outcome). after_bytes h.bytes (and_then x (settle_end p.options))) (sym r) ∙ h.same;
}

none_pending : (o : RenderOptions) (brk : Breaks) (again : State → Outcome) (ps : List Tree) (st : State) → length ps ≤ 0
    → end_with o brk again ps st ≡ Done [] st
none_pending o brk again [] st l = refl
none_pending o brk again (p ∷ ps) st l = absurd (omega arith)

-- nothing waits: that is all
pub ending_done : {whole : Outcome} {o : RenderOptions} {q : Standing} {old new : List ℕ} → Ending whole o q old new
    → length (state_at q).pending ≤ 0 → (bytes : List ℕ) × (bytes_of whole ≡ Whole bytes) × (new ≡ old ++ bytes)
ending_done {o} {q} h l = (
  h.bytes,
  ap bytes_of (sym h.same ∙ ap (after_bytes h.bytes) (none_pending o (settle o) (settle_end o) (state_at q).pending (state_at q) l))
      ∙ ap Whole (append-nil h.bytes),
  h.new_is,
)

-- one round of the end, as tasks
round : (o : RenderOptions) (brk : Breaks) (again : State → Outcome) (ps : List Tree) (st : State) → 0 < length ps →
    end_with o brk again ps st ≡ after_bytes (spaces (gap st.column)) (and_then (lay_all o brk (tasks 0 Break ps) [] (flushed o st)) again)
unfolding lay_all
round o brk again [] st l = absurd (omega arith)
round o brk again (d ∷ ds) st l =
    ap (λ (x : Outcome). after_bytes (spaces (gap st.column)) (and_then x again))
    (sym (ap (λ (x : List Task). lay_all o brk x [] (flushed o st)) (sym (append-nil (tasks 0 Break (d ∷ ds))))
    ∙ lay_all-tasks o brk (d ∷ ds) 0 Break [] [] (flushed o st) ∙ then-done (lay_each o brk (d ∷ ds) 0 Break [] (flushed o st))))

-- the documents that wait are the commands, and the gap before them is written
pub ending_again : {A E : Type 0} {whole : Outcome} {o : RenderOptions} {q r : Standing} {s t : Seen} {old new out : List ℕ} {y : A}
    → Ending whole o q old new → q.options ≡ o → FlushesEnd {A = A} {E = E} q r s t (Ok y) → 0 < length (state_at q).pending
    → out ≡ new ++ spaces (gap q.column) → Finishing whole r old out
ending_again {o} {q} {r} {old} h same k l x =
    let st = state_at q in
    let e : r.options ≡ o = k.options ∙ same in
    let rest : rest_of r ≡ lay_all o (settle o) (tasks 0 Break st.pending) [] (flushed o st) =
    ap (λ (z : RenderOptions). lay_all z (settle z) r.tasks [] (state_at r)) e
    ∙ ap (λ (z : List Task). lay_all o (settle o) z [] (state_at r)) k.stack
    ∙ ap (λ (z : State). lay_all o (settle o) (tasks 0 Break st.pending) [] z)
    (k.state ∙ ap (λ (z : RenderOptions). flushed z st) same) in
    record {
      bytes = h.bytes ++ spaces (gap q.column);
      out_is = x ∙ ap (λ (z : List ℕ). z ++ spaces (gap q.column)) h.new_is ∙ append_assoc old h.bytes (spaces (gap q.column));
      same = sym (after-after h.bytes (spaces (gap q.column)) (to_end r))
          ∙ ap (λ (z : RenderOptions). after_bytes h.bytes (after_bytes (spaces (gap q.column)) (and_then (rest_of r) (settle_end z)))) e
          ∙ ap (λ (z : Outcome). after_bytes h.bytes (after_bytes (spaces (gap q.column)) (and_then z (settle_end o)))) rest
          ∙ ap (after_bytes h.bytes) (sym (round o (settle o) (settle_end o) st.pending st l)) ∙ h.same;
    }

-- the gap before them ended in an error
pub ending_stopped : (A : Type 0) {E : Type 0} {whole : Outcome} {o : RenderOptions} {q : Standing} {old new : List ℕ} {n k : ℕ}
    (fails : E → Type 0) (last : List ℕ) (m : ℕ) (e : RenderError E) → Ending whole o q old new → 0 < length (state_at q).pending → k ≡ n →
    Flushed {A = A} q new last k m (Err e) → Rendered {A = A} fails (bytes_of whole) old last n m (Err e)
ending_stopped A fails last m (Document e) h l a s = absurd s
ending_stopped A {whole} {o} {q} {old} fails last m (Sink e) h l a s =
    let st = state_at q in
    let rest : Outcome = and_then (lay_all o (settle o) (tasks 0 Break st.pending) [] (flushed o st)) (settle_end o) in
    let all : bytes_before whole ≡ h.bytes ++ (spaces (gap q.column) ++ bytes_before rest) =
    sym (ap bytes_before h.same) ∙ bytes_before-after h.bytes (end_with o (settle o) (settle_end o) st.pending st)
    ∙ ap (λ (z : List ℕ). h.bytes ++ z) (ap bytes_before (round o (settle o) (settle_end o) st.pending st l)
    ∙ bytes_before-after (spaces (gap q.column)) rest) in
    let b = s.0 in (
      (
        h.bytes ++ b.0,
        b.1 ++ bytes_before rest,
        bytes_in-of whole ∙ all ∙ ap (λ (z : List ℕ). h.bytes ++ z)
            (ap (λ (z : List ℕ). z ++ bytes_before rest) b.2 ∙ append_assoc b.0 b.1 (bytes_before rest))
            ∙ sym (append_assoc h.bytes b.0 (b.1 ++ bytes_before rest)),
        b.3 ∙ ap (λ (z : List ℕ). z ++ b.0) h.new_is ∙ append_assoc old h.bytes b.0,
      ),
      s.1 ∙ ap rise a,
    )
ending_stopped A {whole} {o} {q} fails last m (Memory e) h l a s =
    let left : Outcome = end_with o (settle o) (settle_end o) (state_at q).pending (state_at q) in (
      (
        h.bytes,
        bytes_before left,
        bytes_in-of whole ∙ sym (ap bytes_before h.same) ∙ bytes_before-after h.bytes left,
        s.0 ∙ h.new_is,
      ),
      s.1 ∙ a,
    )

-- the work of a round is less than what was owed for it
pub round_less : (ps : List Tree) → 0 < length ps → 2 * nodes (tasks 0 Break ps) < pending_work ps
round_less ps l = omega (arith, nodes-tasks 0 Break ps [], ap nodes (append-nil (tasks 0 Break ps)))

-- ---- A render

lay_all-one : (o : RenderOptions) (d : Tree) (st : State) → lay_all o (settle o) (make_task 0 Break d ∷ []) [] st ≡ lay o
    (settle o) d 0 Break [] st
unfolding lay_all
lay_all-one o d st = then-done (lay o (settle o) d 0 Break [] st)

-- what a printer that begins lays to the end is the layout
pub begins : (p : Standing) (d : Tree) → p.tasks ≡ make_task 0 Break d ∷ [] → state_at p ≡ initial
    → layout p.options d ≡ bytes_of (to_end p)
begins p d e s =
    layout_is p.options d
    ∙ ap (λ (x : Outcome). bytes_of (and_then x (settle_end p.options)))
    (sym (ap (λ (x : List Task). lay_all p.options (settle p.options) x [] (state_at p)) e
    ∙ ap (lay_all p.options (settle p.options) (make_task 0 Break d ∷ []) []) s ∙ lay_all-one p.options d initial))

-- a run to the end, from a document that is the only task, is a render
pub renders : {A E : Type 0} (fails : E → Type 0) (d : Tree) {a b : Point} (m n : ℕ) (r : Result A (RenderError E))
    → a.printer.tasks ≡ make_task 0 Break d ∷ [] → state_at a.printer ≡ initial → RunsToEnd fails a b r →
    m ≤ n → (IsLinear d → n ≡ 0 → IsLinearBound probe_factor probe_grace (size d) a.visits b.visits) →
    (unions d ≡ 0 → b.visits.printer ≤ a.visits.printer + most_visits d) →
    (IsLinearButSuffixes d → n ≡ 0 → IsLinearBound probe_factor probe_grace (most_visits d) a.visits b.visits) →
    Renders fails a.printer.options d a.sink b.sink (record { visits = a.visits; refused = m })
    (record { visits = b.visits; refused = n }) r
renders fails d {a} {b} m n r e s h refused few with_suffixes few_with_suffixes = record {
  same_lender = h.same_lender;
  bytes = λ is_known.
      let y = h.bytes is_known in (
        y.0,
        subst (λ (z : Bytes). Rendered fails z (known a.sink.bytes) (known b.sink.bytes) a.sink.failures b.sink.failures r)
            (sym (begins a.printer d e s)) y.1,
      );
  rise = h.rise;
  visited = visited b.printer r e (ap (λ (u : State). u.pending) s) h.at_most;
  refused = refused;
  few = few;
  with_suffixes = with_suffixes;
  few_with_suffixes = few_with_suffixes;
  at_least = visited_at_least d a.printer a.visits b.visits r e s h.at_least;
}
