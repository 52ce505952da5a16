-- The contract of a turn, for each way that it ends.
use Rattle.std.proofs.Common.{◌≡◌, ℕ, ◌+◌, ◌≤◌, List, [], ◌∷◌, sym, ◌∙◌, arith, refl, subst, Ok, Err}
use Rattle.prettyless_sink.specs.Sink.{Accepts, Refuses, known, rise}
use Rattle.prettyless_sink.specs.declared.error.RenderError.TheVariants.{Sink, Memory}
use Rattle.prettyless_sink.specs.declared.visits.Visits.{Visits}
use Rattle.prettyless_model.specs.declared.options.RenderOptions.{RenderOptions}
use Rattle.prettyless_model.specs.Tree.{Tree}
use Rattle.prettyless_model.specs.Counts.{each_probe}
use Rattle.prettyless_probe.specs.Stack.{Task}
use Rattle.prettyless_probe.specs.Probing.{RisesBy}
use Rattle.prettyless_step.specs.Printing.{Shows}
use Rattle.prettyless_step.specs.declared.printer.Printer.{Printer}
use Rattle.prettyless_step.specs.declared.printer.StepResult.TheVariants as step_result
use Rattle.prettyless_step.proofs.Shown.{IsStuck, IsChoice}
use Rattle.prettyless_printer.specs.Points.{Standing, standing, state_at, Seen, Point, point_at, point}
use Rattle.prettyless_printer.specs.Progress.{Inside}
use Rattle.prettyless_printer.specs.Visits.{Plain, CountsAtMost}
use Rattle.prettyless_printer.specs.AtLeast.{CountsAtLeast, tally_above, tally_choice}
use Rattle.prettyless_printer.specs.Turns.{Advances, next_size}
use Rattle.prettyless_printer.specs.declared.answer.Choice.{Choice}
use Rattle.prettyless_printer.specs.declared.answer.TurnResult.TheVariants as turn_result
use Rattle.prettyless_printer.proofs.Steps.{visits_within}
use Rattle.prettyless_printer.proofs.Descends.{InHand, Visit, from_start}
use Rattle.prettyless_printer.proofs.Standings.{Wrote, choice_there, step_from, stuck_there}
use Rattle.prettyless_printer.proofs.Trying.{grows-grows}
use Rattle.prettyless_printer.proofs.Turnings.{move_inside, work_falls, failed, choice_inside, choice_work_falls, sink_error}
use Rattle.prettyless_printer.proofs.Visits.{move_at_most, failed_at_most, choice_at_most, at_most_then, at_most_all, rise_then}
use Rattle.prettyless_printer.proofs.AtLeast.{OneLaid, move_at_least, choice_at_least, at_least_then}

-- ---- Turns that are done

-- what a turn counts: the first node is a visit, and no more nodes are than the next task has
record Counted (a : Point) (x : Visits) : Type 0 where
  least : rise a.visits.printer ≤ x.printer
  most : x.printer ≤ a.visits.printer + next_size a.printer.tasks

counted : {a : Point} {t : Task} {b : Point} {x : Visits} → InHand a t b → Visit a.printer.options t b x → Counted a x
counted {a} {t} {b} h one = record {
  least = omega (arith, h.rise.printer, one.least);
  most = omega (arith, h.most, one.more.printer, visits_within a.printer.options t.tree t.mode (state_at b.printer));
}

-- its bytes were written
pub advances_moved : {N E : Type 0} {f : N → Tree} {a : Point} {t : Task} {b : Point} {q : Standing} {s : Seen} {x : Visits}
    {bytes : List ℕ}
    → InHand a t b → Visit a.printer.options t b x →
    RisesBy (each_probe t.tree t.mode) b.visits.probes x.probes → Wrote (step_from a.printer.options t b.printer) bytes b.printer q →
    s.lender ≡ b.sink.lender → Accepts b.sink.bytes s.bytes bytes b.sink.failures s.failures
    → Advances {N = N} {E = E} f a (point_at q s x) (Ok turn_result.Complete)
advances_moved {f} {a} {t} {b} {q} {x} {bytes} h one probes k lender accepts =
    let o = a.printer.options in
    let ts : List Task = b.printer.tasks in
    let us : List Task = q.tasks in
    let st = state_at b.printer in
    let u = state_at q in
    let out = known b.sink.bytes in
    let laid : OneLaid t b.visits x = record { printer = one.least; probes = probes } in
    let count = counted h one in
    from_start f (Ok turn_result.Complete) h
    (record {
      options = k.options ∙ h.options;
      grows = grows-grows a.printer b.printer q h.grows k.grows;
      work_falls = omega (arith, h.less, work_falls o t ts us st u bytes k.steps_to);
      same_lender = lender;
      bytes = λ is_known.
          let y = accepts is_known in (
            y.0,
            (
              λ whole limit below old l m.
                  subst (λ (z : List ℕ). Inside o whole limit below old us u z) (sym y.1.0)
                  (move_inside bytes (omega (arith, l, h.long))
                  (h.inside out whole limit below old l m) k.steps_to),
              y.1.1,
            ),
          );
      least = count.least;
      most = count.most;
      rise = rise_then h.rise one.rise;
      at_most = λ plain.
          let y = h.at_most plain in
          let z = move_at_most us u bytes one.more y.0 k.steps_to in
          (record { none = z.0.0; pending = z.0.1 }, at_most_then y.1 z.1);
      at_least = λ n l. at_least_then (h.at_least n l)
          (subst (λ (z : RenderOptions). CountsAtLeast (tally_above o n (t ∷ ts) st) (tally_above z n us u) b.visits x)
          (sym (k.options ∙ h.options))
          (move_at_least o n ts us st u bytes laid (omega (arith, l, h.long)) k.steps_to));
    })

failed_here : {N E : Type 0} {f : N → Tree} {a : Point} {t : Task} {b : Point} {x : Visits} → InHand a t b → Visit a.printer.options t b x →
    IsStuck (step_from a.printer.options t b.printer) → Advances {N = N} {E = E} f a (point_at b.printer b.sink x) (Ok turn_result.Failed)
failed_here {f} {a} {t} {b} h one fails =
    let o = a.printer.options in
    let ts : List Task = b.printer.tasks in
    let st = state_at b.printer in
    let out = known b.sink.bytes in
    let count = counted h one in
    from_start f (Ok turn_result.Failed) h
    (record {
      options = h.options;
      grows = h.grows;
      work_falls = tt;
      same_lender = refl;
      bytes = λ is_known. (
        is_known,
        (
          (λ whole limit below old l m. failed (omega (arith, l, h.long))
              (h.inside out whole limit below old l m) fails),
          refl,
        ),
      );
      least = count.least;
      most = count.most;
      rise = rise_then h.rise one.rise;
      at_most = λ plain. at_most_then (h.at_most plain).1 (failed_at_most one.more);
      at_least = tt;
    })

-- it fails
pub advances_failed : {N E : Type 0} (f : N → Tree) {a : Point} {t : Task} {s : Seen} {v x : Visits} (p q : Printer N)
    → InHand a t (point f p s v) → Visit a.printer.options t (point f p s v) x →
    Shows f t.mode step_result.Failed (step_from a.printer.options t (standing f p)) p q →
    Advances {N = N} {E = E} f a (point f q s x) (Ok turn_result.Failed)
advances_failed {N} {E} f {a} {t} {s} {x} p q h one shows =
    let k = stuck_there f t.mode (step_from a.printer.options t (standing f p)) p q shows in
    subst (λ (z : Standing). Advances {N = N} {E = E} f a (point_at z s x) (Ok turn_result.Failed)) (sym k.1) (failed_here h one k.0)

choice_here : {N E : Type 0} {f : N → Tree} {a : Point} {t : Task} {b : Point} {x : Visits} (choice : Choice N) → InHand a t b
    → Visit a.printer.options t b x → RisesBy (each_probe t.tree t.mode) b.visits.probes x.probes
    → IsChoice (step_from a.printer.options t b.printer) choice.indent (f choice.first) (f choice.second)
    → Advances {N = N} {E = E} f a (point_at b.printer b.sink x) (Ok (turn_result.Choice choice))
choice_here {f} {a} {t} {b} {x} choice h one probes wants =
    let i = choice.indent in
    let d = f choice.first in
    let e = f choice.second in
    let o = a.printer.options in
    let ts : List Task = b.printer.tasks in
    let st = state_at b.printer in
    let out = known b.sink.bytes in
    let laid : OneLaid t b.visits x = record { printer = one.least; probes = probes } in
    let count = counted h one in
    from_start f (Ok (turn_result.Choice choice)) h
    (record {
      options = h.options;
      grows = h.grows;
      work_falls = (omega (arith, h.less, choice_work_falls o t ts st i d e wants), h.within);
      same_lender = refl;
      bytes = λ is_known. (
        is_known,
        (
          (λ whole limit below old n m. choice_inside (omega (arith, n, h.long))
              (h.inside out whole limit below old n m) wants),
          refl,
        ),
      );
      least = count.least;
      most = count.most;
      rise = rise_then h.rise one.rise;
      at_most = λ plain.
          let y = h.at_most plain in
          let z = choice_at_most i d e one.more y.0 wants in
          (record { none = omega (arith, y.0.0); pending = y.0.1 }, z.0, z.1, at_most_then y.1 z.2);
      at_least = λ n m. at_least_then (h.at_least n m)
          (subst (λ (z : RenderOptions). CountsAtLeast (tally_above o n (t ∷ ts) st) (tally_choice z n i d e ts st) b.visits x)
          (sym h.options) (choice_at_least o n ts st i d e laid (omega (arith, m, h.long)) wants));
    })

-- two branches are to be chosen from
pub advances_choice : {N E : Type 0} (f : N → Tree) {a : Point} {t : Task} {s : Seen} {v x : Visits} (choice : Choice N) (p q : Printer N)
    → InHand a t (point f p s v) → Visit a.printer.options t (point f p s v) x → RisesBy (each_probe t.tree t.mode) v.probes x.probes
    → Shows f t.mode (step_result.Choice choice.indent choice.first choice.second) (step_from a.printer.options t (standing f p)) p q
    → Advances {N = N} {E = E} f a (point f q s x) (Ok (turn_result.Choice choice))
advances_choice {N} {E} f {a} {t} {s} {x} choice p q h one probes shows =
    let k = choice_there f t.mode choice.indent choice.first choice.second (step_from a.printer.options t (standing f p)) p q shows in
    subst (λ (z : Standing). Advances {N = N} {E = E} f a (point_at z s x) (Ok (turn_result.Choice choice))) (sym k.1)
    (choice_here choice h one probes k.0)

-- ---- Turns that ended in an error

-- what ended in an error has counted no more than the tasks allow
error_at_most : {a : Point} {t : Task} {b : Point} {x : Visits} → InHand a t b → Visit a.printer.options t b x → Plain a.printer
    → CountsAtMost a.printer.tasks [] a.visits x
error_at_most h one plain =
    at_most_all (at_most_then (h.at_most plain).1
    (failed_at_most one.more))

-- memory was refused
pub advances_refused : {N E : Type 0} {f : N → Tree} {a : Point} {t : Task} {b : Point} {q : Standing} {x : Visits} {e : _} → InHand a t b
    → Visit a.printer.options t b x →
    Advances {N = N} {E = E} f a (point_at q b.sink x) (Err (Memory e))
advances_refused {f} {e} h one =
    let count = counted h one in
    from_start f (Err (Memory e)) h
    (record {
      options = tt;
      grows = tt;
      work_falls = tt;
      same_lender = refl;
      bytes = λ is_known. (is_known, (refl, refl));
      least = (rise_then h.rise one.rise).printer;
      most = count.most;
      rise = rise_then h.rise one.rise;
      at_most = λ plain. error_at_most h one plain;
      at_least = tt;
    })

-- the sink failed in its bytes
pub advances_sink_failed : {N E : Type 0} {f : N → Tree} {a : Point} {t : Task} {b : Point} {q : Standing} {s : Seen} {x : Visits}
    {bytes : List ℕ} {e : E} → InHand a t b → Visit a.printer.options t b x →
    Wrote (step_from a.printer.options t b.printer) bytes b.printer q →
    s.lender ≡ b.sink.lender → Refuses b.sink.bytes s.bytes bytes b.sink.failures s.failures
    → Advances {N = N} {E = E} f a (point_at q s x) (Err (Sink e))
advances_sink_failed {f} {a} {t} {b} {q} {s} {bytes} {e} h one k lender refused =
    let o = a.printer.options in
    let ts : List Task = b.printer.tasks in
    let st = state_at b.printer in
    let out = known b.sink.bytes in
    let count = counted h one in
    from_start f (Err (Sink e)) h
    (record {
      options = tt;
      grows = tt;
      work_falls = tt;
      same_lender = lender;
      bytes = λ is_known.
          let y = refused is_known in (
            y.0,
            (
              λ whole limit below old l m.
                  sink_error q.tasks (state_at q) (omega (arith, l, h.long))
                  (h.inside out whole limit below old l m) k.steps_to y.1.0,
              y.1.1,
            ),
          );
      least = count.least;
      most = count.most;
      rise = rise_then h.rise one.rise;
      at_most = λ plain. error_at_most h one plain;
      at_least = tt;
    })
