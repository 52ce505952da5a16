use Rattle.std.proofs.Common.{List, true, false, ◌≡◌, ◌++◌, ◌∙◌, ap, append-nil, subst, sym}
use Rattle.prettyless_model.specs.Column.{gap}
use Rattle.prettyless_model.specs.Layout.{State, flushed, some_pending}
use Rattle.prettyless_model.specs.Spaces.{spaces}
use Rattle.prettyless_sink.specs.Sink.{Accepts, Refuses}
use Rattle.prettyless_model.specs.declared.mode.Mode.TheVariants.{Break}
use Rattle.prettyless_probe.specs.Stack.{tasks}
use Rattle.prettyless_step.specs.Printing.{state_of}
use Rattle.prettyless_model.specs.Tree.{Tree}
use Rattle.prettyless_printer.specs.Points.{standing, state_at}
use Rattle.prettyless_printer.proofs.Standings.{state_stands}
use Rattle.prettyless_printer.proofs.Forgetting.{pending_same}
use Rattle.prettyless_printer.proofs.DueQueues.{forgets_laid}
use Rattle.prettyless_printer.proofs.run.flush_end.Goals as goal

true-false : true ≡ false → ⊥
true-false h = cc

pub returns-in-Err-write_gap_and_text-clause-flushes : goal.returns-in-Err-write_gap_and_text-clause-flushes
returns-in-Err-write_gap_and_text-clause-flushes g c =
    let known = g.W.Render.bytes in
    let failures = g.W.Render.failures in
    let old = c.args.out.now in
    let new = c.write_gap_and_text.new.out in
    record {
      options = tt;
      stack = tt;
      state = tt;
      same_lender = c.write_gap_and_text.ensures.same_lender;
      bytes = subst (λ text. Refuses (known old) (known new) text (failures old) (failures new))
          (append-nil (spaces (gap c.args.printer.now.column))) (rw c.in-Ok.ensures.gap at c.in-Err-write_gap_and_text.ensures.err);
    }

pub returns-in-Ok-write_gap_and_text-clause-flushes : goal.returns-in-Ok-write_gap_and_text-clause-flushes
returns-in-Ok-write_gap_and_text-clause-flushes g c =
    let known = g.W.Render.bytes in
    let failures = g.W.Render.failures in
    let old = c.args.out.now in
    let new = c.write_gap_and_text.new.out in
    let f = g.N.Walk.tree in
    let p = c.args.printer.now in
    let before = state_stands f p in
    let put = tasks 0 Break (state_of f p).pending in
    record {
      options = c.in-Ok.ensures.options;
      stack = c.in-Ok.ensures.stack ∙ ap (λ ts. put ++ ts) c.requires.none ∙ append-nil put
          ∙ ap (λ (x : State). tasks 0 Break x.pending) before;
      state = ap (λ (ds : List Tree). record (state_at (standing f c.take_pending.new.printer)) { pending = ds })
          (pending_same f c.take_pending.new.printer.queue c.forget_laid.new.self c.forget_laid.ensures.pending)
          ∙ sym (state_stands f c.take_pending.new.printer) ∙ c.in-Ok.ensures.state ∙ ap (flushed p.options) before;
      same_lender = c.write_gap_and_text.ensures.same_lender;
      bytes = subst (λ text. Accepts (known old) (known new) text (failures old) (failures new))
          (append-nil (spaces (gap c.args.printer.now.column))) (rw c.in-Ok.ensures.gap at c.in-Ok-write_gap_and_text.ensures.ok);
    }

-- what was pending is laid, and forgotten
pub returns-in-Ok-write_gap_and_text-clause-start : goal.returns-in-Ok-write_gap_and_text-clause-start
returns-in-Ok-write_gap_and_text-clause-start g c =
    let f = g.N.Walk.tree in
    let none = ap (λ (u : State). some_pending u.pending) c.in-Ok.ensures.state in
    forgets_laid f c.take_pending.new.printer c.forget_laid.new.self (λ some. absurd (true-false (sym some ∙ none)))
    c.forget_laid.ensures.start c.forget_laid.ensures.forgotten
