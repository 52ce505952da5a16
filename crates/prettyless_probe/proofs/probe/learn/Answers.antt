use Rattle.std.proofs.Common.{IsTrue, ap, sym, ◌∙◌}
use Rattle.prettyless_summary.specs.Summary.{has_summary}
use Rattle.prettyless_summary.proofs.Has.{found_before}
use Rattle.prettyless_probe.specs.Reads.{is_answer}
use Rattle.prettyless_probe.proofs.probe.learn.Goals as goal

pub returns-in-Answer : goal.returns-in-Answer
returns-in-Answer g c i =
    let d = g.N.Walk.tree c.args.node.now in
    let m = c.args.mode in
    let line = c.args.line in
    let begin = c.in-Begins.summary in
    let on : IsTrue g.N.Walk.HAS_SUMMARIES = cc in (
      on,
      record {
        answers = c.in-Begins.ensures.known i c.args.width line.column line.pending c.in-Answer.answer (sym c.in-Answer.ensures);
        before = λ few.
            let sum = found_before (has_summary d m) begin d m (c.in-Begins.ensures.found on few) in
            ap is_answer (sym (sum i c.args.width line.column line.pending) ∙ sym c.in-Answer.ensures);
      },
    )
