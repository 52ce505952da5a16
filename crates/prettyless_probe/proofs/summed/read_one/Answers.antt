use Rattle.std.proofs.Common.{ℕ, ◌++◌, ◌+◌, ◌∙◌, ap, subst, sym, true}
use Rattle.prettyless_model.specs.Look.{Look, answer_of}
use Rattle.prettyless_summary.specs.Summary.{has_summary}
use Rattle.prettyless_summary.proofs.Has.{found_begins, found_whole}
use Rattle.prettyless_probe.specs.Probing.{ReadsAs}
use Rattle.prettyless_probe.specs.Stack.{stack_of, tasks_fit}
use Rattle.prettyless_probe.specs.Reads.{read_after, reads_all}
use Rattle.prettyless_probe.proofs.Counting.{if_ok, reads_by_one}
use Rattle.prettyless_probe.proofs.summed.read_one.Goals as goal

pub returns-in-Whole-clause-answer : goal.returns-in-Whole-clause-answer
returns-in-Whole-clause-answer g c ts =
    let f = g.N.Walk.tree in
    let w = c.args.width in
    let line = c.args.line.now in
    let after = stack_of f c.args.stack.now ++ ts in
    let new = c.read_by.new.line in
    subst (λ x. ReadsAs f w c.read_by.result x after new.column new.pending)
    (ap (λ (x : Look). answer_of x (λ e q. tasks_fit w after e q))
    (c.in-Whole.ensures.known c.args.indent w line.column line.pending))
    (c.read_by.ensures.answer after)

pub returns-in-Whole-clause-reads : goal.returns-in-Whole-clause-reads
returns-in-Whole-clause-reads g c next on few =
    let f = g.N.Walk.tree in
    let w = c.args.width in
    let i = c.args.indent in
    let m = c.args.mode in
    let d = f c.args.node in
    let line = c.args.line.now in
    let ts = stack_of f c.args.stack.now in
    let found = found_whole (has_summary d m) c.in-Whole.summary d m (c.in-Whole.ensures.found on few) in
    reads_by_one w i m d ts next line.column line.pending found.0
    ∙ ap (λ (x : Look). 1 + read_after x (reads_all true w ts next))
    (sym (c.in-Whole.ensures.known i w line.column line.pending))
    ∙ ap (λ (n : ℕ). 1 + n) (c.read_by.ensures.reads ts next)

pub returns-in-Begins-clause-reads : goal.returns-in-Begins-clause-reads
returns-in-Begins-clause-reads g c =
    let m = c.args.mode in
    let d = g.N.Walk.tree c.args.node in
    if_ok c.probe_one.result _ _
    (λ a reads next on few. reads true next (found_begins (has_summary d m) _ d m (c.in-Begins.ensures.found on few)))
    c.probe_one.ensures.reads
