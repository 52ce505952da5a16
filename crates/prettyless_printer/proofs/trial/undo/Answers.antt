use Rattle.std.proofs.Common.{◌∙◌, ap, refl, sym}
use Rattle.std.proofs.lemmas.List.{take-map}
use Rattle.prettyless_probe.specs.Stack.{trees}
use Rattle.prettyless_printer.proofs.trial.undo.Goals as goal

-- the queue's trees are cut as its nodes are
pub returns-clause-printer : goal.returns-clause-printer
returns-clause-printer g c =
    let f = g.N.Walk.tree in
    let p = c.args.printer.now in (
      c.cut.ensures.cut,
      ap (trees f) c.rewind.ensures.nodes ∙ sym (take-map f c.args.mark.queue.len p.queue.nodes.items),
      c.rewind.ensures.start,
      refl,
      refl,
      refl,
    )
