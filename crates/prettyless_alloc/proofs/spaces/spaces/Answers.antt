use Rattle.std.proofs.Common.{rules, subst, arith}
use Rattle.std.proofs.lemmas.Result.{IfErr-weaker}
use Rattle.prettyless_doc.specs.BuildErrors.{IsMemory}
use Rattle.prettyless_doc.specs.DocTree.{built}
use Rattle.prettyless_trees.specs.Built.{IsNotNil}
use Rattle.prettyless_alloc.proofs.Gaps.{hundreds_of_some, more_than_hundred}
use Rattle.prettyless_alloc.proofs.spaces.spaces.Goals as goal

pub returns-in_err-all-clause-err : goal.returns-in_err-all-clause-err
returns-in_err-all-clause-err g c =
    IfErr-weaker c.from_residual.result (λ e. IsMemory e × IsNotNil (built g.D.Doc.DocPtr.tree c.loop.all.1)) _
    (λ e h. (
      h.0,
      more_than_hundred c.args.count c.loop.counter
          (hundreds_of_some c.loop.counter (subst IsNotNil c.loop.invariant h.1)) (omega arith),
    ))
    (search rules)

pub gap-requires-2 : goal.gap-requires-2
gap-requires-2 g c κs = (search rules, omega arith)
