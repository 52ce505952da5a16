use Rattle.std.proofs.Common.{◌∙◌}
use Rattle.prettyless_build.proofs.Chains.{chain_more}
use Rattle.prettyless_build.proofs.copies.copies.Goals as goal

pub loop-preserved : goal.loop-preserved
loop-preserved g c =
    let one = g.D.Doc.DocPtr.tree c.args.original.now in
    chain_more c.loop.counter one _ _ _ c.in_ok-all.ensures.ok c.loop.invariant
    (c.from_doc-copy.ensures.tree ∙ c.in_ok-clone_ptr-2.ensures.ok)
