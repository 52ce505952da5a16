use Rattle.std.proofs.Common.{rules}
use Rattle.std.proofs.lemmas.Fn.{FoldsTo-push}
use Rattle.prettyless_alloc.proofs.concat.append_all.Goals as goal

pub loop-item-preserved : goal.loop-item-preserved
loop-item-preserved g c =
    (search rules, search rules, FoldsTo-push _ _ _ _ _ _ c.loop-item.invariant.2 c.in_ok-all.ensures.ok)
