use Rattle.std.proofs.Common.{ℕ, arith, ◌<◌, ◌≡◌, ◌+◌, length, take, sym, subst, List, get_or}
use Rattle.std.proofs.lemmas.Grind.{common_steps}
use Rattle.std.specs.List.{FoldsTo}
use Rattle.std.proofs.lemmas.Fn.{FoldsTo-push}
use Rattle.std.proofs.lemmas.List.{take_more}
use Rattle.prettyless_doc.specs.DocTree.{built}
use Rattle.prettyless_trees.specs.Built.{appends}
use Rattle.prettyless_build.proofs.arrays.ArrayPretty.pretty.Goals as goal

more : {P A : Type 0} (R : P → A → P → Type 0) (p q u : P) (xs : List A) (i : ℕ) (d : A) → i < length xs → FoldsTo R p (take i xs) q
    → R q (get_or xs i d) u → FoldsTo R p (take (i + 1) xs) u
more R p q u xs i d h f s =
    subst (λ zs. FoldsTo R p zs u) (sym (take_more xs i d h)) (FoldsTo-push R p (take i xs) q (get_or xs i d) u f s)

pub loop-item-preserved : goal.loop-item-preserved
loop-item-preserved g c =
    let all : length c.args.self ≡ g.row.N = c.type_inv.item-items in
    let near : c.loop-item.item-index < length c.args.self = omega arith in
    more (appends g.T.Pretty.becomes) _ (built g.D.Doc.DocPtr.tree c.loop-item.all.1) _ c.args.self c.loop-item.item-index
    c.item-item.result near c.loop-item.invariant c.in_ok-all.ensures.ok

pub returns-clause-ok : goal.returns-clause-ok
returns-clause-ok g c = grind (arith, common_steps)
