use Rattle.std.proofs.Common.{rules, ap, ◌∙◌}
use Rattle.std.proofs.lemmas.Fn.{FoldsTo-push}
use Rattle.prettyless_model.specs.Tree.{Tree}
use Rattle.prettyless_doc.specs.DocTree.{built}
use Rattle.prettyless_trees.specs.Built.{append}
use Rattle.prettyless_alloc.proofs.intersperse.append_placed.Goals as goal

pub loop-item-preserved : goal.loop-item-preserved
loop-item-preserved g c =
    let tree = built g.D.Doc.DocPtr.tree in
    let gap = g.D.Doc.DocPtr.tree c.args.gap in
    let before : Tree = g.D.Doc.DocPtr.tree c.loop-item.all in
    let last : Tree = tree c.loop-item.last.1 in
    let made = c.in_ok-all.ensures.ok ∙ ap (λ (k : Tree). append (append before k) last) c.in_ok-copy.ensures.ok in (
      search rules,
      search rules,
      c.in_ok-all.ensures.some,
      FoldsTo-push _ _ _ _ _ _ c.loop-item.invariant.3 (
        tree c.in_ok-next.next.1,
        c.in_ok-next.ensures.ok,
        ap (λ (a : Tree). append (append a gap) (tree c.in_ok-next.next.1)) made,
      ),
    )
