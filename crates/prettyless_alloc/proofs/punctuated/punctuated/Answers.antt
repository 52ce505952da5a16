use Rattle.std.proofs.Common.{ap, ◌∙◌, map}
use Rattle.prettyless_doc.specs.DocTree.{built}
use Rattle.prettyless_model.specs.Tree.{Tree}
use Rattle.prettyless_trees.specs.Built.{append}
use Rattle.prettyless_alloc.proofs.Lists.{marked_before_last}
use Rattle.prettyless_alloc.proofs.punctuated.punctuated.Goals as goal

-- the documents with punctuation, and then the last
pub returns-clause-ok : goal.returns-clause-ok
returns-clause-ok g c =
    let tree = g.D.Doc.DocPtr.tree in
    let mark = built tree c.args.mark.1 in
    let others = map tree c.pop.new.self.items in
    let each = c.in_ok-marked.ensures.ok ∙ ap (λ (m : Tree). map (λ x. append x m) others) c.in_ok-mark.ensures.ok in
    marked_before_last tree mark _ c.pop.new.self.items c.in_ok-marked.marked.items c.push.new.self.items c.in-Some.last
    c.in-Some.ensures.items each c.in_ok-push.ensures.items
