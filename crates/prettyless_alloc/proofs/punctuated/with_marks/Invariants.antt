use Rattle.std.proofs.Common.{◌≡◌, map}
use Rattle.prettyless_trees.specs.Built.{append}
use Rattle.prettyless_alloc.proofs.punctuated.with_marks.Given as goal

-- the punctuation after each document that came
abbrev pub invariant-loop-doc : goal.invariant-loop-doc
invariant-loop-doc g l =
    let tree = g.D.Doc.DocPtr.tree in
    map tree l.marked.items ≡ map (λ x. append x (tree l.mark)) (map tree l.yielded)
