use Rattle.std.proofs.Common.{rules, sym, subst, inr, Result, Ok, Err, IfErr}
use Rattle.std.proofs.lemmas.Result.{IfErr-weaker}
use Rattle.prettyless_doc.specs.BuildErrors.{IsMemory}
use Rattle.prettyless_doc.specs.DocTree.{built}
use Rattle.prettyless_model.specs.Tree.{Tree}
use Rattle.prettyless_doc.specs.declared.doc.BuildDoc.{BuildDoc}
use Rattle.prettyless_text.specs.declared.text.BuildError.{BuildError}
use Rattle.prettyless_build.proofs.Appended.{something}
use Rattle.prettyless_placed.specs.Placed.{Places}
use Rattle.prettyless_placed.proofs.placed.AnyPlacedDocOf.append.Goals as goal

-- where the other call fails only by a refusal of memory, so does this one
memory_alone : {B T : Type 0} (made : Result B BuildError) (doc : B → BuildDoc T) (tree : T → Tree) (result : Result T BuildError)
    → Places made doc tree result → IfErr made IsMemory → IfErr result IsMemory
memory_alone (Ok b) doc tree result h k = h.ok.err
memory_alone (Err e) doc tree result h k = subst (λ r. IfErr r IsMemory) (sym h.err) k

pub returns-then-is_nil-clause-ok : goal.returns-then-is_nil-clause-ok
returns-then-is_nil-clause-ok g c = search rules depth 1

pub returns-clause-err : goal.returns-clause-err
returns-clause-err g c =
    let tree = g.T.DocPtr.tree in
    let that : Tree = built tree c.in_ok-that.that.1 in
    let some = something c.doc.ensures c.is_nil.ensures c.if-is_nil.false in
    let joined = IfErr-weaker c.join.result _ IsMemory (λ e h. h.0) c.join.ensures.err in
    IfErr-weaker c.placed.result IsMemory _ (λ e memory. inr (memory, (that, c.in_ok-that.ensures.ok, some)))
    (memory_alone c.join.result (λ b. b.1) tree c.placed.result c.placed.ensures joined)
