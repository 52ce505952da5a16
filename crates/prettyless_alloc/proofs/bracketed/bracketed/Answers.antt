use Rattle.std.proofs.Common.{rules, ap, sym, ◌∙◌, map, ◌<◌, ◌≡◌, length, ℤ, w64, arith}
use Rattle.std.proofs.lemmas.Int.{to_z-of_z}
use Rattle.std.proofs.lemmas.List.{length-map}
use Rattle.std.proofs.lemmas.Result.{IfOk-weaker}
use Rattle.prettyless_trees.specs.Counted as counted
use Rattle.prettyless_doc.specs.DocTree.{built}
use Rattle.prettyless_trees.specs.Lines.{line, line_}
use Rattle.prettyless_model.specs.Tree.{Tree}
use Rattle.prettyless_trees.specs.Built.{append, group, nest}
use Rattle.prettyless_trees.specs.Words.{intersperse}
use Rattle.prettyless_alloc.proofs.Lists.{bracketed_some}
use Rattle.prettyless_alloc.proofs.bracketed.bracketed.Goals as goal

-- where there are documents
pub returns : goal.returns
returns g c =
    let tree = g.D.Doc.DocPtr.tree in
    let seen = built tree in
    let docs = map tree c.args.docs.items in
    let long : length docs ≡ length c.args.docs.items = length-map c.args.docs.items tree in
    let some : 0 < length docs = grind (arith, c.is_empty.ensures, c.if-is_empty.ensures, long) in
    let nested = c.in_ok-inside.ensures.ok ∙ ap (λ (k : ℤ). append (nest k (append line_ (intersperse line docs))) line_)
    (to_z-of_z w64 c.args.indent (search rules)) in
    let front = c.in_ok-join.ensures.ok ∙ ap (λ (x : Tree). append x (seen c.in_ok-inside.inside.1)) c.in_ok-before.ensures.ok
    ∙ ap (append (counted.text c.args.before.now)) nested in
    let whole = c.in_ok-join-2.ensures.ok ∙ ap (append (seen c.in_ok-join.field-0.1)) c.in_ok-after.ensures.ok
    ∙ ap (λ (x : Tree). append x (counted.text c.args.after.now)) front in
    record {
      ok = IfOk-weaker c.group.result _ _
          (λ b made. made ∙ ap group whole
          ∙ sym (bracketed_some (counted.text c.args.before.now) (counted.text c.args.after.now) c.args.indent docs some))
          c.group.ensures.ok;
      err = c.group.ensures.err;
    }
