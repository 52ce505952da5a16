use Rattle.std.proofs.Common.{List, arith, drop, length, take, ℕ, ◌+◌, ◌-◌, ◌<◌, ◌≡◌}
use Rattle.std.proofs.lemmas.Grind.{common_steps}
use Rattle.std.proofs.Math.ListN.{get_or}
use Rattle.std.proofs.lemmas.List.{drop_more}
use Rattle.prettyless.specs.Tree.{Tree}
use Rattle.prettyless.specs.Built.{append}
use Rattle.prettyless.specs.Lines.{line}
use Rattle.sexp.specs.declared.expression.SExp.{SExp}
use Rattle.sexp.specs.Value.{values_of}
use Rattle.sexp.specs.View.{value_of, values_in}
use Rattle.sexp.specs.Documents.{sexp_document, interspersed, followed_by}
use Rattle.sexp.proofs.document.+built.Goals as goal

-- the next expression is after the document so far
after_next : (so_far all : Tree) (es : List SExp) (i : ℕ) (d : SExp) → i < length es
    → followed_by so_far (values_of (values_in (drop i es))) ≡ all
    → followed_by (append (append so_far line) (sexp_document (value_of (get_or es i d)))) (values_of (values_in (drop (i + 1) es))) ≡ all
after_next so_far all es i d near h = rw (drop_more es i d near) at h

pub lines-loop-expression-preserved : goal.lines-loop-expression-preserved
lines-loop-expression-preserved g t c =
    let joined = rw (c.in_ok-gap.ensures, c.in_ok-next.ensures) at c.in_ok-all-2.ensures in
    let es = take (length c.args.expressions.now - 1) (drop 1 c.args.expressions.now) in
    rw (joined, c.expression-item.is)
    (after_next (g.P.SexpPlace.tree c.loop-expression.all) (interspersed (values_of (values_in c.args.expressions.now))) es
    c.loop-expression.expression-index c.expression-item.result c.loop-expression-test.true c.loop-expression.invariant)

pub lines-loop-expression-init : goal.lines-loop-expression-init
lines-loop-expression-init g t c = grind (arith, common_steps)

pub lines-returns : goal.lines-returns
lines-returns g t c = grind (arith, common_steps)

pub lines-returns-in_default : goal.lines-returns-in_default
lines-returns-in_default g t c = grind (arith, common_steps)

pub lines-returns-then-is_empty : goal.lines-returns-then-is_empty
lines-returns-then-is_empty g t c = grind (arith, common_steps)
