use Rattle.std.proofs.Common.{◌≡◌, drop}
use Rattle.sexp.specs.Value.{values_of}
use Rattle.sexp.specs.View.{values_in}
use Rattle.sexp.specs.Documents.{interspersed, followed_by}
use Rattle.sexp.proofs.document.+built.Given as goal

-- the document so far, followed by the expressions that are left, is that of all
abbrev pub invariant-lines-loop-expression : goal.invariant-lines-loop-expression
invariant-lines-loop-expression g l = followed_by (g.P.SexpPlace.tree l.all) (values_of (values_in (drop l.expression-index l.rest)))
    ≡ interspersed (values_of (values_in l.expressions))
