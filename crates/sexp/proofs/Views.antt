-- The value of an expression, one level opened.
use Rattle.std.proofs.Common.{◌≡◌, ℕ, ap, sym, ◌∙◌}
use Rattle.std.specs.Global.{Vec}
use Rattle.sexp.specs.Value.{SexpValue, number, list, values_of}
use Rattle.sexp.specs.View.{value_step, value_of, values_in}
use Rattle.sexp.specs.declared.expression.SExp.{SExp}
use Rattle.sexp.specs.declared.expression.SExp.TheOpen.{SExp-F}
use Rattle.sexp.specs.declared.expression.SExp.TheFolds.{fold-roll-SExp}
use Rattle.sexp.specs.declared.expression.SExp.TheVariants as shapes

pub value_of-Atom : (n : ℕ) → value_of (shapes.Atom n) ≡ number n
value_of-Atom n = ap value_of (sym (shapes.rolls-Atom n)) ∙ fold-roll-SExp SexpValue value_step (SExp-F.Atom n)

pub value_of-List : (es : Vec SExp) → value_of (shapes.List es) ≡ list (values_of (values_in es.items))
value_of-List es = ap value_of (sym (shapes.rolls-List es)) ∙ fold-roll-SExp SexpValue value_step (SExp-F.List es)
