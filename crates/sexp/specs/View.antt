-- The value that an `SExp` has.
use Rattle.std.specs.Prelude.{List, map}
use Rattle.sexp.specs.Value.{SexpValue, number, list, values_of}
use Rattle.sexp.specs.declared.expression.SExp.{SExp}
use Rattle.sexp.specs.declared.expression.SExp.TheOpen.{SExp-F}
use Rattle.sexp.specs.declared.expression.SExp.TheFolds.{fold-SExp}

-- one level, with the value of each expression in its place
abbrev pub value_step : SExp-F SexpValue → SexpValue
value_step (SExp-F.Atom n) = number n
value_step (SExp-F.List es) = list (values_of es.items)

-- the value of an expression
abbrev pub value_of : SExp → SexpValue
value_of = fold-SExp SexpValue value_step

-- the values of expressions
abbrev pub values_in : List SExp → List SexpValue
values_in es = map value_of es
