-- The expression that a `Term` is.
use Rattle.example_formatters.specs.Expression.{Expression, number, negation, sum, product}
use Rattle.example_formatters.specs.declared.term.Term.{Term}
use Rattle.example_formatters.specs.declared.term.Term.TheVariants.{Number, Negate', Sum', Product'}

-- a term without its boxes
abbrev pub expression_of : Term → Expression
expression_of (Number n) = number n
expression_of (Negate' p t) = negation (expression_of t)
expression_of (Sum' p l q r) = sum (expression_of l) (expression_of r)
expression_of (Product' p l q r) = product (expression_of l) (expression_of r)
