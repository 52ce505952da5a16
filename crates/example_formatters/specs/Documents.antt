-- The document of an expression, as a tree.
use Rattle.std.specs.Prelude.{ℕ, pos, List}
use Rattle.std.specs.Fmt.{decimal}
use Rattle.prettyless.specs.Built.{append, between, group, nest}
use Rattle.prettyless.specs.Counted.{as_string, text}
use Rattle.prettyless.specs.Lines.{line, space}
use Rattle.prettyless.specs.Tree.{Tree}
use Rattle.example_formatters.specs.Expression.{Expression, number, negation, sum, product}
use Rattle.example_formatters.specs.Tokens.{plus_token, times, minus}

-- Two trees in parentheses, in a group: after the operator a line, nested by 2 together with what is right of it.
abbrev pub operation_of : Tree → List ℕ → Tree → Tree
operation_of left operator right =
    group (between 40 41 (append (append (append left space) (text operator)) (nest (pos 2) (append line right))))

-- the tree of an expression
abbrev pub document_of : Expression → Tree
document_of (number n) = as_string (decimal n)
document_of (negation e) = append (text minus) (document_of e)
document_of (sum l r) = operation_of (document_of l) plus_token (document_of r)
document_of (product l r) = operation_of (document_of l) times (document_of r)
