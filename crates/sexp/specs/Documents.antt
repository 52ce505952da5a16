-- The document of a value, as a tree.
use Rattle.std.specs.Prelude.{pos, [], ◌∷◌}
use Rattle.std.specs.Fmt.{decimal}
use Rattle.prettyless.specs.Tree.{Tree, Nil, Text}
use Rattle.prettyless.specs.Built.{append, nest, group}
use Rattle.prettyless.specs.Lines.{line}
use Rattle.sexp.specs.Value.{SexpValue, Values, number, list, none, first}
use Rattle.sexp.specs.Grammar.{opening, closing}

abbrev mutual
  -- a number in decimal, or the values of a list between parentheses: nested by 1 and grouped
  pub sexp_document : SexpValue → Tree
  sexp_document (number n) = Text (decimal n)
  sexp_document (list vs) = append (append (Text (opening ∷ [])) (group (nest (pos 1) (interspersed vs)))) (Text (closing ∷ []))

  -- the values with a line between two
  pub interspersed : Values → Tree
  interspersed none = Nil
  interspersed (first v vs) = followed_by (sexp_document v) vs

  -- this tree, and after it a line and a value for each
  pub followed_by : Tree → Values → Tree
  followed_by front none = front
  followed_by front (first v vs) = followed_by (append (append front line) (sexp_document v)) vs
