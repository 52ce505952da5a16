-- How a node sets the indent of the document in it.
use Rattle.std.specs.Prelude.{ℕ}
use Rattle.prettyless_model.specs.Column.{nested, prospective}
use Rattle.prettyless_model.specs.declared.column.Column.{Column}
use Rattle.prettyless_model.specs.declared.kind.Indenting.{Indenting}
use Rattle.prettyless_model.specs.declared.kind.Indenting.TheVariants.{Nest, DedentToRoot, Align}

-- the indent that is set, from the one around the node and the column at which it stands
abbrev pub indent_by : Indenting → ℕ → Column → ℕ
indent_by (Nest k) i c = nested i k
indent_by DedentToRoot i c = 0
indent_by Align i c = prospective c
