-- The trees of a space, and of lines that are laid flat or broken.
use Rattle.std.specs.Prelude.{[], ◌∷◌}
use Rattle.prettyless_model.specs.Tree.{Tree, Nil, Text, HardLine, BreakOrFlat}

-- one space
abbrev pub space : Tree
space = Text (32 ∷ [])

-- a line break, or one space where lines are flat
abbrev pub line : Tree
line = BreakOrFlat HardLine space

-- a line break, or nothing where lines are flat
abbrev pub line_ : Tree
line_ = BreakOrFlat HardLine Nil
