-- The bytes of a piece.
use Rattle.std.specs.Prelude.{ℕ, List, [], ◌++◌}
use Rattle.prettyless_model.specs.Spaces.{spaces}
use Rattle.prettyless_step.specs.declared.piece.Piece.{Piece}
use Rattle.prettyless_step.specs.declared.piece.Piece.TheVariants.{Nothing, Text, Line}

-- the bytes of a piece: the gap before a text, and the indent after a line ending
abbrev pub piece_bytes : Piece → List ℕ
piece_bytes Nothing = []
piece_bytes (Text gap text) = spaces gap ++ text.now
piece_bytes (Line ending indent) = ending.now ++ spaces indent
