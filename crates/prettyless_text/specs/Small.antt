-- What a contract sees of a text that is in the node itself.
use Rattle.std.specs.Prelude.{ℕ, List}

-- the bytes of the text, and those of the room that is left, of which no clause says anything
pub record Small : Type 0 where
  pub bytes : List ℕ
  pub spare : List ℕ
