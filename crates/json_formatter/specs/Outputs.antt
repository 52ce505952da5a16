-- Texts on their way to a writer, of which some are held for a while.
use Rattle.std.specs.Prelude.{◌≡◌, ◌<◌, ℕ, List, ◌++◌, length, Option}
use Rattle.std.specs.Io.KnownBytes.{Appends}

-- Of what was held, and the text after it, the writer took a beginning, and the rest is held.
pub record WritesHeld (old new : Option (List ℕ)) (held left text : List ℕ) : Type 0 where
  pub sent : List ℕ
  pub all : held ++ text ≡ sent ++ left
  pub appends : Appends old new sent

-- The writer failed after a beginning of what was held and the text after it, and not all.
pub record WriterFailed (old new : Option (List ℕ)) (held text : List ℕ) : Type 0 where
  pub front : List ℕ
  pub back : List ℕ
  pub all : held ++ text ≡ front ++ back
  pub some : 0 < length back
  pub appends : Appends old new front
