-- What a step of the code says of the readings before and after it.
use Rattle.std.specs.Prelude.{◌≡◌, List, map, Option, Some, None}
use Rattle.json_grammar.specs.Readings.{JsonReading}
use Rattle.json_grammar.specs.declared.expected.Expected.{Expected}
use Rattle.json_grammar.specs.declared.next.Bracket.{Bracket}
use Rattle.json_grammar.specs.declared.next.Open.{Open}
use Rattle.json_grammar.specs.declared.next.Reading.{Reading}

-- the brackets, without where they stand
abbrev pub brackets_of : List Open → List Bracket
brackets_of opens = map (λ o. o.bracket) opens

-- the reading that the code has
abbrev pub json_reading_of : Reading → JsonReading
json_reading_of r = record { open_brackets = brackets_of r.«open».items; next = r.next }

-- this is the reading after the step; or there is none, something that may be was expected, and the reading is as it was
abbrev pub Stepped : JsonReading → Option JsonReading → (Expected → Type 0) → Option Expected → JsonReading → Type 0
Stepped old step MayBe None new = step ≡ Some new
Stepped old step MayBe (Some e) new = (step ≡ None) × MayBe e × (new ≡ old)
