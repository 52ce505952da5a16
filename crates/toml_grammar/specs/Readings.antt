-- What a clause sees of a reading.
use Rattle.toml_grammar.specs.Grammar as spec
use Rattle.toml_grammar.specs.declared.reading.Reading.{Reading}

-- the reading that the code has
abbrev pub reading_of : Reading → spec.Reading
reading_of r = record { open_brackets = r.«open».items; next = r.next }
