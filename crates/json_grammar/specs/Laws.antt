-- What holds of the grammar of a text.
use Rattle.std.specs.Prelude.{◌≡◌, ◌↔◌, ℕ, ◌-◌, true, List, ◌∷◌, ◌++◌, take, Some, None, IsSome}
use Rattle.json.specs.Ascii as ascii
use Rattle.json.specs.Json.{Json}
use Rattle.json.specs.Word.{head}
use Rattle.json_validity.specs.Document.{document}
use Rattle.json_lexemes.specs.Lexemes.{lexemes}
use Rattle.json_lexemes.specs.SpacedLexemes.{lexemes_of}
use Rattle.json_grammar.specs.Faults.{StopsAtEnd, StopsAtLexeme, expects_string}
use Rattle.json_grammar.specs.Grammar.{SpellValue}
use Rattle.json_grammar.specs.Readings.{JsonReading, first_json_reading, json_reading_after}
use Rattle.json_grammar.specs.Strings.{IsStringFault}
use Rattle.json_grammar.specs.declared.expected.Expected.{Expected}
use Rattle.json_grammar.specs.declared.expected.Expected.TheVariants as want

-- each lexeme of the text may stand where it does, and its value is at its end
abbrev pub IsWhole : List ℕ → Type 0
IsWhole text = (r : JsonReading) × (json_reading_after first_json_reading (lexemes text) ≡ Some r) × (r.next ≡ want.End)

-- just such texts are JSON
abbrev pub WholeTextsAreJson : Type 0
WholeTextsAreJson = (text : List ℕ) → IsSome (document text) ↔ IsWhole text

-- where a text stops being JSON at a lexeme, no text is JSON that begins with the lexemes before that one, and with that one
abbrev pub NoneGoesOn : Type 0
NoneGoesOn =
    (text : List ℕ) (offset : ℕ) (e : Expected) (stop : StopsAtLexeme text offset e) (other : List ℕ) (later : List (List ℕ))
    → lexemes other ≡ lexemes_of stop.reached.front ++ stop.found.lexeme ∷ later → document other ≡ None

-- bytes with which a text begins that is JSON
abbrev pub BeginsJson : List ℕ → Type 0
BeginsJson bytes = (rest : List ℕ) × IsSome (document (bytes ++ rest))

-- such are the bytes before the lexeme where a text stops being JSON
abbrev pub FrontsBeginJson : Type 0
FrontsBeginJson = (text : List ℕ) (offset : ℕ) (e : Expected) (stop : StopsAtLexeme text offset e)
    → BeginsJson (take (offset - stop.within) text)

-- in a string that may come, so are those before the place where it stops
abbrev pub StringsBeginJson : Type 0
StringsBeginJson =
    (text : List ℕ) (offset : ℕ) (e : Expected) (stop : StopsAtLexeme text offset e)
    → IsStringFault stop.found.lexeme stop.within e → head stop.found.lexeme ≡ ascii.quote
    → expects_string stop.reading.next ≡ true → BeginsJson (take offset text)

-- and all bytes of a text that stops at its end
abbrev pub TextsBeginJson : Type 0
TextsBeginJson = (text : List ℕ) (offset : ℕ) (e : Expected) → StopsAtEnd text offset e → BeginsJson text

-- a text that stops at its end is not JSON
abbrev pub EndsTooSoon : Type 0
EndsTooSoon = (text : List ℕ) (offset : ℕ) (e : Expected) → StopsAtEnd text offset e → document text ≡ None

-- a string stops being one of JSON at one place, and there is one thing that was expected
abbrev pub StringsStopOnce : Type 0
StringsStopOnce =
    (s : List ℕ) (d other : ℕ) (e f : Expected) → IsStringFault s d e → IsStringFault s other f → (d ≡ other) × (e ≡ f)

-- the lexemes of a text that is a value spell a value
abbrev pub LexemesSpellValues : Type 0
LexemesSpellValues = (text : List ℕ) (j : Json) → document text ≡ Some j → SpellValue (lexemes text)
