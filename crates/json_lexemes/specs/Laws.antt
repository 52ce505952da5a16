-- What holds of the lexemes of a text.
use Rattle.std.specs.Prelude.{◌≡◌, ◌≢◌, ℕ, List, [], ◌++◌, Some, All}
use Rattle.json.specs.Json.{Json}
use Rattle.json_validity.specs.Document.{document}
use Rattle.text_lexemes.specs.Languages.{lexemes_in}
use Rattle.json_lexemes.specs.JsonLanguage.{json_language}
use Rattle.json_lexemes.specs.Lexemes.{lexemes}
use Rattle.json_lexemes.specs.Spaced.{IsGap, IsSpacedJson}
use Rattle.json_lexemes.specs.SpacedLexemes.{AreGaps, lexemes_of, put_together, spaced_lexemes}

-- the lexemes of a text are those that the language has
abbrev pub LexemesOfLanguage : Type 0
LexemesOfLanguage = (text : List ℕ) → lexemes text ≡ lexemes_in json_language text

-- a text is its lexemes with gaps around them
abbrev pub TextsAreSpacedLexemes : Type 0
TextsAreSpacedLexemes = (text : List ℕ) → IsSpacedJson text (lexemes text)

-- no lexeme is empty
abbrev pub LexemesAreNotEmpty : Type 0
LexemesAreNotEmpty = (text : List ℕ) → All (λ s. s ≢ []) (lexemes text)

-- lexemes with their gaps are the text, but for the gap at its end
abbrev pub TextsAreJoined : Type 0
TextsAreJoined = (text : List ℕ) → (last : List ℕ) × IsGap last × (text ≡ put_together (spaced_lexemes text) ++ last)

-- these gaps are spaces alone
abbrev pub GapsAreSpaces : Type 0
GapsAreSpaces = (text : List ℕ) → AreGaps (spaced_lexemes text)

-- without them the lexemes are those of the text
abbrev pub SpacedAreLexemes : Type 0
SpacedAreLexemes = (text : List ℕ) → lexemes_of (spaced_lexemes text) ≡ lexemes text

-- the lexemes of a text that is a value, with gaps around them, are the same value and have the same lexemes
abbrev pub GapsKeepReadings : Type 0
GapsKeepReadings =
    (a b : List ℕ) (j : Json) → document a ≡ Some j → IsSpacedJson b (lexemes a) → (document b ≡ Some j) × (lexemes b ≡ lexemes a)
