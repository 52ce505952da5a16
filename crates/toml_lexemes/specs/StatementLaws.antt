-- What holds of the statements of a text.
use Rattle.std.specs.Prelude.{◌≡◌, ℕ, Bool, true, false, not, List, [], ◌∷◌, ◌++◌, All, filter}
use Rattle.std.specs.List.{flat_map}
use Rattle.prettyless_model.specs.Shows.{Item, AreShown}
use Rattle.toml_lexemes.specs.Bytes as byte
use Rattle.toml_lexemes.specs.Lexemes.{toml_lexemes_of}
use Rattle.toml_lexemes.specs.Spaced.{IsWellSpaced}
use Rattle.toml_lexemes.specs.Statements.{Role, a_comma, a_comment, a_line_end, a_word, role, word_parts, trimmed}
use Rattle.toml_lexemes.specs.Statements.{none_collected, with_lexemes, statements_of, statements}
use Rattle.toml_lexemes.specs.Shown.{Stage, first_stage, AreRead}
use Rattle.toml_lexemes.specs.Sound.{IsClosedString, AreSound}

-- ---- what is shown

-- bytes that show items have the statements that these are read as, where no optional text is the last of them
abbrev pub ShownAsRead : Type 0
ShownAsRead =
    (bytes : List ℕ) (items : List Item) (b : Stage) → AreRead first_stage items b → b.marked ≡ false → AreShown bytes items
    → statements bytes ≡ statements_of b.collected

-- the lexemes of a text may be shown, where its strings are closed
abbrev pub ClosedTextsAreSound : Type 0
ClosedTextsAreSound = (text : List ℕ) → All IsClosedString (toml_lexemes_of text) → AreSound (toml_lexemes_of text)

-- ---- what the statements have of a text

-- the same lexemes with any gaps around them, and after each what may follow it, are the same statements
abbrev pub GapsKeepStatements : Type 0
GapsKeepStatements = (text other : List ℕ) → IsWellSpaced other (toml_lexemes_of text) → statements other ≡ statements text

-- line ends alone are no statement
abbrev pub LineEndsSayNothing : Type 0
LineEndsSayNothing = (text : List ℕ) → All (λ s. s ≡ byte.line_feed ∷ []) (toml_lexemes_of text) → statements text ≡ []

-- as many brackets are closed in a text as are opened
abbrev pub IsBalanced : List ℕ → Type 0
IsBalanced text = (with_lexemes none_collected (toml_lexemes_of text)).depth ≡ 0

-- a line end outside of brackets divides the statements
abbrev pub LineEndsDivide : Type 0
LineEndsDivide =
    (text before after : List ℕ) → IsBalanced before → toml_lexemes_of text ≡ toml_lexemes_of before ++ (byte.line_feed ∷ [])
    ∷ toml_lexemes_of after
    → statements text ≡ statements before ++ statements after

abbrev pub is_comma_role : Role → Bool
is_comma_role a_comma = true
is_comma_role r = false

-- a lexeme that is a comma
abbrev pub is_comma : List ℕ → Bool
is_comma s = is_comma_role (role s)

-- lexemes in front of others, if they are said by a statement: of a comment it is what is left without the blanks at its end, and of a
-- word its parts
abbrev pub said_first : Role → List ℕ → List (List ℕ) → List (List ℕ)
said_first a_comma s ss = ss
said_first a_line_end s ss = ss
said_first a_comment s ss = trimmed s ∷ ss
said_first a_word s ss = word_parts s ++ ss
said_first r s ss = s ∷ ss

-- the lexemes but the commas and the line ends
abbrev pub said : List (List ℕ) → List (List ℕ)
said [] = []
said (s ∷ ss) = said_first (role s) s (said ss)

-- nothing but line ends and commas is left out or moved: the other lexemes are in the statements, in their order
abbrev pub LexemesAreSaid : Type 0
LexemesAreSaid =
    (text : List ℕ) → filter (λ s. not (is_comma s)) (flat_map (λ line. line) (statements text)) ≡ said (toml_lexemes_of text)
