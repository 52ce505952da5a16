-- What holds of statements.
use Rattle.std.specs.Prelude.{◌≡◌, ℕ, true, List, Option, Some, None}
use Rattle.std.specs.Option.{is_some}
use Rattle.toml_lexemes.specs.Lexemes.{toml_lexemes_of}
use Rattle.toml_lexemes.specs.StatementLaws.{said}
use Rattle.toml_grammar.specs.Grammar.{is_toml}
use Rattle.toml_syntax.specs.TypedLexemes.{TypedAfterGap}
use Rattle.toml_syntax.specs.Tree.{Statement}
use Rattle.toml_syntax.specs.Reading.{read_statements}
use Rattle.toml_syntax.specs.Spelled.{spelled_statements}
use Rattle.toml_syntax.specs.Formed.{IsClearGap, AreFormed, AreAlone}
use Rattle.toml_syntax.specs.Settled.{Style, settled_statements}
use Rattle.toml_syntax.specs.Content.{content}
use Rattle.toml_syntax.specs.Formatted.{typed_lexemes_in, parsed, formatted}
use Rattle.toml_syntax.specs.Kept.{kept_lexemes, EndsOnce}

-- what is spelled is read again
abbrev pub SpelledAreRead : Type 0
SpelledAreRead = (ss : List Statement) → AreFormed ss → read_statements (spelled_statements ss) ≡ Some ss

-- what is read may be spelled
abbrev pub ReadAreFormed : Type 0
ReadAreFormed = (ps : List TypedAfterGap) (ss : List Statement) → AreAlone ps → read_statements ps ≡ Some ss → AreFormed ss

-- what is laid out stays when it is laid out again
abbrev pub SettledStay : Type 0
SettledStay = (s : Style) (ss : List Statement) → settled_statements s (settled_statements s ss) ≡ settled_statements s ss

-- what is laid out says what it said
abbrev pub SettledSayTheSame : Type 0
SettledSayTheSame = (s : Style) (ss : List Statement) → content (settled_statements s ss) ≡ content ss

-- ---- texts

abbrev pub content_if : Option (List Statement) → Option (List Statement)
content_if None = None
content_if (Some ss) = Some (content ss)

-- a text that is laid out stays when it is laid out again
abbrev pub FormattedStay : Type 0
FormattedStay =
    (s : Style) → IsClearGap s.indent → (text out : List ℕ) → formatted s text ≡ Some out → formatted s out ≡ Some out

-- a text that is laid out says what it said
abbrev pub FormattedSayTheSame : Type 0
FormattedSayTheSame =
    (s : Style) → IsClearGap s.indent → (text out : List ℕ) → formatted s text ≡ Some out
    → content_if (parsed out) ≡ content_if (parsed text)

-- a text is read as statements where it is TOML by the grammar
abbrev pub ParsedAreToml : Type 0
ParsedAreToml = (text : List ℕ) → is_some (parsed text) ≡ is_toml text

-- a text that is laid out is TOML by the grammar
abbrev pub FormattedAreToml : Type 0
FormattedAreToml = (s : Style) → IsClearGap s.indent → (text out : List ℕ) → formatted s text ≡ Some out → is_toml out ≡ true

-- ---- lexemes

-- What is read loses no lexeme and moves none: statements are spelled with the lexemes that were read, in their order, but for commas,
-- line ends and how the words of a key are cut.
abbrev pub ReadKeepLexemes : Type 0
ReadKeepLexemes =
    (ps : List TypedAfterGap) (ss : List Statement) → EndsOnce ps → read_statements ps ≡ Some ss
    → kept_lexemes (spelled_statements ss) ≡ kept_lexemes ps

-- so do the statements of a text
abbrev pub ParsedKeepLexemes : Type 0
ParsedKeepLexemes =
    (text : List ℕ) (ss : List Statement) → parsed text ≡ Some ss
    → kept_lexemes (spelled_statements ss) ≡ kept_lexemes (typed_lexemes_in text)

-- a text that is laid out has the lexemes that it had, but for commas, line ends and the blanks at the end of comments
abbrev pub FormattedKeepLexemes : Type 0
FormattedKeepLexemes =
    (s : Style) → IsClearGap s.indent → (text out : List ℕ) → formatted s text ≡ Some out
    → said (toml_lexemes_of out) ≡ said (toml_lexemes_of text)
