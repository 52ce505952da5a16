-- What a clause sees of a lexeme.
use Rattle.std.specs.Prelude.{◌≡◌, ℕ, true, false, List, [], ◌∷◌, Option, MatchOption, ⊤}
use Rattle.toml_lexemes.specs.Bytes as byte
use Rattle.toml_lexemes.specs.declared.lexeme.Lexeme.{Lexeme}
use Rattle.toml_lexemes.specs.declared.lexeme.Lexeme.TheVariants.{OpenArray, CloseArray, OpenTable, CloseTable, Comma, Equals, LineEnd}
use Rattle.toml_lexemes.specs.declared.lexeme.Lexeme.TheVariants.{Comment, String, Word}

-- how a lexeme is spelled
abbrev pub toml_text_of : Lexeme → List ℕ
toml_text_of OpenArray = byte.open_bracket ∷ []
toml_text_of CloseArray = byte.close_bracket ∷ []
toml_text_of OpenTable = byte.open_brace ∷ []
toml_text_of CloseTable = byte.close_brace ∷ []
toml_text_of Comma = byte.comma ∷ []
toml_text_of Equals = byte.equals ∷ []
toml_text_of LineEnd = byte.line_feed ∷ []
toml_text_of (Comment s) = s.now
toml_text_of (String s) = s.now
toml_text_of (Word s) = s.now

-- a comment begins with `#`, and a string with a quote; a word begins with nothing that ends a word, so it is not empty
abbrev pub HasTomlKind : Lexeme → Type 0
HasTomlKind OpenArray = ⊤
HasTomlKind CloseArray = ⊤
HasTomlKind OpenTable = ⊤
HasTomlKind CloseTable = ⊤
HasTomlKind Comma = ⊤
HasTomlKind Equals = ⊤
HasTomlKind LineEnd = ⊤
HasTomlKind (Comment s) = byte.head s.now ≡ byte.hash
HasTomlKind (String s) = byte.is_quote (byte.head s.now) ≡ true
HasTomlKind (Word s) = byte.ends_word (byte.head s.now) ≡ false

-- of these texts the first is returned, as a lexeme, and the others are left; or none was left
abbrev pub YieldsTomlLexeme : List (List ℕ) → Option Lexeme → List (List ℕ) → Type 0
YieldsTomlLexeme old r new = MatchOption r ((old ≡ []) × (new ≡ [])) (λ l. (old ≡ toml_text_of l ∷ new) × HasTomlKind l)
