-- What a clause sees of a lexeme.
use Rattle.std.specs.Prelude.{◌≡◌, ◌≢◌, ℕ, ◌+◌, ◌<◌, ◌≤◌, false, List, [], ◌∷◌, length, drop, Option, MatchOption, ⊤}
use Rattle.std.specs.Str.{IsCharBoundary}
use Rattle.json.specs.Ascii as ascii
use Rattle.json.specs.Word.{head, ends_word}
use Rattle.json.specs.Lex.{between}
use Rattle.json_lexemes.specs.Lexemes.{cut}
use Rattle.json_lexemes.specs.declared.lexeme.Lexeme.{Lexeme}
use Rattle.json_lexemes.specs.declared.lexeme.Lexeme.TheVariants.{OpenObject, CloseObject, OpenArray, CloseArray, Comma, Colon, String}
use Rattle.json_lexemes.specs.declared.lexeme.Lexeme.TheVariants.{Word}

-- how a lexeme is spelled
abbrev pub text_of : Lexeme → List ℕ
text_of OpenObject = ascii.open_brace ∷ []
text_of CloseObject = ascii.close_brace ∷ []
text_of OpenArray = ascii.open_bracket ∷ []
text_of CloseArray = ascii.close_bracket ∷ []
text_of Comma = ascii.comma ∷ []
text_of Colon = ascii.colon ∷ []
text_of (String s) = s.now
text_of (Word s) = s.now

-- a string begins with a quote; a word begins neither with a quote nor with what ends a word, so it is not empty
abbrev pub IsNamed : Lexeme → Type 0
IsNamed OpenObject = ⊤
IsNamed CloseObject = ⊤
IsNamed OpenArray = ⊤
IsNamed CloseArray = ⊤
IsNamed Comma = ⊤
IsNamed Colon = ⊤
IsNamed (String s) = head s.now ≡ ascii.quote
IsNamed (Word s) = (head s.now ≢ ascii.quote) × (ends_word s.now ≡ false)

-- of these texts the first is returned, as a lexeme, and the others are left; or none was left
abbrev pub YieldsLexeme : List (List ℕ) → Option Lexeme → List (List ℕ) → Type 0
YieldsLexeme old r new = MatchOption r ((old ≡ []) × (new ≡ [])) (λ l. (old ≡ text_of l ∷ new) × IsNamed l)

-- the first lexeme from a place of the text on, after which the others come
pub record IsFirst (text : List ℕ) (place : ℕ) (lexeme : List ℕ) : Type 0 where
  pub some : 0 < length lexeme
  pub within : place + length lexeme ≤ length text
  pub boundary : IsCharBoundary text (place + length lexeme)
  pub cuts : cut between (drop place text) ≡ lexeme ∷ cut between (drop (place + length lexeme) text)
