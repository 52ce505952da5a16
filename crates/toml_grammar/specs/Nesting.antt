-- How many brackets are in one another in a text.
use Rattle.std.specs.Prelude.{◌≡◌, ℕ, ◌+◌, ◌-◌, ◌||◌, nat_lt, Bool, true, false, List, [], ◌∷◌, ◌++◌, length, map, Option}
use Rattle.toml_lexemes.specs.Lexemes.{toml_lexemes_of}
use Rattle.toml_lexemes.specs.SpacedLexemes.{SpacedToml, toml_spaced_lexemes, toml_put_together}
use Rattle.toml_lexemes.specs.SpacedLexer.{text_if}
use Rattle.toml_lexemes.specs.declared.lexeme.Lexeme.{Lexeme}
use Rattle.toml_grammar.specs.Sorts.{Sort, open_array, close_array, open_table, close_table, sort_of}

-- how many brackets may be in one another where a text is laid out
abbrev pub max_brackets : ℕ
max_brackets = 128

-- how many brackets are open after a lexeme of this sort, where n are open before it
abbrev pub depth_after : Sort → ℕ → ℕ
depth_after open_array n = n + 1
depth_after close_array n = n - 1
depth_after open_table n = n + 1
depth_after close_table n = n - 1
depth_after s n = n

-- whether more brackets than `max_brackets` are open after one of these lexemes, where n are open before them
abbrev pub nest_too_deep : ℕ → List (List ℕ) → Bool
nest_too_deep n [] = false
nest_too_deep n (s ∷ ss) =
    nat_lt max_brackets (depth_after (sort_of s) n) || nest_too_deep (depth_after (sort_of s) n) ss

-- whether more brackets than `max_brackets` are in one another in a text
abbrev pub is_too_deep : List ℕ → Bool
is_too_deep text = nest_too_deep 0 (toml_lexemes_of text)

-- how lexemes are spelled
abbrev pub spellings : List SpacedToml → List (List ℕ)
spellings ps = map (λ p. p.lexeme) ps

-- The first bracket of a text that is too deep: before it no more brackets than `max_brackets` are in one another, and with it
-- more are. It has this offset, which is in bytes.
pub record IsTooDeepAt (text : List ℕ) (offset : ℕ) (bracket : Option Lexeme) : Type 0 where
  pub before : List SpacedToml
  pub found : SpacedToml
  pub after : List SpacedToml
  pub cut : toml_spaced_lexemes text ≡ before ++ found ∷ after
  pub shallow : nest_too_deep 0 (spellings before) ≡ false
  pub deep : nest_too_deep 0 (spellings (before ++ found ∷ [])) ≡ true
  pub lexeme : text_if bracket ≡ found.lexeme
  pub place : offset ≡ length (toml_put_together before) + length found.gap
