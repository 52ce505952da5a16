-- The lexemes that statements keep of a text.
use Rattle.std.specs.Prelude.{◌≡◌, List, [], ◌∷◌, ◌++◌, map, ⊤}
use Rattle.toml_lexemes.specs.Statements.{word_parts}
use Rattle.toml_syntax.specs.TypedLexemes.{TomlLexeme, comma, line_end, word, text_end, TypedAfterGap}

-- A lexeme in front of others, unless it is a comma, a line end or the end of the text. A word is cut at its dots, so that a key has the
-- same parts with blanks around its dots as without them.
abbrev pub with_kept : TomlLexeme → List TomlLexeme → List TomlLexeme
with_kept comma ls = ls
with_kept line_end ls = ls
with_kept text_end ls = ls
with_kept (word w) ls = map word (word_parts w) ++ ls
with_kept l ls = l ∷ ls

-- the lexemes in their order, but commas, line ends and the end of the text
abbrev pub kept_lexemes : List TypedAfterGap → List TomlLexeme
kept_lexemes [] = []
kept_lexemes (p ∷ ps) = with_kept p.lexeme (kept_lexemes ps)

-- nothing comes after the end of the text
abbrev pub EndsOnce : List TypedAfterGap → Type 0
EndsOnce [] = ⊤
EndsOnce (p ∷ ps) = (p.lexeme ≡ text_end → ps ≡ []) × EndsOnce ps
