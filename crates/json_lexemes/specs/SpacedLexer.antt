-- The model of a lexer that returns the gaps too.
use Rattle.std.specs.Prelude.{◌≡◌, ℕ, ◌+◌, ◌<◌, ◌≤◌, false, List, [], ◌∷◌, length, drop, slice_index, ⊤}
use Rattle.std.specs.Str.{IsUtf8, IsCharBoundary}
use Rattle.json.specs.Lex.{between}
use Rattle.json.specs.Word.{head, is_space}
use Rattle.json_lexemes.specs.Lexemes.{cut}
use Rattle.json_lexemes.specs.SpacedLexemes.{Spaced, first_spaces, spaced_lexemes}
use Rattle.json_lexemes.specs.declared.spaced_lexer.SpacedLexer.TheInside.{Inside}

-- the lexemes that are left, each after its gap
abbrev pub spaced_view : Inside → List Spaced
spaced_view a = spaced_lexemes (drop a.from a.text.now)

-- one is left, and this gap is before it, or none is left
abbrev pub IsFirstGap : List Spaced → List ℕ → Type 0
IsFirstGap [] gap = ⊤
IsFirstGap (p ∷ ps) gap = p.gap ≡ gap

-- one is left, and begins with this byte
abbrev pub IsFirstByte : List Spaced → ℕ → Type 0
IsFirstByte [] byte = ⊥
IsFirstByte (p ∷ ps) byte = head p.lexeme ≡ byte

-- nothing but spaces is between the places, and none comes after them; the text may be cut where the next lexeme begins
pub record IsJsonSpacedLexer (a : Inside) : Type 0 where
  pub utf8 : IsUtf8 a.text.now
  pub boundary : IsCharBoundary a.text.now a.place
  pub within : a.place ≤ length a.text.now
  pub spaces : a.place ≡ a.from + length (first_spaces (drop a.from a.text.now))
  pub passed : cut between (drop a.place a.text.now) ≡ cut between (drop a.from a.text.now)
  pub stops : a.place < length a.text.now → is_space (slice_index a.text.now a.place) ≡ false
