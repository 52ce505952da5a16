-- Texts with gaps around them, and what may follow a lexeme.
use Rattle.std.specs.Prelude.{◌≡◌, ℕ, ◌+◌, true, false, List, [], ◌∷◌, ◌++◌, length, drop, cond, ⊤}
use Rattle.text_lexemes.specs.Languages.{First, alone, begins, Turn, goes_on, ends, stops, Language, lexemes_in}

-- a lexeme after its gap; at the end of the text the last gap, and an empty lexeme
pub record SpacedLexeme : Type 0 where
  pub gap : List ℕ
  pub lexeme : List ℕ

-- the lexeme after the gap
abbrev pub lexeme_after : List ℕ → List ℕ → SpacedLexeme
lexeme_after g s = record { gap = g; lexeme = s }

-- the bytes of gaps and lexemes
abbrev pub joined_text : List SpacedLexeme → List ℕ
joined_text [] = []
joined_text (p ∷ ps) = p.gap ++ (p.lexeme ++ joined_text ps)

-- what holds after a byte of a lexeme, of which these bytes are left: it goes on so, or none is left
abbrev pub OnTurn : {Inner : Type 0} → Turn Inner → List ℕ → (Inner → Type 0) → Type 0
OnTurn (goes_on i) s later = later i
OnTurn ends s later = s ≡ []
OnTurn stops s later = ⊥

-- the same after its first byte
abbrev pub OnFirst : {Inner : Type 0} → First Inner → List ℕ → (Inner → Type 0) → Type 0
OnFirst alone s later = s ≡ []
OnFirst (begins i) s later = later i

module _ {Inner : Type 0} (L : Language Inner) where
  -- a gap: blanks alone
  abbrev pub IsGap : List ℕ → Type 0
  IsGap [] = ⊤
  IsGap (x ∷ xs) = (L.is_blank x ≡ true) × IsGap xs

  -- the blanks that the bytes begin with
  abbrev pub blanks : List ℕ → List ℕ
  blanks [] = []
  blanks (x ∷ xs) = cond (L.is_blank x) (x ∷ blanks xs) []

  -- the lexemes that these bytes are, each after the blanks before it, and then the end
  abbrev pub spaced_as : List ℕ → List (List ℕ) → List SpacedLexeme
  spaced_as bytes [] = lexeme_after bytes [] ∷ []
  spaced_as bytes (s ∷ ss) = lexeme_after (blanks bytes) s ∷ spaced_as (drop (length (blanks bytes) + length s) bytes) ss

  -- the lexemes of a text, each after its gap, and then the end
  abbrev pub spaced_in : List ℕ → List SpacedLexeme
  spaced_in text = spaced_as text (lexemes_in L text)

  -- bytes that are these texts in their order, with gaps before, between and after them, any of which may be empty
  abbrev pub IsSpacedText : List ℕ → List (List ℕ) → Type 0
  IsSpacedText bytes [] = IsGap bytes
  IsSpacedText bytes (s ∷ ss) =
      (g : List ℕ) × (rest : List ℕ) × IsGap g × (bytes ≡ g ++ (s ++ rest)) × IsSpacedText rest ss

  -- ---- what may follow a lexeme

  -- a lexeme that was read so far ends before these bytes: they are none, or their first byte stops it
  abbrev pub StopsBefore : Inner → List ℕ → Type 0
  StopsBefore i [] = ⊤
  StopsBefore i (x ∷ xs) = L.turn i x xs ≡ stops

  -- what is left of a lexeme that was read so far is this, where the bytes come after it
  abbrev pub EndsWithin : Inner → List ℕ → List ℕ → Type 0
  EndsWithin i [] rest = StopsBefore i rest
  EndsWithin i (x ∷ s) rest = OnTurn (L.turn i x (s ++ rest)) s (λ n. EndsWithin n s rest)

  -- the text is a lexeme where the bytes come directly after it: no byte of it stops before its last, and then it is ended, or
  -- stops before the bytes
  abbrev pub MayFollow : List ℕ → List ℕ → Type 0
  MayFollow [] rest = ⊥
  MayFollow (x ∷ s) rest = (L.is_blank x ≡ false) × OnFirst (L.first x) s (λ i. EndsWithin i s rest)

  -- spaced, and each text is a lexeme before what comes after it
  abbrev pub IsWellSpaced : List ℕ → List (List ℕ) → Type 0
  IsWellSpaced bytes [] = IsGap bytes
  IsWellSpaced bytes (s ∷ ss) =
      (g : List ℕ) × (rest : List ℕ) × IsGap g × (bytes ≡ g ++ (s ++ rest)) × MayFollow s rest × IsWellSpaced rest ss

  -- A lexeme is one too where the text ends after it: what comes later does not make its last bytes a part of it. So it is in each
  -- language in which what a byte is to a lexeme does not hang on the bytes after it.
  abbrev pub IsLocal : Type 0
  IsLocal = (i : Inner) (s rest : List ℕ) → EndsWithin i s rest → EndsWithin i s []
