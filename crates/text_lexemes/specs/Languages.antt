-- Languages whose lexers read a text from the left, and what the lexemes of a text are then.
use Rattle.std.specs.Prelude.{ℕ, List, [], ◌∷◌, Bool, cond, ◌≡◌}

-- what a byte that is no blank is between two lexemes: a lexeme alone, or the first byte of one
pub data First (Inner : Type 0) : Type 0 where
  alone : First Inner
  begins : Inner → First Inner

-- what a byte is to the lexeme that is being read: one of its bytes, its last byte, or the first byte after it
pub data Turn (Inner : Type 0) : Type 0 where
  goes_on : Inner → Turn Inner
  ends : Turn Inner
  stops : Turn Inner

-- what is being read
pub data LexerMode (Inner : Type 0) : Type 0 where
  -- between two lexemes
  between : LexerMode Inner
  -- in a lexeme
  within : Inner → LexerMode Inner

-- A language, by where in a lexeme a byte may stand, as far as its lexer knows.
pub record Language (Inner : Type 0) : Type 0 where
  -- a blank: between two lexemes it is in none
  pub is_blank : ℕ → Bool
  -- any other byte between two lexemes
  pub first : ℕ → First Inner
  -- a byte in a lexeme, before these bytes
  pub turn : Inner → ℕ → List ℕ → Turn Inner

-- one byte more in front of the lexeme that comes first
abbrev pub lengthened : ℕ → List (List ℕ) → List (List ℕ)
lengthened x [] = (x ∷ []) ∷ []
lengthened x (s ∷ ss) = (x ∷ s) ∷ ss

-- the byte x, after which k goes on
abbrev pub cut_first : {Inner : Type 0} → First Inner → ℕ → (LexerMode Inner → List (List ℕ)) → List (List ℕ)
cut_first alone x k = (x ∷ []) ∷ k between
cut_first (begins i) x k = lengthened x (k (within i))

-- the byte x after the beginning of a lexeme, which stops where the byte is not one of it
abbrev pub cut_turn : {Inner : Type 0} → Turn Inner → List (List ℕ) → ℕ → (LexerMode Inner → List (List ℕ)) → List (List ℕ)
cut_turn (goes_on i) stopped x k = lengthened x (k (within i))
cut_turn ends stopped x k = (x ∷ []) ∷ k between
cut_turn stops stopped x k = [] ∷ stopped

module _ {Inner : Type 0} (L : Language Inner) where
  -- the byte x between two lexemes
  abbrev pub cut_between : ℕ → (LexerMode Inner → List (List ℕ)) → List (List ℕ)
  cut_between x k = cond (L.is_blank x) (k between) (cut_first (L.first x) x k)

  -- what is left of the lexeme that is being read, where one is, and then the lexemes after it
  unfoldable pub cut : LexerMode Inner → List ℕ → List (List ℕ)
  cut between [] = []
  cut (within i) [] = [] ∷ []
  cut between (x ∷ xs) = cut_between x (λ m. cut m xs)
  cut (within i) (x ∷ xs) = cut_turn (L.turn i x xs) (cut_between x (λ m. cut m xs)) x (λ m. cut m xs)

  -- the lexemes of a text, in their order
  abbrev pub lexemes_in : List ℕ → List (List ℕ)
  lexemes_in text = cut between text

  -- the text is one lexeme
  abbrev pub IsLexeme : List ℕ → Type 0
  IsLexeme s = lexemes_in s ≡ s ∷ []
