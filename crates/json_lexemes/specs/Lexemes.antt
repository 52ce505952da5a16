-- The lexemes of a JSON text: its brackets, commas and colons, its strings with their quotes, and its words.
use Rattle.std.specs.Prelude.{ℕ, List, [], ◌∷◌}
use Rattle.text_lexemes.specs.Languages.{lengthened}
use Rattle.json.specs.Lex.{Mode, between, in_word, in_string, in_escape, Class, quote, backslash, operator, space, other, class}

-- what the end of the text leaves: nothing, or the end of the lexeme that it cuts short
abbrev pub cut_end : Mode → List (List ℕ)
cut_end between = []
cut_end in_word = [] ∷ []
cut_end in_string = [] ∷ []
cut_end in_escape = [] ∷ []

-- the byte x of class c: a quote or the first byte of a word begins a lexeme, which k goes on with
abbrev pub cut_byte : Mode → Class → ℕ → (Mode → List (List ℕ)) → List (List ℕ)
cut_byte between quote x k = lengthened x (k in_string)
cut_byte between backslash x k = lengthened x (k in_word)
cut_byte between operator x k = (x ∷ []) ∷ k between
cut_byte between space x k = k between
cut_byte between other x k = lengthened x (k in_word)
cut_byte in_word quote x k = lengthened x (k in_word)
cut_byte in_word backslash x k = lengthened x (k in_word)
cut_byte in_word operator x k = [] ∷ ((x ∷ []) ∷ k between)
cut_byte in_word space x k = [] ∷ k between
cut_byte in_word other x k = lengthened x (k in_word)
cut_byte in_string quote x k = (x ∷ []) ∷ k between
cut_byte in_string backslash x k = lengthened x (k in_escape)
cut_byte in_string operator x k = lengthened x (k in_string)
cut_byte in_string space x k = lengthened x (k in_string)
cut_byte in_string other x k = lengthened x (k in_string)
cut_byte in_escape c x k = lengthened x (k in_string)

-- what is left of the lexeme that is being read, where one is, and then the lexemes after it
unfoldable pub cut : Mode → List ℕ → List (List ℕ)
cut m [] = cut_end m
cut m (x ∷ xs) = cut_byte m (class x) x (λ next. cut next xs)

-- the lexemes of a text, in their order
abbrev pub lexemes : List ℕ → List (List ℕ)
lexemes text = cut between text
