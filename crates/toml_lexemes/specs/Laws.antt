-- What holds of the lexemes of a text.
use Rattle.std.specs.Prelude.{◌≡◌, ◌≢◌, ◌↔◌, ◌==◌, ◌||◌, ℕ, true, false, List, [], ◌∷◌, ◌++◌, map, All}
use Rattle.toml_lexemes.specs.Bytes.{line_feed, carriage_return, hash, is_sign, is_quote, ends_word, head}
use Rattle.toml_lexemes.specs.Lexemes.{toml_lexemes_of}
use Rattle.toml_lexemes.specs.SpacedLexemes.{toml_spaced_lexemes, toml_put_together}
use Rattle.toml_lexemes.specs.Spaced.{IsTomlGap, IsSpacedToml, EndsWithReturn, MayFollow, IsWellSpaced, begins_line_end}

-- texts that are one lexeme each, with gaps around them and after each what may follow it, have themselves as lexemes
abbrev pub GapsKeepLexemes : Type 0
GapsKeepLexemes =
    (text : List ℕ) (ss : List (List ℕ)) → All (λ s. toml_lexemes_of s ≡ s ∷ []) ss → IsWellSpaced text ss → toml_lexemes_of text ≡ ss

-- after each lexeme of a text stands what may follow it
abbrev pub TextsAreWellSpaced : Type 0
TextsAreWellSpaced = (text : List ℕ) → IsWellSpaced text (toml_lexemes_of text)

-- ---- what may follow a lexeme

-- the end of the text may follow any
abbrev pub EndMayFollow : Type 0
EndMayFollow = (s : List ℕ) → MayFollow s []

-- where any byte may follow a lexeme that does not end with CR, a line feed may
abbrev pub LineFeedMayFollow : Type 0
LineFeedMayFollow =
    (s : List ℕ) (x : ℕ) (xs rest : List ℕ) → (EndsWithReturn s → ⊥) → MayFollow s (x ∷ xs) → MayFollow s (line_feed ∷ rest)

-- where a byte that begins no line end may follow, a blank, a sign, a line feed or a comment may
abbrev pub BlankMayFollow : Type 0
BlankMayFollow =
    (s : List ℕ) (x : ℕ) (xs : List ℕ) (y : ℕ) (ys : List ℕ) → begins_line_end (x ∷ xs) ≡ false → ends_word y ≡ true → is_quote y ≡ false
    → MayFollow s (x ∷ xs) → MayFollow s (y ∷ ys)

-- whether bytes may follow is for the first of them to say, if it is not CR
abbrev pub FirstByteDecides : Type 0
FirstByteDecides = (s : List ℕ) (x : ℕ) (xs ys : List ℕ) → x ≢ carriage_return → MayFollow s (x ∷ xs) → MayFollow s (x ∷ ys)

-- after a word may stand what ends a word, and nothing else
abbrev pub WordsAreEnded : Type 0
WordsAreEnded =
    (s r : List ℕ) → toml_lexemes_of s ≡ s ∷ [] → ends_word (head s) ≡ false → MayFollow s r ↔ (ends_word (head r) ≡ true)

-- after a comment may stand a line end or the end of the text, and nothing else; after one that ends with CR no line feed may
abbrev pub CommentsAreEnded : Type 0
CommentsAreEnded =
    (s : List ℕ) (x : ℕ) (xs : List ℕ) → toml_lexemes_of s ≡ s ∷ [] → head s ≡ hash
    → MayFollow s (x ∷ xs) ↔ ((begins_line_end (x ∷ xs) ≡ true) × (EndsWithReturn s → x ≢ line_feed))

-- after a sign and after a line end any bytes may stand
abbrev pub SignsAreEnded : Type 0
SignsAreEnded = (x : ℕ) (r : List ℕ) → (is_sign x || (x == line_feed)) ≡ true → MayFollow (x ∷ []) r
