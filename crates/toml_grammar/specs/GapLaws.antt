-- What the grammar sees of the gap before a lexeme, and of how the parts of a key are cut into words.
use Rattle.std.specs.Prelude.{◌≡◌, ℕ, Bool, true, false, List, ◌++◌, Some, Ok}
use Rattle.toml_lexemes.specs.SpacedLexemes.{SpacedToml, after_toml_gap}
use Rattle.toml_grammar.specs.Grammar.{Reading, is_clear, is_line_end, lexeme_step}
use Rattle.toml_grammar.specs.Keys.{key_word}
use Rattle.toml_grammar.specs.Sorts.{Sort, open_array, close_array, word, sort_of}
use Rattle.toml_grammar.specs.declared.next.Next.{Next}
use Rattle.toml_grammar.specs.declared.next.Next.TheVariants.{Header, Closing, AfterDate}

-- whether it matters which blanks the gap before a lexeme of this sort is: between the brackets of a header of an array of tables is
-- none, and before a time one space
abbrev pub sees_gap : Next → Sort → Bool
sees_gap Header open_array = true
sees_gap Closing close_array = true
sees_gap AfterDate word = true
sees_gap n k = false

-- else a lexeme that may stand after one gap may stand after any with no CR, but the one before LF, and leads on as it did
abbrev pub GapsAreUnseen : Type 0
GapsAreUnseen =
    (r : Reading) (p : SpacedToml) (g : List ℕ) (t : Reading) → sees_gap r.next (sort_of p.lexeme) ≡ false
    → is_clear g (is_line_end (sort_of p.lexeme)) ≡ true → lexeme_step r p ≡ Ok t → lexeme_step r (after_toml_gap g p.lexeme) ≡ Ok t

-- two words that may follow each other in a key may stand side by side, as one word
abbrev pub KeyWordsAreJoined : Type 0
KeyWordsAreJoined =
    (due between after : Bool) (s t : List ℕ) → key_word due s ≡ Some between → key_word between t ≡ Some after
    → key_word due (s ++ t) ≡ Some after
