-- The words of a key: dotted-key = simple-key 1*( ws dot ws simple-key ), where blanks and strings cut it into several words.
use Rattle.std.specs.Prelude.{ℕ, Bool, true, false, cond, ◌==◌, List, Option, Some, None}
use Rattle.std.specs.List.{fold}
use Rattle.toml_grammar.specs.declared.key.KeyPlace.{KeyPlace}
use Rattle.toml_grammar.specs.declared.key.KeyPlace.TheVariants.{Due, Inside, After, Wrong}
use Rattle.toml_lexemes.specs.Bytes.{dot}
use Rattle.toml_grammar.specs.Bytes.{is_bare}

-- what a byte is where a part is due, inside a part, and after one
abbrev pub key_next : KeyPlace → ℕ → KeyPlace
key_next Due x = cond (is_bare x) Inside Wrong
key_next Inside x = cond (x == dot) Due (cond (is_bare x) Inside Wrong)
key_next After x = cond (x == dot) Due Wrong
key_next Wrong x = Wrong

-- whether a part is due next; None where the bytes are no piece of a key
abbrev pub part_due : KeyPlace → Option Bool
part_due Due = Some true
part_due Inside = Some false
part_due After = Some false
part_due Wrong = None

-- Whether a part of the key is due after the word, which stands where one is due, or where none is: after a part. None where
-- it can't stand there. Parts and dots alternate.
unfoldable pub key_word : Bool → List ℕ → Option Bool
key_word due word = part_due (fold key_next (cond due Due After) word)
