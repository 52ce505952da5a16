-- Keys that are spelled are read again.
use Rattle.std.proofs.Common.{◌≡◌, refl, sym, ◌∙◌, ap, ℕ, Bool, true, false, cond, List, ◌++◌, append_assoc}
use Rattle.std.specs.Bool.{⊤}
use Rattle.toml_grammar.specs.Keys.{key_word}
use Rattle.toml_grammar.specs.Strings.{is_key_string}
use Rattle.toml_syntax.specs.TypedLexemes.{TypedAfterGap, word, string, is_clear_gap}
use Rattle.toml_syntax.specs.Tree.{Key, no_parts, with_word, with_string}
use Rattle.toml_syntax.specs.Reading.{KeyOf, Now, in_key, refuses, joined_word, word_in_key, clear_turn, read_from, then_statements}
use Rattle.toml_syntax.specs.Reading.{key_turn_of}
use Rattle.toml_syntax.specs.Spelled.{part_gap, spelled_key}
use Rattle.toml_syntax.specs.Formed.{IsClearGap, EndsWithNoWord, IsFormedKey}
use Rattle.toml_syntax.proofs.Leading.{ReadsOver, ◌▸◌, reads_none, reads_to, reads_one, reads_if}

clear_part : (g : List ℕ) (k : Key) → IsClearGap g → IsClearGap (part_gap g k)
clear_part g no_parts h = h
clear_part g (with_word k w) h = (tt, refl)
clear_part g (with_string k s) h = (tt, refl)

joined_is : (k : Key) (w : List ℕ) → EndsWithNoWord k → joined_word k w ≡ with_word k w
joined_is no_parts w h = refl
joined_is (with_word k v) w h = absurd h
joined_is (with_string k s) w h = refl

-- a key, from its first part on
pub key_read : (o : KeyOf) (k : Key) (due : Bool) (g : List ℕ) → IsClearGap g → IsFormedKey k due
    → ReadsOver (in_key o no_parts true) (spelled_key g k) (in_key o k due)
key_read o no_parts due g c h = reads_to (in_key o no_parts due) (reads_none (in_key o no_parts true)) (ap (in_key o no_parts) (sym h))
key_read o (with_word k w) due g c h =
    key_read o k h.1 g c h.2
    ▸ reads_one (in_key o k h.1) (in_key o (with_word k w) due) (part_gap g k) (word w) (clear_part g k c).1
    (ap (λ j. word_in_key o j (key_word h.1 w)) (joined_is k w h.0) ∙ ap (word_in_key o (with_word k w)) h.3)
key_read o (with_string k s) due g c h =
    reads_to (in_key o (with_string k s) due)
    (key_read o k true g c h.0
    ▸ reads_if (in_key o k true) (in_key o (with_string k s) false) (part_gap g k) (string s) (is_key_string s)
    (clear_part g k c).1 refl h.1)
    (ap (in_key o (with_string k s)) (sym h.2))

-- where the first part of a key may come
pub record BeginsKey (n : Now) (o : KeyOf) (g : List ℕ) : Type 0 where
  pub with_words : (w : List ℕ) → clear_turn n g (word w) ≡ key_turn_of o g (word w)
  pub with_strings : (s : List ℕ) → clear_turn n g (string s) ≡ key_turn_of o g (string s)

abbrev HasPart : Key → Type 0
HasPart no_parts = ⊥
HasPart (with_word k w) = ⊤
HasPart (with_string k s) = ⊤

begins_longer : (n m : Now) (a b rest : List TypedAfterGap) → ((r : List TypedAfterGap) → read_from n (a ++ r) ≡ read_from m (a ++ r))
    → read_from n ((a ++ b) ++ rest) ≡ read_from m ((a ++ b) ++ rest)
begins_longer n m a b rest h =
    ap (read_from n) (append_assoc a b rest) ∙ h (b ++ rest) ∙ ap (read_from m) (sym (append_assoc a b rest))

begins_part : (n : Now) (o : KeyOf) (g : List ℕ) → BeginsKey n o g → (k : Key) → HasPart k → (rest : List TypedAfterGap)
    → read_from n (spelled_key g k ++ rest) ≡ read_from (in_key o no_parts true) (spelled_key g k ++ rest)
begins_part n o g b no_parts h rest = absurd h
begins_part n o g b (with_word no_parts w) h rest =
    ap (λ t. then_statements (cond (is_clear_gap g false) t refuses) (λ n. read_from n rest)) (b.with_words w)
begins_part n o g b (with_word (with_word k v) w) h rest =
    begins_longer n (in_key o no_parts true) (spelled_key g (with_word k v)) _ rest (begins_part n o g b (with_word k v) tt)
begins_part n o g b (with_word (with_string k v) w) h rest =
    begins_longer n (in_key o no_parts true) (spelled_key g (with_string k v)) _ rest (begins_part n o g b (with_string k v) tt)
begins_part n o g b (with_string no_parts s) h rest =
    ap (λ t. then_statements (cond (is_clear_gap g false) t refuses) (λ n. read_from n rest)) (b.with_strings s)
begins_part n o g b (with_string (with_word k v) s) h rest =
    begins_longer n (in_key o no_parts true) (spelled_key g (with_word k v)) _ rest (begins_part n o g b (with_word k v) tt)
begins_part n o g b (with_string (with_string k v) s) h rest =
    begins_longer n (in_key o no_parts true) (spelled_key g (with_string k v)) _ rest (begins_part n o g b (with_string k v) tt)

formed_part : (k : Key) → IsFormedKey k false → HasPart k
formed_part no_parts h = absurd (cc)
formed_part (with_word k w) h = tt
formed_part (with_string k s) h = tt

-- a whole key, where its first part may come
pub whole_key_read : (n : Now) (o : KeyOf) (k : Key) (g : List ℕ) → BeginsKey n o g → IsClearGap g → IsFormedKey k false
    → ReadsOver n (spelled_key g k) (in_key o k false)
whole_key_read n o k g b c h =
    record { on = λ rest. begins_part n o g b k (formed_part k h) rest ∙ (key_read o k false g c h).on rest }
