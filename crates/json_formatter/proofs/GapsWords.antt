-- What a value and a key begin with: no comma, no colon, and nothing that closes a list.
use Rattle.std.proofs.Common.{◌≡◌, refl, ℕ, Bool, true, false, ◌||◌, List, ◌∷◌, ◌++◌}
use Rattle.json.specs.Word.{head, ends_word}
use Rattle.json_formatter.specs.Documents.{closes, is_json_sign, opens}
use Rattle.json_formatter.specs.Values.{PiecedValue as Value, alone, array, object, pieced as spelled, pieced_items as spelled_items}
use Rattle.json_formatter.specs.Values.{pieced_members as spelled_members, IsFormedPieced as IsFormed}
use Rattle.json_formatter.proofs.ValueTrees.{formed_plain, key_formed}

-- a lexeme that is no sign
pub record IsWord (s : List ℕ) : Type 0 where
  pub opens : opens s ≡ false
  pub closes : closes s ≡ false
  pub comma : is_json_sign 44 s ≡ false
  pub colon : is_json_sign 58 s ≡ false
  pub brace : is_json_sign 123 s ≡ false

neither : (x y : Bool) → (x || y) ≡ false → (x ≡ false) × (y ≡ false)
neither false y e = (refl, e)
neither true y e = absurd (cc)

pub word_formed : (s : List ℕ) → ends_word s ≡ false → IsWord s
word_formed s e =
    let plain = formed_plain s e in
    let mark = neither (is_json_sign 44 s) (is_json_sign 58 s) plain.mark in
    record { opens = plain.opens; closes = plain.closes; comma = mark.0; colon = mark.1; brace = plain.brace }

pub key_word : (k : List ℕ) → head k ≡ 34 → IsWord k
key_word k e = word_formed k (key_formed k e)

-- a value or a key begins
pub record BeginsPlainly (ss : List (List ℕ)) : Type 0 where
  pub first : List ℕ
  pub tail : List (List ℕ)
  pub is : ss ≡ first ∷ tail
  pub closes : closes first ≡ false
  pub comma : is_json_sign 44 first ≡ false
  pub colon : is_json_sign 58 first ≡ false

pub word_begins : (s : List ℕ) (rest : List (List ℕ)) → IsWord s → BeginsPlainly (s ∷ rest)
word_begins s rest w = record { first = s; tail = rest; is = refl; closes = w.closes; comma = w.comma; colon = w.colon }

pub value_begins : (v : Value) → IsFormed v → (rest : List (List ℕ)) → BeginsPlainly (spelled v ++ rest)
value_begins (alone s) h rest = word_begins s rest (word_formed s h)
value_begins (array keeps vs) h rest =
    record { first = _; tail = spelled_items vs ++ rest; is = refl; closes = refl; comma = refl; colon = refl }
value_begins (object keeps ms) h rest =
    record { first = _; tail = spelled_members ms ++ rest; is = refl; closes = refl; comma = refl; colon = refl }
