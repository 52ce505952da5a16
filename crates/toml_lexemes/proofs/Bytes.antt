-- What is known of the bytes that have a meaning.
use Rattle.std.proofs.Common.{◌≡◌, ℕ, ◌<◌, Bool, true, ◌==◌, ◌||◌, ◌⊎◌, inl, inr, arith}
use Rattle.std.proofs.lemmas.Bool.{eqb-true, or_cases}
use Rattle.toml_lexemes.specs.Bytes.{is_sign, is_blank, is_quote, ends_word}
use Rattle.toml_lexemes.specs.Lexemes.{StringKind, basic, literal, quote_mark}

-- what follows from each of two tests follows from either
pub or_both : (P : Type 0) (p q : Bool) → (p ≡ true → P) → (q ≡ true → P) → (p || q) ≡ true → P
or_both P p q f g h = go (or_cases p q h)
  where
    go : (p ≡ true) ⊎ (q ≡ true) → P
    go (inl e) = f e
    go (inr e) = g e

pub small : (x c : ℕ) → c < 128 → (x == c) ≡ true → x < 128
small x c h e = omega (arith, eqb-true x c e)

pub sign_ascii : (x : ℕ) → is_sign x ≡ true → x < 128
sign_ascii x =
    or_both _ _ _ (or_both _ _ _ (or_both _ _ _ (or_both _ _ _ (or_both _ _ _ (small x 91 (omega arith)) (small x 93 (omega arith)))
    (small x 123 (omega arith))) (small x 125 (omega arith))) (small x 44 (omega arith))) (small x 61 (omega arith))

pub blank_ascii : (x : ℕ) → is_blank x ≡ true → x < 128
blank_ascii x = or_both _ _ _ (or_both _ _ _ (small x 32 (omega arith)) (small x 9 (omega arith))) (small x 13 (omega arith))

quote_ascii : (x : ℕ) → is_quote x ≡ true → x < 128
quote_ascii x = or_both _ _ _ (small x 34 (omega arith)) (small x 39 (omega arith))

pub ends_ascii : (x : ℕ) → ends_word x ≡ true → x < 128
ends_ascii x =
    or_both _ _ _ (or_both _ _ _ (or_both _ _ _ (or_both _ _ _ (sign_ascii x) (blank_ascii x)) (quote_ascii x)) (small x 10 (omega arith)))
    (small x 35 (omega arith))

pub mark_ascii : (k : StringKind) (x : ℕ) → (x == quote_mark k) ≡ true → x < 128
mark_ascii basic x = small x 34 (omega arith)
mark_ascii literal x = small x 39 (omega arith)
