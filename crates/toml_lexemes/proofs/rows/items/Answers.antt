use Rattle.std.proofs.Common.{◌≡◌, ℕ, false, [], ◌∷◌, refl, codes}
use Rattle.toml_lexemes.specs.Bytes.{ends_word}
use Rattle.text_lexemes.specs.Languages.{cut}
use Rattle.toml_lexemes.specs.Lexemes.{toml_lexemes_of}
use Rattle.toml_lexemes.specs.Shown.{IsWholeLexeme}
use Rattle.toml_lexemes.proofs.WholeLexemes.{sign_is_whole, word_is_whole, comment_is_whole}
use Rattle.toml_lexemes.proofs.rows.items.Goals as goal

-- words of one byte
word : (x : ℕ) → toml_lexemes_of (x ∷ []) ≡ (x ∷ []) ∷ [] → ends_word x ≡ false → IsWholeLexeme (x ∷ [])
word x e f = word_is_whole (x ∷ []) e f

pub returns-clause-key_and_value : goal.returns-clause-key_and_value
unfolding cut
returns-clause-key_and_value c = (
  _,
  (
    word 97 refl refl,
    record { apart = refl; lines = tt; mark = tt },
    (
      sign_is_whole 61 refl,
      record { apart = refl; lines = tt; mark = tt },
      (
        word 49 refl refl,
        record { apart = refl; lines = tt; mark = tt },
        (
          comment_is_whole (codes "# one") refl refl,
          record { apart = refl; lines = tt; mark = tt },
          (word 98 refl refl, record { apart = refl; lines = tt; mark = tt }, refl),
        ),
      ),
    ),
  ),
  refl,
  refl,
)

pub returns-clause-key : goal.returns-clause-key
unfolding cut
returns-clause-key c = (
  _,
  (
    word 97 refl refl,
    record { apart = refl; lines = tt; mark = tt },
    (
      word 46 refl refl,
      record { apart = refl; lines = tt; mark = tt },
      (word_is_whole (codes "b.c") refl refl, record { apart = refl; lines = tt; mark = tt }, refl),
    ),
  ),
  refl,
  refl,
)

pub returns-clause-array : goal.returns-clause-array
unfolding cut
returns-clause-array c = (
  _,
  (
    sign_is_whole 91 refl,
    record { apart = refl; lines = tt; mark = tt },
    (
      word 49 refl refl,
      record { apart = refl; lines = refl; mark = tt },
      (
        sign_is_whole 44 refl,
        record { apart = refl; lines = tt; mark = tt },
        (
          word 50 refl refl,
          record { apart = refl; lines = refl; mark = tt },
          (
            record { comma = refl; apart = refl; inside = tt; no_comma = refl; no_mark = refl },
            (sign_is_whole 93 refl, record { apart = refl; lines = refl; mark = refl }, refl),
          ),
        ),
      ),
    ),
  ),
  refl,
  refl,
)

pub returns-clause-two_lexemes : goal.returns-clause-two_lexemes
unfolding cut
returns-clause-two_lexemes c = λ b h. let e : toml_lexemes_of (codes "a b") ≡ codes "a b" ∷ [] = h.0.alone in cc
