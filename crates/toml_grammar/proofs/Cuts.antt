-- A text cut before one of its lexemes.
use Rattle.std.proofs.Common.{◌≡◌, ℕ, ◌+◌, ◌-◌, ◌≤◌, List, [], ◌∷◌, ◌++◌, length, refl, sym, ap, ◌∙◌, arith}
use Rattle.std.proofs.Common.{append-nil, append_assoc, length-append}
use Rattle.toml_lexemes.specs.SpacedLexemes.{SpacedToml, toml_spaced_lexemes, toml_put_together}
use Rattle.toml_lexemes.proofs.Joined.{joined_spaced}

pub joined-append : (ps qs : List SpacedToml) → toml_put_together (ps ++ qs) ≡ toml_put_together ps ++ toml_put_together qs
joined-append [] qs = refl
joined-append (p ∷ ps) qs =
    ap (λ l. p.gap ++ (p.lexeme ++ l)) (joined-append ps qs)
    ∙ ap (λ l. p.gap ++ l) (sym (append_assoc p.lexeme (toml_put_together ps) (toml_put_together qs)))
    ∙ sym (append_assoc p.gap (p.lexeme ++ toml_put_together ps) (toml_put_together qs))

-- these lexemes come first, and then the others, with so many bytes
pub record IsCut (text : List ℕ) (before others : List SpacedToml) (left : ℕ) : Type 0 where
  pub cut : toml_spaced_lexemes text ≡ before ++ others
  pub bytes : length (toml_put_together before) + left ≡ length text

module _ (text : List ℕ) (before items : List SpacedToml) (left : ℕ) (h : IsCut text before items left)
    (p : SpacedToml) (others : List SpacedToml) (is : items ≡ p ∷ others) where
  -- the next lexeme comes after those
  pub cut_next : toml_spaced_lexemes text ≡ before ++ p ∷ others
  cut_next = h.cut ∙ ap (λ l. before ++ l) is

  -- it is within the text
  pub within : length p.gap + length p.lexeme ≤ left
  within =
      let all = ap length (sym (joined_spaced text) ∙ ap toml_put_together cut_next ∙ joined-append before (p ∷ others)) in
      omega (
        arith,
        all,
        h.bytes,
        length-append (toml_put_together before) (p.gap ++ (p.lexeme ++ toml_put_together others)),
        length-append p.gap (p.lexeme ++ toml_put_together others),
        length-append p.lexeme (toml_put_together others),
      )

  -- the bytes with it
  more_bytes : length (toml_put_together (before ++ p ∷ [])) ≡ length (toml_put_together before) + (length p.gap + length p.lexeme)
  more_bytes =
      ap length (joined-append before (p ∷ [])) ∙ length-append (toml_put_together before) (p.gap ++ (p.lexeme ++ []))
      ∙ ap (λ n. length (toml_put_together before) + n) (length-append p.gap (p.lexeme ++ [])
      ∙ ap (λ l. length p.gap + length l) (append-nil p.lexeme))

  -- the text is cut after it
  pub cut_after : IsCut text (before ++ p ∷ []) others (left - length p.gap - length p.lexeme)
  cut_after = record { cut = cut_next ∙ sym (append_assoc before (p ∷ []) others); bytes = omega (arith, h.bytes, more_bytes, within) }
