-- What is read of the lexemes of a text, up to one of them.
use Rattle.std.proofs.Common.{◌≡◌, ℕ, ◌-◌, true, false, List, [], ◌∷◌, ◌++◌, length, Result, Ok, Err, refl, ap, ◌∙◌}
use Rattle.std.proofs.Common.{append-nil}
use Rattle.std.specs.Prelude.{is_ok}
use Rattle.toml_lexemes.specs.SpacedLexemes.{SpacedToml}
use Rattle.toml_grammar.specs.Grammar.{Reading, first_reading, lexeme_step, then_lexemes, reading_after, is_toml}
use Rattle.toml_grammar.specs.declared.expected.Expected.{Expected}
use Rattle.toml_grammar.proofs.Cuts.{IsCut, cut_after, cut_next}

and_then_twice : (m : Result Reading Expected) (ps qs : List SpacedToml)
    → ((r : Reading) → reading_after r (ps ++ qs) ≡ then_lexemes (reading_after r ps) (λ t. reading_after t qs))
    → then_lexemes m (λ t. reading_after t (ps ++ qs)) ≡ then_lexemes (then_lexemes m (λ t. reading_after t ps)) (λ t. reading_after t qs)
and_then_twice (Ok r) ps qs h = h r
and_then_twice (Err e) ps qs h = refl

pub read-append : (ps qs : List SpacedToml) (r : Reading)
    → reading_after r (ps ++ qs) ≡ then_lexemes (reading_after r ps) (λ t. reading_after t qs)
read-append [] qs r = refl
read-append (p ∷ ps) qs r = and_then_twice (lexeme_step r p) ps qs (λ t. read-append ps qs t)

-- some lexemes have been read, which lead to the reading; the others are left, with so many bytes
pub record IsRead (text : List ℕ) (others : List SpacedToml) (reading : Reading) (left : ℕ) : Type 0 where
  pub before : List SpacedToml
  pub at : IsCut text before others left
  pub reads : reading_after first_reading before ≡ Ok reading

module _ (text : List ℕ) (items : List SpacedToml) (reading : Reading) (left : ℕ) (h : IsRead text items reading left)
    (p : SpacedToml) (others : List SpacedToml) (is : items ≡ p ∷ others) where
  pub one_more : (next : Reading) → lexeme_step reading p ≡ Ok next → IsRead text others next (left - length p.gap - length p.lexeme)
  one_more next e =
      record {
        before = h.before ++ p ∷ [];
        at = cut_after text h.before items left h.at p others is;
        reads = read-append h.before (p ∷ []) first_reading ∙ ap (λ m. then_lexemes m (λ t. reading_after t (p ∷ []))) h.reads
            ∙ ap (λ m. then_lexemes m (λ t. reading_after t [])) e;
      }

  pub stops_text : (e : Expected) → lexeme_step reading p ≡ Err e → is_toml text ≡ false
  unfolding is_toml
  stops_text e stops =
      ap (λ ps. is_ok (reading_after first_reading ps)) (cut_next text h.before items left h.at p others is)
      ∙ ap is_ok (read-append h.before (p ∷ others) first_reading)
      ∙ ap (λ m. is_ok (then_lexemes m (λ t. reading_after t (p ∷ others)))) h.reads
      ∙ ap (λ m. is_ok (then_lexemes m (λ t. reading_after t others))) stops

-- where no lexeme is left, the text is TOML
pub all_read : (text : List ℕ) (items : List SpacedToml) (reading : Reading) (left : ℕ) → IsRead text items reading left → items ≡ []
    → is_toml text ≡ true
unfolding is_toml
all_read text items reading left h is =
    ap (λ ps. is_ok (reading_after first_reading ps)) (h.at.cut ∙ ap (λ l. h.before ++ l) is ∙ append-nil h.before) ∙ ap is_ok h.reads
