-- Lexemes that lead a reader from one place to another, whatever follows them.
use Rattle.std.proofs.Common.{◌≡◌, refl, ◌∙◌, ap, ℕ, Bool, true, cond, List, [], ◌∷◌, ◌++◌, append_assoc}
use Rattle.toml_syntax.specs.TypedLexemes.{TomlLexeme, TypedAfterGap, typed_after_gap, is_line_end_lexeme, is_clear_gap}
use Rattle.toml_syntax.specs.Reading.{Now, more, more_if, refuses, clear_turn, read_from, then_statements}

pub record ReadsOver (n : Now) (a : List TypedAfterGap) (m : Now) : Type 0 where
  pub on : (rest : List TypedAfterGap) → read_from n (a ++ rest) ≡ read_from m rest

-- one after the other
infixr 4 ◌▸◌
pub ◌▸◌ : {n m k : Now} {a b : List TypedAfterGap} → ReadsOver n a m → ReadsOver m b k → ReadsOver n (a ++ b) k
◌▸◌ {n} {m} {k} {a} {b} f g = record { on = λ rest. ap (read_from n) (append_assoc a b rest) ∙ f.on (b ++ rest) ∙ g.on rest }

pub reads_none : (n : Now) → ReadsOver n [] n
reads_none n = record { on = λ rest. refl }

-- the same place
pub reads_to : {n m : Now} {a : List TypedAfterGap} → (k : Now) → ReadsOver n a m → m ≡ k → ReadsOver n a k
reads_to {n} {m} {a} k f h = record { on = λ rest. f.on rest ∙ ap (λ x. read_from x rest) h }

-- a lexeme after a gap that may stand before it
pub reads_one : (n m : Now) (g : List ℕ) (l : TomlLexeme) → is_clear_gap g (is_line_end_lexeme l) ≡ true → clear_turn n g l ≡ more m
    → ReadsOver n (typed_after_gap g l ∷ []) m
reads_one n m g l c h =
    record {
      on = λ rest.
          ap (λ x. then_statements (cond x (clear_turn n g l) refuses) (λ k. read_from k rest)) c
          ∙ ap (λ t. then_statements t (λ k. read_from k rest)) h;
    }

-- a lexeme that passes a test
pub reads_if : (n m : Now) (g : List ℕ) (l : TomlLexeme) (b : Bool) → is_clear_gap g (is_line_end_lexeme l) ≡ true
    → clear_turn n g l ≡ more_if b m
    → b ≡ true → ReadsOver n (typed_after_gap g l ∷ []) m
reads_if n m g l b c h p = reads_one n m g l c (h ∙ ap (λ x. more_if x m) p)
