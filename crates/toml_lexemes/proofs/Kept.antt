-- Lexemes with gaps around them, after each what may follow it, are cut into the same lexemes.
use Rattle.std.proofs.Common.{◌≡◌, ℕ, false, List, [], ◌∷◌, ◌++◌, length, length-append, All, sym, ap, ◌∙◌, subst, arith}
use Rattle.std.proofs.lemmas.List.Elements.{All-head, All-tail}
use Rattle.text_lexemes.specs.Languages.{First, Turn, between, within, lengthened, cut_first, cut_turn}
use Rattle.text_lexemes.specs.SpacedTexts as text
use Rattle.text_lexemes.proofs.Cuts as cuts
use Rattle.text_lexemes.proofs.Cuts.{IsSome}
use Rattle.text_lexemes.proofs.WellSpaced as law
use Rattle.toml_lexemes.specs.Bytes.{is_blank}
use Rattle.toml_lexemes.specs.Lexemes.{Inner, first, turn, begins_line_feed, cut_toml, toml}
use Rattle.toml_lexemes.specs.Spaced.{IsSpacedToml, IsWellSpaced}
use Rattle.toml_lexemes.proofs.Gaps.{IsSpaced-lexemes, follows_lexeme}

-- ---- one byte

pub some_cut : (i : Inner) (xs : List ℕ) → IsSome (cut_toml (within i) xs)
some_cut i xs = cuts.some_cut toml i xs

pub shortened : (x : ℕ) (s : List ℕ) (ss : List (List ℕ)) → IsSome ss → lengthened x ss ≡ (x ∷ s) ∷ [] → ss ≡ s ∷ []
shortened x s ss h e = cuts.shortened x s ss [] h e

pub cut_turned : (i : Inner) (x : ℕ) (xs : List ℕ) (t : Turn Inner) → turn i x (begins_line_feed xs) ≡ t
    → cut_toml (within i) (x ∷ xs) ≡ cut_turn t (cut_toml between (x ∷ xs)) x (λ m. cut_toml m xs)
cut_turned i x xs t e = cuts.cut_turned toml i x xs t e

-- the first byte of a lexeme is no blank
pub no_blank : (x : ℕ) (s : List ℕ) → cut_toml between (x ∷ s) ≡ (x ∷ s) ∷ [] → is_blank x ≡ false
no_blank x s lexeme = (law.ends_alone toml (x ∷ s) lexeme).0

pub cut_begun : (x : ℕ) (s : List ℕ) (f : First Inner) → first x ≡ f → cut_toml between (x ∷ s) ≡ (x ∷ s) ∷ []
    → cut_first f x (λ m. cut_toml m s) ≡ (x ∷ s) ∷ []
cut_begun x s f e lexeme = sym (cuts.cut_begun toml x s f (no_blank x s lexeme) e) ∙ lexeme

-- ---- lexemes

-- no lexeme is longer than the text
pub too_long : (x : ℕ) (s : List ℕ) → cut_toml between s ≡ (x ∷ s) ∷ [] → ⊥
too_long x s e = go (subst (IsSpacedToml s) e (IsSpaced-lexemes s))
  where
    go : IsSpacedToml s ((x ∷ s) ∷ []) → ⊥
    go (g, rest, gap, is, h) = omega (arith, ap length is, length-append g ((x ∷ s) ++ rest), length-append (x ∷ s) rest)

by_lexemes : (ss : List (List ℕ)) (bytes : List ℕ) → All (λ s. cut_toml between s ≡ s ∷ []) ss → IsWellSpaced bytes ss
    → text.IsWellSpaced toml bytes ss
by_lexemes [] bytes each h = h
by_lexemes (s ∷ ss) bytes each (g, rest, gap, is, follows, h) = (
  g,
  rest,
  gap,
  is,
  follows_lexeme s rest (All-head (λ s. cut_toml between s ≡ s ∷ []) s ss each) follows,
  by_lexemes ss rest (All-tail (λ s. cut_toml between s ≡ s ∷ []) s ss each) h,
)

pub same_lexemes : (text : List ℕ) (ss : List (List ℕ)) → All (λ s. cut_toml between s ≡ s ∷ []) ss → IsWellSpaced text ss
    → cut_toml between text ≡ ss
same_lexemes text ss each h = law.same_lexemes toml text ss (by_lexemes ss text each h)
