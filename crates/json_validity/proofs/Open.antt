-- One turn of lists that are open in one another.
use Rattle.std.proofs.Common.{◌≡◌, ℕ, zero, suc, ◌-◌, ◌<◌, List, [], ◌∷◌, ◌++◌}
use Rattle.std.proofs.Common.{reverse, Option, Some, None, option_and_then, refl, ap, ◌∙◌, arith}
use Rattle.std.proofs.lemmas.List.{reverse-append}
use Rattle.json.specs.Token.{Token}
use Rattle.json.specs.Json.{skip_value}
use Rattle.json_validity.specs.Open.{after_list, ComesNext, BeginsWith}
use Rattle.json_validity.specs.declared.bracket.Bracket.{Bracket}
use Rattle.json_validity.specs.declared.bracket.Next.TheVariants as next
use Rattle.json_validity.specs.declared.value.Begun.TheVariants as begun

-- after lists that are open, each in the next one: what is in the first may nest so deep
unfoldable pub after_lists : ℕ → List Bracket → List Token → Option (List Token)
after_lists depth [] ts = Some ts
after_lists depth (b ∷ bs) ts = option_and_then (after_lists (suc depth) bs) (after_list b depth ts)

pub reverse_push : (bs : List Bracket) (b : Bracket) → reverse (bs ++ b ∷ []) ≡ b ∷ reverse bs
reverse_push bs b = reverse-append bs (b ∷ [])

pub one_list : (d : ℕ) (b : Bracket) (ts : List Token) → after_list b d ts ≡ after_lists d (b ∷ []) ts
unfolding after_lists
one_list d b ts = by (after_list b d ts)
  where
    by : (o : Option (List Token)) → o ≡ option_and_then Some o
    by None = refl
    by (Some r) = refl

module _ (d : ℕ) (b : Bracket) (bs : List Bracket) (old : List Token) where
  abbrev outside : Option (List Token) → Option (List Token)
  outside o = option_and_then (after_lists (suc d) bs) o

  pub stops : after_list b d old ≡ None → after_lists d (b ∷ bs) old ≡ None
  unfolding after_lists
  stops e = ap outside e

  pub closes : (new : List Token) → ComesNext b old next.End new → after_lists d (b ∷ bs) old ≡ after_lists (suc d) bs new
  unfolding after_lists
  closes new ends = ap outside (ends d)

  pub goes_on : (mid new : List Token) → ComesNext b old next.Member mid → BeginsWith mid begun.Leaf new
      → after_lists d (b ∷ bs) old ≡ after_lists d (b ∷ bs) new
  unfolding after_lists
  goes_on mid new comes leaf = ap outside (comes d ∙ ap (option_and_then (after_list b d)) (leaf d))

  pub no_value : (mid new : List Token) → ComesNext b old next.Member mid → BeginsWith mid begun.Nothing new
      → after_lists d (b ∷ bs) old ≡ None
  no_value mid new comes fails = stops (comes d ∙ ap (option_and_then (after_list b d)) (fails d))

  pub too_deep : (mid new : List Token) (c : Bracket) → d ≡ 0 → ComesNext b old next.Member mid → BeginsWith mid (begun.List c) new
      → after_lists d (b ∷ bs) old ≡ None
  too_deep mid new c zero_left comes begins =
      stops (comes d ∙ ap (option_and_then (after_list b d)) (ap (λ n. skip_value n mid) zero_left ∙ begins.0))

-- a list in the innermost one
deeper : (d : ℕ) (b c : Bracket) (bs : List Bracket) (new : List Token) (o : Option (List Token))
    → option_and_then (after_lists (suc (suc d)) bs) (option_and_then (after_list b (suc d)) o)
    ≡ option_and_then (after_lists (suc d) (b ∷ bs)) o
unfolding after_lists
deeper d b c bs new None = refl
deeper d b c bs new (Some r) = refl

pub opens : (d : ℕ) (b c : Bracket) (bs : List Bracket) (old mid new : List Token) → 0 < d
    → ComesNext b old next.Member mid → BeginsWith mid (begun.List c) new
    → after_lists d (b ∷ bs) old ≡ after_lists (d - 1) (c ∷ b ∷ bs) new
unfolding after_lists
opens zero b c bs old mid new some comes begins = absurd (omega arith)
opens (suc d) b c bs old mid new some comes begins =
    let less : d ≡ suc d - 1 = omega arith in
    ap (option_and_then (after_lists (suc (suc d)) bs)) (comes (suc d) ∙ ap (option_and_then (after_list b (suc d))) (begins.1 d))
    ∙ deeper d b c bs new (after_list c d new)
    ∙ ap (λ n. after_lists n (c ∷ b ∷ bs) new) less
