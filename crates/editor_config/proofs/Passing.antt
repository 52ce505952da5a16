-- What tests say of what is left of a text, place by place, while one takes the place of another.
use Rattle.std.proofs.Common.{◌≡◌, ◌∙◌, ◌+◌, ◌<◌, ◌≤◌, ◌≢◌, ◌&&◌, ◌||◌, sym, ap, ap₂, subst, arith, ℕ, Bool, false}
use Rattle.std.proofs.Common.{List, [], length, drop, get_or, set, inl, inr}
use Rattle.std.proofs.lemmas.Bool.{cases_lt}
use Rattle.std.proofs.lemmas.List.{at_drop_all, at_drop_more, get_or-set_other, get_or-set_same, length-set}
use Rattle.editor_config.specs.Patterns.{IsAtEach, Test, many_then, one_then}

-- Below a place passes what one test says, and from there on what another says.
pub record IsTurnedAt (low high : Test) (text : List ℕ) (place : ℕ) (passes : List Bool) : Type 0 where
  pub long : length passes ≡ length text + 1
  pub below : (k : ℕ) → k < place → get_or passes k false ≡ low (drop k text)
  pub above : (k : ℕ) → place ≤ k → k ≤ length text → get_or passes k false ≡ high (drop k text)

module _ (low high : Test) (text : List ℕ) where
  pub turned_none : (passes : List Bool) → IsAtEach high text passes → IsTurnedAt low high text 0 passes
  turned_none passes each = record {
    long = each.long;
    below = λ k lt. absurd (omega arith);
    above = λ k over within. each.at k within;
  }

  -- all but the end, where both say the same
  pub turned_all : (passes : List Bool) → low [] ≡ high [] → IsAtEach low text passes → IsTurnedAt low high text (length text) passes
  turned_all passes same each = record {
    long = each.long;
    below = λ k lt. each.at k (omega arith);
    above = λ k over within. each.at k within ∙ (at_drop_all low text k over ∙ (same ∙ sym (at_drop_all high text k over)));
  }

  pub turned_whole : (passes : List Bool) → IsTurnedAt low high text 0 passes → IsAtEach high text passes
  turned_whole passes t = record { long = t.long; at = λ k within. t.above k (omega arith) within }

  module _ (passes : List Bool) (place : ℕ) (value : Bool) (lt : place < length text) where
    other : (k : ℕ) → k ≢ place → get_or (set passes place value) k false ≡ get_or passes k false
    other k differs = get_or-set_other passes place k value false differs

    own : length passes ≡ length text + 1 → (test : Test) → value ≡ test (drop place text) → (k : ℕ) → place ≡ k
        → get_or (set passes place value) k false ≡ test (drop k text)
    own long test is k same =
        let here : get_or (set passes place value) place false ≡ test (drop place text)
        = get_or-set_same passes place value false (omega (arith, long, lt)) ∙ is in
        subst (λ (n : ℕ). get_or (set passes place value) n false ≡ test (drop n text)) same here

    -- one place more, from below
    pub turned_up : value ≡ low (drop place text) → IsTurnedAt low high text place passes
        → IsTurnedAt low high text (place + 1) (set passes place value)
    turned_up is t = record {
      long = length-set passes place value ∙ t.long;
      below = λ k under. elim (cases_lt k place) [
        | inl less ↦ let differs : k ≢ place = omega (arith, less) in other k differs ∙ t.below k less
        | inr over ↦ own t.long low is k (omega (arith, over, under))
      ];
      above = λ k over within.
          let differs : k ≢ place = omega (arith, over) in other k differs ∙ t.above k (omega (arith, over)) within;
    }

    -- one place more, from above
    pub turned_down : value ≡ high (drop place text) → IsTurnedAt low high text (place + 1) passes
        → IsTurnedAt low high text place (set passes place value)
    turned_down is t = record {
      long = length-set passes place value ∙ t.long;
      below = λ k under. let differs : k ≢ place = omega (arith, under) in other k differs ∙ t.below k (omega (arith, under));
      above = λ k over within. elim (cases_lt place k) [
        | inl more ↦ let differs : k ≢ place = omega (arith, more) in other k differs ∙ t.above k (omega (arith, more)) within
        | inr least ↦ own t.long high is k (omega (arith, over, least))
      ];
    }

module _ (passes : ℕ → Bool) (rest : Test) (text : List ℕ) (fits : List Bool) where
  -- what one character before the rest says at a place
  one_value : (place : ℕ) → place < length text → IsTurnedAt (one_then passes rest) rest text place fits
      → (passes (get_or text place 0) && get_or fits (place + 1) false) ≡ one_then passes rest (drop place text)
  one_value place lt t =
      ap (λ (b : Bool). passes (get_or text place 0) && b) (t.above (place + 1) (omega arith) (omega (arith, lt)))
      ∙ sym (at_drop_more (one_then passes rest) text place 0 lt)

  pub one_step : (place : ℕ) (value : Bool) → place < length text
      → value ≡ (passes (get_or text place 0) && get_or fits (place + 1) false)
      → IsTurnedAt (one_then passes rest) rest text place fits
      → IsTurnedAt (one_then passes rest) rest text (place + 1) (set fits place value)
  one_step place value lt is t =
      turned_up (one_then passes rest) rest text fits place value lt (is ∙ one_value place lt t) t

  pub one_end : IsTurnedAt (one_then passes rest) rest text (length text) fits
      → IsAtEach (one_then passes rest) text (set fits (length text) false)
  one_end t = record {
    long = length-set fits (length text) false ∙ t.long;
    at = λ k within. elim (cases_lt k (length text)) [
      | inl lt ↦
          let differs : k ≢ length text = omega (arith, lt) in
          get_or-set_other fits (length text) k false false differs ∙ t.below k lt
      | inr over ↦
          let same : length text ≡ k = omega (arith, over, within) in
          let last : get_or (set fits (length text) false) (length text) false ≡ one_then passes rest (drop (length text) text)
          = get_or-set_same fits (length text) false false (omega (arith, t.long))
          ∙ sym (at_drop_all (one_then passes rest) text (length text) (omega arith)) in
          subst (λ (n : ℕ). get_or (set fits (length text) false) n false ≡ one_then passes rest (drop n text)) same last
    ];
  }

  -- what any number of characters before the rest say at a place
  many_value : (place : ℕ) → place < length text → IsTurnedAt rest (many_then passes rest) text (place + 1) fits
      → (get_or fits place false || (passes (get_or text place 0) && get_or fits (place + 1) false))
      ≡ many_then passes rest (drop place text)
  many_value place lt t =
      ap₂ (λ (b : Bool) (m : Bool). b || (passes (get_or text place 0) && m))
      (t.below place (omega arith) ∙ at_drop_more rest text place 0 lt)
      (t.above (place + 1) (omega arith) (omega (arith, lt)))
      ∙ sym (at_drop_more (many_then passes rest) text place 0 lt)

  pub many_step : (place : ℕ) (value : Bool) → place < length text
      → value ≡ (get_or fits place false || (passes (get_or text place 0) && get_or fits (place + 1) false))
      → IsTurnedAt rest (many_then passes rest) text (place + 1) fits
      → IsTurnedAt rest (many_then passes rest) text place (set fits place value)
  many_step place value lt is t =
      turned_down rest (many_then passes rest) text fits place value lt (is ∙ many_value place lt t) t
