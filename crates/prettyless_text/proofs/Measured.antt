-- The metrics of a payload, found a part at a time.
use Rattle.std.proofs.Common.{◌≡◌, ℕ, suc, ◌∙◌, ap, Bool, true, false, not, List, [], ◌∷◌, length, max, Option, Some, None, cond, sym, refl}
use Rattle.std.proofs.Common.{arith}
use Rattle.std.specs.List.{onto_first}
use Rattle.prettyless_model.specs.Metrics.{is_break, parts, text_width, is_empty, widest, first_of_parts, later_parts, last_of_parts}
use Rattle.prettyless_model.specs.Metrics.{metrics}
use Rattle.prettyless_model.specs.declared.metrics.Metrics.{Metrics}

-- how much of a text is left, with the break in front of it
abbrev pub bytes_left : Option (List ℕ) → ℕ
bytes_left None = 0
bytes_left (Some s) = suc (length s)

-- the metrics where a later part is taken in
abbrev pub with_part : Metrics → List ℕ → Metrics
with_part m p = record m {
  rest_width = max m.rest_width (text_width p);
  last_width = text_width p;
  last_nonempty = not (is_empty p);
}

-- the metrics where all later parts are
abbrev pub measured : Metrics → List (List ℕ) → Metrics
measured m [] = m
measured m (p ∷ ps) = measured (with_part m p) ps

-- the metrics of a first and a last part, with the greatest width of the later ones
abbrev metrics_of : List ℕ → ℕ → List ℕ → Metrics
metrics_of first rest final = record {
  first_width = text_width first;
  first_nonempty = not (is_empty first);
  rest_width = rest;
  last_width = text_width final;
  last_nonempty = not (is_empty final);
}

max-assoc : (a b c : ℕ) → max (max a b) c ≡ max a (max b c)
max-assoc a b c = omega arith

max-zero : (a : ℕ) → a ≡ max a 0
max-zero a = omega arith

zero-max : (a : ℕ) → max 0 a ≡ a
zero-max a = omega arith

measured-all : (first : List ℕ) (rest : ℕ) (p : List ℕ) (ps : List (List ℕ)) → measured (metrics_of first rest p) ps ≡ metrics_of first
    (max rest (widest ps)) (last_of_parts p ps)
measured-all first rest p [] = ap (λ n. metrics_of first n p) (max-zero rest)
measured-all first rest p (q ∷ ps) =
    measured-all first (max rest (text_width q)) q ps
    ∙ ap (λ n. metrics_of first n (last_of_parts q ps)) (max-assoc rest (text_width q) (widest ps))

onto_first-cons : (b : ℕ) (ps : List (List ℕ)) → onto_first b ps ≡ first_of_parts (onto_first b ps) ∷ later_parts (onto_first b ps)
onto_first-cons b [] = refl
onto_first-cons b (p ∷ ps) = refl

-- there is a first part
parts-cons : (s : List ℕ) → parts s ≡ first_of_parts (parts s) ∷ later_parts (parts s)
parts-cons [] = refl
parts-cons (b ∷ s) =
    elim (is_break b)
    as (λ t. let ps = cond t ([] ∷ parts s) (onto_first b (parts s)) in ps ≡ first_of_parts ps ∷ later_parts ps)
    [ true ↦ refl | false ↦ onto_first-cons b (parts s) ]

-- a text by its first part
pub record Splits (s : List ℕ) (width : ℕ) (nonempty : Bool) (left : List (List ℕ)) : Type 0 where
  pub width_is : width ≡ text_width (first_of_parts (parts s))
  pub nonempty_is : nonempty ≡ not (is_empty (first_of_parts (parts s)))
  pub left_is : later_parts (parts s) ≡ left

-- the first part gives all metrics but those of the later ones
pub measured-first : (s : List ℕ) (w : ℕ) (b : Bool) (left : List (List ℕ)) → Splits s w b left
    → measured (record { first_width = w; first_nonempty = b; rest_width = 0; last_width = w; last_nonempty = b }) left ≡ metrics s
measured-first s w b left h =
    let first = first_of_parts (parts s) in
    let later = later_parts (parts s) in
    rw (h.width_is, h.nonempty_is, ← h.left_is)
    (
    measured-all first 0 first later
    ∙ ap (λ n. metrics_of first n (last_of_parts first later)) (zero-max (widest later))
    ∙ ap (λ ps. metrics_of first (widest later) (last_of_parts [] ps)) (sym (parts-cons s))
    )

-- a later part
pub measured-later : (m : Metrics) (s : List ℕ) (r w : ℕ) (b : Bool) (left : List (List ℕ)) → Splits s w b left → r ≡ max m.rest_width w
    → measured (record {
      first_width = m.first_width;
      first_nonempty = m.first_nonempty;
      rest_width = r;
      last_width = w;
      last_nonempty =
          b;
    }) left ≡ measured m (parts s)
measured-later m s r w b left h e =
    rw (e, h.width_is, h.nonempty_is, ← h.left_is) (ap (measured m) (sym (parts-cons s)))
