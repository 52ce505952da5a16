-- Lines that came out, and one more.
use Rattle.std.proofs.Common.{◌≡◌, refl, sym, ◌∙◌, ap, ap₂, subst, ℕ, ◌+◌, ◌<◌, Bor, Bool, true, false, ◌||◌, List, [], ◌∷◌, ◌++◌}
use Rattle.std.proofs.Common.{append-nil, map, flat_map, take, length, get_or}
use Rattle.std.specs.List.{All, list_any}
use Rattle.std.proofs.lemmas.Grind.{flat_map-append}
use Rattle.std.proofs.lemmas.List.{map_push, take_more}
use Rattle.std.proofs.lemmas.List.Elements.{All-push}
use Rattle.std.proofs.lemmas.List.Folds.{list_any-append}
use Rattle.json_formatter.specs.declared.style.Style.{Style}
use Rattle.jsonfmt.specs.Lines.{ComesOut, ComesOutBy, LaysEachLine, LineOutcome}

or_false : (b : Bool) → (b || false) ≡ b
or_false true = refl
or_false false = refl

-- one line more, which came out so
pub lay_more : (style : Style) (lines more : List (List ℕ)) (line layout whole here : List ℕ) (a b c : Bool)
    → LaysEachLine style lines a layout → ComesOutBy style line b here → more ≡ lines ++ line ∷ [] → c ≡ (a || b) → whole ≡ layout ++ here
    → LaysEachLine style more c whole
lay_more style lines more line layout whole here a b c laid one is_more is_refused is_whole =
    let o : LineOutcome = record { line = line; refused = b; layout = here } in
    let os = laid.outcomes in
    record {
      outcomes = os ++ o ∷ [];
      each = All-push (ComesOut style) os o laid.each one;
      of_lines = map_push (λ p. p.line) os o ∙ ap (λ (l : List (List ℕ)). l ++ line ∷ []) laid.of_lines ∙ sym is_more;
      refuses = list_any-append (λ p. p.refused) os (o ∷ []) ∙ ap₂ ◌||◌ laid.refuses (or_false b) ∙ sym is_refused;
      lays = flat_map-append (λ p. p.layout) os (o ∷ []) ∙ ap₂ ◌++◌ laid.lays (append-nil here) ∙ sym is_whole;
    }

-- one line is refused, if one was before, or this one is
pub refused_before : (a b : Bool) → a ≡ true → a ≡ (a || b)
refused_before a b e = subst (λ (x : Bool). x ≡ (x || b)) (sym e) refl

pub not_before : (a b : Bool) → a ≡ false → b ≡ (a || b)
not_before a b e = subst (λ (x : Bool). b ≡ (x || b)) (sym e) refl

-- the lines of these slices, and one more
pub more_lines : (slices : List (Bor (List ℕ))) (i : ℕ) (d : Bor (List ℕ)) → i < length slices
    → map (λ s. s.now) (take (i + 1) slices) ≡ map (λ s. s.now) (take i slices) ++ (get_or slices i d).now ∷ []
more_lines slices i d h = ap (map (λ s. s.now)) (take_more slices i d h) ∙ map_push (λ s. s.now) (take i slices) (get_or slices i d)
