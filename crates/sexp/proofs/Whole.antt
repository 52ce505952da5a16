-- An input that is read as a value begins with it, and ends after it.
use Rattle.std.proofs.Common.{◌≡◌, ℕ, List, [], ◌∷◌, refl, sym, subst, inl, inr}
use Rattle.std.proofs.lemmas.List.{append-nil}
use Rattle.sexp.specs.Value.{SexpValue}
use Rattle.sexp.specs.Grammar.{input_line_feed, IsValueLine, ReadsValue}
use Rattle.sexp.specs.Fronts.{EndsNumber, IsEnd, BeginsValue, IsFront, HasNoFront}

end_ends_number : (rest : List ℕ) → IsEnd rest → EndsNumber rest
end_ends_number rest (inl e) = subst EndsNumber (sym e) tt
end_ends_number rest (inr e) = subst EndsNumber (sym e) refl

-- a line is a value and an end
line_front : (v : SexpValue) (input : List ℕ) → IsValueLine v input → (rest : List ℕ) × BeginsValue v input rest × IsEnd rest
line_front v input (inl text) = ([], (input, sym (append-nil input), text), inl refl)
line_front v input (inr line) = (input_line_feed ∷ [], (line.0, line.1, line.2), inr refl)

-- where no value is in front, nothing is read
pub nothing_read : (input : List ℕ) → HasNoFront 200 input → (v : SexpValue) → ReadsValue input v → ⊥
nothing_read input missing v r =
    let f = line_front v input r.line in
    missing v f.0 f.1 r.nesting (end_ends_number f.0 f.2)

-- what is read is the front, and ends after it
pub front_is_read : (input : List ℕ) (w : SexpValue) (rest : List ℕ) → IsFront 200 input w rest → (v : SexpValue) → ReadsValue input v
    → (v ≡ w) × IsEnd rest
front_is_read input w rest front v r =
    let f = line_front v input r.line in
    let same = front.only v f.0 f.1 r.nesting (end_ends_number f.0 f.2) in
    (same.0, subst IsEnd same.1 f.2)
