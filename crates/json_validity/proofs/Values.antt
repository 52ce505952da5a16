-- What a value begins with.
use Rattle.std.proofs.Common.{◌≡◌, ℕ, List, [], ◌∷◌, None, refl, ap, ◌∙◌}
use Rattle.json.specs.Token as spec
use Rattle.json.specs.Json.{array, object, value, skip_value}
use Rattle.json.specs.Reads.{token_of}
use Rattle.json.specs.declared.token.Token.{Token}
use Rattle.json.specs.declared.token.Token.TheVariants.{BeginArray, BeginObject}
use Rattle.json.proofs.Grammar.{left, left-parse_map, value_is}
use Rattle.json_validity.specs.Open.{BeginsWith}
use Rattle.json_validity.specs.declared.bracket.Bracket.TheVariants.{Array, Object}
use Rattle.json_validity.specs.declared.value.Begun.TheVariants.{List as list}

pub begins_array : (old new : List spec.Token) (t : Token) → old ≡ token_of t ∷ new → t ≡ BeginArray → BeginsWith old (list Array) new
unfolding value
begins_array old new t e is =
    let opened : old ≡ spec.begin_array ∷ new = e ∙ ap (λ k. token_of k ∷ new) is in
    rw opened (refl, λ d. left-parse_map array _)

pub begins_object : (old new : List spec.Token) (t : Token) → old ≡ token_of t ∷ new → t ≡ BeginObject → BeginsWith old (list Object) new
unfolding value
begins_object old new t e is =
    let opened : old ≡ spec.begin_object ∷ new = e ∙ ap (λ k. token_of k ∷ new) is in
    rw opened (refl, λ d. left-parse_map object _)

pub nothing_begins : (d : ℕ) (old : List spec.Token) → old ≡ [] → skip_value d old ≡ None
nothing_begins d old e = ap (skip_value d) e ∙ ap left (value_is d [])
