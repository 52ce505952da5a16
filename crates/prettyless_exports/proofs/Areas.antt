-- What an area that was given bytes holds, and what it counts.
use Rattle.std.proofs.Common.{◌≡◌, refl, ℕ, ◌<◌, ◌≤◌, List, [], ◌++◌, length, take, ap, sym, ◌∙◌, subst, arith, Some}
use Rattle.std.proofs.Common.{Result, Ok, Err, OnOk, OnErr}
use Rattle.std.proofs.lemmas.List.{take_all, take-append-le, length-append, length-take}
use Rattle.prettyless_sink.specs.Sink.{Accepts, AppendsBeginning, Refuses}
use Rattle.prettyless_exports.specs.Account.{account}
use Rattle.prettyless_exports.specs.Overlay.{Holds, Puts, PutsAll, PutsToLimit}
use Rattle.prettyless_exports.specs.Texts.{IsPut}
use Rattle.prettyless_exports.specs.declared.area.Area.{Area}
use Rattle.prettyless_exports.specs.declared.text.Put.{Put}
use Rattle.prettyless_exports.specs.declared.text.Put.TheVariants.{Whole, Beginning, PastLimit}
use Rattle.prettyless_exports.proofs.Accounts.{account_grew}

-- what an area has
abbrev pub account_of : Area → List ℕ
account_of area = account area.limit area.before.bytes area.given.bytes

-- what of the bytes is within the limit was put
puts_within : (area : Area) (limit : ℕ) (old bytes : List ℕ) → account_of area ≡ account limit old [] ++ bytes
    → Puts (take limit bytes) old area.out.now area.count
puts_within area limit old bytes e =
    let grew = account_grew limit area.limit old area.before.bytes [] area.given.bytes bytes e in
    record {
      in_place = rw (grew.same_limit, grew.same_before, grew.grown) at area.holds;
      counted = (rw (grew.same_limit, grew.grown) at area.counts) ∙ sym (length-take limit bytes);
    }

-- an area that never failed was given no more than the limit
pub puts_all : (area : Area) (limit : ℕ) (old bytes : List ℕ) → account_of area ≡ account limit old [] ++ bytes → area.failures ≡ 0
    → PutsAll limit bytes old area.out.now area.count
puts_all area limit old bytes e never =
    let grew = account_grew limit area.limit old area.before.bytes [] area.given.bytes bytes e in
    let fits : length bytes ≤ limit = rw (grew.same_limit, grew.grown) at (area.within never) in
    record { puts = rw (take_all limit bytes fits) at (puts_within area limit old bytes e); within = fits }

-- an area that failed was given more than the limit
past_limit : (area : Area) (limit : ℕ) (old bytes : List ℕ) → account_of area ≡ account limit old [] ++ bytes → 0 < area.failures
    → limit < length bytes
past_limit area limit old bytes e failed =
    let grew = account_grew limit area.limit old area.before.bytes [] area.given.bytes bytes e in
    rw (grew.same_limit, grew.grown) at (area.past failed)

-- an area that failed was given a beginning of the bytes that goes past the limit
pub puts_to_limit : (area : Area) (limit : ℕ) (old bytes : List ℕ) → AppendsBeginning (account limit old []) (account_of area) bytes
    → 0 < area.failures
    → PutsToLimit limit bytes old area.out.now area.count
puts_to_limit area limit old bytes begun failed =
    let front = begun.0 in
    let back = begun.1 in
    let long : limit < length front = past_limit area limit old front begun.3 failed in
    let same : take limit bytes ≡ take limit front = ap (λ (x : List ℕ). take limit x) begun.2 ∙ take-append-le limit front back
    (omega arith) in
    record { puts = rw same (puts_within area limit old front begun.3); past = omega (arith, ap length begun.2, length-append front back) }

-- a beginning that goes past the limit is put as all of the bytes are
put_beginning : (limit : ℕ) (front back old new : List ℕ) (written : ℕ) (put : Put) → limit < length front
    → IsPut limit front old new written put → IsPut limit (front ++ back) old new written put
put_beginning limit front back old new written Whole past is = absurd (omega (arith, past, is.0))
put_beginning limit front back old new written Beginning past is = absurd (omega (arith, past, is.0))
put_beginning limit front back old new written PastLimit past is = (
  omega (arith, length-append front back),
  subst (λ (x : List ℕ). Holds x old new written) (sym (take-append-le limit front back (omega arith))) is.1,
)

-- what is put of the bytes that an area was given, where it had none before and takes them or fails
pub put_given : {A E : Type 0} (area : Area) (limit : ℕ) (old bytes : List ℕ) (written : ℕ) (put : Put) (r : Result A E)
    → OnOk r (Accepts (Some (account limit old [])) (Some (account_of area)) bytes 0 area.failures)
    → OnErr r (Refuses (Some (account limit old [])) (Some (account_of area)) bytes 0 area.failures)
    → IsPut area.limit area.given.bytes area.before.bytes area.out.now written put
    → IsPut limit bytes old area.out.now written put
put_given area limit old bytes written put (Ok x) wrote failed is =
    let w = wrote refl in
    let grew = account_grew limit area.limit old area.before.bytes [] area.given.bytes bytes w.1.0 in
    rw (grew.same_limit, grew.same_before, grew.grown) at is
put_given area limit old bytes written put (Err x) wrote failed is =
    let f = failed refl in
    let front = f.1.0.0 in
    let back = f.1.0.1 in
    let grew = account_grew limit area.limit old area.before.bytes [] area.given.bytes front f.1.0.3 in
    let past : limit < length front = past_limit area limit old front f.1.0.3 (omega (arith, f.1.1)) in
    subst (λ (x : List ℕ). IsPut limit x old area.out.now written put) (sym f.1.0.2)
    (put_beginning limit front back old area.out.now written put past (rw (grew.same_limit, grew.same_before, grew.grown) at is))
