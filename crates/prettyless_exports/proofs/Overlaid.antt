-- An area after a piece is put after those that it has.
use Rattle.std.proofs.Common.{◌≡◌, inl, inr, ℕ, ◌+◌, ◌-◌, ◌≤◌, min, List, ◌++◌, length, take, drop, ap, sym, ◌∙◌, arith, rules}
use Rattle.std.proofs.lemmas.Bool.{cases_lt}
use Rattle.std.proofs.lemmas.List.{places, same_lists, length-take, take-append-drop, take-take}
use Rattle.prettyless_exports.specs.Overlay.{overlay}

-- bytes in an area with no room left change nothing
overlay_full : (before bytes piece : List ℕ) → length before ≤ length bytes → overlay bytes before ≡ overlay (bytes ++ piece) before
overlay_full before bytes piece full = same_lists _ _ (search (rules, places)) (λ k d inside. grind (arith, places))

-- where there is room, as much of a piece as fits comes after the bytes
overlay_room : (area before bytes piece : List ℕ) (fits : ℕ) → area ≡ overlay bytes before → length bytes ≤ length area
    → fits ≡ min (length piece) (length area - length bytes)
    → take (length bytes) area ++ (take fits piece ++ drop fits (drop (length bytes) area)) ≡ overlay (bytes ++ piece) before
overlay_room area before bytes piece fits e room count = same_lists _ _ (search (rules, places)) (λ k d inside. grind (arith, places))

-- as much of a piece as fits comes after the bytes
overlay_more : (area before bytes piece : List ℕ) (from fits : ℕ) → area ≡ overlay bytes before → from ≡ min (length bytes) (length area)
    → fits ≡ min (length piece) (length area - from) → take from area ++ (take fits piece ++ drop fits (drop from area)) ≡ overlay
    (bytes ++ piece) before
overlay_more area before bytes piece from fits e start count =
    elim (cases_lt (length bytes) (length area)) [
      | inl room ↦
          let at_end : from ≡ length bytes = omega arith in
          rw at_end (overlay_room area before bytes piece fits e (omega arith) (omega arith))
      | inr full ↦
          let none : fits ≡ 0 = omega arith in
          let long : length area ≡ length before = ap length e ∙ search (rules, places) in
          rw none (take-append-drop from area ∙ e ∙ overlay_full before bytes piece (omega arith))
    ]

-- what of a piece is within the limit comes after what is within it already
take_more : (limit count taken : ℕ) (given piece : List ℕ) → count ≡ min limit (length given) → taken ≡ min (length piece) (limit - count)
    → take limit (given ++ piece) ≡ take limit given ++ take taken piece
take_more limit count taken given piece c t = same_lists _ _ (search (rules, places)) (λ k d inside. grind (arith, places))

-- a piece is given: what of it is within the limit is put, as far as there is room
pub overlay_given : (before given piece : List ℕ) (limit : ℕ) {area copied : List ℕ} {count taken from fits : ℕ}
    → area ≡ overlay (take limit given) before → count ≡ min limit (length given) → taken ≡ min (length piece) (limit - count)
    → from ≡ min count (length area) → fits ≡ min taken (length area - from) → copied ≡ take fits piece
    → take from area ++ (copied ++ drop ((from + fits) - from) (drop from area)) ≡ overlay (take limit (given ++ piece)) before
overlay_given before given piece limit {area} {copied} {count} {taken} {from} {fits} e counts takes start fit copy =
    let same : (from + fits) - from ≡ fits = omega arith in
    let within : copied ≡ take fits (take taken piece) = copy ∙ sym (take-take fits taken piece (omega arith)) in
    rw (same, within, take_more limit count taken given piece counts takes)
    (overlay_more area before (take limit given) (take taken piece) from fits e (omega (arith, length-take limit given))
    (omega (arith, length-take taken piece)))
