-- Bytes within a limit change no byte past it.
use Rattle.std.proofs.Common.{◌≡◌, ℕ, ◌≤◌, List, length, take, drop, ap, ◌∙◌, arith, rules}
use Rattle.std.proofs.lemmas.List.{places, same_lists, length-take}
use Rattle.prettyless_exports.specs.Overlay.{overlay, KeepsLimit, PutsAll, PutsToLimit}

past_bytes : (limit : ℕ) (bytes old : List ℕ) → length bytes ≤ limit → drop limit (overlay bytes old) ≡ drop limit old
past_bytes limit bytes old within = same_lists _ _ (search (rules, places)) (λ k d inside. grind (arith, places))

-- bytes within the limit were put, and no more are counted
pub keeps_limit : (limit : ℕ) (bytes old new : List ℕ) (count : ℕ) → new ≡ overlay bytes old → length bytes ≤ limit → count ≤ length bytes
    → KeepsLimit limit old new count
keeps_limit limit bytes old new count put within counted =
    record { past = ap (drop limit) put ∙ past_bytes limit bytes old within; counted = omega arith }

pub limit_of_all : (limit : ℕ) (bytes old new : List ℕ) (count : ℕ) → PutsAll limit bytes old new count
    → KeepsLimit limit old new count
limit_of_all limit bytes old new count all =
    keeps_limit limit bytes old new count all.puts.in_place all.within (omega (arith, all.puts.counted))

pub limit_of_some : (limit : ℕ) (bytes old new : List ℕ) (count : ℕ) → PutsToLimit limit bytes old new count
    → KeepsLimit limit old new count
limit_of_some limit bytes old new count some =
    keeps_limit limit (take limit bytes) old new count some.puts.in_place (omega (arith, length-take limit bytes))
    (omega (arith, some.puts.counted))
