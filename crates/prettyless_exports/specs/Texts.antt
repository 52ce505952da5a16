-- What a text that is put into an area leaves.
use Rattle.std.specs.Prelude.{◌≡◌, ◌≤◌, ◌<◌, ℕ, List, length, take}
use Rattle.prettyless_exports.specs.Overlay.{overlay, Holds}
use Rattle.prettyless_exports.specs.declared.text.Put.{Put}
use Rattle.prettyless_exports.specs.declared.text.Put.TheVariants.{Whole, Beginning, PastLimit}

-- these bytes were put into an area that held `old` and holds `new`, or what of them is within the limit
abbrev pub IsPut : ℕ → List ℕ → List ℕ → List ℕ → ℕ → Put → Type 0
IsPut limit bytes old new written Whole = (length bytes ≤ limit) × (length bytes ≤ length old) × Holds bytes old new written
IsPut limit bytes old new written Beginning = (length bytes ≤ limit) × (length old < length bytes)
    × (new ≡ overlay bytes old) × (written ≡ length bytes)
IsPut limit bytes old new written PastLimit = (limit < length bytes) × Holds (take limit bytes) old new written
