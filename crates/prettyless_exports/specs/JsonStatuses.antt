-- What each status says of a JSON text.
use Rattle.std.specs.Prelude.{◌≡◌, ℕ, List}
use Rattle.json_formatter.specs.Formats.{IsFormatted}
use Rattle.json_formatter.specs.declared.style.Style.{Style}
use Rattle.prettyless_exports.specs.Overlay.{IsUntouched}
use Rattle.prettyless_exports.specs.Texts.{IsPut}
use Rattle.prettyless_exports.specs.JsonAnswers.{IsJsonFault, IsNoJson}
use Rattle.prettyless_exports.specs.declared.status.Status.{Status}
use Rattle.prettyless_exports.specs.declared.status.Status.TheVariants as status

-- what a status says of the layout of a text: it was put, or it is not there
abbrev pub JsonStatusHolds : Style → ℕ → List ℕ → List ℕ → List ℕ → ℕ → Status → Type 0
JsonStatusHolds style limit text old new written (status.LaidOut put) = (bytes : List ℕ) × IsFormatted style text bytes
    × IsPut limit bytes old new written put
JsonStatusHolds style limit text old new written status.Memory = IsUntouched old new written
JsonStatusHolds style limit text old new written status.NotJson = IsNoJson text × (new ≡ old)
JsonStatusHolds style limit text old new written s = ⊥

-- what a status says of where a text stops being JSON
abbrev pub RefusesJson : List ℕ → List ℕ → List ℕ → ℕ → ℕ → ℕ → Status → Type 0
RefusesJson text old new written line column status.Memory = IsUntouched old new written × (line ≡ 0) × (column ≡ 0)
RefusesJson text old new written line column status.NotJson = IsJsonFault text old new written line column
RefusesJson text old new written line column s = ⊥
