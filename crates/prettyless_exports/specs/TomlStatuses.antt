-- What each status says of a TOML text.
use Rattle.std.specs.Prelude.{◌≡◌, ℕ, true, List}
use Rattle.std.specs.Str.{IsUtf8}
use Rattle.prettyless_exports.specs.Overlay.{IsUntouched}
use Rattle.prettyless_exports.specs.Texts.{IsPut}
use Rattle.toml_formatter.specs.Formats.{IsFormattedToml}
use Rattle.toml_grammar.specs.Grammar.{is_toml}
use Rattle.toml_grammar.specs.Nesting.{is_too_deep}
use Rattle.prettyless_exports.specs.TomlAnswers.{IsTomlFault}
use Rattle.prettyless_exports.specs.declared.status.Status.{Status}
use Rattle.prettyless_exports.specs.declared.status.Status.TheVariants as status

-- where the bytes are a TOML text, its brackets are too deep in one another
abbrev pub IsTooDeepIfToml : List ℕ → Type 0
IsTooDeepIfToml text = IsUtf8 text → is_toml text ≡ true → is_too_deep text ≡ true

-- what a status says of the layout of a text: it was put, or it is not there
abbrev pub TomlStatusHolds : ℕ → List ℕ → List ℕ → List ℕ → ℕ → Status → Type 0
TomlStatusHolds limit text old new written (status.LaidOut put) = (bytes : List ℕ) × IsFormattedToml text bytes
    × IsPut limit bytes old new written put
TomlStatusHolds limit text old new written status.Memory = IsUntouched old new written
TomlStatusHolds limit text old new written status.NotToml = (new ≡ old) × IsTooDeepIfToml text
TomlStatusHolds limit text old new written s = ⊥

-- what a status says of where a text stops being TOML
abbrev pub RefusesToml : List ℕ → List ℕ → List ℕ → ℕ → ℕ → ℕ → Status → Type 0
RefusesToml text old new written line column status.Memory = IsUntouched old new written × (line ≡ 0) × (column ≡ 0)
RefusesToml text old new written line column status.NotToml = IsTomlFault text old new written line column
RefusesToml text old new written line column s = ⊥
