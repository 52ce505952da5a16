-- What each status says of a program.
use Rattle.std.specs.Prelude.{◌≡◌, ◌≤◌, ℕ, List, ◌++◌, length}
use Rattle.prettyless_exports.specs.Overlay.{Holds, IsUntouched}
use Rattle.prettyless_exports.specs.Texts.{IsPut}
use Rattle.prettyless_model.specs.Content.{HasContent}
use Rattle.prettyless_model.specs.Layout.{Whole, Cut, bytes_in, layout}
use Rattle.prettyless_model.specs.Tree.{Tree}
use Rattle.prettyless_model.specs.declared.options.RenderOptions.{RenderOptions}
use Rattle.prettyless_program.specs.Faults.{RefusesProgram}
use Rattle.prettyless_program.specs.Programs.{WritesDocument}
use Rattle.prettyless_exports.specs.declared.status.Status.{Status}
use Rattle.prettyless_exports.specs.declared.status.Status.TheVariants as status
use Rattle.prettyless_exports.specs.declared.text.Put.TheVariants as put

-- what a status says of a layout of the document d into an area
abbrev pub StatusHoldsOf : RenderOptions → ℕ → Tree → List ℕ → List ℕ → ℕ → Status → Type 0
StatusHoldsOf o limit d old new written (status.LaidOut put.PastLimit) = IsPut limit (bytes_in (layout o d)) old new written put.PastLimit
StatusHoldsOf o limit d old new written (status.LaidOut p) = (bytes : List ℕ) × (layout o d ≡ Whole bytes) × HasContent d bytes
    × IsPut limit bytes old new written p
StatusHoldsOf o limit d old new written status.Memory = (front : List ℕ) × ((back : List ℕ) × (bytes_in (layout o d) ≡ front ++ back))
    × (length front ≤ limit) × Holds front old new written
StatusHoldsOf o limit d old new written status.Fails = (bytes : List ℕ) × (layout o d ≡ Cut bytes) × (length bytes ≤ limit)
    × Holds bytes old new written
StatusHoldsOf o limit d old new written s = ⊥

-- what it says of a program: a document was laid out that the program writes, or it was refused
abbrev pub StatusHolds : RenderOptions → ℕ → List ℕ → List ℕ → List ℕ → ℕ → Status → Type 0
StatusHolds o limit program old new written (status.Refused fault) = RefusesProgram fault program × IsUntouched old new written
StatusHolds o limit program old new written s = (d : Tree) × WritesDocument program d × StatusHoldsOf o limit d old new written s
