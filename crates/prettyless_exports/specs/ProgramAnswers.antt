-- What a call for the layout of a program answers, for each status.
use Rattle.std.specs.Prelude.{◌≡◌, ◌≤◌, ◌<◌, ◌⊎◌, ℕ, Bool, List, ◌++◌, length, take, if◌then◌else◌}
use Rattle.prettyless_exports.specs.Overlay.{overlay, Holds, IsUntouched, KeepsLimit}
use Rattle.prettyless_model.specs.Content.{HasContent}
use Rattle.prettyless_model.specs.Layout.{Whole, Cut, bytes_in, layout}
use Rattle.prettyless_model.specs.Tree.{Tree}
use Rattle.prettyless_model.specs.declared.options.RenderOptions.{RenderOptions}
use Rattle.prettyless_model.specs.declared.options.LineEnding.{LineEnding}
use Rattle.prettyless_model.specs.declared.options.LineEnding.TheVariants.{Lf, Crlf}
use Rattle.prettyless_model.specs.declared.options.IndentationPolicy.{IndentationPolicy}
use Rattle.prettyless_model.specs.declared.options.IndentationPolicy.TheVariants.{Eager, Deferred}
use Rattle.prettyless_program.specs.Programs.{WritesDocument}
use Rattle.prettyless_program.specs.Faults.{HasFault, WritesNone}
use Rattle.prettyless_program.specs.declared.fault.ProgramFault.{ProgramFault}
use Rattle.prettyless_program.specs.declared.fault.ProgramFault.TheVariants as fault

-- ---- what the words of a call mean

-- what ends a line
abbrev pub line_ending_of : Bool → LineEnding
line_ending_of crlf = if crlf then Crlf else Lf

-- when an indent is written
abbrev pub policy_of : Bool → IndentationPolicy
policy_of deferred = if deferred then Deferred else Eager

-- the options that a caller asks for
abbrev pub options_of : ℕ → Bool → Bool → RenderOptions
options_of width crlf deferred = record { width = width; line_ending = line_ending_of crlf; indentation_policy = policy_of deferred }

-- ---- what each status says

-- the program writes a document whose layout is whole: these bytes, which have its content and are within the limit
pub record IsLaidOut (o : RenderOptions) (limit : ℕ) (program bytes : List ℕ) : Type 0 where
  pub document : Tree
  pub writes : WritesDocument program document
  pub layout : layout o document ≡ Whole bytes
  pub content : HasContent document bytes
  pub within : length bytes ≤ limit

-- the program writes a document whose layout fails after these bytes, which are within the limit
pub record IsCutShort (o : RenderOptions) (limit : ℕ) (program bytes : List ℕ) : Type 0 where
  pub document : Tree
  pub writes : WritesDocument program document
  pub layout : layout o document ≡ Cut bytes
  pub within : length bytes ≤ limit

-- the program writes a document whose layout is longer than the limit
pub record IsPast (o : RenderOptions) (limit : ℕ) (program bytes : List ℕ) : Type 0 where
  pub document : Tree
  pub writes : WritesDocument program document
  pub layout : bytes_in (layout o document) ≡ bytes
  pub past : limit < length bytes

-- if the program writes a document, these bytes are a beginning of its layout's
abbrev pub BeginsLayout : RenderOptions → List ℕ → List ℕ → Type 0
BeginsLayout o program front = (d : Tree) → WritesDocument program d → (back : List ℕ) × (bytes_in (layout o d) ≡ front ++ back)

-- the program has this fault and writes no document, and the area is as it was
pub record IsProgramRefused (fault : ProgramFault) (program old new : List ℕ) (written : ℕ) : Type 0 where
  pub has_fault : HasFault fault program
  pub no_document : WritesNone program
  pub untouched : IsUntouched old new written

-- The answer to a program, for an area that held `old` and holds `new`.
pub record Answers (o : RenderOptions) (limit : ℕ) (program old new : List ℕ) (written status : ℕ) : Type 0 where
  -- the layout is in the area: it has `written` bytes
  pub laid_out : status ≡ 0 → (bytes : List ℕ) × IsLaidOut o limit program bytes × (length bytes ≤ length old) × Holds bytes old new written
  -- the layout has `written` bytes, more than the area, which holds its beginning
  pub too_small : status ≡ 1 → (bytes : List ℕ) × IsLaidOut o limit program bytes × (length old < length bytes) × (new ≡ overlay bytes old)
      × (written ≡ length bytes)
  -- memory was refused, and a beginning of the layout is in the area
  pub memory : status ≡ 2 → (front : List ℕ) × BeginsLayout o program front × Holds front old new written
  -- the layout fails, and the bytes before the node that fails are in the area
  pub fails : status ≡ 3 → (bytes : List ℕ) × IsCutShort o limit program bytes × Holds bytes old new written
  -- the layout is longer than the limit, and what is within the limit is in the area
  pub past_limit : status ≡ 4 → (bytes : List ℕ) × IsPast o limit program bytes × Holds (take limit bytes) old new written
  -- the bytes write no document, and which way
  pub instruction : status ≡ 16 → IsProgramRefused fault.Instruction program old new written
  pub operand : status ≡ 17 → IsProgramRefused fault.Operand program old new written
  pub text : status ≡ 18 → IsProgramRefused fault.Text program old new written
  pub document : status ≡ 19 → IsProgramRefused fault.Document program old new written
  pub unopened : status ≡ 20 → IsProgramRefused fault.Unopened program old new written
  pub unclosed : status ≡ 21 → IsProgramRefused fault.Unclosed program old new written
  -- whatever the status, no byte past the limit is written
  pub limited : KeepsLimit limit old new written
  -- whatever the status, bytes that write no document leave the area as it was
  pub no_document : WritesNone program → IsUntouched old new written
  -- there is no other status
  pub known : (status ≤ 4) ⊎ ((16 ≤ status) × (status ≤ 21))
