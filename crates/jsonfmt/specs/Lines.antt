-- A text that has a JSON text on each line, laid out line by line.
use Rattle.std.specs.Prelude.{◌≡◌, ◌⊎◌, ◌==◌, ℕ, ⊤, Bool, true, false, List, [], ◌++◌, All, flat_map, map, Option, Result, Ok, Err}
use Rattle.std.specs.Io.KnownBytes.{Appends, Keeps}
use Rattle.std.specs.List.{list_any, slice_split}
use Rattle.std.specs.Str.{IsUtf8}
use Rattle.formatter_files.specs.declared.formatter.LayoutError.{LayoutError}
use Rattle.formatter_files.specs.declared.formatter.LayoutError.TheVariants.{Text, Writer}
use Rattle.formatter_files.specs.declared.formatter.Verdict.{Verdict}
use Rattle.formatter_files.specs.declared.formatter.Verdict.TheVariants.{LaidOut, Refused}
use Rattle.json_formatter.specs.Formats.{IsFormatted, IsRefused}
use Rattle.json_formatter.specs.Spelling.{line_style}
use Rattle.json_formatter.specs.declared.error.FormatError.TheVariants.{NotJson, TooDeep}
use Rattle.json_formatter.specs.declared.style.Style.{Style}
use Rattle.json_lexemes.specs.Lexemes.{lexemes}

-- the lines of a text, without the line feeds between them
abbrev pub lines_of : List ℕ → List (List ℕ)
lines_of text = slice_split (λ byte. byte == 0x0A) text

-- how a line came out: whether it is refused, and the bytes that it was laid out as
pub record LineOutcome : Type 0 where
  pub line : List ℕ
  pub refused : Bool
  pub layout : List ℕ

-- a line that is refused is not a JSON text, or too deep, and gives nothing; one without a text gives nothing; any other is laid out
abbrev pub ComesOutBy : Style → List ℕ → Bool → List ℕ → Type 0
ComesOutBy style line true layout = (layout ≡ []) × (IsUtf8 line → IsRefused style line NotJson ⊎ IsRefused style line TooDeep)
ComesOutBy style line false layout = ((layout ≡ []) × (lexemes line ≡ [])) ⊎ IsFormatted style line layout

-- after the bytes before, what the line was laid out as is appended
abbrev pub AppendsLine : Style → List ℕ → List ℕ → List ℕ → Bool → Type 0
AppendsLine style line old new refused = (here : List ℕ) × (new ≡ old ++ here) × ComesOutBy style line refused here

-- it came out so
abbrev pub ComesOut : Style → LineOutcome → Type 0
ComesOut style o = ComesOutBy style o.line o.refused o.layout

-- These lines are laid out as these bytes, but for those that are refused.
pub record LaysEachLine (style : Style) (lines : List (List ℕ)) (refused : Bool) (layout : List ℕ) : Type 0 where
  pub outcomes : List LineOutcome
  pub each : All (ComesOut style) outcomes
  pub of_lines : map (λ o. o.line) outcomes ≡ lines
  pub refuses : list_any (λ o. o.refused) outcomes ≡ refused
  pub lays : flat_map (λ o. o.layout) outcomes ≡ layout

-- the same of the lines of a text, in the style for them
abbrev pub LaysLinesOf : Style → List ℕ → Bool → List ℕ → Type 0
LaysLinesOf style text refused layout = LaysEachLine (line_style style text) (lines_of text) refused layout

-- by its answer, what a writer holds goes from old to new: what the lines are laid out as is appended, but for those that are refused
abbrev pub WritesLines : Style → List ℕ → Option (List ℕ) → Option (List ℕ) → Result Verdict LayoutError → Type 0
WritesLines style text old new (Ok LaidOut) = (layout : List ℕ) × LaysLinesOf style text false layout × Appends old new layout
WritesLines style text old new (Ok Refused) = (layout : List ℕ) × LaysLinesOf style text true layout × Appends old new layout
WritesLines style text old new (Err (Text e)) = Keeps old new
WritesLines style text old new (Err (Writer e)) = ⊤

-- a layout of a text, or of its lines where each is a text
abbrev pub IsLaid : Bool → Style → List ℕ → List ℕ → Type 0
IsLaid true style text layout = LaysLinesOf style text false layout
IsLaid false style text layout = IsFormatted style text layout
