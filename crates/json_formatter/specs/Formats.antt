-- What formatting a text writes.
use Rattle.std.specs.Prelude.{◌≡◌, ℕ, ◌<◌, min, List, ◌++◌, Option, Some, None, IsSome, Result, Ok, Err}
use Rattle.std.specs.Io.KnownBytes.{Keeps, Appends}
use Rattle.json.specs.Json.{Json}
use Rattle.json.specs.Tree.{depth}
use Rattle.prettyless_sink.specs.Sink.{AppendsProperBeginning}
use Rattle.json_validity.specs.Document.{document, max_depth, IsJsonWithin}
use Rattle.json_lexemes.specs.Lexemes.{lexemes}
use Rattle.json_formatter.specs.BlankLines.{layout_of}
use Rattle.json_formatter.specs.Spelling.{ends_in_crlf, line_end_bytes}
use Rattle.json_formatter.specs.declared.error.FormatError.{FormatError}
use Rattle.json_formatter.specs.declared.error.FormatError.TheVariants.{NotJson, TooDeep, Memory, Write}
use Rattle.json_formatter.specs.declared.style.Style.{Style}

-- how deep lists may be in one another in a style
abbrev pub depth_of : Style → ℕ
depth_of style = min style.depth max_depth

-- the text is JSON, and deeper than the style allows
pub record IsTooDeep (style : Style) (text : List ℕ) : Type 0 where
  pub json : Json
  pub is : document text ≡ Some json
  pub deeper : style.depth < depth json

-- These bytes are the text laid out in this style.
pub record IsFormatted (style : Style) (text bytes : List ℕ) : Type 0 where
  -- The text is a JSON value.
  pub is_json : IsSome (document text)
  -- It is no deeper than the style allows.
  pub shallow : IsJsonWithin (depth_of style) text
  -- They are the same value.
  pub value : document bytes ≡ document text
  -- They have the same lexemes in the same order, each as it was spelled.
  pub lexemes : lexemes bytes ≡ lexemes text
  -- They are the layout of its document at the style's width, with the blank lines that the style keeps, and spelled as it says.
  pub layout : bytes ≡ layout_of style text
  -- Laid out again in this style, they stay as they are.
  pub again : layout_of style bytes ≡ bytes
  -- They end in a line end.
  pub ended : (front : List ℕ) × (bytes ≡ front ++ line_end_bytes (ends_in_crlf style.line_end text))

-- the writer failed
abbrev pub IsWriting : FormatError → Type 0
IsWriting NotJson = ⊥
IsWriting TooDeep = ⊥
IsWriting (Memory e) = ⊥
IsWriting (Write e) = Unit {0}

-- the text is not JSON, or too deep, or memory was refused
abbrev pub IsRefused : Style → List ℕ → FormatError → Type 0
IsRefused style text NotJson = document text ≡ None
IsRefused style text TooDeep = IsTooDeep style text
IsRefused style text (Memory e) = Unit {0}
IsRefused style text (Write e) = ⊥

-- What a writer holds goes from old to new. Where the text is not JSON, or too deep, or memory was refused, nothing was written.
abbrev pub Formats : {A : Type 0} → Style → List ℕ → Option (List ℕ) → Option (List ℕ) → Result A FormatError → Type 0
Formats style text old new (Ok done) = (bytes : List ℕ) × IsFormatted style text bytes × Appends old new bytes
Formats style text old new (Err NotJson) = Keeps old new × (document text ≡ None)
Formats style text old new (Err TooDeep) = Keeps old new × IsTooDeep style text
Formats style text old new (Err (Memory e)) = Keeps old new
Formats style text old new (Err (Write e)) = (bytes : List ℕ) × IsFormatted style text bytes × AppendsProperBeginning old new bytes
