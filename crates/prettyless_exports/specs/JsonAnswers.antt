-- What a call for the layout of a JSON text answers, for each status.
use Rattle.std.specs.Prelude.{◌≡◌, ◌≤◌, ◌<◌, ◌⊎◌, ℕ, Bool, true, false, List, length, take, None, if◌then◌else◌}
use Rattle.std.specs.Str.{IsUtf8}
use Rattle.json_validity.specs.Document.{document, max_depth}
use Rattle.json_formatter.specs.Formats.{IsFormatted}
use Rattle.json_formatter.specs.declared.style.Fill.{Fill}
use Rattle.json_formatter.specs.declared.style.Fill.TheVariants.{Nothing, Numbers}
use Rattle.json_formatter.specs.declared.style.LineEnd.TheVariants.{Lf}
use Rattle.json_formatter.specs.declared.style.Style.{Style}
use Rattle.json_grammar.specs.Expected.{name_of}
use Rattle.json_grammar.specs.Faults.{IsEndOfUtf8, NamesJsonStop}
use Rattle.text_lexemes.specs.Places.{IsPlaceWithin}
use Rattle.json_grammar.specs.declared.expected.Expected.{Expected}
use Rattle.json_grammar.specs.declared.expected.Expected.TheVariants.{Utf8}
use Rattle.prettyless_exports.specs.Overlay.{overlay, Holds, IsUntouched}

-- which arrays fill their lines: those of numbers alone, or none
abbrev pub fill_of : Bool → Fill
fill_of fill = if fill then Numbers else Nothing

-- The style that a caller asks for: it has line feeds and spaces, is compact, and allows as many levels as there may be.
abbrev pub style_of : ℕ → ℕ → Bool → Bool → Style
style_of width indent fill keep_blank_lines = record {
  width = width;
  indent = indent;
  tabs = false;
  line_end = Lf;
  fill = fill_of fill;
  blank_lines = keep_blank_lines;
  compact = true;
  depth = max_depth;
}

-- the bytes are not a JSON text
abbrev pub IsNoJson : List ℕ → Type 0
IsNoJson text = IsUtf8 text → document text ≡ None

-- So far into the text it is JSON: there something else was expected, whose name is in the area.
pub record IsJsonFault (text old new : List ℕ) (written line column : ℕ) : Type 0 where
  pub expected : Expected
  -- the place of a byte of the text, or of its end
  pub place : IsPlaceWithin text (record { line = line; column = column })
  pub name : Holds (name_of expected) old new written
  -- where the text is not UTF-8, that was expected
  pub encoding : ¬ IsUtf8 text → expected ≡ Utf8
  -- and the place is that of the first byte that is none
  pub no_utf8 : ¬ IsUtf8 text → IsEndOfUtf8 text (record { line = line; column = column })
  -- where it is, and not JSON, it stops being JSON there, and this was expected
  pub stop : IsUtf8 text → document text ≡ None → NamesJsonStop text (record { line = line; column = column }) expected

-- The answer to a text, for an area that held `old` and holds `new`.
pub record AnswersJson (style : Style) (limit : ℕ) (text old new : List ℕ) (written line column status : ℕ) : Type 0 where
  -- the layout is in the area: it has `written` bytes
  pub laid_out : status ≡ 0 → (bytes : List ℕ) × IsFormatted style text bytes × (length bytes ≤ limit)
      × (length bytes ≤ length old) × Holds bytes old new written
  -- the layout has `written` bytes, more than the area, which holds its beginning
  pub too_small : status ≡ 1 → (bytes : List ℕ) × IsFormatted style text bytes × (length bytes ≤ limit)
      × (length old < length bytes) × (new ≡ overlay bytes old) × (written ≡ length bytes)
  -- memory was refused, and the area is as it was
  pub memory : status ≡ 2 → IsUntouched old new written
  -- the layout is longer than the limit, and what is within the limit is in the area
  pub past_limit : status ≡ 4 → (bytes : List ℕ) × IsFormatted style text bytes × (limit < length bytes)
      × Holds (take limit bytes) old new written
  -- the bytes are not a JSON text, and where that is seen
  pub not_json : status ≡ 5 → IsNoJson text × IsJsonFault text old new written line column
  -- at the other statuses there is no place
  pub no_place : ¬ (status ≡ 5) → (line ≡ 0) × (column ≡ 0)
  -- there is no other status
  pub known : (status ≤ 2) ⊎ (status ≡ 4) ⊎ (status ≡ 5)
