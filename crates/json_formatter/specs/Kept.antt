-- What is left of a layout, with the blank lines that it keeps, as it is spelled.
use Rattle.std.specs.Prelude.{◌≡◌, ℕ, false, List, ◌++◌, Option, Some, None, is_some, if◌then◌else◌}
use Rattle.json.specs.Ascii.{comma}
use Rattle.json_lexemes.specs.SpacedLexemes.{Spaced, after_lexeme, first_spaces, put_together, spaced_as}
use Rattle.prettyless_model.specs.Spaces.{spaces}
use Rattle.json_formatter.specs.BlankLines.{kept_from, kept_gap}
use Rattle.json_formatter.specs.Documents.{is_json_sign}
use Rattle.json_formatter.specs.Gaps.{gap_bytes, spaced_from}
use Rattle.json_formatter.specs.Pieces.{lexemes_of_pieces}
use Rattle.json_formatter.specs.Spelling.{respelled_all, tabs}
use Rattle.json_formatter.specs.declared.gaps.State.{State}
use Rattle.json_formatter.specs.declared.kept.Kept.{Kept}
use Rattle.json_formatter.specs.declared.spelling.Spelled.{Spelled}
use Rattle.json_formatter.specs.declared.spelling.Spelled.TheVariants as spelled
use Rattle.json_formatter.specs.declared.spelling.Spelling.{Spelling}
use Rattle.json_formatter.specs.declared.style.Style.{Style}

-- the bytes of a gap as it is written
abbrev pub spelled_bytes : Spelled → List ℕ
spelled_bytes (spelled.Plain gap) = gap_bytes gap
spelled_bytes (spelled.Line ends t n) = ends.now ++ (tabs t ++ spaces n)

-- the lexemes of these pieces, after the gaps of the layout, and beside those of the text that is left where blank lines are kept
abbrev pub kept_left : Style → State → Option Kept → List (List ℕ) → List Spaced
kept_left style st None ss = spaced_from style st ss
kept_left style st (Some kept) ss =
    kept_from kept.after_comma (spaced_as kept.blank_lines (lexemes_of_pieces ss)) (spaced_from style st ss)

-- their bytes
abbrev pub laid_left : Style → State → Option Kept → Spelling → List (List ℕ) → List ℕ
laid_left style st kept sp ss = put_together (respelled_all sp (kept_left style st kept ss))

-- the next gap, with the empty line that is kept there
abbrev pub gap_kept : Option Kept → List ℕ → List ℕ
gap_kept None gap = gap
gap_kept (Some kept) gap = kept_gap kept.after_comma (first_spaces kept.blank_lines) gap

-- after the next lexeme
abbrev pub kept_after : Option Kept → List ℕ → Option Kept
kept_after None s = None
kept_after (Some kept) s =
    Some (record { blank_lines = after_lexeme kept.blank_lines s; after_comma = is_json_sign comma s })

-- no blank lines are kept, line ends are line feeds, and indents spaces
abbrev pub HasPlainGaps : Option Kept → Spelling → Type 0
HasPlainGaps kept sp = (is_some kept ≡ false) × (sp.crlf ≡ false) × (sp.tab ≡ 0)

-- before the first lexeme of a text
abbrev pub kept_of : Style → List ℕ → Option Kept
kept_of style text = if style.blank_lines then Some (record { blank_lines = text; after_comma = false }) else None
