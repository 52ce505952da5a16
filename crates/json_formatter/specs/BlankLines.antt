-- The layout of a JSON text: that of its document, with the blank lines that are kept, spelled as the style says.
use Rattle.std.specs.Prelude.{ℕ, Bool, false, ◌&&◌, ◌==◌, List, [], ◌∷◌, drop, if◌then◌else◌}
use Rattle.json.specs.Ascii as ascii
use Rattle.json_lexemes.specs.SpacedLexemes.{Spaced, after_gap, has_blank_line, line_feeds, put_together, spaced_lexemes}
use Rattle.json_formatter.specs.Documents.{bounded, is_json_sign, laid, lexemes_tree}
use Rattle.json_formatter.specs.Pieces.{text_pieces}
use Rattle.json_formatter.specs.Spelling.{with_spelling}
use Rattle.json_formatter.specs.declared.style.Style.{Style}

-- a gap that ends one line, and has no blank line
abbrev pub ends_line : List ℕ → Bool
ends_line gap = line_feeds gap == 1

-- The gap before a lexeme of a layout, by the gap before it in the text. A lexeme that begins a line and comes after a comma has an empty
-- line before it where a blank line is before it in the text.
abbrev pub kept_gap : Bool → List ℕ → List ℕ → List ℕ
kept_gap after_comma source gap = if after_comma && (ends_line gap && has_blank_line source) then ascii.line_feed ∷ gap else gap

-- the gap before the first lexeme
abbrev pub first_gap : List Spaced → List ℕ
first_gap [] = []
first_gap (p ∷ ps) = p.gap

-- the lexemes of a layout, with their gaps, beside those of its text: after a comma, or not
abbrev pub kept_from : Bool → List Spaced → List Spaced → List Spaced
kept_from after_comma sources [] = []
kept_from after_comma sources (p ∷ ps) =
    after_gap (kept_gap after_comma (first_gap sources) p.gap) p.lexeme ∷ kept_from (is_json_sign ascii.comma p.lexeme) (drop 1 sources) ps

-- a layout, and the blank lines of its text
abbrev pub with_blank_lines : List ℕ → List ℕ → List ℕ
with_blank_lines text bytes = put_together (kept_from false (spaced_lexemes text) (spaced_lexemes bytes))

-- the same where the style keeps them
abbrev pub with_kept_lines : Style → List ℕ → List ℕ → List ℕ
with_kept_lines style text bytes = if style.blank_lines then with_blank_lines text bytes else bytes

-- the layout of a text in a style, and a line end
abbrev pub layout_of : Style → List ℕ → List ℕ
layout_of style text =
    with_spelling style text (with_kept_lines style text (laid (bounded style) (lexemes_tree (bounded style) (text_pieces style text))))
