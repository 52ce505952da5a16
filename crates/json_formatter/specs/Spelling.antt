-- How the line ends and the indents of a layout are spelled.
use Rattle.std.specs.Prelude.{ℕ, zero, suc, ◌-◌, ◌/◌, ◌%◌, ◌^◌, ◌==◌, Bool, false, true, List, [], ◌∷◌, ◌++◌, length, replicate}
use Rattle.std.specs.Prelude.{if◌then◌else◌}
use Rattle.json.specs.Ascii as ascii
use Rattle.json_lexemes.specs.SpacedLexemes.{Spaced, after_gap, line_feeds, put_together, spaced_lexemes}
use Rattle.prettyless_model.specs.Spaces.{spaces}
use Rattle.json_formatter.specs.declared.spelling.Spelling.{Spelling}
use Rattle.json_formatter.specs.declared.style.LineEnd.{LineEnd}
use Rattle.json_formatter.specs.declared.style.LineEnd.TheVariants as line_end
use Rattle.json_formatter.specs.declared.style.Style.{Style}

-- ---- which line end

-- the first line end of bytes is CR LF; they come after a CR, or not
abbrev pub begins_crlf : Bool → List ℕ → Bool
begins_crlf after_return [] = false
begins_crlf after_return (x ∷ xs) = if x == ascii.line_feed then after_return else begins_crlf (x == ascii.carriage_return) xs

-- the lines of a layout of this text end in CR LF: as its first line does, or as the style says
abbrev pub ends_in_crlf : LineEnd → List ℕ → Bool
ends_in_crlf line_end.OfText text = begins_crlf false text
ends_in_crlf line_end.Lf text = false
ends_in_crlf line_end.CrLf text = true

-- the style for the lines of a text that has a JSON text on each: none is broken, and all end as its first line does, or as the style
-- says
abbrev pub line_style : Style → List ℕ → Style
line_style style text =
    record style { width = 2 ^ 64 - 1; line_end = if ends_in_crlf style.line_end text then line_end.CrLf else line_end.Lf }

-- how a style spells the layout of a text
abbrev pub spelling_of : Style → List ℕ → Spelling
spelling_of style text = record { crlf = ends_in_crlf style.line_end text; tab = if style.tabs then style.indent else 0 }

-- ---- a gap

-- a line end, and so many
abbrev pub line_end_bytes : Bool → List ℕ
line_end_bytes crlf = if crlf then ascii.carriage_return ∷ ascii.line_feed ∷ [] else ascii.line_feed ∷ []

abbrev pub line_ends : Bool → ℕ → List ℕ
line_ends crlf zero = []
line_ends crlf (suc n) = line_end_bytes crlf ++ line_ends crlf n

-- so many tabs
abbrev pub tabs : ℕ → List ℕ
tabs n = replicate n ascii.tab

-- what is so many columns wide: a tab for each `tab` of them, and spaces for those that are left; or spaces alone
abbrev pub columns_spelled : ℕ → ℕ → List ℕ
columns_spelled tab n = if tab == 0 then spaces n else tabs (n / tab) ++ spaces (n % tab)

-- A gap of a layout, spelled anew. One that ends a line gets as many line ends as it has, and then an indent as wide as its blanks.
abbrev pub respelled : Spelling → List ℕ → List ℕ
respelled sp gap =
    if line_feeds gap == 0 then gap
    else line_ends sp.crlf (line_feeds gap) ++ columns_spelled sp.tab (length gap - line_feeds gap)

-- ---- a layout

-- lexemes after such gaps
abbrev pub respelled_all : Spelling → List Spaced → List Spaced
respelled_all sp [] = []
respelled_all sp (p ∷ ps) = after_gap (respelled sp p.gap) p.lexeme ∷ respelled_all sp ps

-- their bytes, and a line end
abbrev pub spelled_out : Spelling → List Spaced → List ℕ
spelled_out sp ps = put_together (respelled_all sp ps) ++ line_end_bytes sp.crlf

-- a layout of a text as the style spells it
abbrev pub with_spelling : Style → List ℕ → List ℕ → List ℕ
with_spelling style text bytes = spelled_out (spelling_of style text) (spaced_lexemes bytes)
