-- What is between two lexemes of a layout.
use Rattle.std.specs.Prelude.{◌≡◌, ℕ, ◌==◌, Bool, true, false, cond, List, [], ◌∷◌}
use Rattle.prettyless_model.specs.Shows as shown
use Rattle.prettyless_model.specs.Shows.{Least, Spacing, LineEnd, more, Item, spaced, apart, ended, loose}
use Rattle.toml_lexemes.specs.Bytes.{dot, is_quote, head}
use Rattle.toml_lexemes.specs.Shown.{least_after_word}
use Rattle.toml_grammar.specs.Sorts as sort
use Rattle.toml_grammar.specs.Sorts.{Sort, sort_of}
use Rattle.toml_documents.specs.declared.gaps.Gap.{Gap}
use Rattle.toml_documents.specs.declared.gaps.Gap.TheVariants.{Nothing, Space, Beside, Edge, Line, Fill, BlankLine, Break, BlankBreak}
use Rattle.toml_documents.specs.declared.kind.Kind.{Kind}
use Rattle.toml_documents.specs.declared.kind.Kind.TheVariants.{Statement, Header, Table, Array, Numbers}
use Rattle.toml_documents.specs.declared.kind.Last.{Last}
use Rattle.toml_documents.specs.declared.kind.Last.TheVariants.{Start, Close, Equals, Word, Dot, String, Comma, Comment}

-- what a gap shows
abbrev pub gap_items : Gap → List Item
gap_items Nothing = []
gap_items Space = spaced ∷ []
gap_items Beside = spaced ∷ []
gap_items Edge = loose ∷ []
gap_items Line = apart ∷ []
gap_items Fill = apart ∷ []
gap_items BlankLine = loose ∷ apart ∷ []
gap_items Break = ended ∷ []
gap_items BlankBreak = ended ∷ ended ∷ []

-- what it has at least
abbrev pub least_of : Gap → Least
least_of Nothing = shown.Nothing
least_of Space = Spacing
least_of Beside = Spacing
least_of Edge = shown.Nothing
least_of Line = Spacing
least_of Fill = Spacing
least_of BlankLine = Spacing
least_of Break = LineEnd
least_of BlankBreak = LineEnd

-- no line ends in it
abbrev pub stays : Gap → Bool
stays Nothing = true
stays Space = true
stays Beside = true
stays Edge = false
stays Line = false
stays Fill = false
stays BlankLine = false
stays Break = false
stays BlankBreak = false

-- in brackets
abbrev pub is_nested : Kind → Bool
is_nested Statement = false
is_nested Header = true
is_nested Table = true
is_nested Array = true
is_nested Numbers = true

abbrev pub is_last_comment : Last → Bool
is_last_comment Start = false
is_last_comment Close = false
is_last_comment Equals = false
is_last_comment Word = false
is_last_comment Dot = false
is_last_comment String = false
is_last_comment Comma = false
is_last_comment Comment = true

-- what is at least between what ends so and a text that begins with the byte y
abbrev pub least_needed : Last → ℕ → Least
least_needed Start y = shown.Nothing
least_needed Close y = shown.Nothing
least_needed Equals y = shown.Nothing
least_needed Word y = least_after_word false y
least_needed Dot y = shown.Nothing
least_needed String y = cond (is_quote y) Spacing shown.Nothing
least_needed Comma y = shown.Nothing
least_needed Comment y = LineEnd

-- the gap has what is needed before a text that begins with the byte y, and ends no line outside of brackets
pub record Suits (nested : Bool) (last : Last) (y : ℕ) (gap : Gap) : Type 0 where
  pub enough : more (least_needed last y) (least_of gap) ≡ least_of gap
  pub stays : nested ≡ false → stays gap ≡ true

-- ---- which gap it is

-- a line end, with a blank line or without
abbrev pub line_break : Bool → Gap
line_break blank = cond blank BlankBreak Break

-- after the comma of a list
abbrev pub gap_after_comma : Kind → Bool → Gap
gap_after_comma Statement blank = Space
gap_after_comma Header blank = Space
gap_after_comma Table blank = Space
gap_after_comma Array blank = cond blank BlankLine Line
gap_after_comma Numbers blank = cond blank BlankLine Fill

-- inside the brackets of a list
abbrev pub edge_gap : Kind → Gap
edge_gap Statement = Nothing
edge_gap Header = Nothing
edge_gap Table = Space
edge_gap Array = Edge
edge_gap Numbers = Edge

-- before a lexeme of this sort of the same key or value, which begins with a dot or not: between words nothing is beside a dot
abbrev pub gap_on_line : Last → Sort → Bool → Gap
gap_on_line Equals s dotted = Space
gap_on_line l sort.equals dotted = Space
gap_on_line Word sort.word dotted = cond dotted Nothing Space
gap_on_line String sort.string dotted = Space
gap_on_line l s dotted = Nothing

-- before such a lexeme that begins a value or goes on with one
abbrev pub gap_before_part : Kind → Last → Sort → Bool → Bool → Gap
gap_before_part kind Start s dotted blank = edge_gap kind
gap_before_part kind Comma s dotted blank = gap_after_comma kind blank
gap_before_part kind Comment s dotted blank = line_break blank
gap_before_part kind l s dotted blank = gap_on_line l s dotted

-- the same by how the lexeme is spelled
abbrev pub gap_before_text : Kind → Last → List ℕ → Bool → Gap
gap_before_text kind l s blank = gap_before_part kind l (sort_of s) (head s == dot) blank

-- before a comma
abbrev pub gap_before_comma : Last → Gap
gap_before_comma Comment = Break
gap_before_comma l = Nothing

-- before a comment, where no line ended and where one did; a blank line after an opening bracket goes
abbrev pub gap_before_first_comment : Kind → Last → Bool → Bool → Gap
gap_before_first_comment kind Comment broken blank = line_break blank
gap_before_first_comment Statement l broken blank = Beside
gap_before_first_comment kind Start broken blank = cond broken Break Beside
gap_before_first_comment kind l broken blank = cond broken (line_break blank) Beside

-- before a comment, which other comments stand before or not
abbrev pub gap_before_comment : Kind → Last → Bool → Bool → Bool → Gap
gap_before_comment kind l true broken blank = line_break blank
gap_before_comment kind l false broken blank = gap_before_first_comment kind l broken blank

-- before the bracket that closes a list
abbrev pub gap_before_close : Kind → Last → Gap
gap_before_close kind Start = Nothing
gap_before_close kind Comment = Break
gap_before_close kind l = edge_gap kind

-- what ends so may have a comma or comments that wait in it
abbrev pub may_hold : Last → Bool
may_hold Start = false
may_hold Close = false
may_hold Equals = false
may_hold Word = false
may_hold Dot = false
may_hold String = false
may_hold Comma = true
may_hold Comment = true
