-- What the words of `jsonfmt` ask for, by what `clap` reads in them.
use Rattle.std.specs.Prelude.{◌≡◌, ◌⊎◌, ◌||◌, ℕ, Bool, true, false, List, [], codes, Option, Some, None, is_some, Result, MatchResult}
use Rattle.std.specs.Prelude.{if◌then◌else◌}
use Rattle.std.specs.Str.{bytes_eq}
use Rattle.clap.specs.Words.{App, HasKind, Kinds, Row, Rule, Text, fault_of, first_of, kind_of, matches_of, new_rule, one_of, with_rule}
use Rattle.clap.specs.declared.error.Error.{Error}
use Rattle.clap.specs.declared.error.kind.ErrorKind.TheVariants.{ArgumentConflict, ValueValidation}
use Rattle.formatter_files.specs.Faults.{IsRequestError, IsOutOfMemory}
use Rattle.formatter_files.specs.Words.{HasNumber, IsNumberUpTo, IsTask, IsWidth, flag, has_flag, most_32, number_rule, program}
use Rattle.formatter_files.specs.Words.{with_files, with_letter, with_width}
use Rattle.json_formatter.specs.declared.style.Fill.{Fill}
use Rattle.json_formatter.specs.declared.style.Fill.TheVariants as fills
use Rattle.json_formatter.specs.declared.style.LineEnd.{LineEnd}
use Rattle.json_formatter.specs.declared.style.LineEnd.TheVariants.{OfText, Lf, CrLf}
use Rattle.json_formatter.specs.declared.style.Style.{Style}
use Rattle.formatter_files.specs.declared.request_error.RequestError.{RequestError}
use Rattle.jsonfmt.specs.declared.request.JsonRequest.{JsonRequest}

-- how deep lists may be in one another at most
abbrev pub most_levels : ℕ
most_levels = 100000

-- an option that takes a word
abbrev pub word_rule : Text → Rule
word_rule name = record (new_rule name) { long = Some name; value_names = 1 }

-- how far in members are, under `-i` too
abbrev pub indent_rule : Rule
indent_rule = with_letter 105 (word_rule (codes "indent"))

-- the command
abbrev pub jsonfmt : App
jsonfmt =
    with_files
    (with_rule (with_rule (with_rule (with_rule (with_rule (with_rule (with_rule (with_width (program (codes "jsonfmt"))) indent_rule)
    (word_rule (codes "fill")))
    (flag (codes "keep-blank-lines"))) (word_rule (codes "line-ending"))) (flag (codes "compact")))
    (number_rule (codes "depth") most_levels)) (flag (codes "lines")))

-- what `clap` reads in the words, of which the first names the program
unfoldable pub matches : List Text → List Row
matches words = matches_of jsonfmt words

-- the kinds of error that it has for them
unfoldable pub faults : List Text → Kinds
faults words = fault_of jsonfmt words

-- ---- levels

-- the number of levels that is asked for
abbrev pub IsDepth : List Row → ℕ → Type 0
IsDepth rows n = HasNumber 1000 (one_of (codes "depth") rows) n

-- the text of the option is a number
abbrev pub HasDepth : List Row → Type 0
HasDepth rows = IsNumberUpTo most_levels (one_of (codes "depth") rows)

-- ---- indents

-- whether a word is `tab`
abbrev pub is_tab : Text → Bool
is_tab word = bytes_eq word (codes "tab")

-- so many columns, with tabs or without: a tab counts 4, and else the word is a number
abbrev pub IndentsBy : Bool → Text → ℕ → Bool → Type 0
IndentsBy true word columns tabs = (columns ≡ 4) × (tabs ≡ true)
IndentsBy false word columns tabs = HasNumber 2 (Some word) columns × (tabs ≡ false)

-- the indent that is asked for
abbrev pub AsksIndent : Option Text → ℕ → Bool → Type 0
AsksIndent None columns tabs = (columns ≡ 2) × (tabs ≡ false)
AsksIndent (Some word) columns tabs = IndentsBy (is_tab word) word columns tabs

-- the word is no indent
abbrev pub AsksNoIndent : Option Text → Type 0
AsksNoIndent None = ⊥
AsksNoIndent (Some word) = (is_tab word ≡ false) × ¬ IsNumberUpTo most_32 (Some word)

abbrev pub indent_word : List Row → Option Text
indent_word rows = first_of (codes "indent") rows

-- ---- line ends

-- the line end that a word names
abbrev pub line_end_named : Text → Option LineEnd
line_end_named word =
    if bytes_eq word (codes "lf") then Some Lf else (if bytes_eq word (codes "crlf") then Some CrLf else None)

-- the one that is asked for
abbrev pub line_end_asked : Option Text → Option LineEnd
line_end_asked None = Some OfText
line_end_asked (Some word) = line_end_named word

abbrev pub line_end_of : List Row → Option LineEnd
line_end_of rows = line_end_asked (first_of (codes "line-ending") rows)

-- ---- arrays that fill their lines

-- those that a word names
abbrev pub fills_named : Text → Option Fill
fills_named word =
    if bytes_eq word (codes "numbers") then Some fills.Numbers
    else (if bytes_eq word (codes "all") then Some fills.All else (if bytes_eq word (codes "none") then Some fills.Nothing else None))

-- those that are asked for
abbrev pub fills_asked : Option Text → Option Fill
fills_asked None = Some fills.Numbers
fills_asked (Some word) = fills_named word

abbrev pub fill_asked : List Row → Option Fill
fill_asked rows = fills_asked (first_of (codes "fill") rows)

-- ---- lines that are texts

-- each line is to be a text of its own
abbrev pub has_lines : List Row → Bool
has_lines rows = has_flag (codes "lines") rows

-- it is said how a text is broken into lines
abbrev pub breaks_texts : List Row → Bool
breaks_texts rows =
    is_some (first_of (codes "width") rows) || is_some (first_of (codes "indent") rows) || is_some (first_of (codes "fill") rows)
    || has_flag (codes "keep-blank-lines") rows

-- A text that is a line is not broken: the two are not asked for together.
abbrev pub IsAtOdds : List Row → Type 0
IsAtOdds rows = (has_lines rows ≡ true) × (breaks_texts rows ≡ true)

-- each line is to be a text, and then it is not said how a text is broken
abbrev pub AsksLines : List Row → Bool → Type 0
AsksLines rows lines = (lines ≡ has_lines rows) × (lines ≡ true → breaks_texts rows ≡ false)

-- ---- all

-- How files are to be laid out.
pub record AsksStyle (rows : List Row) (style : Style) : Type 0 where
  pub width : IsWidth rows style.width
  pub indent : AsksIndent (indent_word rows) style.indent style.tabs
  pub line_end : Some style.line_end ≡ line_end_of rows
  pub fill : Some style.fill ≡ fill_asked rows
  pub blank_lines : style.blank_lines ≡ has_flag (codes "keep-blank-lines") rows
  pub compact : style.compact ≡ has_flag (codes "compact") rows
  pub depth : IsDepth rows style.depth

-- What is asked for.
pub record AsksForJson (rows : List Row) (asked : JsonRequest) : Type 0 where
  pub style : AsksStyle rows asked.style
  pub lines : AsksLines rows asked.lines
  pub task : IsTask rows asked.task

-- a word names no indent, no line end, or nothing that fills lines
abbrev pub NamesNothing : List Row → Type 0
NamesNothing rows = AsksNoIndent (indent_word rows) ⊎ ((line_end_of rows ≡ None) ⊎ (fill_asked rows ≡ None))

-- there is such a word, or options are given that are at odds
abbrev pub AsksForNothing : List Row → Error → Type 0
AsksForNothing rows e = (NamesNothing rows × (kind_of e ≡ ValueValidation)) ⊎ (IsAtOdds rows × (kind_of e ≡ ArgumentConflict))

-- an error for what was read in the words: memory was refused, or nothing is asked for
abbrev pub IsErrorFor : List Row → Error → Type 0
IsErrorFor rows e = IsOutOfMemory e ⊎ AsksForNothing rows e

-- an error for the words: `clap` has it, or nothing is asked for
abbrev pub IsErrorOf : List Text → Error → Type 0
IsErrorOf words e = HasKind (faults words) e ⊎ AsksForNothing (matches words) e

-- an `Ok` comes only where `clap` has no error for the words, and an `Err` is one for them, or files are to be replaced and compared
abbrev pub AnswersWords : {T : Type 0} → List Text → Result T RequestError → Type 0
AnswersWords words result = MatchResult result (λ _. faults words ≡ []) (IsRequestError (IsErrorOf words) (matches words))
