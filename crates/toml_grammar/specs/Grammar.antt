-- The grammar of TOML 1.0, over the lexemes of a text with the gaps before them. Keys that are defined twice are none of its concern.
use Rattle.std.specs.Prelude.{ℕ, ◌-◌, ◌==◌, ◌&&◌, Bool, true, false, not, cond, List, [], ◌∷◌, ◌++◌, length, take, Option, Some, None}
use Rattle.std.specs.Prelude.{Result, Ok, Err, is_ok, slice_get}
use Rattle.std.specs.List.{list_all}
use Rattle.toml_lexemes.specs.Bytes.{blank_space, carriage_return}
use Rattle.toml_lexemes.specs.SpacedLexemes.{SpacedToml, toml_spaced_lexemes}
use Rattle.toml_grammar.specs.Dates.{is_date, is_time}
use Rattle.toml_grammar.specs.Keys.{key_word}
use Rattle.toml_grammar.specs.Comments.{is_comment}
use Rattle.toml_grammar.specs.Strings.{is_key_string, is_string}
use Rattle.toml_grammar.specs.Values.{is_value}
use Rattle.toml_grammar.specs.Sorts.{Sort, open_array, close_array, open_table, close_table, comma, equals, line_end, comment, string, word}
use Rattle.toml_grammar.specs.Sorts.{text_end, sort_of}
use Rattle.toml_grammar.specs.declared.expected.Expected.{Expected}
use Rattle.toml_grammar.specs.declared.expected.Expected.TheVariants as want
use Rattle.toml_grammar.specs.declared.next.Bracket.{Bracket}
use Rattle.toml_grammar.specs.declared.next.Bracket.TheVariants as bracket
use Rattle.toml_grammar.specs.declared.next.Owner.{Owner}
use Rattle.toml_grammar.specs.declared.next.Owner.TheVariants as owner
use Rattle.toml_grammar.specs.declared.next.Next.{Next}
use Rattle.toml_grammar.specs.declared.next.Next.TheVariants.{Line, Header, Key, Closing, Value, Member, Entry, After, AfterDate}
use Rattle.toml_grammar.specs.declared.turn.LexemeTurn.{LexemeTurn}
use Rattle.toml_grammar.specs.declared.turn.LexemeTurn.TheVariants.{GoesOn, Opens, Closes, Stops}

-- ---- what is expected

-- what ends a key or goes on with it, after a part of it
abbrev pub expected_after_part : Owner → Expected
expected_after_part owner.Value = want.DotOrEquals
expected_after_part owner.Table = want.DotOrBracket
expected_after_part owner.Tables = want.DotOrBrackets

-- what follows a value, in an array, in an inline table or outside of both
abbrev pub expected_after : Option Bracket → Expected
expected_after None = want.LineEnd
expected_after (Some bracket.Array) = want.CommaOrBracket
expected_after (Some bracket.Table) = want.CommaOrBrace

-- what is expected, within the innermost bracket that is open
abbrev pub expected : Next → Option Bracket → Expected
expected Line b = want.Line
expected Header b = want.Key
expected (Key o true) b = want.Key
expected (Key o false) b = expected_after_part o
expected Closing b = want.Bracket
expected Value b = want.Value
expected Member b = want.ValueOrBracket
expected Entry b = want.KeyOrBrace
expected After b = expected_after b
expected AfterDate b = expected_after b

-- ---- gaps

-- nothing is in the gap
abbrev pub is_empty_gap : List ℕ → Bool
is_empty_gap g = length g == 0

-- exactly one space is the gap
abbrev pub is_one_space : List ℕ → Bool
is_one_space [] = false
is_one_space (x ∷ []) = x == blank_space
is_one_space (x ∷ (y ∷ ys)) = false

-- the sort is a line end
abbrev pub is_line_end : Sort → Bool
is_line_end line_end = true
is_line_end _ = false

-- no CR is in the gap, but before a line end its last blank may be one
abbrev pub is_clear : List ℕ → Bool → Bool
is_clear g before_line_end = list_all (λ x. not (x == carriage_return)) (take (cond before_line_end (length g - 1) (length g)) g)

-- ---- the turns of lexemes

-- goes on where this is so
abbrev pub where_so : Bool → Next → Expected → LexemeTurn
where_so ok n e = cond ok (GoesOn n) (Stops e)

-- `[` begins a header at the beginning of a line, and doubled one of an array of tables; else it opens an array
abbrev pub open_array_turn : Next → Option Bracket → List ℕ → LexemeTurn
open_array_turn Line b g = GoesOn Header
open_array_turn Header b g = where_so (is_empty_gap g) (Key owner.Tables true) (expected Header b)
open_array_turn Value b g = Opens bracket.Array Member
open_array_turn Member b g = Opens bracket.Array Member
open_array_turn n b g = Stops (expected n b)

-- what closes an array after a value
abbrev pub array_end : Next → Option Bracket → LexemeTurn
array_end n (Some bracket.Array) = Closes
array_end n b = Stops (expected n b)

-- `]` closes a header, in two where it is one of an array of tables, or an array
abbrev pub close_array_turn : Next → Option Bracket → List ℕ → LexemeTurn
close_array_turn (Key owner.Table false) b g = GoesOn After
close_array_turn (Key owner.Tables false) b g = GoesOn Closing
close_array_turn Closing b g = where_so (is_empty_gap g) After (expected Closing b)
close_array_turn Member b g = Closes
close_array_turn After b g = array_end After b
close_array_turn AfterDate b g = array_end AfterDate b
close_array_turn n b g = Stops (expected n b)

-- `{` opens an inline table where a value may come
abbrev pub open_table_turn : Next → Option Bracket → LexemeTurn
open_table_turn Value b = Opens bracket.Table Entry
open_table_turn Member b = Opens bracket.Table Entry
open_table_turn n b = Stops (expected n b)

-- what closes an inline table after a value
abbrev pub table_end : Next → Option Bracket → LexemeTurn
table_end n (Some bracket.Table) = Closes
table_end n b = Stops (expected n b)

-- `}` closes an inline table: one with nothing in it, or after a value
abbrev pub close_table_turn : Next → Option Bracket → LexemeTurn
close_table_turn Entry b = Closes
close_table_turn After b = table_end After b
close_table_turn AfterDate b = table_end AfterDate b
close_table_turn n b = Stops (expected n b)

-- what a comma after a value leads to
abbrev pub after_value_comma : Next → Option Bracket → LexemeTurn
after_value_comma n None = Stops (expected n None)
after_value_comma n (Some bracket.Array) = GoesOn Member
after_value_comma n (Some bracket.Table) = GoesOn (Key owner.Value true)

-- a comma stands after a value: in an array the bracket may follow it, in an inline table a key does
abbrev pub comma_turn : Next → Option Bracket → LexemeTurn
comma_turn After b = after_value_comma After b
comma_turn AfterDate b = after_value_comma AfterDate b
comma_turn n b = Stops (expected n b)

-- an equals sign stands after the key of a value
abbrev pub equals_turn : Next → Option Bracket → LexemeTurn
equals_turn (Key owner.Value false) b = GoesOn Value
equals_turn n b = Stops (expected n b)

-- what a line end after a value leads to: none is directly in an inline table
abbrev pub line_end_after : Next → Option Bracket → LexemeTurn
line_end_after n None = GoesOn Line
line_end_after n (Some bracket.Array) = GoesOn After
line_end_after n (Some bracket.Table) = Stops (expected n (Some bracket.Table))

-- a line end
abbrev pub line_end_turn : Next → Option Bracket → LexemeTurn
line_end_turn Line b = GoesOn Line
line_end_turn Member b = GoesOn Member
line_end_turn After b = line_end_after After b
line_end_turn AfterDate b = line_end_after AfterDate b
line_end_turn n b = Stops (expected n b)

-- what a comment after a value leads to: none is directly in an inline table
abbrev pub comment_after : Next → Option Bracket → Bool → LexemeTurn
comment_after n (Some bracket.Table) ok = Stops (expected n (Some bracket.Table))
comment_after n b ok = where_so ok After want.Comment

-- a comment, which TOML allows or not
abbrev pub comment_turn : Next → Option Bracket → Bool → LexemeTurn
comment_turn Line b ok = where_so ok Line want.Comment
comment_turn Member b ok = where_so ok Member want.Comment
comment_turn After b ok = comment_after After b ok
comment_turn AfterDate b ok = comment_after AfterDate b ok
comment_turn n b ok = Stops (expected n b)

-- a string is a part of a key where one is due, or a value
abbrev pub string_turn : Next → Option Bracket → List ℕ → LexemeTurn
string_turn Line b s = where_so (is_key_string s) (Key owner.Value false) want.KeyString
string_turn Header b s = where_so (is_key_string s) (Key owner.Table false) want.KeyString
string_turn (Key o true) b s = where_so (is_key_string s) (Key o false) want.KeyString
string_turn Entry b s = where_so (is_key_string s) (Key owner.Value false) want.KeyString
string_turn Value b s = where_so (is_string s) After want.String
string_turn Member b s = where_so (is_string s) After want.String
string_turn n b s = Stops (expected n b)

-- what a word in a key leads to, where it says whether a part is due after it
abbrev pub key_turn : Owner → Option Bool → Expected → LexemeTurn
key_turn o None e = Stops e
key_turn o (Some due) e = GoesOn (Key o due)

-- what a word in place of a value leads to
abbrev pub value_turn : List ℕ → Expected → LexemeTurn
value_turn s e = where_so (is_value s) (cond (is_date s) AfterDate After) e

-- a word has parts and dots of a key, or it is a value, or after a date and one space a time
abbrev pub word_turn : Next → Option Bracket → List ℕ → List ℕ → LexemeTurn
word_turn Line b g s = key_turn owner.Value (key_word true s) (expected Line b)
word_turn Header b g s = key_turn owner.Table (key_word true s) (expected Header b)
word_turn (Key o due) b g s = key_turn o (key_word due s) (expected (Key o due) b)
word_turn Entry b g s = key_turn owner.Value (key_word true s) (expected Entry b)
word_turn Value b g s = value_turn s (expected Value b)
word_turn Member b g s = value_turn s (expected Member b)
word_turn AfterDate b g s = where_so (is_one_space g && is_time s) After (expected AfterDate b)
word_turn n b g s = Stops (expected n b)

-- what follows a value may be the end of the text outside of brackets
abbrev pub at_end : Next → Option Bracket → LexemeTurn
at_end n None = GoesOn n
at_end n (Some b) = Stops (expected n (Some b))

-- the end of the text
abbrev pub end_turn : Next → Option Bracket → LexemeTurn
end_turn Line b = GoesOn Line
end_turn After b = at_end After b
end_turn AfterDate b = at_end AfterDate b
end_turn n b = Stops (expected n b)

-- a lexeme of this sort, with the gap before it
abbrev pub sort_turn : Sort → Next → Option Bracket → List ℕ → List ℕ → LexemeTurn
sort_turn open_array n b g s = open_array_turn n b g
sort_turn close_array n b g s = close_array_turn n b g
sort_turn open_table n b g s = open_table_turn n b
sort_turn close_table n b g s = close_table_turn n b
sort_turn comma n b g s = comma_turn n b
sort_turn equals n b g s = equals_turn n b
sort_turn line_end n b g s = line_end_turn n b
sort_turn comment n b g s = comment_turn n b (is_comment s)
sort_turn string n b g s = string_turn n b s
sort_turn word n b g s = word_turn n b g s
sort_turn text_end n b g s = end_turn n b

-- a lexeme with the gap before it
abbrev pub turn_of_lexeme : Next → Option Bracket → SpacedToml → LexemeTurn
turn_of_lexeme n b p =
    let sort = sort_of p.lexeme in
    cond (is_clear p.gap (is_line_end sort)) (sort_turn sort n b p.gap p.lexeme) (Stops want.LineFeed)

-- ---- texts

-- what has been read: the brackets that are open, the outermost first, and what may come next
pub record Reading : Type 0 where
  pub open_brackets : List Bracket
  pub next : Next

-- the innermost bracket that is open
abbrev pub innermost : List Bracket → Option Bracket
innermost bs = slice_get bs (length bs - 1)

-- the reading after a turn
abbrev pub turned : List Bracket → LexemeTurn → Result Reading Expected
turned bs (GoesOn n) = Ok record { open_brackets = bs; next = n }
turned bs (Opens b n) = Ok record { open_brackets = bs ++ b ∷ []; next = n }
turned bs Closes = Ok record { open_brackets = take (length bs - 1) bs; next = After }
turned bs (Stops e) = Err e

-- one lexeme more
abbrev pub lexeme_step : Reading → SpacedToml → Result Reading Expected
lexeme_step r p = turned r.open_brackets (turn_of_lexeme r.next (innermost r.open_brackets) p)

-- where the first step led, these lexemes more
abbrev pub then_lexemes : Result Reading Expected → (Reading → Result Reading Expected) → Result Reading Expected
then_lexemes (Ok r) k = k r
then_lexemes (Err e) k = Err e

-- the reading after these lexemes, or what was expected at the first that may not stand there
abbrev pub reading_after : Reading → List SpacedToml → Result Reading Expected
reading_after r [] = Ok r
reading_after r (p ∷ ps) = then_lexemes (lexeme_step r p) (λ t. reading_after t ps)

-- before the first lexeme
abbrev pub first_reading : Reading
first_reading = record { open_brackets = []; next = Line }

-- whether a text is TOML: all its lexemes may stand where they do, and so may its end
unfoldable pub is_toml : List ℕ → Bool
is_toml text = is_ok (reading_after first_reading (toml_spaced_lexemes text))
