-- Why a text is refused, and where.
use Rattle.std.specs.Prelude.{◌≡◌, ℕ, ◌+◌, ◌&&◌, nat_le, nat_lt, Bool, true, false, cond, List, length, take, Option, Some, None, codes}
use Rattle.text_lexemes.specs.Places.{IsPlace}
use Rattle.text_lexemes.specs.declared.place.Place.{Place}
use Rattle.toml_lexemes.specs.SpacedLexer.{text_if}
use Rattle.toml_grammar.specs.Expected.{expected_name}
use Rattle.toml_grammar.specs.Faults.{IsFault}
use Rattle.toml_grammar.specs.Nesting.{IsTooDeepAt}
use Rattle.toml_grammar.specs.Opened.{innermost_opened, opened_in}
use Rattle.toml_grammar.specs.Stops.{found_of, stop_of}
use Rattle.toml_grammar.specs.declared.expected.Expected.{Expected}
use Rattle.toml_grammar.specs.declared.expected.Expected.TheVariants as want
use Rattle.toml_grammar.specs.declared.fault.Fault.{Fault}
use Rattle.toml_grammar.specs.declared.next.Bracket.{Bracket}
use Rattle.toml_grammar.specs.declared.next.Bracket.TheVariants as bracket
use Rattle.toml_grammar.specs.declared.opened.Opened.{Opened}
use Rattle.toml_grammar.specs.declared.refusal.Refusal.{Refusal}
use Rattle.toml_lexemes.specs.declared.lexeme.Lexeme.{Lexeme}
use Rattle.toml_lexemes.specs.declared.lexeme.Lexeme.TheVariants as lexeme

-- ---- what is open at a fault

-- an array goes on after one of its values, or before it
abbrev pub goes_on_in_array : Expected → Bool
goes_on_in_array want.ValueOrBracket = true
goes_on_in_array want.CommaOrBracket = true
goes_on_in_array e = false

-- A bracket is missed at a fault, which stands on a later line or not: where the text or a line ends, where the bracket of the other
-- kind stands, and where an array goes on from another line.
abbrev pub is_missed : Bracket → Option Lexeme → Expected → Bool → Bool
is_missed b None e later = true
is_missed b (Some lexeme.LineEnd) e later = true
is_missed bracket.Array (Some lexeme.CloseTable) e later = true
is_missed bracket.Table (Some lexeme.CloseArray) e later = true
is_missed b (Some x) e later = later && goes_on_in_array e

-- the place of this bracket, where it is missed at the fault, or none
pub record IsMissedAt (text : List ℕ) (fault : Fault) (opened : Opened) (answer : Option Place) : Type 0 where
  pub place : Place
  pub at : IsPlace (take opened.offset text) place
  pub here : Place
  pub fault_at : IsPlace (take fault.offset text) here
  pub is :
      answer ≡ cond (is_missed opened.bracket fault.found fault.expected (nat_lt place.line here.line)) (Some place) None

-- the same of the innermost bracket, if one is open
abbrev pub IsMissed : List ℕ → Fault → Option Opened → Option Place → Type 0
IsMissed text fault None answer = answer ≡ None
IsMissed text fault (Some opened) answer = IsMissedAt text fault opened answer

-- a string that is not closed is missed where it begins
abbrev pub IsBeginning : List ℕ → Fault → Option Place → Type 0
IsBeginning text fault answer = (place : Place) × (answer ≡ Some place) × IsPlace (take fault.offset text) place

-- the place of what is open at the fault, where this was expected: of a string that is not closed, or of the innermost bracket
abbrev pub IsOpenedPlace : List ℕ → Fault → Expected → Option Opened → Option Place → Type 0
IsOpenedPlace text fault want.Quote opened answer = IsBeginning text fault answer
IsOpenedPlace text fault want.Quotes opened answer = IsBeginning text fault answer
IsOpenedPlace text fault e opened answer = IsMissed text fault opened answer

-- ---- refusals

-- the lexeme of the fault is the last one of the text
abbrev pub is_last : List ℕ → Fault → Bool
is_last text fault = nat_le (length text) (fault.offset + length (text_if fault.found))

-- The refusal names the fault of the text: the lexeme that may not stand where it does, and how far into it the text is TOML.
pub record NamesFault (text : List ℕ) (refusal : Refusal) : Type 0 where
  pub fault : Fault
  pub is : IsFault text fault
  pub place : IsPlace (take (fault.offset + (stop_of fault (is_last text fault)).within) text) refusal.place
  pub expected : refusal.expected.now ≡ expected_name (stop_of fault (is_last text fault)).expected
  pub found : refusal.found ≡ (stop_of fault (is_last text fault)).found
  pub opened :
      IsOpenedPlace text fault (stop_of fault (is_last text fault)).expected (innermost_opened (opened_in is.before)) refusal.opened

-- what is said of a text that is TOML
abbrev pub nesting : List ℕ
nesting = codes "at most 128 levels of nesting"

-- The refusal names the first bracket of the text that is too deep within others.
pub record NamesBracket (text : List ℕ) (refusal : Refusal) : Type 0 where
  pub offset : ℕ
  pub bracket : Option Lexeme
  pub is : IsTooDeepAt text offset bracket
  pub place : IsPlace (take offset text) refusal.place
  pub found : refusal.found ≡ found_of bracket
