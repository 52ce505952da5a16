-- What the words of a program that formats files ask for, by what `clap` reads in them.
use Rattle.std.specs.Prelude.{◌≡◌, ◌≤◌, ℕ, ⊤, Bool, true, false, List, [], codes, map, Option, Some, None, unwrap_or, not, is_some}
use Rattle.std.specs.Prelude.{Result, Ok}
use Rattle.std.specs.Option.{option_map_or}
use Rattle.std.specs.Str.{bytes_eq}
use Rattle.std.specs.Str.Parse.{IsNumeral, digits_value, without_leading_plus}
use Rattle.clap.specs.Simple.{new_shape}
use Rattle.clap.specs.Words.{App, Row, Rule, Text, all_of, first_of, new_rule, one_of, with_rule}
use Rattle.clap.specs.declared.builder.action.ArgAction.TheVariants.{Append, SetTrue}
use Rattle.clap.specs.declared.builder.value_parser.ValueParser.TheVariants.{Unsigned}
use Rattle.formatter_files.specs.Actions.{action_of, report_of}
use Rattle.formatter_files.specs.declared.action.Action.{Action}
use Rattle.formatter_files.specs.declared.action.WriteConflict.{WriteConflict}
use Rattle.formatter_files.specs.declared.task.Task.{Task}

-- an option that takes no value
abbrev pub flag : Text → Rule
flag name = record (new_rule name) { long = Some name; action = Some SetTrue }

-- an option that takes a number, no greater than `most`
abbrev pub number_rule : Text → ℕ → Rule
number_rule name most = record (new_rule name) { long = Some name; value_names = 1; parser = Some (Unsigned 0 most) }

-- the option under a letter too
abbrev pub with_letter : ℕ → Rule → Rule
with_letter letter rule = record rule { short = Some letter }

-- the greatest numbers of 64 bits, and of 32
abbrev pub most_64 : ℕ
most_64 = 18446744073709551615

abbrev pub most_32 : ℕ
most_32 = 4294967295

-- the files, as many as there are
abbrev pub files : Rule
files = record (new_rule (codes "FILE")) { action = Some Append }

-- a program of this name, which has a version, with no option yet
abbrev pub program : Text → App
program name = record {
  top = record (new_shape name) { has_version = true };
  subs = [];
}

-- with the width
abbrev pub with_width : App → App
with_width a = with_rule a (number_rule (codes "width") most_64)

-- with the options that take numbers; 105 is `i`
abbrev pub with_numbers : App → App
with_numbers a = with_rule (with_width a) (with_letter 105 (number_rule (codes "indent") most_32))

-- with what says what becomes of the layouts, and of which files; 99 is `c`, 100 is `d`, and 119 is `w`
abbrev pub with_files : App → App
with_files a =
    with_rule (with_rule (with_rule (with_rule (with_rule a (with_letter 99 (flag (codes "check"))))
    (with_letter 100 (flag (codes "diff")))) (with_letter 119 (flag (codes "write")))) (flag (codes "no-editorconfig"))) files

-- the flag is given
abbrev pub has_flag : Text → List Row → Bool
has_flag name rows = option_map_or (λ value. bytes_eq value (codes "true")) (first_of name rows) false

-- an option's text is a number in decimal digits, no greater than `most`, where it has a text
abbrev pub IsNumberUpTo : ℕ → Option Text → Type 0
IsNumberUpTo most None = ⊤
IsNumberUpTo most (Some text) = IsNumeral 10 (without_leading_plus text) × (digits_value 10 (without_leading_plus text) ≤ most)

-- an option's text writes the number in decimal digits; where the option is not given, the number is `default`
abbrev pub HasNumber : ℕ → Option Text → ℕ → Type 0
HasNumber default None n = n ≡ default
HasNumber default (Some text) n = IsNumeral 10 (without_leading_plus text) × (n ≡ digits_value 10 (without_leading_plus text))

-- the number is the width that is asked for, and so the indent
abbrev pub IsWidth : List Row → ℕ → Type 0
IsWidth rows n = HasNumber 80 (one_of (codes "width") rows) n

abbrev pub IsIndent : List Row → ℕ → Type 0
IsIndent rows n = HasNumber 2 (one_of (codes "indent") rows) n

-- the texts of the options that take a number are numbers
abbrev pub HasWidth : List Row → Type 0
HasWidth rows = IsNumberUpTo most_64 (one_of (codes "width") rows)

abbrev pub HasIndent : List Row → Type 0
HasIndent rows = IsNumberUpTo most_32 (one_of (codes "indent") rows)

-- what is to be done with layouts
abbrev pub action_asked : List Row → Result Action WriteConflict
action_asked rows = action_of (has_flag (codes "write") rows) (report_of (has_flag (codes "check") rows) (has_flag (codes "diff") rows))

-- What is to become of layouts, and of which files.
pub record IsTask (rows : List Row) (task : Task) : Type 0 where
  pub action : action_asked rows ≡ Ok task.action
  pub editorconfig : task.editorconfig ≡ not (has_flag (codes "no-editorconfig") rows)
  pub has_width : task.has_width ≡ is_some (first_of (codes "width") rows)
  pub has_indent : task.has_indent ≡ is_some (first_of (codes "indent") rows)
  pub files : map (λ file. file.now) task.files.items ≡ unwrap_or (all_of (codes "FILE") rows) []
