-- What indents are made of.
use Rattle.std.specs.Prelude.{ℕ}
use Rattle.json.specs.Ascii as ascii
use Rattle.json_formatter.specs.declared.blanks.Blank.{Blank}
use Rattle.json_formatter.specs.declared.blanks.Blank.TheVariants as blank

-- its byte
abbrev pub blank_code : Blank → ℕ
blank_code blank.Space = ascii.space
blank_code blank.Tab = ascii.tab
