-- Why a text was not formatted.
use Rattle.std.specs.Prelude.{◌≡◌, ℕ, ◌+◌, true, List}
use Rattle.toml_grammar.specs.Nesting.{max_brackets, nest_too_deep, is_too_deep}
use Rattle.toml_formatter.specs.declared.error.FormatError.{FormatError}
use Rattle.toml_formatter.specs.declared.error.FormatError.TheVariants.{NotToml, TooDeep, Memory}

-- memory was refused
abbrev pub IsFormatMemory : FormatError → Type 0
IsFormatMemory NotToml = ⊥
IsFormatMemory TooDeep = ⊥
IsFormatMemory (Memory e) = Unit {0}

-- The brackets of these lexemes are too deep, where so many more than are open before them may be open; or memory was refused.
abbrev pub IsRefusalWithin : ℕ → List (List ℕ) → FormatError → Type 0
IsRefusalWithin depth ss NotToml = ⊥
IsRefusalWithin depth ss TooDeep = (n : ℕ) → n + depth ≡ max_brackets → nest_too_deep n ss ≡ true
IsRefusalWithin depth ss (Memory e) = Unit {0}

-- the brackets of the text are too deep, or memory was refused
abbrev pub IsRefusalOf : List ℕ → FormatError → Type 0
IsRefusalOf text NotToml = ⊥
IsRefusalOf text TooDeep = is_too_deep text ≡ true
IsRefusalOf text (Memory e) = Unit {0}
