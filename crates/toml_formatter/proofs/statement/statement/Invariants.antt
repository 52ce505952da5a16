use Rattle.std.proofs.Common.{◌≡◌, List, ℕ, ◌∷◌, ◌++◌, length, false, true}
use Rattle.toml_lexemes.specs.View.{toml_text_of}
use Rattle.toml_grammar.specs.Nesting.{max_brackets}
use Rattle.toml_formatter.specs.Depths.{TakesWithin}
use Rattle.toml_formatter.specs.Drafts.{ReadsFirst}
use Rattle.toml_formatter.specs.Lines.{ShowsTaken, MayGoOn}
use Rattle.toml_formatter.proofs.statement.statement.Given as goal

-- the line has the lexemes that were taken, which are not too deep, and is where the definition is after them
abbrev pub invariant-loop-next : goal.invariant-loop-next
invariant-loop-next l = (taken : List (List ℕ)) × (toml_text_of l.fn.first ∷ l.fn.lexemes ≡ taken ++ l.lexemes)
    × ShowsTaken false true l.line l.lexemes taken × MayGoOn l.line l.lexemes
    × TakesWithin max_brackets (toml_text_of l.fn.first ∷ l.fn.lexemes) l.lexemes
    × ReadsFirst l.setting.style (toml_text_of l.fn.first ∷ l.fn.lexemes) l.lexemes l.line

abbrev pub decreases-loop-next : goal.decreases-loop-next
decreases-loop-next l = length l.lexemes
