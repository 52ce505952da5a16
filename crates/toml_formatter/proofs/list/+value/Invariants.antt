use Rattle.std.proofs.Common.{◌+◌, ◌*◌, length, true, List, ℕ}
use Rattle.toml_formatter.specs.Depths.{TakesWithin}
use Rattle.toml_documents.specs.Documents.{new_level}
use Rattle.toml_formatter.specs.Drafts.{ReadsOn}
use Rattle.toml_formatter.specs.Lines.{TakesLine}
use Rattle.toml_formatter.proofs.list.+value.Given as goal

-- a list is above its lexemes, and these above the list that one of them opens
abbrev pub decreases-inside : goal.decreases-inside
decreases-inside l = 3 * l.depth + 2

abbrev pub decreases-with_next : goal.decreases-with_next
decreases-with_next l = 3 * l.depth + 1

abbrev pub decreases-value : goal.decreases-value
decreases-value l = 3 * l.depth

-- the line has the lexemes that were taken, which are not too deep, and is where the definition is after them
abbrev pub invariant-inside-loop-next : goal.invariant-inside-loop-next
invariant-inside-loop-next l = TakesLine l.line l.fn.lexemes l.lexemes × TakesWithin l.depth l.fn.lexemes l.lexemes
    × ((opening : List ℕ) → ReadsOn l.setting.style true (new_level l.kind opening) l.fn.lexemes l.lexemes l.line)

abbrev pub decreases-inside-loop-next : goal.decreases-inside-loop-next
decreases-inside-loop-next l = length l.lexemes
