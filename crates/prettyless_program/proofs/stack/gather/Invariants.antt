use Rattle.std.proofs.Common.{◌≡◌, length}
use Rattle.prettyless_program.specs.Programs.{gathered, gathered_onto}
use Rattle.prettyless_program.specs.Made.{items_of_entries}
use Rattle.prettyless_program.proofs.stack.gather.Given as goal

-- what is one already, with what is left in front of it, is what comes of all
abbrev pub invariant-loop-before : goal.invariant-loop-before
invariant-loop-before g l = gathered_onto (g.D.Doc.DocPtr.tree l.document) (items_of_entries g.D.Doc.DocPtr.tree l.entries.items) ≡ gathered
    (items_of_entries g.D.Doc.DocPtr.tree l.fn.entries.items)

abbrev pub decreases-loop-before : goal.decreases-loop-before
decreases-loop-before g l = length l.entries.items
