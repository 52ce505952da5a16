use Rattle.std.proofs.Common.{length}
use Rattle.prettyless_program.specs.Faults.{Reaches}
use Rattle.prettyless_program.specs.Made.{items_of_entries}
use Rattle.prettyless_program.proofs.decoding.decode.Given as goal

-- the instructions up to here were followed, and made what is there
abbrev pub invariant-loop-entries : goal.invariant-loop-entries
invariant-loop-entries g l = Reaches l.fn.program l.reader.rest.now (items_of_entries g.D.Doc.DocPtr.tree l.entries.items)

abbrev pub decreases-loop-entries : goal.decreases-loop-entries
decreases-loop-entries g l = length l.reader.rest.now
