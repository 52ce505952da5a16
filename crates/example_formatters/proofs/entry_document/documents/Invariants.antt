use Rattle.std.proofs.Common.{map, take}
use Rattle.std.specs.List.{AllZip}
use Rattle.prettyless.specs.Shows.{shows}
use Rattle.prettyless.specs.Trees.{box_tree}
use Rattle.example_formatters.specs.EntryItems.{entry_items}
use Rattle.example_formatters.proofs.entry_document.documents.Given as goal

-- each document so far shows its entry
abbrev pub invariant-loop-entry : goal.invariant-loop-entry
invariant-loop-entry l = AllZip shows (map box_tree l.docs.items) (map entry_items (take l.entry-index l.entries))
