use Rattle.prettyless.specs.Trees.{box_tree}
use Rattle.example_formatters.proofs.EntryShows.{one_more}
use Rattle.example_formatters.proofs.entry_document.documents.Goals as goal

pub loop-entry-preserved : goal.loop-entry-preserved
loop-entry-preserved c =
    rw c.in_ok-push.ensures.items
    (one_more box_tree c.loop-entry.docs.items c.in_ok-document.field-0 c.args.entries.now c.loop-entry.entry-index c.entry-item.result
    c.loop-entry-test.true c.entry-item.is c.loop-entry.invariant c.in_ok-document.ensures)
