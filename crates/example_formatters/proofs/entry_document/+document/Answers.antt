use Rattle.std.proofs.Common.{◌≡◌, subst, map, string_bytes, rules}
use Rattle.std.proofs.lemmas.List.{take_all}
use Rattle.std.proofs.lemmas.Result.{IfOk-weaker}
use Rattle.prettyless.specs.Shows.{shows}
use Rattle.prettyless.specs.Trees.{box_tree}
use Rattle.example_formatters.specs.EntryItems.{block_items, entry_items}
use Rattle.example_formatters.specs.declared.entry.ConfigurationEntry.TheFolds.{fold_out-ConfigurationEntry}
use Rattle.example_formatters.specs.declared.entry.ConfigurationEntry.TheViews.{the_lemmas}
use Rattle.example_formatters.proofs.EntryShows.{one_more}
use Rattle.example_formatters.proofs.entry_document.+document.Goals as goal

pub loop-entry-preserved : goal.loop-entry-preserved
loop-entry-preserved t c =
    let entries = c.deref-entry-items.result.now in
    rw c.in_ok-push-in-Block.ensures.items
    (one_more box_tree c.loop-entry.docs.items c.in_ok-document-in-Block.field-0 entries c.loop-entry.entry-index c.entry-item.result
    c.loop-entry-test.true c.entry-item.is c.loop-entry.invariant c.in_ok-document-in-Block.ensures)

pub returns-after-loop-entry : goal.returns-after-loop-entry
returns-after-loop-entry t c =
    let entries = c.deref-entry-items.result.now in
    let each = rw (take_all c.loop-entry.entry-index entries c.loop-entry-test.false) at c.loop-entry.invariant in
    let same : block_items (string_bytes c.in-Block.name) (map entry_items c.in-Block.entries.items) ≡ entry_items c.args.entry.now =
    rw c.in-Block.is (search (rules, the_lemmas, fold_out-ConfigurationEntry)) in
    IfOk-weaker c.braces.result _ _
    (λ p shown. subst (shows (box_tree p)) same
    (rw (c.as_str.ensures.value, c.deref-entry-items.ensures.value) at (shown (map entry_items entries) each)))
    c.braces.ensures
