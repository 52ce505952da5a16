use Rattle.example_formatters.specs.EntryItems.{entries_items}
use Rattle.example_formatters.proofs.entry_write.write_in.Goals as goal

pub returns : goal.returns
returns c =
    let rendered = rw c.doc.ensures at c.in_ok-render_fmt.ensures in
    let content = rendered.content in
    (content.0, content.1, content.2.shown (entries_items c.args.entries.now) c.in_ok-document.ensures)
