use Rattle.std.proofs.Common.{rules}
use Rattle.prettyless_model.specs.Shows.{shows}
use Rattle.prettyless_model.specs.Tree.{Tree, TextWithLen}
use Rattle.prettyless_laws.proofs.ShownItems.{ascii_text_shows}
use Rattle.prettyless_laws.specs.Shown.{text_items}
use Rattle.prettyless_shapes.proofs.Made.{of_made}
use Rattle.toml_formatter.proofs.parts.uncounted.Goals as goal

pub returns-clause-ok : goal.returns-clause-ok
returns-clause-ok g c = search rules

pub returns-clause-items : goal.returns-clause-items
returns-clause-items g c =
    let s = c.args.spelling.now in
    of_made c.alloc.result g.D.Doc.DocPtr.tree (TextWithLen 0 s) (λ (x : Tree). shows x (text_items s)) (ascii_text_shows s)
    (returns-clause-ok g c)
