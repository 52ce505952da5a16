use Rattle.std.proofs.Common.{refl, subst, rules, Ok}
use Rattle.std.specs.Bool.{⊤}
use Rattle.std.specs.Fmt.{DisplaysOnOk, DisplaysStyledOnOk}
use Rattle.std.specs.declared.fmt.Error.{Error}
use Rattle.prettyless_model.specs.Layout.{layout, whole_bytes}
use Rattle.prettyless_doc.specs.DocTree.{tree_of}
use Rattle.prettyless_doc.proofs.Streaming.{displays, displays_styled, streams_layout}
use Rattle.prettyless_doc.proofs.print.PrettyFmtDisplay.fmt.Goals as goal

pub returns-in-Ok-clause-writes : goal.returns-in-Ok-clause-writes
returns-in-Ok-clause-writes g c =
    let new = c.new-sink.ensures in
    let sink = c.render_raw_with-result.new.out in
    let bytes = layout c.args.self.now.options (tree_of g.T.DocPtr.tree c.args.self.now.doc.now) in
    let rendered = rw (new.start, new.given, new.failures) at c.in-Ok.ensures.bytes in
    subst (λ x. DisplaysOnOk g.W.Write.write_str_gives c.args.f.now (Ok tt) (whole_bytes bytes) x) (search rules)
    (displays g.W.Write.write_str_gives c.args.f.now sink.formatter.now (Ok tt) (whole_bytes bytes)
    (streams_layout _ g.W.Write.write_str_gives (λ (_ : Error). ⊤) bytes c.args.f.now sink.start.now.value sink.formatter.now
    sink.given.bytes sink.failures (tt {0}) (rendered refl).1 c.streams.ensures))

pub returns-in-Ok-clause-styled : goal.returns-in-Ok-clause-styled
returns-in-Ok-clause-styled g c =
    let new = c.new-sink.ensures in
    let sink = c.render_raw_with-result.new.out in
    let bytes = layout c.args.self.now.options (tree_of g.T.DocPtr.tree c.args.self.now.doc.now) in
    let rendered = rw (new.start, new.given, new.failures) at c.in-Ok.ensures.bytes in
    subst (λ x. DisplaysStyledOnOk g.W.Write.write_str_gives c.args.f.now (Ok tt) (whole_bytes bytes) x) (search rules)
    (displays_styled g.W.Write.write_str_gives c.args.f.now sink.formatter.now (Ok tt) (whole_bytes bytes)
    (streams_layout _ g.W.Write.write_str_gives (λ (_ : Error). ⊤) bytes c.args.f.now sink.start.now.value sink.formatter.now
    sink.given.bytes sink.failures (tt {0}) (rendered refl).1 c.streams.ensures))
