use Rattle.sexp.specs.View.{value_of}
use Rattle.sexp.proofs.Running.{not_begun, begun, laid, line_ended}
use Rattle.sexp.proofs.run.write_layout.Goals as goal

pub returns-in_err-document : goal.returns-in_err-document
returns-in_err-document g c =
    not_begun c.args.options (value_of c.args.expression.now) (g.W.Write.contents c.args.writer.now) c.from_residual.result
    c.in_err-document.field-0.0 c.from_residual.ensures.1 c.in_err-document.ensures.err

pub returns-in-Ok : goal.returns-in-Ok
returns-in-Ok g c =
    let v = value_of c.args.expression.now in
    let old = g.W.Write.contents c.args.writer.now in
    let mid = g.W.Write.contents c.render_with.new.out in
    let whole = laid _ c.args.options v old mid tt (rw (c.doc.ensures, c.in_ok-document.ensures.ok) at c.in-Ok.ensures.bytes) in
    let w = c.write_text.ensures in
    line_ended c.args.options v old mid (g.W.Write.contents c.write_text.new.writer) c.write_text.result whole w.ok w.beginning w.err

pub returns-in-Err-Memory : goal.returns-in-Err-Memory
returns-in-Err-Memory g c =
    begun (Unit {0}) _ c.args.options (value_of c.args.expression.now) (g.W.Write.contents c.args.writer.now)
    (g.W.Write.contents c.render_with.new.out) c.in-Err-Memory.field-0
    (rw (c.doc.ensures, c.in_ok-document.ensures.ok) at c.in-Err-Memory.ensures.bytes)

pub returns-in-Err-Sink : goal.returns-in-Err-Sink
returns-in-Err-Sink g c = begun (Unit {0}) _ c.args.options (value_of c.args.expression.now) (g.W.Write.contents c.args.writer.now)
    (g.W.Write.contents c.render_with.new.out) c.in-Err-Sink.field-0
    (rw (c.doc.ensures, c.in_ok-document.ensures.ok) at c.in-Err-Sink.ensures.bytes)
