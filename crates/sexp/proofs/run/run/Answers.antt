use Rattle.sexp.specs.View.{value_of}
use Rattle.sexp.proofs.Running.{gives_value, not_parsed, not_read, ran}
use Rattle.sexp.proofs.run.run.Goals as goal

pub returns : goal.returns
returns g c =
    let v = value_of c.in_ok-expression.expression in
    let given = g.R.Read.remaining c.args.reader.now in
    let read = rw c.deref.ensures.value at c.in_ok-expression.ensures.ok in
    let i = c.in_ok-input.ensures in
    let gives = gives_value given (g.R.Read.remaining c.read_input.new.reader) c.in_ok-input.input.items v i.taken i.all read in
    ran c.args.options given (g.W.Write.contents c.args.writer.now) (g.W.Write.contents c.write_layout.new.writer) v c.write_layout.result
    gives c.write_layout.ensures

pub returns-in_err-input : goal.returns-in_err-input
returns-in_err-input g c =
    not_read c.args.options (g.R.Read.remaining c.args.reader.now) (g.W.Write.contents c.args.writer.now) c.from_residual.result
    c.in_err-input.field-0.0 c.from_residual.ensures.1 c.in_err-input.ensures.err

pub returns-in_err-expression : goal.returns-in_err-expression
returns-in_err-expression g c =
    let i = c.in_ok-input.ensures in
    not_parsed c.args.options (g.R.Read.remaining c.args.reader.now) (g.R.Read.remaining c.read_input.new.reader)
    (g.W.Write.contents c.args.writer.now) c.in_ok-input.input.items c.from_residual-in_err-expression.result
    c.in_err-expression.field-0.0 c.from_residual-in_err-expression.ensures.1 i.taken i.all
    (rw c.deref.ensures.value at c.in_err-expression.ensures.err)
