use Rattle.std.proofs.Common.{arith}
use Rattle.json_grammar.proofs.Content.{no_part_control, no_part_escape, part_byte, part_escape}
use Rattle.json_grammar.proofs.string.first_part.Goals as goal

pub returns-in_err-escape-in-92 : goal.returns-in_err-escape-in-92
returns-in_err-escape-in-92 c =
    rw c.from_residual-in_err-escape-in-92.ensures
    (no_part_escape c.in_ok-first.first.now c.in_ok-first.rest.now c.args.bytes.now c.in_ok-first.ensures.cases.0 c.in-92.is
    c.in_err-escape-in-92.ensures)

pub returns-in_ok-escape-in-92 : goal.returns-in_ok-escape-in-92
returns-in_ok-escape-in-92 c =
    part_escape c.in_ok-first.first.now c.in_ok-first.rest.now c.args.bytes.now c.in_ok-first.ensures.cases.0 c.in_ok-escape-in-92.field-0
    c.in-92.is c.in_ok-escape-in-92.ensures

pub returns-in_default : goal.returns-in_default
returns-in_default c =
    part_byte c.in_ok-first.first.now c.in_ok-first.rest.now c.args.bytes.now c.in_ok-first.ensures.cases.0 (λ e. omega arith)
    (λ e. omega arith) (omega arith)

pub returns-in-0-to-31 : goal.returns-in-0-to-31
returns-in-0-to-31 c =
    no_part_control c.in_ok-first.first.now c.in_ok-first.rest.now c.args.bytes.now c.in_ok-first.ensures.cases.0 (omega arith)
