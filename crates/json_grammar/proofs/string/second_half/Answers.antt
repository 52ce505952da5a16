use Rattle.std.proofs.Common.{Some, None, sym, ap, ◌∙◌, cond, ◌&&◌, ◌==◌}
use Rattle.json_grammar.proofs.Content.{if_all, never_half, no_second, none_of, one_alone, reads_half}
use Rattle.json_grammar.proofs.string.second_half.Goals as goal

pub returns-in_err-first : goal.returns-in_err-first
returns-in_err-first c = λ high.
    rw c.from_residual.ensures (never_half high c.args.bytes.now (no_second c.args.bytes.now c.in_err-first.ensures.cases))

pub returns-in_err-second : goal.returns-in_err-second
returns-in_err-second c = λ high.
    rw c.from_residual-in_err-second.ensures
    (never_half high c.args.bytes.now (one_alone c.in_ok-first.first.now c.in_ok-first.rest.now c.args.bytes.now
    c.in_ok-first.ensures.cases.0 c.in_err-second.ensures.cases))

pub returns-in_err-unit : goal.returns-in_err-unit
returns-in_err-unit c = λ high.
    rw c.from_residual-in_err-unit.ensures
    (never_half high c.args.bytes.now (none_of c.in_ok-first.first.now c.in_ok-second.second.now c.in_ok-second.digits.now
    c.in_ok-first.rest.now c.args.bytes.now c.in_ok-first.ensures.cases.0 c.in_ok-second.ensures.cases.0 (sym c.in_err-unit.ensures)))

pub returns-then-first-second : goal.returns-then-first-second
returns-then-first-second c = λ high.
    let u = c.in_ok-unit.unit in
    let first = c.in_ok-first.first.now in
    let second = c.in_ok-second.second.now in
    reads_half high u c.args.bytes.now
    (if_all first second u c.in_ok-second.digits.now c.in_ok-first.rest.now c.args.bytes.now
    c.in_ok-first.ensures.cases.0 c.in_ok-second.ensures.cases.0 (sym c.in_ok-unit.ensures)
    ∙ ap (λ t. cond t (Some u) None) (ap (λ t. (first == 92) && (second == 117) && t) (sym c.is_low.ensures) ∙ c.if-first-second.true))

pub returns-else-first-second : goal.returns-else-first-second
returns-else-first-second c = λ high.
    let u = c.in_ok-unit.unit in
    let first = c.in_ok-first.first.now in
    let second = c.in_ok-second.second.now in
    never_half high c.args.bytes.now
    (if_all first second u c.in_ok-second.digits.now c.in_ok-first.rest.now c.args.bytes.now
    c.in_ok-first.ensures.cases.0 c.in_ok-second.ensures.cases.0 (sym c.in_ok-unit.ensures)
    ∙ ap (λ t. cond t (Some u) None) (ap (λ t. (first == 92) && (second == 117) && t) (sym c.is_low.ensures) ∙ c.if-first-second.false))
