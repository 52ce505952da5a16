use Rattle.std.proofs.Common.{sym, arith}
use Rattle.json_grammar.proofs.CutOff.{digits_none, low_tells, whole_half_stops}
use Rattle.json_grammar.proofs.string.low_goes_on.Goals as goal

pub returns-then-digits-gt3 : goal.returns-then-digits-gt3
returns-then-digits-gt3 c = λ high. λ never more. whole_half_stops high c.args.digits.now (omega arith) never more

pub returns-in-Some : goal.returns-in-Some
returns-in-Some c = λ high.
    low_tells high c.args.digits.now c.in-Some.unit c.is_low.result (omega arith) (sym c.in-Some.ensures) c.is_low.ensures

pub returns-in-None : goal.returns-in-None
returns-in-None c = λ high. λ never more. digits_none high c.args.digits.now (sym c.in-None.ensures) more
