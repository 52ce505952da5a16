use Rattle.std.proofs.Common.{List, ℕ, subst}
use Rattle.json.specs.Text.{after_high}
use Rattle.json_grammar.specs.Strings.{TellsOfMore}
use Rattle.json_grammar.proofs.CutOff.{half_at_end, half_at_letter, half_is, half_stops, letter_stops}
use Rattle.json_grammar.proofs.string.half_goes_on.Goals as goal

pub returns-in_default : goal.returns-in_default
returns-in_default c = λ high. half_at_end high c.args.bytes.now c.in_default.ensures.cases

pub returns-then-first-ne92 : goal.returns-then-first-ne92
returns-then-first-ne92 c = λ high. λ never more.
    half_stops high c.in-Some.first.now c.in-Some.rest.now c.args.bytes.now c.in-Some.ensures.cases.0 c.if-first-ne92.true more

pub returns-in_default-split_first : goal.returns-in_default-split_first
returns-in_default-split_first c = λ high.
    half_at_letter high c.in-Some.first.now c.in-Some.rest.now c.args.bytes.now c.in-Some.ensures.cases.0 c.if-first-ne92.false
    c.in_default-split_first.ensures.cases

pub returns-then-second-ne117 : goal.returns-then-second-ne117
returns-then-second-ne117 c = λ high. λ never more.
    letter_stops high c.in-Some.first.now c.in-Some-split_first.second.now c.in-Some-split_first.digits.now c.in-Some.rest.now
    c.args.bytes.now
    c.in-Some.ensures.cases.0 c.in-Some-split_first.ensures.cases.0 c.if-second-ne117.true more

pub returns : goal.returns
returns c = λ high.
    let is = half_is c.in-Some.first.now c.in-Some-split_first.second.now c.in-Some-split_first.digits.now c.in-Some.rest.now
    c.args.bytes.now
    c.in-Some.ensures.cases.0 c.in-Some-split_first.ensures.cases.0 c.if-first-ne92.false c.if-second-ne117.false in
    subst (λ (l : List ℕ). TellsOfMore (after_high high) l c.low_goes_on.result) is (c.low_goes_on.ensures high)
