use Rattle.std.proofs.Common.{ap, ◌∙◌}
use Rattle.json.specs.Word.{head}
use Rattle.json_grammar.proofs.Content.{take_rest}
use Rattle.json_grammar.proofs.CutOff.{stops_at_end, stops_inside}
use Rattle.json_grammar.proofs.string.refused_part.Goals as goal

pub returns-then-goes_on : goal.returns-then-goes_on
returns-then-goes_on c = λ quote.
    let same = c.as_bytes-bytes.ensures.value in
    let parts = c.allowed_len-allowed.ensures.parts (ap head same ∙ quote) in
    stops_at_end c.args.string.now c.as_bytes-bytes.result.now c.allowed_len-allowed.result c.goes_on.result same parts
    (rw take_rest at c.goes_on.ensures) c.if-goes_on.true

pub returns : goal.returns
returns c = λ quote.
    let same = c.as_bytes-bytes.ensures.value in
    let parts = c.allowed_len-allowed.ensures.parts (ap head same ∙ quote) in
    rw (c.expected_in.ensures, take_rest)
    (stops_inside c.args.string.now c.as_bytes-bytes.result.now c.allowed_len-allowed.result c.goes_on.result same parts
    (rw take_rest at c.goes_on.ensures) c.if-goes_on.false)
