use Rattle.std.proofs.Common.{arith}
use Rattle.json_grammar.proofs.Content.{string_within}
use Rattle.json_grammar.proofs.fault.stop_in_string.Goals as goal

pub returns : goal.returns
returns c = λ quote.
    let part = c.refused_part-part.result in
    let fault = c.refused_part-part.ensures quote in
    (part.offset, omega (arith, string_within c.args.text.now part.offset part.expected fault, c.saturating_add.ensures), fault)
