use Rattle.json_grammar.proofs.Content.{take_rest}
use Rattle.json_grammar.proofs.Closing.{reads_more}
use Rattle.json_grammar.proofs.string.parts.Goals as goal

pub loop-part-preserved : goal.loop-part-preserved
loop-part-preserved c =
    reads_more c.args.bytes.now c.loop-part.len c.in-Some.part c.loop-part.invariant (rw take_rest at c.in-Some.ensures.reads)

pub returns-clause-last : goal.returns-clause-last
returns-clause-last c = rw take_rest at c.in_default.ensures
