use Rattle.std.proofs.Common.{sym, ◌∙◌, arith}
use Rattle.json_formatter.proofs.Narrow.{four_more}
use Rattle.json_formatter.proofs.columns.ascii_front.Goals as goal

pub loop-front-preserved : goal.loop-front-preserved
loop-front-preserved c =
    let i = c.loop-front.invariant in (
      omega (arith, c.loop-front-test.true),
      four_more c.args.bytes.now c.loop-front.front i.1 (sym c.four_are_ascii.ensures ∙ c.if-four_are_ascii.true),
    )
