use Rattle.toml_formatter.proofs.PressLemmas.{same_left}
use Rattle.toml_formatter.proofs.document.lay_some.Goals as goal

pub lay_next-requires-in-Some-clause-laid : goal.lay_next-requires-in-Some-clause-laid
lay_next-requires-in-Some-clause-laid c = same_left c.args.press.now c.loop-lexemes.laid c.in-Some.ensures.next c.loop-lexemes.invariant.0
