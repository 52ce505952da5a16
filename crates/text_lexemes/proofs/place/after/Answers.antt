use Rattle.std.proofs.Common.{arith}
use Rattle.std.proofs.lemmas.Grind.{common_steps}
use Rattle.text_lexemes.proofs.Placed.{after_line}
use Rattle.text_lexemes.proofs.place.after.Goals as goal

pub returns-then-byte-eq10 : goal.returns-then-byte-eq10
returns-then-byte-eq10 c bytes h = rw c.if-byte-eq10.true (after_line bytes c.args.place h)

pub returns-else-begins_character : goal.returns-else-begins_character
returns-else-begins_character c = grind (arith, common_steps)

pub returns-then-begins_character : goal.returns-then-begins_character
returns-then-begins_character c = grind (arith, common_steps)
