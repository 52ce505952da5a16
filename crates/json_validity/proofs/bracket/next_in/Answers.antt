use Rattle.std.proofs.Common.{arith}
use Rattle.json_validity.proofs.Lists.{item_next, items_closed, member_next, members_closed, members_stopped}
use Rattle.json_validity.proofs.bracket.next_in.Goals as goal

pub returns-then-take_end_array-clause-next : goal.returns-then-take_end_array-clause-next
returns-then-take_end_array-clause-next c = λ depth. rw c.in-Array.is (items_closed depth _ _ c.if-take_end_array.ensures)

pub returns-else-take_end_array-clause-next : goal.returns-else-take_end_array-clause-next
returns-else-take_end_array-clause-next c = λ depth.
    rw (c.in-Array.is, c.if-take_end_array.ensures.1) (item_next depth c.args.reader.now c.if-take_end_array.ensures.0)

pub returns-in-Ok-Some-clause-next : goal.returns-in-Ok-Some-clause-next
returns-in-Ok-Some-clause-next c = λ depth.
    rw c.in-Object.is (member_next depth c.args.reader.now c.next_key.new.self c.in-Ok-Some.field-0-0.now (grind arith))

pub returns-in-Ok-None-clause-next : goal.returns-in-Ok-None-clause-next
returns-in-Ok-None-clause-next c = λ depth.
    rw c.in-Object.is (members_closed depth c.args.reader.now c.next_key.new.self (grind arith))

pub returns-in-Err-clause-next : goal.returns-in-Err-clause-next
returns-in-Err-clause-next c = λ depth. rw c.in-Object.is (members_stopped depth c.args.reader.now c.in-Err.ensures.value)
