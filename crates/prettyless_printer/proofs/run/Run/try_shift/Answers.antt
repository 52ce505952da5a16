use Rattle.std.proofs.Common.{arith}
use Rattle.prettyless_printer.proofs.run.Run.try_shift.Goals as goal

-- over a table to the end
pub returns-in-Ok-Some-clause-ended : goal.returns-in-Ok-Some-clause-ended
returns-in-Ok-Some-clause-ended g c = rw c.in-Ok-Some.field-0-is at c.in-Ok-Some.ensures.ended

-- there are too many nodes for that table
pub returns-in-Ok-None-clause-large : goal.returns-in-Ok-None-clause-large
returns-in-Ok-None-clause-large g c = λ some none. rw c.in-Ok-None.field-0-is at c.in-Ok-None.ensures.large

pub returns-in-Ok-None-clause-none : goal.returns-in-Ok-None-clause-none
returns-in-Ok-None-clause-none g c = rw c.in-Ok-None.field-0-is at c.in-Ok-None.ensures.none

-- that table was refused memory
pub returns-in-Err-clause-large : goal.returns-in-Err-clause-large
returns-in-Err-clause-large g c = λ some none. absurd (omega (arith, none, c.count.ensures.one))

pub returns-in-Err-clause-none : goal.returns-in-Err-clause-none
returns-in-Err-clause-none g c = c.in-Err.ensures.refused

-- where it has come in its course
pub returns-in-Ok-Some-clause-course : goal.returns-in-Ok-Some-clause-course
returns-in-Ok-Some-clause-course g c = rw c.in-Ok-Some.field-0-is at c.in-Ok-Some.ensures.course
