use Rattle.std.proofs.Common.{◌≡◌, ◌∷◌, arith}
use Rattle.json.specs.Reads.{token_of}
use Rattle.json.proofs.Grammar.{value_is}
use Rattle.json_validity.proofs.Values.{begins_array, begins_object, nothing_begins}
use Rattle.json_validity.proofs.value.begin.Goals as goal

pub returns-in-Some-String-clause-begins : goal.returns-in-Some-String-clause-begins
returns-in-Some-String-clause-begins c = λ depth.
    let first : c.args.reader.now ≡ token_of c.in-Some-String.field-0 ∷ c.next.new.self = c.in-Some-String.ensures.value in
    rw (value_is depth c.args.reader.now, first) (grind arith)

pub returns-in-Some-BeginArray-clause-begins : goal.returns-in-Some-BeginArray-clause-begins
returns-in-Some-BeginArray-clause-begins c =
    begins_array c.args.reader.now c.next.new.self c.in-Some-BeginArray.field-0
    c.in-Some-BeginArray.ensures.value c.in-Some-BeginArray.field-0-is

pub returns-in-Some-BeginObject-clause-begins : goal.returns-in-Some-BeginObject-clause-begins
returns-in-Some-BeginObject-clause-begins c =
    begins_object c.args.reader.now c.next.new.self c.in-Some-BeginObject.field-0
    c.in-Some-BeginObject.ensures.value c.in-Some-BeginObject.field-0-is

pub returns-in_default-clause-begins : goal.returns-in_default-clause-begins
returns-in_default-clause-begins c = λ depth.
    let first : c.args.reader.now ≡ token_of c.in_default.field-0 ∷ c.next.new.self = grind arith in
    rw (value_is depth c.args.reader.now, first) (grind arith)

pub returns-in_default-2-clause-begins : goal.returns-in_default-2-clause-begins
returns-in_default-2-clause-begins c = λ depth. nothing_begins depth c.args.reader.now (grind arith)
