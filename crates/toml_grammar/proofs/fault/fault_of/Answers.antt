use Rattle.std.proofs.Common.{length, refl, ap, arith}
use Rattle.toml_lexemes.specs.SpacedLexer.{spaced_of}
use Rattle.toml_grammar.specs.Readings.{reading_of}
use Rattle.toml_grammar.proofs.Cuts.{cut_next, within}
use Rattle.toml_grammar.proofs.Steps.{one_more, stops_text, all_read}
use Rattle.toml_grammar.proofs.fault.fault_of.Goals as goal

pub overflow_sub-left : goal.overflow_sub-left
overflow_sub-left c =
    let read = c.loop-found.invariant in
    omega (
      arith,
      within c.args.text.now read.before c.loop-found.found-iterator c.loop-found.left read.at (spaced_of c.in-Some.found)
          c.next.new.self c.in-Some.ensures.steps.0,
    )

pub overflow_sub-left-in-loop-found : goal.overflow_sub-left-in-loop-found
overflow_sub-left-in-loop-found c =
    let read = c.loop-found.invariant in
    omega (
      arith,
      ap length c.text.ensures,
      within c.args.text.now read.before c.loop-found.found-iterator c.loop-found.left read.at (spaced_of c.in-Some.found)
          c.next.new.self c.in-Some.ensures.steps.0,
    )

pub returns-in-Some-2-clause-toml : goal.returns-in-Some-2-clause-toml
returns-in-Some-2-clause-toml c =
    stops_text c.args.text.now c.loop-found.found-iterator (reading_of c.loop-found.reading) c.loop-found.left c.loop-found.invariant
    (spaced_of c.in-Some.found) c.next.new.self c.in-Some.ensures.steps.0 c.in-Some-2.expected
    (rw c.in-Some-2.is at c.in_ok-expected.ensures)

pub returns-in-Some-2-clause-fault : goal.returns-in-Some-2-clause-fault
returns-in-Some-2-clause-fault c =
    let read = c.loop-found.invariant in
    let text = c.args.text.now in
    let found = spaced_of c.in-Some.found in
    let is = c.in-Some.ensures.steps.0 in
    let inside = within text read.before c.loop-found.found-iterator c.loop-found.left read.at found c.next.new.self is in
    record {
      before = read.before;
      found = found;
      after = c.next.new.self;
      reading = reading_of c.loop-found.reading;
      cut = cut_next text read.before c.loop-found.found-iterator c.loop-found.left read.at found c.next.new.self is;
      reads = read.reads;
      stops = rw c.in-Some-2.is at c.in_ok-expected.ensures;
      lexeme = refl;
      place = omega (arith, inside, read.at.bytes);
    }

pub loop-found-preserved : goal.loop-found-preserved
loop-found-preserved c =
    let more = one_more c.args.text.now c.loop-found.found-iterator (reading_of c.loop-found.reading) c.loop-found.left
    c.loop-found.invariant (spaced_of c.in-Some.found) c.next.new.self c.in-Some.ensures.steps.0 (reading_of c.step.new.reading)
    (rw c.in_default.is at c.in_ok-expected.ensures) in
    rw c.text.ensures more

pub returns-clause-toml : goal.returns-clause-toml
returns-clause-toml c =
    all_read c.args.text.now c.loop-found.found-iterator (reading_of c.loop-found.reading) c.loop-found.left c.loop-found.invariant
    c.in-None.ensures.steps.0
