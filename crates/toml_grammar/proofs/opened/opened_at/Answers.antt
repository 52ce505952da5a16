use Rattle.std.proofs.Common.{length, ap, ◌∙◌, ◌-◌, arith}
use Rattle.toml_lexemes.specs.SpacedLexer.{spaced_of}
use Rattle.toml_grammar.specs.Opened.{innermost_opened}
use Rattle.toml_grammar.proofs.Cuts.{within}
use Rattle.toml_grammar.proofs.Opening.{goes_on, opened_more, stops_here}
use Rattle.toml_grammar.proofs.opened.opened_at.Goals as goal

pub overflow_sub-left : goal.overflow_sub-left
overflow_sub-left c =
    let read = c.loop-found.invariant in
    omega (
      arith,
      within c.args.text.now read.before c.loop-found.found-iterator c.loop-found.left read.at (spaced_of c.in-Some.found)
          c.next.new.self c.in-Some.ensures.steps.0,
    )

pub returns-then-fault-offset : goal.returns-then-fault-offset
returns-then-fault-offset c = λ is.
    let read = c.loop-found.invariant in
    let text = c.args.text.now in
    let items = c.loop-found.found-iterator in
    let found = spaced_of c.in-Some.found in
    let next = c.in-Some.ensures.steps.0 in
    let inside = within text read.before items c.loop-found.left read.at found c.next.new.self next in
    let stops = stops_here text c.args.fault items c.loop-found.opened.items c.loop-found.left read is found c.next.new.self next
    (omega (arith, inside, read.at.bytes, c.if-fault-offset.true)) in
    c.copied.ensures ∙ c.last.ensures.value ∙ ap innermost_opened (c.deref.ensures.value ∙ stops)

pub overflow_sub-left-in-loop-found : goal.overflow_sub-left-in-loop-found
overflow_sub-left-in-loop-found c =
    let read = c.loop-found.invariant in
    omega (
      arith,
      ap length c.text.ensures,
      within c.args.text.now read.before c.loop-found.found-iterator c.loop-found.left read.at (spaced_of c.in-Some.found)
          c.next.new.self c.in-Some.ensures.steps.0,
    )

pub loop-found-preserved : goal.loop-found-preserved
loop-found-preserved c =
    let read = c.loop-found.invariant in
    let text = c.args.text.now in
    let items = c.loop-found.found-iterator in
    let left = c.loop-found.left in
    let found = spaced_of c.in-Some.found in
    let next = c.in-Some.ensures.steps.0 in
    let inside = within text read.before items left read.at found c.next.new.self next in
    let more = opened_more text c.args.fault items c.loop-found.opened.items left read found c.next.new.self next c.pass.new.opened.items
    (length text - (left - length found.gap)) (omega (arith, inside, read.at.bytes)) (omega (arith, c.if-fault-offset.false))
    c.in_ok-pass.ensures in
    rw c.text.ensures more

pub returns : goal.returns
returns c = λ is. absurd
    (goes_on c.args.text.now c.args.fault c.loop-found.found-iterator c.loop-found.opened.items c.loop-found.left c.loop-found.invariant is
    c.in-None.ensures.steps.0)
