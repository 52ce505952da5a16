use Rattle.std.proofs.Common.{length, refl, ap, arith}
use Rattle.toml_lexemes.specs.SpacedLexer.{spaced_of}
use Rattle.toml_grammar.proofs.Cuts.{cut_next, within}
use Rattle.toml_grammar.proofs.Depths.{here, not_yet, nowhere, still}
use Rattle.toml_grammar.proofs.nesting.too_deep.Goals as goal

pub overflow_sub-left : goal.overflow_sub-left
overflow_sub-left c =
    let read = c.loop-found.invariant in
    omega (
      arith,
      within c.args.text.now read.before c.loop-found.found-iterator c.loop-found.left read.at (spaced_of c.in-Some.found)
          c.next.new.self c.in-Some.ensures.steps.0,
    )

pub returns-then-depth-gt-MAX_DEPTH-clause-first : goal.returns-then-depth-gt-MAX_DEPTH-clause-first
returns-then-depth-gt-MAX_DEPTH-clause-first c =
    let read = c.loop-found.invariant in
    let text = c.args.text.now in
    let items = c.loop-found.found-iterator in
    let found = spaced_of c.in-Some.found in
    let is = c.in-Some.ensures.steps.0 in
    let inside = within text read.before items c.loop-found.left read.at found c.next.new.self is in
    λ deep. record {
      before = read.before;
      found = found;
      after = c.next.new.self;
      cut = cut_next text read.before items c.loop-found.left read.at found c.next.new.self is;
      shallow = not_yet text items c.loop-found.depth c.loop-found.left read;
      deep = here text items c.loop-found.depth c.loop-found.left read found c.next.new.self is
          (omega (arith, c.if-depth-gt-MAX_DEPTH.true, c.depth_after-depth.ensures));
      lexeme = refl;
      place = omega (arith, inside, read.at.bytes);
    }

pub overflow_sub-left-in-loop-found : goal.overflow_sub-left-in-loop-found
overflow_sub-left-in-loop-found c =
    let read = c.loop-found.invariant in
    omega (
      arith,
      ap length c.text.ensures,
      within c.args.text.now read.before c.loop-found.found-iterator c.loop-found.left read.at (spaced_of c.in-Some.found)
          c.next.new.self c.in-Some.ensures.steps.0,
    )

pub loop-found-preserved : goal.loop-found-preserved
loop-found-preserved c =
    let more = still c.args.text.now c.loop-found.found-iterator c.loop-found.depth c.loop-found.left c.loop-found.invariant
    (spaced_of c.in-Some.found) c.next.new.self c.in-Some.ensures.steps.0
    (omega (arith, c.if-depth-gt-MAX_DEPTH.false, c.depth_after-depth.ensures)) in
    rw (c.text.ensures, c.depth_after-depth.ensures) more

pub returns-clause-first : goal.returns-clause-first
returns-clause-first c = λ deep.
    let none = nowhere c.args.text.now c.loop-found.found-iterator c.loop-found.depth c.loop-found.left c.loop-found.invariant
    c.in-None.ensures.steps.0 in
    cc
