use Rattle.std.proofs.Common.{◌≡◌, ◌≤◌, ℕ, ◌+◌, List, length, take, drop, ap, subst, arith}
use Rattle.text_lexemes.specs.Places.{IsPlace}
use Rattle.json_lexemes.specs.SpacedLexemes.{first_spaces}
use Rattle.json_lexemes.specs.View.{text_of}
use Rattle.json_grammar.specs.Steps.{json_reading_of}
use Rattle.json_grammar.proofs.Reached.{IsRead, one_more, opens_within, read_within}
use Rattle.json_grammar.proofs.depth.depth_fault.Goals as goal

pub spaces_end-offset-requires : goal.spaces_end-offset-requires
spaces_end-offset-requires c =
    let within = read_within c.args.text.now c.loop-lexeme.lexeme-iterator (json_reading_of c.loop-lexeme.reading) c.loop-lexeme.offset
    c.loop-lexeme.invariant in
    omega (arith, within, ap length c.as_bytes-bytes.ensures.value)

pub returns-then-depth-most-clause-found : goal.returns-then-depth-most-clause-found
returns-then-depth-most-clause-found c =
    let text = c.args.text.now in
    let place = c.place_at.result in
    let reading = json_reading_of c.loop-lexeme.reading in
    let begins = rw c.as_bytes-bytes.ensures.value at c.spaces_end-offset.ensures.spaces in
    let deep : c.args.most ≤ length reading.open_brackets = omega (arith, c.if-depth-most.true, c.depth.ensures) in
    let at = subst (λ (l : List ℕ). IsPlace (take c.spaces_end-offset.result l) place) c.as_bytes-bytes.ensures.value c.place_at.ensures in
    opens_within text c.loop-lexeme.lexeme-iterator reading c.loop-lexeme.offset c.loop-lexeme.invariant (text_of c.in-Some.lexeme)
    c.next.new.self c.in-Some.ensures.steps.0 c.args.most place (c.opens.ensures c.if-opens.true) deep
    (subst (λ (n : ℕ). IsPlace (take n text) place) begins at)

pub loop-lexeme-preserved : goal.loop-lexeme-preserved
loop-lexeme-preserved c =
    let text = c.args.text.now in
    let offset = c.loop-lexeme.offset in
    let s = text_of c.in-Some.lexeme in
    let step = rw c.in_default.is at (c.in_ok-refused.ensures c.in-Some.ensures.steps.1) in
    let begins = rw c.as_bytes-bytes.ensures.value at c.spaces_end-offset.ensures.spaces in
    let after : offset + length (first_spaces (drop offset text)) + length s ≡ c.spaces_end-offset.result + length c.text.result.now =
    omega (arith, begins, ap length c.text.ensures) in
    subst (IsRead text c.next.new.self (json_reading_of c.step.new.self)) after
    (one_more text c.loop-lexeme.lexeme-iterator (json_reading_of c.loop-lexeme.reading) offset c.loop-lexeme.invariant s c.next.new.self
    c.in-Some.ensures.steps.0 (json_reading_of c.step.new.self) step)
