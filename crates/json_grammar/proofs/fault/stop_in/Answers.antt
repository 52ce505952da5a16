use Rattle.std.proofs.Common.{◌≡◌, ℕ, ◌+◌, List, length, drop, sym, ap, subst, arith, inr}
use Rattle.json_lexemes.specs.SpacedLexemes.{first_spaces}
use Rattle.json_lexemes.specs.View.{text_of}
use Rattle.json_grammar.specs.Faults.{IsExpectedBy, StopsBeingJson}
use Rattle.json_grammar.specs.Readings.{JsonReading, json_sort_of}
use Rattle.json_grammar.specs.Steps.{json_reading_of}
use Rattle.json_grammar.proofs.Reached.{at_end, IsRead, one_more, read_within, stops_here, stops_within}
use Rattle.json_grammar.proofs.Stopped.{unfinished}
use Rattle.json_grammar.proofs.fault.stop_in.Goals as goal

pub spaces_end-offset-requires : goal.spaces_end-offset-requires
spaces_end-offset-requires c =
    let within = read_within c.args.text.now c.loop-lexeme.lexeme-iterator (json_reading_of c.loop-lexeme.reading) c.loop-lexeme.offset
    c.loop-lexeme.invariant in
    omega (arith, within, ap length c.as_bytes-bytes.ensures.value)

pub returns-in-Some-2-clause-stop : goal.returns-in-Some-2-clause-stop
returns-in-Some-2-clause-stop c = λ none.
    let named = c.in-Some.ensures.steps.1 in
    let s = text_of c.in-Some.lexeme in
    let h = rw c.in-Some-2.is at (c.in_ok-expected.ensures named) in
    let begins = rw c.as_bytes-bytes.ensures.value at c.spaces_end-offset.ensures.spaces in
    let expected : IsExpectedBy (json_sort_of s) (json_reading_of c.step.new.self) c.in-Some-2.expected =
    subst (λ (x : JsonReading). IsExpectedBy (json_sort_of s) x c.in-Some-2.expected) (sym h.2) h.1 in
    stops_here c.args.text.now c.loop-lexeme.lexeme-iterator (json_reading_of c.loop-lexeme.reading) c.loop-lexeme.offset
    c.loop-lexeme.invariant s c.next.new.self c.in-Some.ensures.steps.0 (json_reading_of c.step.new.self) c.spaces_end-offset.result
    c.stop_at.result h.2 begins (c.stop_at.ensures named expected) h.0

pub returns-in-Some-2-clause-within : goal.returns-in-Some-2-clause-within
returns-in-Some-2-clause-within c =
    let named = c.in-Some.ensures.steps.1 in
    let s = text_of c.in-Some.lexeme in
    let h = rw c.in-Some-2.is at (c.in_ok-expected.ensures named) in
    let begins = rw c.as_bytes-bytes.ensures.value at c.spaces_end-offset.ensures.spaces in
    let expected : IsExpectedBy (json_sort_of s) (json_reading_of c.step.new.self) c.in-Some-2.expected =
    subst (λ (x : JsonReading). IsExpectedBy (json_sort_of s) x c.in-Some-2.expected) (sym h.2) h.1 in
    stops_within c.args.text.now c.loop-lexeme.lexeme-iterator (json_reading_of c.loop-lexeme.reading) c.loop-lexeme.offset
    c.loop-lexeme.invariant s c.next.new.self c.in-Some.ensures.steps.0 (json_reading_of c.step.new.self) c.spaces_end-offset.result
    c.stop_at.result h.2 begins (c.stop_at.ensures named expected)

pub loop-lexeme-preserved : goal.loop-lexeme-preserved
loop-lexeme-preserved c =
    let text = c.args.text.now in
    let offset = c.loop-lexeme.offset in
    let s = text_of c.in-Some.lexeme in
    let step = rw c.in_default.is at (c.in_ok-expected.ensures c.in-Some.ensures.steps.1) in
    let begins = rw c.as_bytes-bytes.ensures.value at c.spaces_end-offset.ensures.spaces in
    let after : offset + length (first_spaces (drop offset text)) + length s ≡ c.spaces_end-offset.result + length c.text.result.now =
    omega (arith, begins, ap length c.text.ensures) in
    subst (IsRead text c.next.new.self (json_reading_of c.step.new.self)) after
    (one_more text c.loop-lexeme.lexeme-iterator (json_reading_of c.loop-lexeme.reading) offset c.loop-lexeme.invariant s c.next.new.self
    c.in-Some.ensures.steps.0 (json_reading_of c.step.new.self) step)

pub returns-clause-stop : goal.returns-clause-stop
returns-clause-stop c = λ none.
    let end = at_end c.args.text.now c.loop-lexeme.lexeme-iterator (json_reading_of c.loop-lexeme.reading) c.loop-lexeme.offset
    c.loop-lexeme.invariant c.in-None.ensures.steps.0
    (λ reached. unfinished c.args.text.now (json_reading_of c.loop-lexeme.reading) reached none) in
    subst (λ (l : List ℕ). StopsBeingJson c.args.text.now (length l) c.loop-lexeme.reading.next) (sym c.as_bytes-bytes.ensures.value)
    (inr end)
