use Rattle.std.proofs.Common.{◌≡◌, ◌+◌, length, sym, ◌∙◌, subst, arith}
use Rattle.json_lexemes.specs.Words.{WordGoesOn}
use Rattle.json_lexemes.proofs.Places.{word_to_byte, word_to_end}
use Rattle.json_lexemes.proofs.Runs.{goes_on_both, goes_on_more, run_between}
use Rattle.json_lexemes.proofs.cut.word_end.Goals as goal

pub returns-then-ends_word-clause-cut : goal.returns-then-ends_word-clause-cut
returns-then-ends_word-clause-cut c =
    let d = c.args.bytes.now in
    let place = c.loop-place.place in
    let i = c.loop-place.invariant in
    word_to_byte d c.args.from place i.0 (omega arith) (run_between d c.args.from place i.0 i.1 i.2)
    (sym c.ends_word.ensures ∙ c.if-ends_word.true)

pub loop-place-preserved : goal.loop-place-preserved
loop-place-preserved c =
    let d = c.args.bytes.now in
    let place = c.loop-place.place in
    let i = c.loop-place.invariant in
    let more = goes_on_more d c.args.from place i.2 (sym c.ends_word.ensures ∙ c.if-ends_word.false) in
    let next : place + 1 + c.word_len.result ≡ place + (1 + c.word_len.result) = omega arith in (
      omega arith,
      omega (arith, c.word_len.ensures.bounds),
      subst (λ k. WordGoesOn d c.args.from k) next
          (goes_on_both d c.args.from (place + 1) (place + 1 + c.word_len.result) more c.word_len.ensures.goes_on),
    )

pub returns-clause-cut : goal.returns-clause-cut
returns-clause-cut c =
    let d = c.args.bytes.now in
    let i = c.loop-place.invariant in
    let end : c.loop-place.place ≡ length d = omega arith in
    let all = subst (λ k. WordGoesOn d c.args.from k) end i.2 in
    word_to_end d c.args.from (length d) (omega arith) (omega arith) (run_between d c.args.from (length d) (omega arith) (omega arith) all)
