use Rattle.std.proofs.Common.{arith}
use Rattle.std.proofs.lemmas.Str.{IsCharBoundary-start}
use Rattle.json_lexemes.proofs.Firsts.{boundary_past}
use Rattle.json_grammar.proofs.next.plain_len.Goals as goal

pub returns-then-not-is_plain-clause-boundary : goal.returns-then-not-is_plain-clause-boundary
returns-then-not-is_plain-clause-boundary c =
    let word = c.args.word.now in
    let same = c.as_bytes-byte-items.ensures.value in
    let here = c.loop-byte.invariant.counted in
    rw here
    (boundary_past word 0 c.loop-byte.byte-index c.utf8.word (IsCharBoundary-start word c.utf8.word) (omega arith)
    (omega arith) (rw same at c.loop-byte.invariant.small))
