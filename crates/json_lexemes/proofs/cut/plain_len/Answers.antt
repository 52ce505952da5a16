use Rattle.std.proofs.Common.{sym, ◌∙◌, subst, ◌≤◌, ◌+◌, length, arith}
use Rattle.std.proofs.lemmas.Simd.{length-chunk}
use Rattle.json_lexemes.specs.Words.{StringGoesOn}
use Rattle.json_lexemes.proofs.Lanes.{before_first, first_within, is_set, none_found, stops_string, string_mask, string_passed}
use Rattle.json_lexemes.proofs.cut.plain_len.Goals as goal
use Rattle.std.specs.Int.Count.{count_trailing_zeros}
use Rattle.std.specs.Simd.Lanes.{chunk}

pub returns-then-others-eq0-clause-goes_on : goal.returns-then-others-eq0-clause-goes_on
returns-then-others-eq0-clause-goes_on c =
    let d = c.args.bytes.now in
    let from = c.args.from in
    let room : from + 16 ≤ length d = omega arith in
    let mask = string_mask (chunk from 16 d) (length-chunk from 16 d room) in
    string_passed d from (from + 16) (none_found (is_set stops_string) d from room (sym mask ∙ c.if-others-eq0.true))

pub returns-else-others-eq0-clause-bounds : goal.returns-else-others-eq0-clause-bounds
returns-else-others-eq0-clause-bounds c =
    let d = c.args.bytes.now in
    let from = c.args.from in
    let room : from + 16 ≤ length d = omega arith in
    let mask = string_mask (chunk from 16 d) (length-chunk from 16 d room) in
    subst (λ n. from + count_trailing_zeros 64 n ≤ length d) (sym mask)
    (first_within (is_set stops_string) d from room (omega (arith, mask, c.if-others-eq0.false)))

pub returns-else-others-eq0-clause-goes_on : goal.returns-else-others-eq0-clause-goes_on
returns-else-others-eq0-clause-goes_on c =
    let d = c.args.bytes.now in
    let from = c.args.from in
    let room : from + 16 ≤ length d = omega arith in
    let mask = string_mask (chunk from 16 d) (length-chunk from 16 d room) in
    subst (λ n. StringGoesOn d from (from + count_trailing_zeros 64 n)) (sym mask)
    (string_passed d from _ (before_first (is_set stops_string) d from room (omega (arith, mask, c.if-others-eq0.false))))
