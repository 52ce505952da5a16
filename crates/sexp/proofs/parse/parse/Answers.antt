use Rattle.std.proofs.Common.{sym, ◌∙◌, rules}
use Rattle.std.proofs.lemmas.Result.{err_from_is_err_and}
use Rattle.sexp.specs.Value.{SexpValue}
use Rattle.sexp.specs.Grammar.{ReadsValue}
use Rattle.sexp.specs.Fronts.{HasNoFront}
use Rattle.sexp.specs.View.{value_of}
use Rattle.sexp.proofs.Levels.{refuses_more}
use Rattle.sexp.proofs.Whole.{nothing_read, front_is_read}
use Rattle.sexp.proofs.parse.parse.Goals as goal

pub returns-in_err-read-clause-err : goal.returns-in_err-read-clause-err
returns-in_err-read-clause-err c =
    let input = c.args.input.now in
    let p = err_from_is_err_and c.from_residual.result c.from_residual.ensures.1 in
    rw (p.1, p.2) (refuses_more c.in_err-read.field-0.0 (HasNoFront 200 input) ((v : SexpValue) → ReadsValue input v → ⊥)
    (nothing_read input)
    c.in_err-read.ensures.err)

pub returns-then-is_end-clause-only : goal.returns-then-is_end-clause-only
returns-then-is_end-clause-only c =
    λ v r. (front_is_read c.args.input.now (value_of c.in_ok-read.read) c.in_ok-read.rest.now c.in_ok-read.ensures.ok v r).0

pub returns-else-is_end-clause-err : goal.returns-else-is_end-clause-err
returns-else-is_end-clause-err c = λ v r.
    let ends = c.is_end.ensures.1 (front_is_read c.args.input.now (value_of c.in_ok-read.read) c.in_ok-read.rest.now
    c.in_ok-read.ensures.ok v r).1 in
    absurd (cc (sym ends ∙ c.if-is_end.false))

pub returns-then-input-gt-MOST_BYTES-clause-err : goal.returns-then-input-gt-MOST_BYTES-clause-err
returns-then-input-gt-MOST_BYTES-clause-err c = search rules depth 1
