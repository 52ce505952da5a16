use Rattle.std.proofs.Common.{arith}
use Rattle.std.proofs.lemmas.Result.{err_from_is_err_and}
use Rattle.prettyless_printer.specs.declared.answer.RunResult.TheVariants as run_result
use Rattle.prettyless_printer.proofs.Shifts.{error_anyhow, done_anyhow}
use Rattle.prettyless_printer.proofs.Paying.{pays_all}
use Rattle.prettyless_printer.proofs.run.Run.finish.Goals as goal

-- the run is done
pub returns-clause-ends : goal.returns-clause-ends
returns-clause-ends g c = λ a h.
    let fails = g.W.Render.document_errors c.resume.new.out in
    done_anyhow fails run_result.Finished tt ((rw c.in-Finished.is at c.in_ok-resume.ensures.runs) a h)

-- it ended in an error
pub returns-in_err-resume-clause-ends : goal.returns-in_err-resume-clause-ends
returns-in_err-resume-clause-ends g c =
    let residual = err_from_is_err_and c.from_residual.result c.from_residual.ensures.1 in
    rw (residual.1, residual.2)
    λ a h.
    let fails = g.W.Render.document_errors c.resume.new.out in
    error_anyhow fails c.in_err-resume.field-0.0 (c.in_err-resume.ensures.runs a h)

-- without a limit no run stops
pub unreachable-requires : goal.unreachable-requires
unreachable-requires g c =
    let past = ((rw c.in-Shift.is at c.in_ok-resume.ensures.runs) c.requires.comes.0 c.requires.comes.1).past in
    omega (arith, past.0, past.1)

-- where it has come in its course
pub returns-clause-course : goal.returns-clause-course
returns-clause-course g c = λ ws refused are. (rw c.in-Finished.is at c.in_ok-resume.ensures.course) ws refused are

pub returns-in_err-resume-clause-course : goal.returns-in_err-resume-clause-course
returns-in_err-resume-clause-course g c =
    let residual = err_from_is_err_and c.from_residual.result c.from_residual.ensures.1 in
    rw (residual.1, residual.2)
    c.in_err-resume.ensures.course

-- without unions
pub returns-clause-pays : goal.returns-clause-pays
returns-clause-pays g c = λ none free. pays_all (c.in_ok-resume.ensures.pays none free).1
