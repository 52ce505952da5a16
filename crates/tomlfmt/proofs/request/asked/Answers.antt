use Rattle.std.proofs.Common.{subst, sym}
use Rattle.clap.specs.Words.{found_of, rows_of}
use Rattle.formatter_files.specs.Faults.{IsOutOfMemory, IsRequestError}
use Rattle.formatter_files.specs.declared.request_error.RequestError.{RequestError}
use Rattle.formatter_files.proofs.Faults.{IfErr-made}
use Rattle.tomlfmt.proofs.request.asked.Goals as goal

pub returns-in_err-task-clause-err : goal.returns-in_err-task-clause-err
returns-in_err-task-clause-err c =
    let rows = rows_of (found_of c.args.matches.now) in
    IfErr-made c.from_residual.result _ c.from_residual.ensures.1
    (λ e made. subst (λ (x : RequestError). IsRequestError IsOutOfMemory rows x) (sym made) c.in_err-task.ensures.err)
