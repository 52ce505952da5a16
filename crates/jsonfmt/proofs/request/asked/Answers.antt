use Rattle.std.proofs.Common.{inl, subst, sym}
use Rattle.clap.specs.Words.{found_of, rows_of}
use Rattle.formatter_files.specs.Faults.{IsRequestError, IsOutOfMemory}
use Rattle.formatter_files.specs.declared.request_error.RequestError.{RequestError}
use Rattle.formatter_files.proofs.Faults.{IfErr-made, IsRequestError-weaker}
use Rattle.jsonfmt.specs.Words.{IsErrorFor}
use Rattle.jsonfmt.proofs.request.asked.Goals as goal

pub returns-clause-ok : goal.returns-clause-ok
returns-clause-ok c = record {
  style = c.in_ok-style.ensures.ok;
  lines = c.in_ok-lines.ensures.ok;
  task = c.in_ok-task.ensures.ok;
}

pub returns-in_err-style-clause-err : goal.returns-in_err-style-clause-err
returns-in_err-style-clause-err c =
    let rows = rows_of (found_of c.args.matches.now) in
    IfErr-made c.from_residual.result _ c.from_residual.ensures.1
    (λ e made. subst (λ (x : RequestError). IsRequestError (IsErrorFor rows) rows x) (sym made) c.in_err-style.ensures.err)

pub returns-in_err-lines-clause-err : goal.returns-in_err-lines-clause-err
returns-in_err-lines-clause-err c =
    let rows = rows_of (found_of c.args.matches.now) in
    IfErr-made c.from_residual-in_err-lines.result _ c.from_residual-in_err-lines.ensures.1
    (λ e made. subst (λ (x : RequestError). IsRequestError (IsErrorFor rows) rows x) (sym made) c.in_err-lines.ensures.err)

pub returns-in_err-task-clause-err : goal.returns-in_err-task-clause-err
returns-in_err-task-clause-err c =
    let rows = rows_of (found_of c.args.matches.now) in
    IfErr-made c.from_residual-in_err-task.result _ c.from_residual-in_err-task.ensures.1
    (λ e made. subst (λ (x : RequestError). IsRequestError (IsErrorFor rows) rows x) (sym made)
    (IsRequestError-weaker IsOutOfMemory (IsErrorFor rows) (λ x memory. inl memory) rows _ c.in_err-task.ensures.err))
