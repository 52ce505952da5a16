use Rattle.std.proofs.Common.{◌∙◌, ap}
use Rattle.std.proofs.lemmas.Result.{on_err_weaker, on_ok_weaker}
use Rattle.json_formatter.proofs.Outputs.{begun_stops, on_err, sent_all, sent_stops}
use Rattle.json_formatter.proofs.output.write_held.Goals as goal

pub returns-in_err-write_text-clause-beginning : goal.returns-in_err-write_text-clause-beginning
returns-in_err-write_text-clause-beginning g c =
    on_err c.from_residual.result
    (begun_stops _ _ c.args.held.now.bytes c.as_bytes.result.now c.args.text.now (c.as_bytes.ensures.value ∙ c.as_str.ensures.value)
    c.in_err-write_text.ensures.beginning)

pub returns-in-Err-clause-ok : goal.returns-in-Err-clause-ok
returns-in-Err-clause-ok g c =
    on_ok_weaker c.write_text-in-Err.result
    (sent_all _ _ _ (c.as_bytes.ensures.value ∙ c.as_str.ensures.value) c.as_bytes-in-Err.ensures.value
    (ap (λ s. s.bytes) c.in-Err.ensures.err ∙ c.clear.ensures) c.in_ok-write_text.ensures.ok)
    c.write_text-in-Err.ensures.ok

pub returns-in-Err-clause-beginning : goal.returns-in-Err-clause-beginning
returns-in-Err-clause-beginning g c =
    on_err_weaker c.write_text-in-Err.result
    (sent_stops _ _ _ (c.as_bytes.ensures.value ∙ c.as_str.ensures.value) c.as_bytes-in-Err.ensures.value c.in_ok-write_text.ensures.ok)
    c.write_text-in-Err.ensures.beginning
