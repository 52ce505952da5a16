use Rattle.std.proofs.Common.{◌∙◌, ◌++◌}
use Rattle.std.proofs.lemmas.Result.{on_err_weaker, on_ok_weaker}
use Rattle.json_formatter.proofs.Outputs.{all_out, held_stops, on_err, out_fails, out_hands, out_stops}
use Rattle.json_formatter.proofs.output.write_layout.Goals as goal

pub returns-in_err-put_layout-clause-beginning : goal.returns-in_err-put_layout-clause-beginning
returns-in_err-put_layout-clause-beginning g c =
    on_err c.from_residual.result (out_stops _ _ c.new-held.result.bytes c.args.layout.now
    c.args.end.now c.new-held.ensures c.in_err-put_layout.ensures.beginning)

pub returns-in_err-put-clause-beginning : goal.returns-in_err-put-clause-beginning
returns-in_err-put-clause-beginning g c =
    on_err c.from_residual-in_err-put.result
    (out_fails _ _ _ c.new-held.result.bytes c.put_layout.new.held.bytes c.args.layout.now
    c.args.end.now c.new-held.ensures c.in_ok-put_layout.ensures.ok
    c.in_err-put.ensures.beginning)

pub returns-clause-ok : goal.returns-clause-ok
returns-clause-ok g c =
    let hands = out_hands _ _ _ c.new-held.result.bytes c.put_layout.new.held.bytes c.put.new.held.bytes c.args.layout.now
    c.args.end.now c.new-held.ensures
    c.in_ok-put_layout.ensures.ok c.in_ok-put.ensures.ok in
    on_ok_weaker c.write_text.result
    (all_out _ _ _ c.put.new.held.bytes (c.args.layout.now ++ c.args.end.now) c.as_bytes.result.now
    (c.as_bytes.ensures.value ∙ c.as_str.ensures.value) hands)
    c.write_text.ensures.ok

pub returns-clause-beginning : goal.returns-clause-beginning
returns-clause-beginning g c =
    let hands = out_hands _ _ _ c.new-held.result.bytes c.put_layout.new.held.bytes c.put.new.held.bytes c.args.layout.now
    c.args.end.now c.new-held.ensures
    c.in_ok-put_layout.ensures.ok c.in_ok-put.ensures.ok in
    on_err_weaker c.write_text.result
    (held_stops _ _ _ c.put.new.held.bytes (c.args.layout.now ++ c.args.end.now) c.as_bytes.result.now
    (c.as_bytes.ensures.value ∙ c.as_str.ensures.value) hands)
    c.write_text.ensures.beginning
