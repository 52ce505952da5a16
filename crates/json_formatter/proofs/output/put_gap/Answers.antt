use Rattle.std.proofs.Common.{[], ◌∷◌}
use Rattle.std.proofs.lemmas.Result.{on_err_weaker, on_ok_weaker}
use Rattle.prettyless_model.specs.Spaces.{spaces}
use Rattle.json_formatter.proofs.Outputs.{hands_both, hands_stops, on_err, stops_before}
use Rattle.json_formatter.proofs.output.put_gap.Goals as goal

pub returns-in_err-put-in-Line-2-clause-beginning : goal.returns-in_err-put-in-Line-2-clause-beginning
returns-in_err-put-in-Line-2-clause-beginning g c =
    on_err c.from_residual.result
    (rw (c.in-Line-2.is) (stops_before c.args.held.now.bytes (10 ∷ []) (spaces c.in-Line-2.indent)
    c.in_err-put-in-Line-2.ensures.beginning))

pub returns-in_ok-put-in-Line-2-clause-ok : goal.returns-in_ok-put-in-Line-2-clause-ok
returns-in_ok-put-in-Line-2-clause-ok g c =
    on_ok_weaker c.put_blanks.result
    (λ h. rw (c.in-Line-2.is) (hands_both c.args.held.now.bytes c.put-in-Line-2.new.held.bytes c.put_blanks.new.held.bytes (10 ∷ [])
    (spaces c.in-Line-2.indent)
    c.in_ok-put-in-Line-2.ensures.ok h))
    c.put_blanks.ensures.ok

pub returns-in_ok-put-in-Line-2-clause-beginning : goal.returns-in_ok-put-in-Line-2-clause-beginning
returns-in_ok-put-in-Line-2-clause-beginning g c =
    on_err_weaker c.put_blanks.result
    (λ h. rw (c.in-Line-2.is) (hands_stops c.args.held.now.bytes c.put-in-Line-2.new.held.bytes (10 ∷ []) (spaces c.in-Line-2.indent)
    c.in_ok-put-in-Line-2.ensures.ok h))
    c.put_blanks.ensures.beginning

pub returns-in_err-put-in-BlankLine-clause-beginning : goal.returns-in_err-put-in-BlankLine-clause-beginning
returns-in_err-put-in-BlankLine-clause-beginning g c =
    let begun = c.in_err-put-in-BlankLine.ensures.beginning in
    on_err c.from_residual-in_err-put-in-BlankLine.result
    (rw (c.in-BlankLine.is) (stops_before c.args.held.now.bytes (10 ∷ 10 ∷ []) (spaces c.in-BlankLine.indent) begun))

pub returns-in_ok-put-in-BlankLine-clause-ok : goal.returns-in_ok-put-in-BlankLine-clause-ok
returns-in_ok-put-in-BlankLine-clause-ok g c =
    let held = c.args.held.now.bytes in
    let mid = c.put-in-BlankLine.new.held.bytes in
    let left = c.put_blanks-in-BlankLine.new.held.bytes in
    on_ok_weaker c.put_blanks-in-BlankLine.result
    (λ h. rw (c.in-BlankLine.is)
    (hands_both held mid left (10 ∷ 10 ∷ []) (spaces c.in-BlankLine.indent) c.in_ok-put-in-BlankLine.ensures.ok h))
    c.put_blanks-in-BlankLine.ensures.ok

pub returns-in_ok-put-in-BlankLine-clause-beginning : goal.returns-in_ok-put-in-BlankLine-clause-beginning
returns-in_ok-put-in-BlankLine-clause-beginning g c =
    let held = c.args.held.now.bytes in
    let mid = c.put-in-BlankLine.new.held.bytes in
    on_err_weaker c.put_blanks-in-BlankLine.result
    (λ h. rw (c.in-BlankLine.is)
    (hands_stops held mid (10 ∷ 10 ∷ []) (spaces c.in-BlankLine.indent) c.in_ok-put-in-BlankLine.ensures.ok h))
    c.put_blanks-in-BlankLine.ensures.beginning
