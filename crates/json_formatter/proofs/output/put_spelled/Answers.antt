use Rattle.std.proofs.Common.{◌++◌}
use Rattle.std.proofs.lemmas.Result.{on_err_weaker, on_ok_weaker}
use Rattle.prettyless_model.specs.Spaces.{spaces}
use Rattle.json_formatter.specs.Spelling.{tabs}
use Rattle.json_formatter.proofs.Outputs.{hands_both, hands_stops, on_err, stops_before}
use Rattle.json_formatter.proofs.output.put_spelled.Goals as goal

pub returns-in_err-put-in-Line-clause-beginning : goal.returns-in_err-put-in-Line-clause-beginning
returns-in_err-put-in-Line-clause-beginning g c =
    let blanks = tabs c.in-Line.tabs ++ spaces c.in-Line.spaces in
    on_err c.from_residual.result
    (rw (c.in-Line.is) (stops_before c.args.held.now.bytes c.in-Line.ends.now blanks c.in_err-put-in-Line.ensures.beginning))

pub returns-in_err-put_blanks-in-Line-clause-beginning : goal.returns-in_err-put_blanks-in-Line-clause-beginning
returns-in_err-put_blanks-in-Line-clause-beginning g c =
    let tabbed = tabs c.in-Line.tabs in
    let spaced = spaces c.in-Line.spaces in
    let mid = c.put.new.held.bytes in
    on_err c.from_residual-in_err-put_blanks-in-Line.result
    (rw (c.in-Line.is) (hands_stops c.args.held.now.bytes mid c.in-Line.ends.now (tabbed ++ spaced) c.in_ok-put-in-Line.ensures.ok
    (stops_before mid tabbed spaced c.in_err-put_blanks-in-Line.ensures.beginning)))

pub returns-in_ok-put_blanks-in-Line-clause-ok : goal.returns-in_ok-put_blanks-in-Line-clause-ok
returns-in_ok-put_blanks-in-Line-clause-ok g c =
    let tabbed = tabs c.in-Line.tabs in
    let spaced = spaces c.in-Line.spaces in
    let mid = c.put.new.held.bytes in
    let left = c.put_blanks-in-Line.new.held.bytes in
    on_ok_weaker c.put_blanks-in-Line.result
    (λ h. rw (c.in-Line.is) (hands_both c.args.held.now.bytes mid left c.in-Line.ends.now (tabbed ++ spaced) c.in_ok-put-in-Line.ensures.ok
    (hands_both mid c.put_blanks.new.held.bytes left tabbed spaced c.in_ok-put_blanks-in-Line.ensures.ok h)))
    c.put_blanks-in-Line.ensures.ok

pub returns-in_ok-put_blanks-in-Line-clause-beginning : goal.returns-in_ok-put_blanks-in-Line-clause-beginning
returns-in_ok-put_blanks-in-Line-clause-beginning g c =
    let tabbed = tabs c.in-Line.tabs in
    let spaced = spaces c.in-Line.spaces in
    let mid = c.put.new.held.bytes in
    on_err_weaker c.put_blanks-in-Line.result
    (λ h. rw (c.in-Line.is) (hands_stops c.args.held.now.bytes mid c.in-Line.ends.now (tabbed ++ spaced) c.in_ok-put-in-Line.ensures.ok
    (hands_stops mid c.put_blanks.new.held.bytes tabbed spaced c.in_ok-put_blanks-in-Line.ensures.ok h)))
    c.put_blanks-in-Line.ensures.beginning
