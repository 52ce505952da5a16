use Rattle.std.proofs.Common.{◌-◌, arith}
use Rattle.json_formatter.specs.Blanks.{blank_code}
use Rattle.json_formatter.proofs.Outputs.{blanks_hand, blanks_stop, on_err}
use Rattle.json_formatter.proofs.output.put_blanks.Goals as goal

pub returns-in_err-put-clause-beginning : goal.returns-in_err-put-clause-beginning
returns-in_err-put-clause-beginning g c =
    let count = c.args.count in
    let left = c.loop-left.left in
    let i = c.loop-left.invariant in
    on_err c.from_residual.result
    (blanks_stop (blank_code c.args.blank) c.args.held.now.bytes c.loop-left.held.bytes c.some_blanks.result.now count (count - left)
    c.min-piece.result (omega (arith, i.0, c.min-piece.ensures)) c.some_blanks.ensures i.1 c.in_err-put.ensures.beginning)

pub loop-left-preserved : goal.loop-left-preserved
loop-left-preserved g c =
    let count = c.args.count in
    let left = c.loop-left.left in
    let i = c.loop-left.invariant in (
      omega (arith, i.0),
      blanks_hand (blank_code c.args.blank) c.args.held.now.bytes c.loop-left.held.bytes c.put.new.held.bytes c.some_blanks.result.now
          (count - (left - c.min-piece.result))
          (count - left) c.min-piece.result (omega (arith, i.0, c.min-piece.ensures)) c.some_blanks.ensures i.1 c.in_ok-put.ensures.ok,
    )
