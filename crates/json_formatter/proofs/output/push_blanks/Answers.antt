use Rattle.std.proofs.Common.{◌-◌, arith}
use Rattle.std.specs.String.{string_bytes}
use Rattle.json_formatter.specs.Blanks.{blank_code}
use Rattle.json_formatter.proofs.Outputs.{blanks_more}
use Rattle.json_formatter.proofs.output.push_blanks.Goals as goal

pub loop-left-preserved : goal.loop-left-preserved
loop-left-preserved c =
    let count = c.args.count in
    let left = c.loop-left.left in
    let i = c.loop-left.invariant in (
      omega (arith, i.0),
      blanks_more (blank_code c.args.blank) (string_bytes c.args.text.now) (string_bytes c.loop-left.text)
          (string_bytes c.push_str.new.self) c.some_blanks.result.now
          (count - (left - c.min-piece.result)) (count - left) c.min-piece.result
          (omega (arith, i.0, c.min-piece.ensures)) c.some_blanks.ensures i.1
          c.in_ok-push_str.ensures.bytes,
    )
