use Rattle.std.proofs.Common.{◌≡◌, ◌++◌, ◌-◌, ◌≤◌}
use Rattle.std.specs.Prelude.{replicate}
use Rattle.std.specs.String.{string_bytes}
use Rattle.json_formatter.specs.Blanks.{blank_code}
use Rattle.json_formatter.proofs.output.push_blanks.Given as goal

-- those that were added
abbrev pub invariant-loop-left : goal.invariant-loop-left
invariant-loop-left l = (l.left ≤ l.count)
    × (string_bytes l.text ≡ string_bytes l.fn.text ++ replicate (l.count - l.left) (blank_code l.blank))

abbrev pub decreases-loop-left : goal.decreases-loop-left
decreases-loop-left l = l.left
