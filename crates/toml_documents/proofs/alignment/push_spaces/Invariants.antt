use Rattle.std.proofs.Common.{◌≡◌, ◌++◌, ◌-◌, ◌≤◌}
use Rattle.std.specs.String.{string_bytes}
use Rattle.prettyless_model.specs.Spaces.{spaces}
use Rattle.toml_documents.proofs.alignment.push_spaces.Given as goal

-- those that were added
abbrev pub invariant-loop-left : goal.invariant-loop-left
invariant-loop-left l = (l.left ≤ l.count) × (string_bytes l.text ≡ string_bytes l.fn.text ++ spaces (l.count - l.left))

abbrev pub decreases-loop-left : goal.decreases-loop-left
decreases-loop-left l = l.left
