use Rattle.std.proofs.Common.{refl}
use Rattle.toml_formatter.proofs.layout.options.Goals as goal

pub returns : goal.returns
returns c = (c.line_ending.result, rw (c.with_indentation_policy.ensures, c.with_line_ending.ensures, c.new.ensures) refl)
