use Rattle.std.proofs.Common.{true}
use Rattle.toml_formatter.proofs.DraftLemmas.{line_end_stands}
use Rattle.toml_formatter.proofs.LineLemmas.{line_end_taken}
use Rattle.toml_formatter.proofs.line.Line.with_line_end.Goals as goal

pub returns-clause-line : goal.returns-clause-line
returns-clause-line c = line_end_taken c.args.self true c.args.self.broken

pub returns-clause-stands : goal.returns-clause-stands
returns-clause-stands c = λ lv h. line_end_stands lv c.args.self h
