use Rattle.std.proofs.Common.{false}
use Rattle.toml_formatter.proofs.LineLemmas.{comma_taken}
use Rattle.toml_formatter.proofs.line.Line.with_waiting_comma.Goals as goal

pub returns-clause-line : goal.returns-clause-line
returns-clause-line c = λ nested left taken none e h. comma_taken nested c.args.self false false left taken none e h
