use Rattle.json_formatter.proofs.Narrow.{four_tested}
use Rattle.json_formatter.proofs.columns.four_are_ascii.Goals as goal

pub returns : goal.returns
returns c = four_tested c.args.bytes.now c.args.from c.requires
