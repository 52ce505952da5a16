use Rattle.prettyless_laws.proofs.Readings.{probe_reads}
use Rattle.prettyless_laws.proofs.probed.law_probe.Goals as goal

pub returns : goal.returns
returns c = probe_reads
