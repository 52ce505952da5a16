use Rattle.std.proofs.Common.{rules}
use Rattle.prettyless_sink.proofs.fmt_write.FmtWriteRefMutRender.write_str_all.Goals as goal

pub returns-in-Ok-clause-ok : goal.returns-in-Ok-clause-ok
returns-in-Ok-clause-ok g c = search rules depth 1

pub returns-in-Err-clause-err : goal.returns-in-Err-clause-err
returns-in-Err-clause-err g c = search rules depth 1
