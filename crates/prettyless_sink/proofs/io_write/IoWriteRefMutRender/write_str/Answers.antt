use Rattle.std.proofs.Common.{refl}
use Rattle.prettyless_sink.proofs.Known.{known_count}
use Rattle.prettyless_sink.proofs.io_write.IoWriteRefMutRender.write_str.Goals as goal

pub returns-then-not-is_fair_count-clause-ok : goal.returns-then-not-is_fair_count-clause-ok
returns-then-not-is_fair_count-clause-ok g c =
    λ is_known.
    let took = known_count _ _ c.args.s.now c.in-Ok.count (rw c.as_bytes.ensures.value at c.in-Ok.ensures.bytes) is_known in
    (took.0, (took.1, ((λ fair. cc (c.if-not-is_fair_count.ensures.1 fair)), λ unfair. c.saturating_add-self.ensures)))

pub returns-else-not-is_fair_count-clause-ok : goal.returns-else-not-is_fair_count-clause-ok
returns-else-not-is_fair_count-clause-ok g c =
    λ is_known.
    let took = known_count _ _ c.args.s.now c.in-Ok.count (rw c.as_bytes.ensures.value at c.in-Ok.ensures.bytes) is_known in
    (took.0, (took.1, ((λ fair. refl), λ unfair. absurd (unfair (c.if-not-is_fair_count.ensures.0 refl)))))
