use Rattle.std.proofs.Common.{arith, rules, take, ◌++◌}
use Rattle.std.proofs.lemmas.Grind.{common_steps}
use Rattle.std.proofs.KnownBytes.{Appends-trans}
use Rattle.prettyless_sink.proofs.Beginnings.{split_on_slice}
use Rattle.prettyless_sink.proofs.io_write.write_whole.Goals as goal

pub loop-rest-preserved : goal.loop-rest-preserved
loop-rest-preserved g c =
    let kept = c.loop-rest.invariant in
    let rest = c.loop-rest.rest.now in
    let count = c.in_ok-count.count in
    record {
      done = kept.done ++ take count rest;
      split = split_on_slice _ _ rest count kept.split;
      appended = Appends-trans _ _ _ _ _ kept.appended c.in_ok-count.ensures.bytes;
    }

pub loop-rest-init : goal.loop-rest-init
loop-rest-init g c = search rules depth 1

pub returns-clause-ok : goal.returns-clause-ok
returns-clause-ok g c = grind (arith, common_steps)
