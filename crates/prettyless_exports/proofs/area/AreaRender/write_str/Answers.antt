use Rattle.std.proofs.Common.{refl, rules, length}
use Rattle.prettyless_sink.specs.Sink.{IsFairCount}
use Rattle.prettyless_sink.proofs.Beginnings.{whole_count}
use Rattle.prettyless_exports.proofs.Areas.{account_of}
use Rattle.prettyless_exports.proofs.area.AreaRender.write_str.Goals as goal

pub returns-clause-ok : goal.returns-clause-ok
returns-clause-ok c = λ known.
    let wrote = c.in_ok-write_str_all.ensures.ok known in
    let fair : IsFairCount c.args.s.now (length c.args.s.now) = search rules in (
      refl,
      (
        whole_count (account_of c.args.self.now) (account_of c.write_str_all.new.self) c.args.s.now wrote.1.0,
        ((λ f. wrote.1.1), λ unfair. absurd (unfair fair)),
      ),
    )
