use Rattle.std.proofs.Common.{refl, rules, length}
use Rattle.prettyless_sink.specs.Sink.{IsFairCount}
use Rattle.prettyless_sink.proofs.Beginnings.{whole_count}
use Rattle.prettyless_doc.proofs.formatter_sink.FormatterSinkRender.write_str.Goals as goal

pub returns-clause-ok : goal.returns-clause-ok
returns-clause-ok g c = λ known.
    let wrote = c.in_ok-write_str_all.ensures.ok known in
    let fair : IsFairCount c.args.s.now (length c.args.s.now) = search rules in
    (refl, (whole_count _ _ c.args.s.now wrote.1.0, ((λ f. wrote.1.1), λ unfair. absurd (unfair fair))))
