use Rattle.std.proofs.Common.{subst, sym, rules}
use Rattle.prettyless_exports.specs.Texts.{IsPut}
use Rattle.prettyless_exports.proofs.Areas.{put_given}
use Rattle.prettyless_exports.proofs.text.put_text.Goals as goal

pub returns : goal.returns
returns c =
    let new = c.new-area.ensures in
    let wrote = c.write_str_all in
    let put = c.put in
    (subst (λ x. IsPut c.args.limit c.args.text.now c.args.out.now x put.new.written put.result) (sym (search rules))
    (put_given wrote.new.self c.args.limit c.args.out.now c.args.text.now put.new.written put.result wrote.result
    (rw (new.limit, new.before, new.given, new.failures) at wrote.ensures.ok)
    (rw (new.limit, new.before, new.given, new.failures) at wrote.ensures.err) put.ensures))
