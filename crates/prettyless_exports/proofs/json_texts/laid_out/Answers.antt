use Rattle.std.proofs.Common.{subst, sym, rules}
use Rattle.json_formatter.specs.BlankLines.{layout_of}
use Rattle.prettyless_exports.specs.Texts.{IsPut}
use Rattle.prettyless_exports.proofs.Areas.{put_given}
use Rattle.prettyless_exports.proofs.json_texts.laid_out.Goals as goal

pub returns-in-Ok-render : goal.returns-in-Ok-render
returns-in-Ok-render c =
    let new = c.new-area.ensures in
    let same = c.in-Ok.ensures.cases.0 in
    let wrote = c.in-Ok-render in
    let put = c.put in
    let bytes = layout_of c.args.style c.args.text.now in (
      bytes,
      rw same at wrote.ensures.formatted,
      subst (λ x. IsPut c.args.limit bytes c.args.out.now x put.new.written put.result) (sym (search rules))
          (put_given c.render.new.sink c.args.limit c.args.out.now bytes put.new.written put.result wrote.field-0
          (rw (new.limit, new.before, new.given, new.failures, same) at wrote.ensures.ok)
          (rw (new.limit, new.before, new.given, new.failures, same) at wrote.ensures.err) put.ensures),
    )
