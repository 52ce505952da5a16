use Rattle.std.proofs.Common.{◌∙◌, subst, sym}
use Rattle.prettyless_probe.specs.Probing.{read_in}
use Rattle.prettyless_probe.specs.Stack.{stack_of}
use Rattle.prettyless_probe.specs.Texts.{IsTexts}
use Rattle.prettyless_probe.proofs.Texts.{texts_at, texts_broken, texts_read, texts_still}
use Rattle.prettyless_probe.proofs.visit.visit_one.Goals as goal

pub returns-then-read_text-clause-texts : goal.returns-then-read_text-clause-texts
returns-then-read_text-clause-texts g c flag =
    let f = g.N.Walk.tree in
    let s = c.args.stack.now in
    (flag, λ d h. texts_read d s.here.mode (f c.args.node) (stack_of f s) (subst IsTexts c.in-Text.ensures.tree tt) h)

pub returns-in-Nil-clause-texts : goal.returns-in-Nil-clause-texts
returns-in-Nil-clause-texts g c flag =
    let f = g.N.Walk.tree in
    let s = c.args.stack.now in
    (flag, λ d h. texts_read d s.here.mode (f c.args.node) (stack_of f s) (subst IsTexts c.in-Nil.ensures.tree tt) h)

pub returns-in_ok-read-in_default-clause-texts : goal.returns-in_ok-read-in_default-clause-texts
returns-in_ok-read-in_default-clause-texts g c flag =
    let f = g.N.Walk.tree in
    let s = c.args.stack.now in
    let u = c.visit_other.new.stack in
    let still = texts_still c.either-in_default.result c.args.is_texts.now c.mode_in-mode.result c.either-in_default.ensures flag in (
      still.0,
      λ d h. texts_at f d (read_in u c.in_ok-read-in_default.read) (stack_of f u)
          (texts_broken d s.here.mode (f c.args.node) (stack_of f s) (sym c.mode_in-mode.ensures ∙ still.1) h),
    )
