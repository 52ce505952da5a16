use Rattle.std.proofs.Common.{◌≡◌, ◌-◌, ◌<◌, length, None, sym, ◌∙◌, ap, subst, arith}
use Rattle.json_formatter.specs.Window.{rest_at, list_at, IsWidthUpTo}
use Rattle.json_formatter.proofs.WindowScans.{far_unknown, last_unknown, unknown_there}
use Rattle.json_formatter.proofs.scanner.Scanner.width.Goals as goal
use Rattle.json_formatter.proofs.scanner.Scanner.width.Goals.{then-self-list-via-then-self-list}
use Rattle.json_formatter.proofs.scanner.Scanner.width.Goals.{then-self-list-via-else-self-list+in_ok-step+then-not-branch}

pub returns-then-self-list-clause-width : goal.returns-then-self-list-clause-width
returns-then-self-list-clause-width c = λ rests k.
    let here = c.loop-width.self in
    let knows = c.loop-width.invariant.scanned rests k in
    let within : c.args.index < length here.lists.items = omega (arith, c.requires.index, c.loop-width.invariant.more) in
    let list = unknown_there here.lists.items c.args.index within c.index-list.ensures in
    let none : (list_at here.lists.items c.args.index).width ≡ None = sym (ap (λ l. l.width) list) ∙ c.in_default.is in
    let compact = c.loop-width.invariant.compact in
    subst (λ b. IsWidthUpTo b c.args.most (rest_at rests c.args.index) None) compact
    (elim c.then-self-list.branch [
      | then-self-list-via-then-self-list w ↦
          far_unknown rests _ _ _ _ c.args.index c.args.most knows within none
          (subst (λ l. c.args.most < here.total - l.start) list w.if-self-list.true)
      | then-self-list-via-else-self-list+in_ok-step+then-not-branch w ↦
          last_unknown rests _ _ _ _ c.args.index c.args.most knows within none
          (w.in_ok-step.ensures.end w.if-not-branch.true).0 c.requires.most
    ])
