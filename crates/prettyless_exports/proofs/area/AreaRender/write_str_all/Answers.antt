use Rattle.std.proofs.Common.{[], refl, sym, append-nil, append_assoc, arith, rules}
use Rattle.prettyless_exports.proofs.Overlaid.{overlay_given}
use Rattle.prettyless_exports.proofs.area.AreaRender.write_str_all.Goals as goal

pub invariant_of-self-clause-holds : goal.invariant_of-self-clause-holds
invariant_of-self-clause-holds c =
    let area = c.args.self.now in
    rw c.and-self.ensures
    (overlay_given area.before.bytes area.given.bytes c.as_bytes-piece.result.now area.limit {taken = c.min-taken.result}
    area.holds area.counts (omega arith) c.min-start.ensures c.min-fits.ensures (search rules))

pub invariant_of-self-else-taken-piece-clause-holds : goal.invariant_of-self-else-taken-piece-clause-holds
invariant_of-self-else-taken-piece-clause-holds c =
    let area = c.args.self.now in
    rw c.and-self.ensures
    (overlay_given area.before.bytes area.given.bytes c.as_bytes-piece.result.now area.limit {taken = c.min-taken.result}
    area.holds area.counts (omega arith) c.min-start.ensures c.min-fits.ensures (search rules))

pub returns-then-taken-piece-clause-err : goal.returns-then-taken-piece-clause-err
returns-then-taken-piece-clause-err c = λ known. (
  refl,
  (
    (c.args.s.now, [], sym (append-nil c.args.s.now), simp (c.and-self.ensures, c.as_bytes-piece.ensures.value, append_assoc)),
    c.saturating_add-self.ensures,
  ),
)
