use Rattle.std.proofs.Common.{refl, true, sym, ◌∙◌, ◌≡◌, ◌||◌}
use Rattle.prettyless_summary.specs.Summary.{look_weak, mode_of}
use Rattle.prettyless_summary.proofs.Weak.{rest_continues, rest_ends}
use Rattle.prettyless_summary.proofs.summary.Summary.and_weak.Goals as goal
use Rattle.prettyless_summary.proofs.summary.Summary.and_weak.Goals.{then-self-via-then-self, then-self-via-else-self+then-self-2}

pub returns-then-self-clause-reads : goal.returns-then-self-clause-reads
returns-then-self-clause-reads c =
    let s = c.args.self in
    let some : s.has_ink || s.has_suffix ≡ true = elim c.then-self.branch [
      | then-self-via-then-self w ↦ rw w.if-self.true refl
      | then-self-via-else-self+then-self-2 w ↦ rw (w.if-self.false, w.if-self-2.true) refl
    ] in
    rest_continues s (record s { end = c.weak_end.result }) (λ width. look_weak width (mode_of c.args.weak)) refl refl
    (λ width e q. rw (c.requires, sym c.mode.ensures ∙ c.in-Some.is)
    (rest_ends width s.has_ink s.has_suffix s.inner s.trail c.weak_end.result c.in-Some.mode e q (c.weak_end.ensures width) some))
