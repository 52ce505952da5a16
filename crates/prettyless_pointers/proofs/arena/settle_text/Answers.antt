use Rattle.std.proofs.Common.{rules, refl}
use Rattle.prettyless_pointers.proofs.arena.settle_text.Goals as goal

pub returns-in-Borrowed-clause-same : goal.returns-in-Borrowed-clause-same
returns-in-Borrowed-clause-same c = search rules depth 1

pub returns-in-Borrowed-clause-settled : goal.returns-in-Borrowed-clause-settled
returns-in-Borrowed-clause-settled c = refl

pub returns-in-Small-clause-same : goal.returns-in-Small-clause-same
returns-in-Small-clause-same c = search rules depth 1

pub returns-in-Small-clause-settled : goal.returns-in-Small-clause-settled
returns-in-Small-clause-settled c = refl

pub returns-in_ok-try_alloc_str-in-Owned-clause-settled : goal.returns-in_ok-try_alloc_str-in-Owned-clause-settled
returns-in_ok-try_alloc_str-in-Owned-clause-settled c = refl
