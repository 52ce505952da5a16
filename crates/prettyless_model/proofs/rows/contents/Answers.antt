use Rattle.std.proofs.Common.{refl, codes, []}
use Rattle.prettyless_model.proofs.rows.contents.Goals as goal

pub returns-clause-spelled : goal.returns-clause-spelled
returns-clause-spelled c = (
  codes "a//1//2",
  codes "b",
  (codes "a//1", codes "//2", (codes "a//1", [], (codes "a", codes "//1", refl, refl, refl), refl, refl), refl, refl),
  refl,
  refl,
)

pub returns-clause-parted : goal.returns-clause-parted
returns-clause-parted c = (
  codes "a",
  codes "//1//2",
  codes "b",
  [],
  (
    codes "a",
    codes "//1",
    [],
    codes "//2",
    (codes "a", codes "//1", [], [], (codes "a", [], [], codes "//1", (refl, refl), (refl, refl), refl, refl), (refl, refl), refl, refl),
    (refl, refl),
    refl,
    refl,
  ),
  (refl, refl),
  refl,
  refl,
)

pub returns-clause-written : goal.returns-clause-written
returns-clause-written c = refl

pub returns-clause-by_every_choice : goal.returns-clause-by_every_choice
returns-clause-by_every_choice c = (refl, refl)

pub returns-clause-by_every_test : goal.returns-clause-by_every_test
returns-clause-by_every_test c = (refl, refl)
