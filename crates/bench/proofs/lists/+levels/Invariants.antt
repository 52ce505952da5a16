use Rattle.bench.proofs.lists.+levels.Given as goal

abbrev pub decreases-levels : goal.decreases-levels
decreases-levels g l = l.height
