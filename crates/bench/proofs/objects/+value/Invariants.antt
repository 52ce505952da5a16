use Rattle.bench.proofs.objects.+value.Given as goal

abbrev pub decreases-value : goal.decreases-value
decreases-value g l = l.height
