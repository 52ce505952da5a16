use Rattle.std.proofs.Common.{refl}
use Rattle.prettyless_model.specs.Layout.{lay, lay_each, breaks}
use Rattle.prettyless_model.specs.Levels.{settle}
use Rattle.prettyless_model.specs.Counts.{tally}
use Rattle.prettyless_model.proofs.rows.counts.Goals as goal

pub returns : goal.returns
unfolding lay lay_each breaks settle tally
returns c = record {
  pair_nodes = refl;
  pair_probed = refl;
  lines_nodes = refl;
  group_fits = (refl, refl);
  group_breaks = (refl, refl);
  flat_group = (refl, refl);
  partial = (refl, refl);
  letter_nodes = refl;
  letter = (refl, refl);
  kept = (refl, refl);
  rejected = (refl, refl);
  put_off = (refl, refl);
}
