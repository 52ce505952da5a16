use Rattle.std.proofs.Common.{refl}
use Rattle.prettyless_model.specs.Layout.{lay, lay_each, breaks, finish, layout_by, layout}
use Rattle.prettyless_model.proofs.rows.groups.Goals as goal

pub returns : goal.returns
unfolding lay lay_each breaks finish layout_by layout
returns c = record {
  numbers_fit = refl;
  numbers_break = refl;
  pair_fits = refl;
  pair_breaks = refl;
  tight_pair_fits = refl;
  tight_pair_breaks = refl;
  greatest_width = refl;
  flattened = refl;
  expanded = refl;
}
