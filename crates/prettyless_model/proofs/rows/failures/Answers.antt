use Rattle.std.proofs.Common.{refl}
use Rattle.prettyless_model.specs.Layout.{lay, lay_each, breaks, finish, layout_by, layout}
use Rattle.prettyless_model.proofs.rows.failures.Goals as goal

pub returns : goal.returns
unfolding lay lay_each breaks finish layout_by layout
returns c = record {
  at_once = refl;
  flat_line = refl;
  at_the_end = refl;
  after_kept_branch = refl;
  in_branch = refl;
  in_group_of_branch = refl;
  not_laid = refl;
  nothing_laid = refl;
}
