use Rattle.std.proofs.Common.{refl}
use Rattle.prettyless_model.specs.Layout.{lay, lay_each, breaks, finish, layout_by, layout}
use Rattle.prettyless_model.proofs.rows.alternatives.Goals as goal

pub returns : goal.returns
unfolding lay lay_each breaks finish layout_by layout
returns c = record {
  kept = refl;
  not_kept = refl;
  by_every_line = refl;
  by_first_line = refl;
  together_too_long = refl;
  together = refl;
  payload = refl;
  padding = refl;
  padding_is_too_long = refl;
  padding_in_partial = refl;
  after_long_line = refl;
  follower_known = refl;
  read_by_second = refl;
  read_by_second_and_fits = refl;
  rejected_suffix = refl;
  kept_suffix = refl;
  rejected_under_crlf = refl;
}
