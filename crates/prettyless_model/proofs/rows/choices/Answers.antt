use Rattle.std.proofs.Common.{refl}
use Rattle.prettyless_model.specs.Layout.{lay, lay_each, breaks, finish, layout_by, layout}
use Rattle.prettyless_model.proofs.rows.choices.Goals as goal

pub returns : goal.returns
unfolding lay lay_each breaks finish layout_by layout
returns c = record {
  hung_on_one_line = refl;
  hung_on_two_lines = refl;
  hung_on_three_lines = refl;
  nested = refl;
  nested_in_break = refl;
  at_most = refl;
  past = refl;
  after_space = refl;
  not_taken = refl;
  taken = refl;
  indented = refl;
  indented_later = refl;
  in_group = refl;
}
