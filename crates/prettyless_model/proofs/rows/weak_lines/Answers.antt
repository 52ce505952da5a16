use Rattle.std.proofs.Common.{refl}
use Rattle.prettyless_model.specs.Layout.{lay, lay_each, breaks, finish, layout_by, layout}
use Rattle.prettyless_model.proofs.rows.weak_lines.Goals as goal

pub returns : goal.returns
unfolding lay lay_each breaks finish layout_by layout
returns c = record {
  in_group = refl;
  flattened = refl;
  at_the_beginning = refl;
  after_empty_text = refl;
  after_no_width = refl;
  still_at_the_beginning = refl;
  spaces = refl;
  spaces_at_both_ends = refl;
}
