use Rattle.std.proofs.Common.{refl}
use Rattle.prettyless_model.specs.Layout.{lay, lay_each, breaks, finish, layout_by, layout}
use Rattle.prettyless_model.proofs.rows.payloads.Goals as goal

pub returns : goal.returns
unfolding lay lay_each breaks finish layout_by layout
returns c = record {
  as_it_is = refl;
  under_crlf = refl;
  indented = refl;
  in_group = refl;
  first_line_fits = refl;
  first_line_is_too_long = refl;
}
