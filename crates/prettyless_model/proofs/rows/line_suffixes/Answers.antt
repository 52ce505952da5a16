use Rattle.std.proofs.Common.{refl}
use Rattle.prettyless_model.specs.Layout.{lay, lay_each, breaks, finish, layout_by, layout}
use Rattle.prettyless_model.proofs.rows.line_suffixes.Goals as goal

pub returns : goal.returns
unfolding lay lay_each breaks finish layout_by layout
returns c = record {
  before_break = refl;
  in_group = refl;
  after_payload = refl;
  on_fresh_line = refl;
  from_a_suffix = refl;
  padded = refl;
  at_indent = refl;
  flat_under_crlf = refl;
  last = refl;
  last_but_one = refl;
}
