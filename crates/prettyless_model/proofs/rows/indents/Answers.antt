use Rattle.std.proofs.Common.{refl}
use Rattle.prettyless_model.specs.Layout.{lay, lay_each, breaks, finish, layout_by, layout}
use Rattle.prettyless_model.proofs.rows.indents.Goals as goal

pub returns : goal.returns
unfolding lay lay_each breaks finish layout_by layout
returns c = record {
  indent_of_next = refl;
  own_indent = refl;
  own_indent_deferred = refl;
  nested_text = refl;
  nested_break = refl;
  nested_below_zero = refl;
  nested_and_back = refl;
  empty_line = refl;
  empty_line_deferred = refl;
  aligned = refl;
  to_root = refl;
  crlf = refl;
}
