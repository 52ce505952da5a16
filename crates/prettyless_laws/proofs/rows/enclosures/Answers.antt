use Rattle.std.proofs.Common.{refl}
use Rattle.prettyless_laws.specs.Enclosed.{enclosed_at, enclosed_each, enclosed_breaks, enclosed_finish, enclosed_by, enclosed_trace}
use Rattle.prettyless_laws.proofs.rows.enclosures.Goals as goal

pub returns : goal.returns
unfolding enclosed_at enclosed_each enclosed_breaks enclosed_finish enclosed_by enclosed_trace
returns c = record {
  fills = refl;
  broken = refl;
  flattened = refl;
  late = refl;
  late_groups = refl;
  late_flattened = refl;
  kept = refl;
  by_first_line = refl;
}
