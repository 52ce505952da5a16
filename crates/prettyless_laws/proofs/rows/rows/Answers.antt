use Rattle.std.proofs.Common.{refl}
use Rattle.prettyless_laws.specs.Trace.{trace_at, trace_each, trace_breaks, trace_finish, trace_by, trace}
use Rattle.prettyless_laws.proofs.rows.rows.Goals as goal

pub returns : goal.returns
unfolding trace_at trace_each trace_breaks trace_finish trace_by trace
returns c = record {
  lines = (refl, refl);
  nothing = (refl, refl);
  last_line = (refl, refl);
  spaces = (refl, refl);
  group_fits = (refl, refl);
  group_fills = (refl, refl);
  group_breaks = (refl, refl);
  flattened = (refl, refl);
  kept = (refl, refl);
  not_kept = (refl, refl);
  by_first_line = (refl, refl);
  too_long = (refl, refl);
  failed_branch = (refl, refl);
  first_flat = (refl, refl);
  second = (refl, refl);
  at_indent = (refl, refl);
  payload = (refl, refl);
  empty_part = (refl, refl);
  suffix = (refl, refl);
  empty_suffix = (refl, refl);
  failure = (refl, refl);
}
