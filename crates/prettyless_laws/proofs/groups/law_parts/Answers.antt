use Rattle.prettyless_laws.proofs.Inline.{lay_inline, look_inline, group_is_text, unfit_is_broken, wide_is_broken, wide_beginning}
use Rattle.prettyless_laws.proofs.NeverFlat.{never_flat_is_broken}
use Rattle.prettyless_laws.proofs.LineEnds.{laid_alike, breaks_read_alike, line_end_hides, line_end_hides_right, hard_takes_indent}
use Rattle.prettyless_laws.proofs.LineEnds.{hard_ends_line, layout_ends}
use Rattle.prettyless_laws.proofs.Sequences.{lay_in_turn}
use Rattle.prettyless_laws.proofs.groups.law_parts.Goals as goal

pub returns-clause-laid : goal.returns-clause-laid
returns-clause-laid c = lay_inline

pub returns-clause-seen : goal.returns-clause-seen
returns-clause-seen c = look_inline

pub returns-clause-fits : goal.returns-clause-fits
returns-clause-fits c = group_is_text

pub returns-clause-does_not_fit : goal.returns-clause-does_not_fit
returns-clause-does_not_fit c = unfit_is_broken

pub returns-clause-too_wide : goal.returns-clause-too_wide
returns-clause-too_wide c = wide_is_broken

pub returns-clause-begins_too_wide : goal.returns-clause-begins_too_wide
returns-clause-begins_too_wide c = wide_beginning

pub returns-clause-never_flat : goal.returns-clause-never_flat
returns-clause-never_flat c = never_flat_is_broken

pub returns-clause-follows : goal.returns-clause-follows
returns-clause-follows c = laid_alike

pub returns-clause-breaks : goal.returns-clause-breaks
returns-clause-breaks c = breaks_read_alike

pub returns-clause-in_turn : goal.returns-clause-in_turn
returns-clause-in_turn c = lay_in_turn

pub returns-clause-hidden : goal.returns-clause-hidden
returns-clause-hidden c = line_end_hides

pub returns-clause-hidden_right : goal.returns-clause-hidden_right
returns-clause-hidden_right c = line_end_hides_right

pub returns-clause-takes_indent : goal.returns-clause-takes_indent
returns-clause-takes_indent c = hard_takes_indent

pub returns-clause-ends_line : goal.returns-clause-ends_line
returns-clause-ends_line c = hard_ends_line

pub returns-clause-ends : goal.returns-clause-ends
returns-clause-ends c = layout_ends
