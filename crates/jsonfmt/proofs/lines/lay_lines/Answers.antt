use Rattle.std.proofs.Common.{◌≡◌, ◌∙◌, ◌||◌, map, take, get_or, List, [], ℕ, Bor}
use Rattle.jsonfmt.proofs.Outcomes.{lay_more, more_lines, not_before, refused_before}
use Rattle.jsonfmt.proofs.lines.lay_lines.Goals as goal
use Rattle.jsonfmt.proofs.lines.lay_lines.Goals.{then-refused, else-refused}

pub loop-lines_before-preserved : goal.loop-lines_before-preserved
loop-lines_before-preserved g c =
    let l = c.loop-lines_before in
    let slices = c.deref-line-items.result.now in
    let none : Bor (List ℕ) = record { ref_ptr = (0, 0); now = [] } in
    let line = get_or slices l.lines_before none in
    let pushed = c.in_ok-is_refused.ensures in
    let refused : c.if-refused.refused ≡ (l.refused || c.in_ok-is_refused.is_refused) = elim c.if-refused.branch [
      | then-refused w ↦ w.refused-is ∙ refused_before l.refused c.in_ok-is_refused.is_refused w.if-refused.true
      | else-refused w ↦ w.refused-is ∙ not_before l.refused c.in_ok-is_refused.is_refused w.if-refused.false
    ] in
    lay_more c.args.style (map (λ s. s.now) (take l.lines_before slices)) _ line.now l.layout.items c.push_line.new.layout.items pushed.0
    l.refused c.in_ok-is_refused.is_refused c.if-refused.refused l.invariant pushed.2
    (more_lines slices l.lines_before none c.loop-lines_before-test.true) refused pushed.1
