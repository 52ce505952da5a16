use Rattle.std.proofs.Common.{false, sym, ◌∙◌}
use Rattle.json_formatter.proofs.FirstLine.{line_ends, one_line, returns_at}
use Rattle.json_formatter.proofs.spelling.begins_crlf.Goals as goal

pub returns-then-place-gt0 : goal.returns-then-place-gt0
returns-then-place-gt0 c =
    let text = c.args.text.now in
    let place = c.in-Some.place in
    let at = c.in-Some.ensures in
    sym (line_ends false text place at.0.high at.0.before at.1 ∙ returns_at false text place c.if-place-gt0.true)

pub returns-in-None : goal.returns-in-None
returns-in-None c = sym (one_line false c.args.text.now c.in-None.ensures)
