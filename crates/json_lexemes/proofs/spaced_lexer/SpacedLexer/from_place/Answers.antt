use Rattle.std.proofs.Common.{◌≡◌, ◌+◌, ◌-◌, ◌<◌, ◌≤◌, false, get_or, length, drop}
use Rattle.json.specs.Lex.{between}
use Rattle.json.specs.Word.{is_space}
use Rattle.json_lexemes.specs.Lexemes.{cut}
use Rattle.json_lexemes.specs.SpacedLexemes.{first_spaces}
use Rattle.json_lexemes.proofs.Firsts.{boundary_past}
use Rattle.json_lexemes.proofs.spaced_lexer.SpacedLexer.from_place.Goals as goal

pub invariant_of-result : goal.invariant_of-result
invariant_of-result c =
    let d = c.args.text.now in
    let from = c.args.from in
    let place = c.spaces_end-place.result in
    let same = c.as_bytes.ensures.value in
    let end = c.spaces_end-place.ensures in
    let within : place ≤ length d = rw (← same) end.bounds.1 in
    let after : from < place → get_or d (place - 1) 0 < 128 = rw (← same) end.after in
    let spaces : place ≡ from + length (first_spaces (drop from d)) = rw (← same) end.spaces in
    let passed : cut between (drop place d) ≡ cut between (drop from d) = rw (← same) end.cut in
    let stops : place < length d → is_space (get_or d place 0) ≡ false = rw (← same) end.stops in
    record {
      utf8 = c.utf8.text;
      boundary = boundary_past d from place c.utf8.text c.requires.boundary end.bounds.0 within after;
      within = within;
      spaces = spaces;
      passed = passed;
      stops = stops;
    }
