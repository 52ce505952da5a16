use Rattle.std.proofs.Common.{◌≡◌, ◌+◌, ◌-◌, ◌<◌, drop, get_or, length}
use Rattle.json.specs.Lex.{between}
use Rattle.json_lexemes.specs.Lexemes.{cut}
use Rattle.json_lexemes.specs.SpacedLexemes.{first_spaces}
use Rattle.json_lexemes.proofs.cut.spaces_end.Given as goal

-- the bytes so far are spaces
abbrev pub invariant-loop-place : goal.invariant-loop-place
invariant-loop-place l = record {
  same : cut between (drop l.place l.bytes) ≡ cut between (drop l.from l.bytes);
  spaces : l.place + length (first_spaces (drop l.place l.bytes)) ≡ l.from + length (first_spaces (drop l.from l.bytes));
  after : l.from < l.place → get_or l.bytes (l.place - 1) 0 < 128;
}
