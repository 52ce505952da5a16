use Rattle.std.proofs.Common.{◌≡◌, length, drop, ◌+◌, ◌≤◌}
use Rattle.json_lexemes.specs.SpacedLexemes.{first_spaces, line_feeds}
use Rattle.json_lexemes.proofs.blank_lines.past_spaces.Given as goal

-- the line feeds so far are those before the rest
abbrev pub invariant-loop-byte : goal.invariant-loop-byte
invariant-loop-byte l = record {
  feeds : l.line_feeds + line_feeds (first_spaces l.rest) ≡ line_feeds (first_spaces l.bytes);
  after : drop (length (first_spaces l.rest)) l.rest ≡ drop (length (first_spaces l.bytes)) l.bytes;
  within : l.line_feeds + length l.rest ≤ length l.bytes;
}

abbrev pub decreases-loop-byte : goal.decreases-loop-byte
decreases-loop-byte l = length l.rest
