use Rattle.std.proofs.Common.{◌≡◌, length}
use Rattle.json_lexemes.specs.SpacedLexemes.{line_feeds}
use Rattle.json_lexemes.proofs.spaced_lexer.has_line_end.Given as goal

-- the line feeds are those of the rest
abbrev pub invariant-loop-byte : goal.invariant-loop-byte
invariant-loop-byte l = line_feeds l.spaces ≡ line_feeds l.rest

abbrev pub decreases-loop-byte : goal.decreases-loop-byte
decreases-loop-byte l = length l.rest
