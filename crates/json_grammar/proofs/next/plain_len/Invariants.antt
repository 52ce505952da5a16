use Rattle.std.proofs.Common.{◌≡◌, ◌+◌, ◌-◌, ◌<◌, drop, get_or}
use Rattle.std.specs.List.{prefix_len}
use Rattle.json_grammar.specs.Faults.{is_plain}
use Rattle.json_grammar.proofs.next.plain_len.Given as goal

-- the bytes so far are plain
abbrev pub invariant-loop-byte : goal.invariant-loop-byte
invariant-loop-byte l = record {
  counted : l.len ≡ l.byte-index;
  plain : l.byte-index + prefix_len is_plain (drop l.byte-index l.byte-items) ≡ prefix_len is_plain l.byte-items;
  small : 0 < l.byte-index → get_or l.byte-items (l.byte-index - 1) 0 < 128;
}
