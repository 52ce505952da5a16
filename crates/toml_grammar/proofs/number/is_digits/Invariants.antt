use Rattle.std.proofs.Common.{◌≡◌, drop}
use Rattle.toml_grammar.specs.Numbers.{digits_from, is_digits}
use Rattle.toml_grammar.proofs.number.is_digits.Given as goal

-- the bytes that are left decide
abbrev pub invariant-bytes : goal.invariant-bytes
invariant-bytes l = digits_from l.radix l.after (drop l.byte-index l.bytes) ≡ is_digits l.radix l.bytes
