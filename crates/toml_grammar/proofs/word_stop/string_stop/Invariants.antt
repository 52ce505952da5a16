use Rattle.std.proofs.Common.{◌≡◌, drop}
use Rattle.toml_grammar.specs.WordStops.{stop_from, string_stop}
use Rattle.toml_grammar.proofs.word_stop.string_stop.Given as goal

-- the bytes that are left decide
abbrev pub invariant-bytes : goal.invariant-bytes
invariant-bytes l = (l.count ≡ l.byte-index) × (stop_from l.count l.place (drop l.byte-index l.byte-items) ≡ string_stop l.byte-items)
