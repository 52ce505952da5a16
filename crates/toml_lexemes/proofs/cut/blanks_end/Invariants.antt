use Rattle.std.proofs.Common.{◌≡◌, ◌-◌, ◌<◌, ◌++◌, take, drop, get_or}
use Rattle.text_lexemes.specs.Languages.{between}
use Rattle.toml_lexemes.specs.Lexemes.{cut_toml}
use Rattle.toml_lexemes.specs.SpacedLexemes.{blanks}
use Rattle.toml_lexemes.proofs.cut.blanks_end.Given as goal

-- the bytes so far are blanks
abbrev pub invariant-loop-place : goal.invariant-loop-place
invariant-loop-place l = record {
  same : cut_toml between (drop l.place l.bytes) ≡ cut_toml between (drop l.from l.bytes);
  blanks : blanks (drop l.from l.bytes) ≡ take (l.place - l.from) (drop l.from l.bytes) ++ blanks (drop l.place l.bytes);
  after : l.from < l.place → get_or l.bytes (l.place - 1) 0 < 128;
}
