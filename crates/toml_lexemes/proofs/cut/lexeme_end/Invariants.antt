use Rattle.std.proofs.Common.{◌≡◌, ◌-◌, ◌<◌, true, get_or}
use Rattle.toml_lexemes.specs.Modes.{inner_of, is_after_quote}
use Rattle.text_lexemes.proofs.Places.{GoesOn}
use Rattle.toml_lexemes.specs.Lexemes.{toml}
use Rattle.toml_lexemes.proofs.cut.lexeme_end.Given as goal

-- the bytes so far are in the lexeme, and lead to the mode
abbrev pub invariant-loop-place : goal.invariant-loop-place
invariant-loop-place l = record {
  goes : GoesOn toml (inner_of l.fn.begun) l.bytes l.from (inner_of l.mode) l.place;
  after : is_after_quote (inner_of l.mode) ≡ true → (l.from < l.place) × (get_or l.bytes (l.place - 1) 0 < 128);
}
