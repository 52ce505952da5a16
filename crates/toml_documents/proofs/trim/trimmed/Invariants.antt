use Rattle.std.proofs.Common.{◌≡◌, ◌≤◌, ◌<◌, length, take, get_or}
use Rattle.std.specs.Prelude.{◌⊎◌}
use Rattle.toml_lexemes.specs.Statements.{trimmed}
use Rattle.toml_documents.proofs.trim.trimmed.Given as goal

abbrev pub invariant-loop-end : goal.invariant-loop-end
invariant-loop-end l = record {
  within : l.end ≤ length l.text;
  same : trimmed (take l.end l.text) ≡ trimmed l.text;
  boundary : (l.end ≡ length l.text) ⊎ (get_or l.text l.end 0 < 128);
}

abbrev pub decreases-loop-end : goal.decreases-loop-end
decreases-loop-end l = l.end
