use Rattle.std.proofs.Common.{◌≡◌, ◌++◌, length}
use Rattle.std.specs.String.{string_bytes}
use Rattle.toml_lexemes.specs.SpacedLexemes.{toml_put_together}
use Rattle.toml_documents.specs.Alignment.{aligned_from, with_aligned_comments}
use Rattle.toml_documents.proofs.alignment.push_aligned.Given as goal

-- what was added, and what is left, is the layout after what was there
abbrev pub invariant-loop-found : goal.invariant-loop-found
invariant-loop-found l =
    string_bytes l.text ++ toml_put_together (aligned_from l.standing l.lexemes) ≡ string_bytes l.fn.text ++ with_aligned_comments l.layout

abbrev pub decreases-loop-found : goal.decreases-loop-found
decreases-loop-found l = length l.lexemes
