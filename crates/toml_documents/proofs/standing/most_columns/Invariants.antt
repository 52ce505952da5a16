use Rattle.std.proofs.Common.{◌≡◌, length}
use Rattle.toml_documents.specs.Alignment.{most_columns, reach_with_comment}
use Rattle.toml_documents.proofs.standing.most_columns.Given as goal

-- what is left decides
abbrev pub invariant-loop-found : goal.invariant-loop-found
invariant-loop-found l =
    most_columns l.fn.first.columns (reach_with_comment l.fn.first) l.fn.lexemes ≡ most_columns l.most l.reach l.lexemes

abbrev pub decreases-loop-found : goal.decreases-loop-found
decreases-loop-found l = length l.lexemes
