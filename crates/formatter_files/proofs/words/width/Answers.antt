use Rattle.std.proofs.Common.{◌∙◌, arith, codes}
use Rattle.std.specs.Str.Parse.{ExplainsUnsignedError, HasUnsignedDigitsIfOk, ParsesUnsigned}
use Rattle.clap.proofs.WalkLemmas.{one_text-rows}
use Rattle.clap.specs.Words.{found_of, one_of, rows_of}
use Rattle.formatter_files.specs.Words.{most_64}
use Rattle.formatter_files.proofs.Read.{read}
use Rattle.formatter_files.proofs.words.width.Goals as goal

pub returns : goal.returns
returns c =
    let found = found_of c.args.matches.now in
    rw c.unwrap_or.ensures (read _ (λ bs r. ParsesUnsigned 64 10 bs r × ExplainsUnsignedError 10 bs r
    × HasUnsignedDigitsIfOk bs r) 64 most_64 80 (λ text r g. g.0) (one_of (codes "width") (rows_of found)) c.get_one.result
    (omega arith) c.requires
    (λ none. c.get_one.ensures.none (one_text-rows found (codes "width") ∙ none))
    (λ text some. c.get_one.ensures.value text (one_text-rows found (codes "width") ∙ some)))
