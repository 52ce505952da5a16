use Rattle.std.proofs.Common.{◌∙◌, arith, codes}
use Rattle.std.specs.Str.Parse.{ExplainsUnsignedError, HasUnsignedDigitsIfOk, ParsesUnsigned}
use Rattle.clap.proofs.WalkLemmas.{one_text-rows}
use Rattle.clap.specs.Words.{found_of, one_of, rows_of}
use Rattle.jsonfmt.specs.Words.{most_levels}
use Rattle.formatter_files.proofs.Read.{read}
use Rattle.jsonfmt.proofs.words.depth.Goals as goal

pub returns : goal.returns
returns c =
    let found = found_of c.args.matches.now in
    rw c.unwrap_or.ensures (read _ (λ bs r. ParsesUnsigned 64 10 bs r × ExplainsUnsignedError 10 bs r
    × HasUnsignedDigitsIfOk bs r) 64 most_levels 1000 (λ text r g. g.0) (one_of (codes "depth") (rows_of found)) c.get_one.result
    (omega arith) c.requires
    (λ none. c.get_one.ensures.none (one_text-rows found (codes "depth") ∙ none))
    (λ text some. c.get_one.ensures.value text (one_text-rows found (codes "depth") ∙ some)))
