use Rattle.std.proofs.Common.{◌∙◌, arith, codes}
use Rattle.std.specs.Str.Parse.{ExplainsUnsignedError, HasUnsignedDigitsIfOk, ParsesUnsigned}
use Rattle.clap.proofs.WalkLemmas.{one_text-rows}
use Rattle.clap.specs.Words.{found_of, one_of, rows_of}
use Rattle.formatter_files.specs.Words.{most_32}
use Rattle.formatter_files.proofs.Read.{read}
use Rattle.formatter_files.proofs.words.indent.Goals as goal

pub returns : goal.returns
returns c =
    let found = found_of c.args.matches.now in
    rw c.unwrap_or.ensures (read _ (λ bs r. ParsesUnsigned 32 10 bs r × ExplainsUnsignedError 10 bs r
    × HasUnsignedDigitsIfOk bs r) 32 most_32 2 (λ text r g. g.0) (one_of (codes "indent") (rows_of found)) c.get_one.result
    (omega arith) c.requires
    (λ none. c.get_one.ensures.none (one_text-rows found (codes "indent") ∙ none))
    (λ text some. c.get_one.ensures.value text (one_text-rows found (codes "indent") ∙ some)))
