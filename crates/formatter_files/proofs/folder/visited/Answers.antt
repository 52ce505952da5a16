use Rattle.std.proofs.Common.{rules, tests, not}
use Rattle.std.proofs.lemmas.Iterator.Consumers.{YieldsList-at, YieldsList-from_filter, map_from_collect}
use Rattle.std.proofs.lemmas.Iterator.Splits.{YieldsList-from_slice_split}
use Rattle.formatter_files.specs.Folders.{is_passed_over}
use Rattle.formatter_files.proofs.folder.visited.Goals as goal

pub returns : goal.returns
returns c =
    map_from_collect _ c.collect.ensures.ran (YieldsList-from_filter _ (λ name. not (is_passed_over name))
    (YieldsList-at c.filter.ensures.source (YieldsList-from_slice_split _ _ c.args.listing.now c.split.ensures.rest c.split.ensures.done
    c.split.ensures.closure (λ x r q k. search (rules, tests)))) c.filter.ensures.closure (λ x r q k. search (rules, tests)))
