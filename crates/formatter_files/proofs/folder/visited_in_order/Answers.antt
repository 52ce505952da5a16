use Rattle.std.proofs.Common.{ℕ, List, Bor}
use Rattle.std.proofs.lemmas.List.Sorted.{IsPermutation-map}
use Rattle.formatter_files.proofs.folder.visited_in_order.Goals as goal

pub returns : goal.returns
returns c =
    let listed = c.in_ok-names.ensures in
    record {
      same = rw listed at (IsPermutation-map (λ (name : Bor (List ℕ)). name.now) _ c.sort.new.self.items c.sort.ensures.permutation);
      ordered = c.in_ok-sort.ensures.sorted;
    }
