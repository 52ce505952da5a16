use Rattle.std.proofs.Common.{◌≡◌, ℕ, ◌+◌, ◌-◌, ◌∷◌, length, reverse}
use Rattle.json_validity.specs.Open.{after_list}
use Rattle.json_validity.proofs.Open.{after_lists}
use Rattle.json_validity.proofs.text.pass_list.Given as goal

-- what is left after the lists that are open is what is left after the outermost one
abbrev pub invariant-loop-reader : goal.invariant-loop-reader
invariant-loop-reader l =
    (depth : ℕ) × (depth + length l.outer.items ≡ l.fn.most - 1)
    × (after_list l.fn.outermost (l.fn.most - 1) l.initial.reader ≡ after_lists depth (l.innermost ∷ reverse l.outer.items) l.reader)

abbrev pub decreases-loop-reader : goal.decreases-loop-reader
decreases-loop-reader l = length l.reader
