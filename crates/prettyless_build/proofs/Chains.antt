-- So many copies of a tree.
use Rattle.std.proofs.Common.{◌≡◌, ℕ, suc, zero, ◌≤◌, ◌+◌, ◌-◌, arith, ap, ◌∙◌}
use Rattle.prettyless_model.specs.Tree.{Tree, Append}
use Rattle.prettyless_trees.specs.Built.{chain, repeat}

-- more copies than one
pub repeat_more : (n : ℕ) (x : Tree) → 2 ≤ n → Append (chain (n - 2) x) x ≡ repeat n x
repeat_more zero x h = absurd (omega arith)
repeat_more (suc zero) x h = absurd (omega arith)
repeat_more (suc (suc n)) x h = let e : suc (suc n) - 2 ≡ n = omega arith in ap (λ (k : ℕ). Append (chain k x) x) e

-- the same, of the document and those in front of it
pub repeated : (n : ℕ) (x y z w : Tree) → 2 ≤ n → w ≡ Append y z → y ≡ chain (n - 2) z → z ≡ x → w ≡ repeat n x
repeated n x y z w h made front last =
    made ∙ ap (λ (k : Tree). Append k z) front ∙ ap (λ (k : Tree). Append (chain (n - 2) k) k) last ∙ repeat_more n x h

-- one copy more
pub chain_more : (n : ℕ) (x y z w : Tree) → w ≡ Append y z → y ≡ chain n x → z ≡ x → w ≡ chain (n + 1) x
chain_more n x y z w made front last =
    let e : suc n ≡ n + 1 = omega arith in
    made ∙ ap (λ (k : Tree). Append k z) front ∙ ap (Append (chain n x)) last ∙ ap (λ (k : ℕ). chain k x) e
