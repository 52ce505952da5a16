-- How much of a boxed document is left to drop: a number that falls with each step of the drop.
use Rattle.std.proofs.Common.{ℕ, ◌+◌, ◌*◌}
use Rattle.prettyless_pointers.specs.declared.boxes.BoxDoc.{BoxDoc, fold-BoxDoc}
use Rattle.prettyless_pointers.specs.declared.children.Children.{Children}
use Rattle.prettyless_pointers.specs.declared.children.Children.TheVariants.{None, One, Two}
use Rattle.prettyless_pointers.specs.Children.{children_of}

-- the weight of what a node holds, given the weights of its pointers; the first of two counts twice, so that (a, b) in
-- front of c weighs more than a in front of (b, c)
abbrev pub weight_of : {T : Type 0} → (T → ℕ) → Children T → ℕ
weight_of weight None = 1
weight_of weight (One d) = weight d + 1
weight_of weight (Two l r) = 2 * weight l + weight r + 1

-- the weight of a boxed document
abbrev pub box_weight : BoxDoc → ℕ
box_weight = fold-BoxDoc ℕ ℕ (λ d. d.0.value) (λ d. weight_of (λ w. w) (children_of d.0))
