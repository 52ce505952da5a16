-- How much of a document whose owners are counted is left to drop.
use Rattle.std.proofs.Common.{ℕ, ◌+◌, ◌*◌, ◌≡◌, ◌∙◌, ◌<◌, refl, ap, arith}
use Rattle.prettyless_doc.specs.declared.doc.Doc.{Doc}
use Rattle.prettyless_doc.specs.declared.doc.Doc.TheVariants.{Nil}
use Rattle.prettyless_pointers.proofs.Weight.{weight_of}
use Rattle.prettyless_pointers.specs.Children.{children_of, IsFirstPointer, moved_up}
use Rattle.prettyless_pointers.specs.CountedNode.{rc_children}
use Rattle.prettyless_pointers.specs.declared.children.Children.{Children}
use Rattle.prettyless_pointers.specs.declared.children.Children.TheVariants.{None, One, Two}
use Rattle.prettyless_pointers.specs.declared.rc.RcDoc.{RcDoc, fold-RcDoc, out-RcDoc}
use Rattle.prettyless_pointers.specs.declared.rc.RcDoc.TheFolds.{fold_out-RcDoc, fold_out-RcNode, map-RcNode}
use Rattle.prettyless_pointers.specs.declared.rc.RcNode.{RcNode, out-RcNode}

-- the weight of such a document
abbrev pub rc_weight : RcDoc → ℕ
rc_weight = fold-RcDoc ℕ ℕ (λ d. d.0.value) (λ d. weight_of (λ w. w) (children_of d.0))

-- the pointers of a node, each replaced by its weight
abbrev pointer_weights : Doc RcDoc → Children ℕ
pointer_weights d = children_of (map-RcNode RcDoc RcNode ℕ ℕ rc_weight (λ n. 0) record { 0 = d }).0

pointer_weights_weigh : (d : Doc RcDoc) → weight_of (λ w. w) (pointer_weights d) ≡ weight_of rc_weight (children_of d)
pointer_weights_weigh Nil = refl
pointer_weights_weigh _ = refl

-- a document weighs what the pointers of its node weigh
pub rc_weighs : (p : RcDoc) → rc_weight p ≡ weight_of rc_weight (rc_children p)
rc_weighs p =
    fold_out-RcDoc ℕ ℕ (λ d. d.0.value) (λ d. weight_of (λ w. w) (children_of d.0)) p
    ∙ fold_out-RcNode ℕ ℕ (λ d. d.0.value) (λ d. weight_of (λ w. w) (children_of d.0)) (out-RcDoc p).0.value
    ∙ pointer_weights_weigh (out-RcNode (out-RcDoc p).0.value).0

-- pointers give the first of them and take one that was after them: the first in front of these weighs less than they in front of that one
moved_less :
    {T : Type 0} (weight : T → ℕ) (ps : Children T) (first back : T) → IsFirstPointer ps first
    → 2 * weight first + weight_of weight (moved_up ps back) < 2 * weight_of weight ps + weight back
moved_less weight None first back h = absurd h
moved_less weight (One x) first back h = rw h (omega arith)
moved_less weight (Two l r) first back h = rw h (omega arith)

-- the same of the pointers of a front, with the back after them
pub take_less :
    (front kept first back : RcDoc) → IsFirstPointer (rc_children front) first → rc_children kept ≡ moved_up (rc_children front) back
    → 2 * rc_weight first + rc_weight kept < 2 * rc_weight front + rc_weight back
take_less front kept first back is_first moved =
    let stays = rc_weighs kept ∙ ap (weight_of rc_weight) moved in
    rw (rc_weighs front) (rw stays (moved_less rc_weight (rc_children front) first back is_first))
