use Rattle.std.proofs.Common.{refl}
use Rattle.prettyless_pointers.specs.declared.constants.Constant.TheVariants.{Nil, Fail, Space, WeakSpace, HardLine, WeakLine, ExpandParent}
use Rattle.prettyless_pointers.specs.declared.constants.Constant.TheVariants.{LineOrSpace, LineOrNil, SoftLineOrSpace, SoftLineOrNil}
use Rattle.prettyless_pointers.proofs.InPlace.{InOrder, is-table, leads, line-is, soft-line-is}
use Rattle.prettyless_pointers.proofs.constants.table.Goals as goal

pub returns-clause-ok : goal.returns-clause-ok
returns-clause-ok c =
    let leaves = c.in_ok-leaves.ensures in
    let lines = c.in_ok-lines.ensures in
    let soft_lines = c.in_ok-soft_lines.ensures in
    let h : InOrder _ _ _ _ _ _ _ _ _ _ _ =
    record {
      nil = leads Nil _ _ (rw leaves refl) (rw leaves refl);
      fail = leads Fail _ _ (rw leaves refl) (rw leaves refl);
      space = leads Space _ _ (rw leaves refl) (rw leaves refl);
      weak_space = leads WeakSpace _ _ (rw leaves refl) (rw leaves refl);
      hard_line = leads HardLine _ _ (rw leaves refl) (rw leaves refl);
      weak_line = leads WeakLine _ _ (rw leaves refl) (rw leaves refl);
      expand_parent = leads ExpandParent _ _ (rw leaves refl) (rw leaves refl);
      line = leads LineOrSpace _ _ (rw lines (line-is LineOrSpace Space _ _ (leads HardLine _ _ (rw leaves refl) (rw leaves refl))
          (leads Space _ _ (rw leaves refl) (rw leaves refl)) refl)) (rw lines refl);
      line_ = leads LineOrNil _ _ (rw lines
          (line-is LineOrNil Nil _ _ (leads HardLine _ _ (rw leaves refl) (rw leaves refl))
          (leads Nil _ _ (rw leaves refl) (rw leaves refl)) refl)) (rw lines refl);
      softline = leads SoftLineOrSpace _ _
          (rw soft_lines (soft-line-is SoftLineOrSpace LineOrSpace _
          (leads LineOrSpace _ _ (rw lines (line-is LineOrSpace Space _ _ (leads HardLine _ _ (rw leaves refl) (rw leaves refl))
          (leads Space _ _ (rw leaves refl) (rw leaves refl)) refl)) (rw lines refl)) refl)) (rw soft_lines refl);
      softline_ = leads SoftLineOrNil _ _
          (rw soft_lines (soft-line-is SoftLineOrNil LineOrNil _
          (leads LineOrNil _ _ (rw lines
          (line-is LineOrNil Nil _ _ (leads HardLine _ _ (rw leaves refl) (rw leaves refl))
          (leads Nil _ _ (rw leaves refl) (rw leaves refl)) refl)) (rw lines refl)) refl)) (rw soft_lines refl);
    }
    in is-table h c.in_ok-table.ensures
