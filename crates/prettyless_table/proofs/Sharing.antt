-- Nodes that have the place of their part, and those that have a cell of their own.
use Rattle.std.proofs.Common.{◌≡◌, ℕ, Bool, true, false, List, get_or, subst, sym}
use Rattle.prettyless_model.specs.Tree.{Tree, One}
use Rattle.prettyless_model.specs.declared.kind.Single.{Single}
use Rattle.prettyless_model.specs.declared.kind.Single.TheVariants as one
use Rattle.prettyless_model.specs.declared.mode.Mode.{Mode}
use Rattle.prettyless_model.specs.declared.mode.Mode.TheVariants.{Break, Flat}
use Rattle.prettyless_summary.specs.Known.{IsKnown}
use Rattle.prettyless_summary.specs.declared.known.Known.{Known}
use Rattle.prettyless_table.specs.declared.cell.Cell.{Cell}
use Rattle.prettyless_table.specs.declared.cell.Cell.TheVariants.{Root, Sums, Wide}
use Rattle.prettyless_table.specs.Parts.{shares, small}
use Rattle.prettyless_table.specs.Cells.{HasCell, In, KeepsBoth, part_at}
use Rattle.prettyless_table.specs.Stored.{Serves}
use Rattle.prettyless_table.proofs.Cells.{in_cell, unless_some}
use Rattle.prettyless_table.proofs.Summing.{known_group, known_indented}

-- what a cell keeps of a part is so of a node of which the same is known

both_as : {N : Type 0} (c : Cell N) (d e : Tree) → ((k : Known) (m : Mode) → IsKnown k d m → IsKnown k e m) → KeepsBoth c d → KeepsBoth c e
both_as (Sums a b second flat broken) d e via h = (λ k s. via k Flat (h.0 k s), λ k s. via k Break (h.1 k s))
both_as (Wide second sums) d e via h = record { flat = via sums.value.flat Flat h.flat; broken = via sums.value.broken Break h.broken }
both_as (Root place n) d e via h = h

cell_as : {N : Type 0} (cells : List (Cell N)) (at : ℕ) (d e : Tree) → ((k : Known) (m : Mode) → IsKnown k d m → IsKnown k e m)
    → HasCell cells at d → HasCell cells at e
cell_as {N} cells at d e via h = record {
  within = h.within;
  keeps = λ (c : Cell N). both_as (get_or cells at c) d e via (h.keeps c);
}

stands_as : (N : Type 0) (kind : Single) (d : Tree) → shares kind ≡ true → small d ≡ false
    → ((k : Known) (m : Mode) → IsKnown k d m → IsKnown k (One kind d) m) → Serves N d (One kind d)
stands_as N kind d s little via cells at h = unless_some (small (One kind d)) (
  cell_as cells at d (One kind d) via (in_cell cells d at little h),
  subst (λ (b : Bool). In cells d (part_at b at)) (sym s) h,
)

-- where the part stands, a node that has its place does
pub serves_part : (N : Type 0) (kind : Single) (d : Tree) → shares kind ≡ true → small d ≡ false → Serves N d (One kind d)
serves_part N (one.Indented how) d s little = stands_as N (one.Indented how) d s little (λ k m. known_indented k how d m)
serves_part N one.Group d s little = stands_as N one.Group d s little (λ k m. known_group k d m)
serves_part N one.LineSuffix d s little = cc
serves_part N one.Flatten d s little = cc
