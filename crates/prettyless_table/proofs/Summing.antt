-- The summaries of a node, from those of its parts.
use Rattle.std.proofs.Common.{◌≡◌, ℕ, ◌+◌, ◌<◌, ◌≤◌, ◌∙◌, Bool, [], true, false, refl, subst, sym, arith}
use Rattle.prettyless_model.specs.Tree as t
use Rattle.prettyless_model.specs.Tree.{Tree, HardLine, Indented, Flatten, Group, BreakOrFlat, Union, PartialUnion, Chosen, size}
use Rattle.prettyless_model.specs.declared.kind.Indenting.{Indenting}
use Rattle.prettyless_model.specs.Column.{padding_fits}
use Rattle.prettyless_model.specs.Indent.{indent_by}
use Rattle.prettyless_model.specs.Look.{Answers, look}
use Rattle.prettyless_model.specs.declared.column.Column.{Column}
use Rattle.prettyless_model.specs.declared.mode.Mode.{Mode}
use Rattle.prettyless_model.specs.declared.mode.Mode.TheVariants.{Break, Flat}
use Rattle.prettyless_summary.specs.Summary.{IsSmall, ReadsLook, Summarizes, has_summary}
use Rattle.prettyless_summary.specs.Known.{FoundIf, KnownHolds, IsKnown, before_choice}
use Rattle.prettyless_summary.specs.declared.known.Known.{Known}
use Rattle.prettyless_summary.specs.declared.known.Known.TheVariants.{Whole, Begins}
use Rattle.prettyless_summary.specs.Marks.{marks_of}
use Rattle.prettyless_summary.specs.declared.summary.Summary.{Summary}
use Rattle.prettyless_table.specs.declared.sums.Sums.{Sums}
use Rattle.prettyless_table.specs.Parts.{parts_of}
use Rattle.prettyless_table.specs.Sums.{AreDocumentSums, Keeps}
use Rattle.prettyless_table.specs.declared.sums.Counts.{Counts}

-- a document shows in a mode what another one does in a mode, at some indent
abbrev Shows : Tree → Mode → Tree → Mode → Type 0
Shows e n d m = (i w : ℕ) (c : Column) (p : Bool) → (j : ℕ) × (look w e i n c p ≡ look w d j m c p)

summarizes_as : (s : Summary) (d e : Tree) (m n : Mode) → Shows e n d m → Summarizes s d m → Summarizes s e n
summarizes_as s d e m n shows h i w c p = let x = shows i w c p in h x.0 w c p ∙ sym x.1

holds_as : (k : Known) (d e : Tree) (m n : Mode) → Shows e n d m → KnownHolds k d m → KnownHolds k e n
holds_as (Whole s) d e m n shows h = summarizes_as s d e m n shows h
holds_as (Begins s) d e m n shows h = λ i w c p b l. let x = shows i w c p in x.1 ∙ h x.0 w c p b l

found_as : (b : Bool) (k : Known) (d e : Tree) (m n : Mode) → Shows (before_choice e n) n (before_choice d m) m → size d ≤ size e
    → FoundIf b k d m → FoundIf b k e n
found_as true (Whole s) d e m n shows less h = omega (arith, less, h)
found_as false (Begins s) d e m n shows less h =
    (summarizes_as s (before_choice d m) (before_choice e n) m n shows h.0, omega (arith, less, h.1))
found_as true (Begins s) d e m n shows less h = absurd h
found_as false (Whole s) d e m n shows less h = absurd h

-- what is known of a part is known of the node
pub known_as : (k : Known) (d e : Tree) (m n : Mode) → Shows e n d m → Shows (before_choice e n) n (before_choice d m) m
    → has_summary d m ≡ has_summary e n → size d ≤ size e → IsKnown k d m → IsKnown k e n
known_as k d e m n shows before has less h = record {
  holds = holds_as k d e m n shows h.holds;
  found = λ few. subst (λ (b : Bool). FoundIf b k e n) has
      (found_as (has_summary d m) k d e m n before less (h.found (omega (arith, less, few))));
}

pub known_group : (k : Known) (d : Tree) (m : Mode) → IsKnown k d m → IsKnown k (Group d) m
known_group k d m = known_as k d (Group d) m m (λ i w c p. (i, refl)) (λ i w c p. (i, refl)) refl (omega arith)

pub known_indented : (k : Known) (how : Indenting) (d : Tree) (m : Mode) → IsKnown k d m → IsKnown k (Indented how d) m
known_indented k how d m =
    known_as k d (Indented how d) m m (λ i w c p. (indent_by how i c, refl)) (λ i w c p. (indent_by how i c, refl)) refl (omega arith)

known_flatten : (k : Known) (d : Tree) (m : Mode) → IsKnown k d Flat → IsKnown k (Flatten d) m
known_flatten k d m = known_as k d (Flatten d) Flat m (λ i w c p. (i, refl)) (λ i w c p. (i, refl)) refl (omega arith)

pub sums_group : (s : Sums) (d : Tree) → AreDocumentSums s d → AreDocumentSums s (Group d)
sums_group s d h = record { flat = known_group s.flat d Flat h.flat; broken = known_group s.broken d Break h.broken }

pub sums_indented : (s : Sums) (how : Indenting) (d : Tree) → AreDocumentSums s d → AreDocumentSums s (Indented how d)
sums_indented s how d h = record {
  flat = known_indented s.flat how d Flat h.flat;
  broken = known_indented s.broken how d Break h.broken;
}

pub sums_flatten : (s : Sums) (d : Tree) → AreDocumentSums s d → AreDocumentSums (record { flat = s.flat; broken = s.flat }) (Flatten d)
sums_flatten s d h = record { flat = known_flatten s.flat d Flat h.flat; broken = known_flatten s.flat d Break h.flat }

-- of two parts one is read where lines are flat, and the other one where they are broken

pub sums_break_or_flat : (s t : Sums) (d e : Tree) → AreDocumentSums s d → AreDocumentSums t e
    → AreDocumentSums (record { flat = t.flat; broken = s.broken }) (BreakOrFlat d e)
sums_break_or_flat s t d e h k = record {
  flat = known_as t.flat e (BreakOrFlat d e) Flat Flat (λ i w c p. (i, refl)) (λ i w c p. (i, refl)) refl (omega arith) k.flat;
  broken = known_as s.broken d (BreakOrFlat d e) Break Break (λ i w c p. (i, refl)) (λ i w c p. (i, refl)) refl (omega arith)
      h.broken;
}

pub sums_union : (s t : Sums) (d e : Tree) → AreDocumentSums s d → AreDocumentSums t e
    → AreDocumentSums (record { flat = s.flat; broken = t.broken }) (Union d e)
sums_union s t d e h k = record {
  flat = known_as s.flat d (Union d e) Flat Flat (λ i w c p. (i, refl)) (λ i w c p. (i, refl)) refl (omega arith) h.flat;
  broken = known_as t.broken e (Union d e) Break Break (λ i w c p. (i, refl)) (λ i w c p. (i, refl)) refl (omega arith) k.broken;
}

pub sums_partial_union : (s t : Sums) (d e : Tree) → AreDocumentSums s d → AreDocumentSums t e
    → AreDocumentSums (record { flat = s.flat; broken = t.broken }) (PartialUnion d e)
sums_partial_union s t d e h k = record {
  flat = known_as s.flat d (PartialUnion d e) Flat Flat (λ i w c p. (i, refl)) (λ i w c p. (i, refl)) refl (omega arith) h.flat;
  broken = known_as t.broken e (PartialUnion d e) Break Break (λ i w c p. (i, refl)) (λ i w c p. (i, refl)) refl (omega arith)
      k.broken;
}

-- the summary of a line break
pub sum_hard_line : (s broken : Summary) (m : Mode) → ReadsLook broken (λ width c p. Answers (padding_fits width p c))
    → (m ≡ Break → s ≡ broken)
    → (m ≡ Flat → ReadsLook s (λ width c p. Answers false)) → Summarizes s HardLine m
sum_hard_line s broken Break h same never = subst (λ x. Summarizes x HardLine Break) (sym (same refl)) (λ i. h)
sum_hard_line s broken Flat h same never = λ i. never refl

-- a leaf has a summary
leaf_found : (d : Tree) (m : Mode) (s : Summary) → [] ≡ parts_of d → IsSmall 1 s → FoundIf (has_summary d m) (Whole s) d m
leaf_found (t.One kind d) m s e h = absurd (cc)
leaf_found (t.Two kind l r) m s e h = absurd (cc)
leaf_found t.Nil m s e h = h
leaf_found _ m s e h = h

-- the summary of a leaf
pub sum_leaf : (d : Tree) (m : Mode) (s : Summary) → [] ≡ parts_of d → Summarizes s d m → IsSmall 1 s → IsKnown (Whole s) d m
sum_leaf d m s e known small = record { holds = known; found = λ few. leaf_found d m s e small }

-- ---- What a cell keeps

-- the marks and numbers that a summary is packed into
pub pack_whole : (s : Summary) (marks : ℕ) (counts : Counts) (d : Tree) (m : Mode) → marks < 64 → marks ≡ marks_of s
    → counts.lead ≡ s.lead → counts.inner ≡ s.inner → counts.trail ≡ s.trail → IsKnown (Whole s) d m → Keeps marks counts d m
pack_whole s marks counts d m below same lead inner trail h (Whole x) only =
    subst (λ (z : Summary). IsKnown (Whole z) d m) (sym (only.1 s lead inner trail same)) h
pack_whole s marks counts d m below same lead inner trail h (Begins x) only = absurd (omega (arith, below, only.0))

pub pack_begins : (s : Summary) (marks : ℕ) (counts : Counts) (d : Tree) (m : Mode) → marks ≡ marks_of s + 64
    → counts.lead ≡ s.lead → counts.inner ≡ s.inner → counts.trail ≡ s.trail → IsKnown (Begins s) d m → Keeps marks counts d m
pack_begins s marks counts d m same lead inner trail h (Whole x) only = absurd (omega (arith, same, only.0))
pack_begins s marks counts d m same lead inner trail h (Begins x) only =
    subst (λ (z : Summary). IsKnown (Begins z) d m) (sym (only.1 s lead inner trail (omega (arith, same)))) h
