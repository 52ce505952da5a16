-- Tables of constants: what is in its place is the constant, and a table that was filled in order has each in its place.
use Rattle.std.proofs.Common.{◌≡◌, ◌∙◌, refl, ap, Bool, true, false, List, [], ◌∷◌}
use Rattle.prettyless_doc.specs.DocTree.{tree_of, holds_memory}
use Rattle.std.proofs.lemmas.Bool.{eqb-true}
use Rattle.prettyless_model.specs.Tree as t
use Rattle.prettyless_model.specs.Tree.{Tree}
use Rattle.prettyless_trees.specs.Lines.{space}
use Rattle.prettyless_pointers.specs.declared.constants.Constant.{Constant}
use Rattle.prettyless_pointers.specs.declared.constants.Constant.TheVariants.{Nil, Fail, Space, WeakSpace, HardLine, WeakLine, ExpandParent}
use Rattle.prettyless_pointers.specs.declared.constants.Constant.TheVariants.{LineOrSpace, LineOrNil, SoftLineOrSpace, SoftLineOrNil}
use Rattle.prettyless_pointers.specs.Constants.{IsTable, LeadsTo, constant_tree, is_space, is_nothing, is_line, is_grouped, is_constant}
use Rattle.prettyless_doc.specs.declared.doc.Doc.{Doc}
use Rattle.prettyless_doc.specs.declared.doc.Doc.TheVariants as n
use Rattle.prettyless_pointers.specs.Trees.{ref_tree}
use Rattle.prettyless_pointers.specs.declared.arena.RefDoc.{RefDoc, roll-RefDoc, out-roll-RefDoc}
use Rattle.prettyless_pointers.specs.declared.arena.RefDoc.TheFolds.{fold-roll-RefDoc}

spaces-are : (d : Tree) → is_space d ≡ true → d ≡ space
spaces-are (t.Text (b ∷ [])) h = ap (λ c. t.Text (c ∷ [])) (eqb-true b 32 h)
spaces-are _ h = absurd cc

nothings-are : (d : Tree) → is_nothing d ≡ true → d ≡ t.Nil
nothings-are t.Nil h = refl
nothings-are _ h = absurd cc

lines-are : (is_flat : Tree → Bool) (flat : Tree) → ((d : Tree) → is_flat d ≡ true → d ≡ flat) → (d : Tree) → is_line is_flat d ≡ true
    → d ≡ t.BreakOrFlat t.HardLine flat
lines-are is_flat flat same (t.BreakOrFlat t.HardLine f) h = ap (t.BreakOrFlat t.HardLine) (same f h)
lines-are is_flat flat same _ h = absurd cc

groups-are : (is_inner : Tree → Bool) (inner : Tree) → ((d : Tree) → is_inner d ≡ true → d ≡ inner) → (d : Tree)
    → is_grouped is_inner d ≡ true → d ≡ t.Group inner
groups-are is_inner inner same (t.Group d) h = ap t.Group (same d h)
groups-are is_inner inner same _ h = absurd cc

-- a tree that is found to be a constant is it
pub constants-are : (c : Constant) (d : Tree) → is_constant c d ≡ true → d ≡ constant_tree c
constants-are Nil d h = nothings-are d h
constants-are Fail t.Fail h = refl
constants-are Space d h = spaces-are d h
constants-are WeakSpace t.WeakSpace h = refl
constants-are HardLine t.HardLine h = refl
constants-are WeakLine t.WeakLine h = refl
constants-are ExpandParent t.ExpandParent h = refl
constants-are LineOrSpace d h = lines-are is_space space spaces-are d h
constants-are LineOrNil d h = lines-are is_nothing t.Nil nothings-are d h
constants-are SoftLineOrSpace d h = groups-are _ _ (lines-are is_space space spaces-are) d h
constants-are SoftLineOrNil d h = groups-are _ _ (lines-are is_nothing t.Nil nothings-are) d h
constants-are _ _ h = absurd cc

-- the tree of a pointer is that of its node
pub node_tree : (a : _) (d : Doc RefDoc) → ref_tree (roll-RefDoc record { 0 = record { ref_ptr = a; now = d } }) ≡ tree_of ref_tree d
node_tree a n.Nil = fold-roll-RefDoc Tree (λ d. tree_of (λ t. t) d.0.now) _
node_tree a _ = fold-roll-RefDoc Tree (λ d. tree_of (λ t. t) d.0.now) _

-- a pointer to a node leads to the constant that the node is
pub leads : (c : Constant) (a : _) (d : Doc RefDoc) → is_constant c (tree_of ref_tree d) ≡ true → holds_memory d ≡ false
    → LeadsTo c (roll-RefDoc record { 0 = record { ref_ptr = a; now = d } })
leads c a d same settled = (
  ap (is_constant c) (node_tree a d) ∙ same,
  ap (λ p. holds_memory p.0.now) (out-roll-RefDoc record { 0 = record { ref_ptr = a; now = d } }) ∙ settled,
)

-- a node of two constants
pub line-is : (c : Constant) (flat : Constant) (p q : RefDoc) → LeadsTo HardLine p → LeadsTo flat q
    → is_constant c (t.BreakOrFlat t.HardLine (constant_tree flat)) ≡ true → is_constant c (t.BreakOrFlat (ref_tree p) (ref_tree q)) ≡ true
line-is c flat p q h g same = rw (constants-are HardLine _ h.0) (rw (constants-are flat _ g.0) same)

-- a group of one
pub soft-line-is : (c : Constant) (inner : Constant) (p : RefDoc) → LeadsTo inner p → is_constant c (t.Group (constant_tree inner)) ≡ true
    → is_constant c (t.Group (ref_tree p)) ≡ true
soft-line-is c inner p h same = rw (constants-are inner _ h.0) same

-- the pointers to the constants, in order
pub record InOrder (p0 p1 p2 p3 p4 p5 p6 p7 p8 p9 p10 : RefDoc) : Type 0 where
  pub nil : LeadsTo Nil p0
  pub fail : LeadsTo Fail p1
  pub space : LeadsTo Space p2
  pub weak_space : LeadsTo WeakSpace p3
  pub softline_ : LeadsTo SoftLineOrNil p4
  pub weak_line : LeadsTo WeakLine p5
  pub expand_parent : LeadsTo ExpandParent p6
  pub line : LeadsTo LineOrSpace p7
  pub line_ : LeadsTo LineOrNil p8
  pub softline : LeadsTo SoftLineOrSpace p9
  pub hard_line : LeadsTo HardLine p10

in-place :
    {p0 p1 p2 p3 p4 p5 p6 p7 p8 p9 p10 : RefDoc} → InOrder p0 p1 p2 p3 p4 p5 p6 p7 p8 p9 p10
    → IsTable (p0 ∷ p1 ∷ p2 ∷ p3 ∷ p4 ∷ p5 ∷ p6 ∷ p7 ∷ p8 ∷ p9 ∷ p10 ∷ [])
in-place h Nil = h.nil
in-place h Fail = h.fail
in-place h Space = h.space
in-place h WeakSpace = h.weak_space
in-place h HardLine = h.hard_line
in-place h WeakLine = h.weak_line
in-place h ExpandParent = h.expand_parent
in-place h LineOrSpace = h.line
in-place h LineOrNil = h.line_
in-place h SoftLineOrSpace = h.softline
in-place h SoftLineOrNil = h.softline_

pub is-table :
    {p0 p1 p2 p3 p4 p5 p6 p7 p8 p9 p10 : RefDoc} {ps : List RefDoc} → InOrder p0 p1 p2 p3 p4 p5 p6 p7 p8 p9 p10
    → ps ≡ p0 ∷ p1 ∷ p2 ∷ p3 ∷ p4 ∷ p5 ∷ p6 ∷ p7 ∷ p8 ∷ p9 ∷ p10 ∷ [] → IsTable ps
is-table h e = rw e (in-place h)
