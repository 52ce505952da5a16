-- The constants of an arena, each of which has one node there.
use Rattle.std.specs.Prelude.{ℕ, ◌≡◌, Bool, true, false, eqb, List, [], ◌∷◌, slice_get, IfSome}
use Rattle.prettyless_model.specs.Tree as t
use Rattle.prettyless_model.specs.Tree.{Tree}
use Rattle.prettyless_doc.specs.DocTree.{holds_memory}
use Rattle.prettyless_trees.specs.Lines.{space, line, line_}
use Rattle.prettyless_pointers.specs.declared.constants.Constant.{Constant}
use Rattle.prettyless_pointers.specs.declared.constants.Constant.TheVariants.{Nil, Fail, Space, WeakSpace, HardLine, WeakLine, ExpandParent}
use Rattle.prettyless_pointers.specs.declared.constants.Constant.TheVariants.{LineOrSpace, LineOrNil, SoftLineOrSpace, SoftLineOrNil}
use Rattle.prettyless_pointers.specs.declared.arena.RefDoc.{RefDoc, out-RefDoc}
use Rattle.prettyless_pointers.specs.Trees.{ref_tree}

-- the tree of a constant
abbrev pub constant_tree : Constant → Tree
constant_tree Nil = t.Nil
constant_tree Fail = t.Fail
constant_tree Space = space
constant_tree WeakSpace = t.WeakSpace
constant_tree HardLine = t.HardLine
constant_tree WeakLine = t.WeakLine
constant_tree ExpandParent = t.ExpandParent
constant_tree LineOrSpace = line
constant_tree LineOrNil = line_
constant_tree SoftLineOrSpace = t.Group line
constant_tree SoftLineOrNil = t.Group line_

-- whether a tree is one space
abbrev pub is_space : Tree → Bool
is_space (t.Text (b ∷ [])) = eqb b 32
is_space _ = false

-- whether a tree is nothing
abbrev pub is_nothing : Tree → Bool
is_nothing t.Nil = true
is_nothing _ = false

-- whether a tree is a line break, with this where lines are flat
abbrev pub is_line : (Tree → Bool) → Tree → Bool
is_line is_flat (t.BreakOrFlat t.HardLine f) = is_flat f
is_line is_flat _ = false

-- whether a tree is this in a group
abbrev pub is_grouped : (Tree → Bool) → Tree → Bool
is_grouped is_inner (t.Group d) = is_inner d
is_grouped is_inner _ = false

-- whether a tree is this constant
abbrev pub is_constant : Constant → Tree → Bool
is_constant Nil d = is_nothing d
is_constant Fail t.Fail = true
is_constant Space d = is_space d
is_constant WeakSpace t.WeakSpace = true
is_constant HardLine t.HardLine = true
is_constant WeakLine t.WeakLine = true
is_constant ExpandParent t.ExpandParent = true
is_constant LineOrSpace d = is_line is_space d
is_constant LineOrNil d = is_line is_nothing d
is_constant SoftLineOrSpace d = is_grouped (is_line is_space) d
is_constant SoftLineOrNil d = is_grouped (is_line is_nothing) d
is_constant _ _ = false

-- the pointer leads to this constant, in a node that holds no memory of its own
abbrev pub LeadsTo : Constant → RefDoc → Type 0
LeadsTo c p = (is_constant c (ref_tree p) ≡ true) × (holds_memory (out-RefDoc p).0.now ≡ false)

-- where in a table the pointer to a constant is
abbrev pub index_of : Constant → ℕ
index_of Nil = 0
index_of Fail = 1
index_of Space = 2
index_of WeakSpace = 3
index_of SoftLineOrNil = 4
index_of WeakLine = 5
index_of ExpandParent = 6
index_of LineOrSpace = 7
index_of LineOrNil = 8
index_of SoftLineOrSpace = 9
index_of HardLine = 10

-- each constant that the table has is in its place
abbrev pub IsTable : List RefDoc → Type 0
IsTable ps = (c : Constant) → IfSome (slice_get ps (index_of c)) (LeadsTo c)
