-- The tree that a view shows.
use Rattle.std.specs.Prelude.{◌≡◌}
use Rattle.prettyless_model.specs.Tree as t
use Rattle.prettyless_model.specs.Tree.{Tree}
use Rattle.prettyless_model.specs.Metrics.{metrics}
use Rattle.prettyless_probe.specs.declared.walk.View.{View}
use Rattle.prettyless_probe.specs.declared.walk.View.TheVariants.{Nil, Fail, Text, TextWithLen, MultilineText, WeakSpace, HardLine}
use Rattle.prettyless_probe.specs.declared.walk.View.TheVariants.{WeakLine, ExpandParent, One, Two}

-- the tree that a view shows, given the trees of the children
abbrev pub view_tree : {N : Type 0} → (N → Tree) → View N → Tree
view_tree f Nil = t.Nil
view_tree f Fail = t.Fail
view_tree f (Text s) = t.Text s.now
view_tree f (TextWithLen w s) = t.TextWithLen w s.now
view_tree f (MultilineText s m) = t.MultilineText s.now
view_tree f WeakSpace = t.WeakSpace
view_tree f HardLine = t.HardLine
view_tree f WeakLine = t.WeakLine
view_tree f ExpandParent = t.ExpandParent
view_tree f (One kind x) = t.One kind (f x)
view_tree f (Two kind x y) = t.Two kind (f x) (f y)

-- the metrics of a payload that a view shows are those of its text
abbrev pub IsMeasured : {N : Type 0} → View N → Type 0
IsMeasured (MultilineText s m) = m ≡ metrics s.now
IsMeasured _ = Unit {0}
