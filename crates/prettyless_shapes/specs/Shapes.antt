-- The trees of shapes.
use Rattle.std.specs.Prelude.{ℕ, pos, List, [], ◌∷◌, if◌then◌else◌}
use Rattle.prettyless_trees.specs.Counted.{text}
use Rattle.prettyless_trees.specs.Lines.{line, line_, space}
use Rattle.prettyless_model.specs.Tree.{Tree, Nil, HardLine, LineSuffix, BreakOrFlat}
use Rattle.prettyless_trees.specs.Built.{append, enclose, group, nest, softline}
use Rattle.prettyless_trees.specs.Lists.{punctuated}
use Rattle.prettyless_trees.specs.Words.{intersperse}
use Rattle.prettyless_shapes.specs.declared.lists.ListStyle.{ListStyle}

-- two trees with a gap between them
abbrev pub gapped : Tree → Tree → Tree → Tree
gapped x gap_between y = append (append x gap_between) y

-- a tree, and after it a group of a line and a second tree, which is nested by so many columns
abbrev pub hanging : Tree → Tree → ℕ → Tree
hanging x y columns = append x (group (nest (pos columns) (append line y)))

-- a tree, a second below it, nested by so many columns, and a third below that
abbrev pub block : Tree → Tree → Tree → ℕ → Tree
block before x after columns = gapped (append before (nest (pos columns) (append HardLine x))) HardLine after

-- a tree, a space, a comment and a line end
abbrev pub commented : Tree → List ℕ → Tree
commented x comment = append (gapped x space (text comment)) HardLine

-- a tree, and a space and a comment that are put off to the end of the line
abbrev pub late_commented : Tree → List ℕ → Tree
late_commented x comment = append x (LineSuffix (append space (text comment)))

-- ---- lists

-- inside each bracket: a line, which is a space or nothing where it is flat
abbrev pub edge : ListStyle → Tree
edge style = if style.padded then line else line_

-- between two members: a line, broken with all others or only where the next member has no room
abbrev pub gap_between : ListStyle → Tree
gap_between style = if style.filled then softline else line

-- after the last member: the punctuation where lines are broken, or nothing
abbrev pub trail : ListStyle → Tree → Tree
trail style mark = if style.trailing then BreakOrFlat mark Nil else Nil

-- the members with their punctuation and gaps
abbrev pub members : ListStyle → Tree → List Tree → Tree
members style mark xs = append (intersperse (gap_between style) (punctuated mark xs)) (trail style mark)

-- what is between the brackets
abbrev pub inside : ListStyle → Tree → List Tree → Tree
inside style mark xs = append (nest (pos style.indent) (append (edge style) (members style mark xs))) (edge style)

-- Members between brackets, in a group. Where there is none, the brackets stand side by side.
abbrev pub list : ListStyle → List ℕ → List Tree → List ℕ → List ℕ → Tree
list style before [] mark after = append (text before) (text after)
list style before (x ∷ xs) mark after = group (enclose (text before) (inside style (text mark) (x ∷ xs)) (text after))
