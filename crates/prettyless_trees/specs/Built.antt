-- The trees that building makes of the trees that it is given, and when it gives one back as it is.
use Rattle.std.specs.Prelude.{◌≡◌, ℕ, ℤ, pos, zero, suc, ◌/◌, ◌%◌, ◌⊎◌, [], ◌∷◌, replicate, Bool, true, false}
use Rattle.prettyless_model.specs.Tree.{Tree, Nil, Fail, Text, TextWithLen, MultilineText, HardLine, Append, LineSuffix, Nest, DedentToRoot}
use Rattle.prettyless_model.specs.Tree.{Align, Flatten, Group}
use Rattle.prettyless_trees.specs.Lines.{line, line_}

-- nothing
abbrev pub is_nil : Tree → Bool
is_nil Nil = true
is_nil _ = false

-- something
abbrev pub IsNotNil : Tree → Type 0
IsNotNil Nil = ⊥
IsNotNil _ = Unit {0}

-- a line break only where the line has no room, or one space
abbrev pub softline : Tree
softline = Group line

-- a line break only where the line has no room, or nothing
abbrev pub softline_ : Tree
softline_ = Group line_

-- something with a tree appended
abbrev pub append_to : Tree → Tree → Tree
append_to x Nil = x
append_to x y = Append x y

-- a tree with another appended
abbrev pub append : Tree → Tree → Tree
append Nil y = y
append x y = append_to x y

-- one tree of the first kind with one of the second appended
abbrev pub joined : (Tree → Type 0) → (Tree → Type 0) → Tree → Type 0
joined P Q z = (x : Tree) × (y : Tree) × P x × Q y × (z ≡ append x y)

-- a tree with one that d may become appended
abbrev pub appends : {A : Type 0} → (A → Tree → Type 0) → Tree → A → Tree → Type 0
appends R x d z = (y : Tree) × R d y × (z ≡ append x y)

-- a tree between two others
abbrev pub enclose : Tree → Tree → Tree → Tree
enclose before x after = append (append before x) after

-- appending two trees to one another makes a node
abbrev pub IsAppended : Tree → Tree → Type 0
IsAppended x y = IsNotNil x × IsNotNil y

-- enclosing a tree makes a node
abbrev pub IsNodeNeeded : Tree → Tree → Tree → Type 0
IsNodeNeeded before x after = IsAppended before x ⊎ IsAppended (append before x) after

-- a tree between two characters
abbrev pub between : ℕ → ℕ → Tree → Tree
between before after x = enclose (Text (before ∷ [])) x (Text (after ∷ []))

-- one text of so many spaces, or nothing for none
abbrev pub gap_tree : ℕ → Tree
gap_tree zero = Nil
gap_tree (suc n) = Text (replicate (suc n) 32)

-- so many texts of 100 spaces, each appended to those before it
abbrev pub hundreds : ℕ → Tree
hundreds zero = Nil
hundreds (suc n) = append (hundreds n) (gap_tree 100)

-- so many spaces: texts of 100, and then the rest, if any
abbrev pub spaces_tree : ℕ → Tree
spaces_tree n = append (hundreds (n / 100)) (gap_tree (n % 100))

-- a left chain of a tree and n more
abbrev pub chain : ℕ → Tree → Tree
chain zero x = x
chain (suc n) x = Append (chain n x) x

-- so many copies of a tree, one after the other
abbrev pub repeat : ℕ → Tree → Tree
repeat zero x = Nil
repeat (suc n) x = chain n x

-- nesting by k leaves the tree as it is
abbrev pub keeps_nested : ℤ → Tree → Bool
keeps_nested (pos zero) x = true
keeps_nested k x = is_nil x

-- a tree nested by some offset other than 0
abbrev pub nest_by : ℤ → Tree → Tree
nest_by k Nil = Nil
nest_by k x = Nest k x

-- a tree nested by k
abbrev pub nest : ℤ → Tree → Tree
nest (pos zero) x = x
nest k x = nest_by k x

-- dedenting to the root leaves the tree as it is
abbrev pub keeps_dedented : Tree → Bool
keeps_dedented Nil = true
keeps_dedented (DedentToRoot x) = true
keeps_dedented _ = false

-- a tree dedented to the root
abbrev pub dedent_to_root : Tree → Tree
dedent_to_root Nil = Nil
dedent_to_root (DedentToRoot x) = DedentToRoot x
dedent_to_root x = DedentToRoot x

-- aligning leaves the tree as it is
abbrev pub keeps_aligned : Tree → Bool
keeps_aligned Nil = true
keeps_aligned (Align x) = true
keeps_aligned _ = false

-- a tree aligned
abbrev pub align : Tree → Tree
align Nil = Nil
align (Align x) = Align x
align x = Align x

-- putting it off to the end of the line leaves the tree as it is
abbrev pub keeps_put_off : Tree → Bool
keeps_put_off Nil = true
keeps_put_off (LineSuffix x) = true
keeps_put_off _ = false

-- a tree as a line suffix
abbrev pub as_line_suffix : Tree → Tree
as_line_suffix Nil = Nil
as_line_suffix (LineSuffix x) = LineSuffix x
as_line_suffix x = LineSuffix x

-- flattening leaves the tree as it is
abbrev pub keeps_flattened : Tree → Bool
keeps_flattened Nil = true
keeps_flattened (Text s) = true
keeps_flattened (TextWithLen w s) = true
keeps_flattened (Flatten x) = true
keeps_flattened _ = false

-- a hard line break or a payload, which no flat line holds
abbrev pub is_hard : Tree → Bool
is_hard HardLine = true
is_hard (MultilineText s) = true
is_hard _ = false

-- a tree flattened
abbrev pub flatten : Tree → Tree
flatten Nil = Nil
flatten (Text s) = Text s
flatten (TextWithLen w s) = TextWithLen w s
flatten (MultilineText s) = Fail
flatten HardLine = Fail
flatten (Flatten x) = Flatten x
flatten x = Flatten x

-- grouping leaves the tree as it is
abbrev pub keeps_grouped : Tree → Bool
keeps_grouped Nil = true
keeps_grouped (Text s) = true
keeps_grouped (TextWithLen w s) = true
keeps_grouped (MultilineText s) = true
keeps_grouped (Group x) = true
keeps_grouped _ = false

-- a tree grouped
abbrev pub group : Tree → Tree
group Nil = Nil
group (Text s) = Text s
group (TextWithLen w s) = TextWithLen w s
group (MultilineText s) = MultilineText s
group (Group x) = Group x
group x = Group x
