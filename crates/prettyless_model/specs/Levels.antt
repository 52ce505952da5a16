-- How many levels a layout can spend, and breaks that have as many as they need.
use Rattle.std.specs.Prelude.{◌≡◌, ℕ, suc, ◌+◌, ◌<◌, List, [], ◌∷◌}
use Rattle.prettyless_model.specs.declared.options.RenderOptions.{RenderOptions}
use Rattle.prettyless_model.specs.Tree.{Tree, Append, LineSuffix, Indented, Flatten, BreakOrFlat, Group, Union, PartialUnion, Chosen, size}
use Rattle.prettyless_model.specs.Layout.{State, Outcome, Breaks, breaks, finish, layout_by, layout, bytes_of}

-- how many LineSuffix nodes a tree has, those inside another too
abbrev pub suffixes : Tree → ℕ
suffixes (Append l r) = suffixes l + suffixes r
suffixes (LineSuffix d) = suffixes d + 1
suffixes (Indented how d) = suffixes d
suffixes (Flatten d) = suffixes d
suffixes (BreakOrFlat b f) = suffixes b + suffixes f
suffixes (Group d) = suffixes d
suffixes (Union l r) = suffixes l + suffixes r
suffixes (PartialUnion l r) = suffixes l + suffixes r
suffixes (Chosen test y n) = suffixes y + suffixes n
suffixes _ = 0

-- how many documents the pending ones are, with those that they may leave pending in turn
abbrev pub queued : List Tree → ℕ
queued [] = 0
queued (d ∷ ds) = suffixes d + 1 + queued ds

-- a break with as many levels as it may spend
unfoldable pub settle : RenderOptions → Breaks
settle o d i m rest st = breaks o (suc (queued st.pending)) d i m rest st

-- the end with as many rounds as it may take
unfoldable pub settle_end : RenderOptions → State → Outcome
settle_end o st = finish o (settle o) (suc (queued st.pending)) st

-- more levels than a document can leave pending change nothing
abbrev pub MoreLevelsChangeNothing : Type 0
MoreLevelsChangeNothing = (o : RenderOptions) (n : ℕ) (d : Tree) → suffixes d < n → bytes_of (layout_by o n d) ≡ layout o d

-- a tree has fewer LineSuffix nodes than nodes
abbrev pub FewerSuffixesThanNodes : Type 0
FewerSuffixesThanNodes = (d : Tree) → suffixes d < size d
