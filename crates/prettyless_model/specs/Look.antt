-- The fit probe: one recursion on the tree, which passes on the column and whether a document is pending.
use Rattle.std.specs.Prelude.{ℕ, Bool, true, false, not, ◌&&◌, ◌||◌, nat_le, List, [], ◌∷◌, length, if◌then◌else◌}
use Rattle.prettyless_model.specs.Tree as t
use Rattle.prettyless_model.specs.Tree.{Tree}
use Rattle.prettyless_model.specs.Choice.{choice_holds}
use Rattle.prettyless_model.specs.Metrics.{metrics}
use Rattle.prettyless_model.specs.Column.{commit, blank, padding_fits, prospective}
use Rattle.prettyless_model.specs.Indent.{indent_by}
use Rattle.prettyless_model.specs.declared.column.Column.{Column}
use Rattle.prettyless_model.specs.declared.metrics.Metrics.{Metrics}
use Rattle.prettyless_model.specs.declared.mode.Mode.{Mode}
use Rattle.prettyless_model.specs.declared.mode.Mode.TheVariants.{Break, Flat}

-- the first in Break, the second in Flat
abbrev pub by_mode : {A : Type 0} → Mode → A → A → A
by_mode Break b f = b
by_mode Flat b f = f

-- the result of a look at a document: an answer, or the column after it and whether a document is pending there
pub data Look : Type 0 where
  Answers : Bool → Look
  GoesOn : Column → Bool → Look

-- one look, and where it gives no answer the next
abbrev pub look_then : Look → (Column → Bool → Look) → Look
look_then (Answers b) next = Answers b
look_then (GoesOn c p) next = next c p

-- the answer of a look, or else of what comes next
abbrev pub answer_of : Look → (Column → Bool → Bool) → Bool
answer_of (Answers b) next = b
answer_of (GoesOn c p) next = next c p

-- a text ends within the width, or the answer is no; an empty text is nothing
abbrev pub look_text : ℕ → ℕ → List ℕ → Column → Bool → Look
look_text width w [] c p = GoesOn c p
look_text width w (b ∷ bs) c p = if nat_le (commit w c).position width then GoesOn (commit w c) p else Answers false

-- a payload ends the line: its first part is empty, or ends within the width
abbrev pub payload_begins : ℕ → Metrics → Column → Bool
payload_begins width m c = not m.first_nonempty || nat_le (commit m.first_width c).position width

-- the end of a line, which no flat line holds: yes where the padding fits
abbrev pub look_end : ℕ → Mode → Column → Bool → Look
look_end width m c p = Answers (by_mode m (padding_fits width p c) false)

-- The result of a look at a document at an indent in a mode, from a column on; `p` says whether a document is pending.
abbrev pub look : ℕ → Tree → ℕ → Mode → Column → Bool → Look
look width t.Nil i m c p = GoesOn c p
look width t.Fail i m c p = Answers false
look width (t.Text s) i m c p = look_text width (length s) s c p
look width (t.TextWithLen w s) i m c p = look_text width w s c p
look width (t.MultilineText s) i m c p = Answers (by_mode m (payload_begins width (metrics s) c) false)
look width t.WeakSpace i m c p = GoesOn (blank c) p
look width t.HardLine i m c p = look_end width m c p
look width t.WeakLine i m c p = if c.fresh && not p then GoesOn c p else look_end width m c p
look width (t.Append l r) i m c p = look_then (look width l i m c p) (λ e q. look width r i m e q)
look width (t.LineSuffix d) i m c p = GoesOn c true
look width (t.Indented how d) i m c p = look width d (indent_by how i c) m c p
look width t.ExpandParent i m c p = by_mode m (GoesOn c p) (Answers false)
look width (t.Flatten d) i m c p = look width d i Flat c p
look width (t.BreakOrFlat b f) i m c p = by_mode m (look width b i m c p) (look width f i m c p)
look width (t.Group d) i m c p = look width d i m c p
look width (t.Union l r) i m c p = by_mode m (look width r i m c p) (look width l i m c p)
look width (t.PartialUnion l r) i m c p = by_mode m (look width r i m c p) (look width l i m c p)
look width (t.Chosen test y n) i m c p =
    if choice_holds test (prospective c) i then look width y i m c p else look width n i m c p
