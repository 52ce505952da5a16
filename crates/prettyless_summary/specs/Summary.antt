-- What a document shows a probe, in one value.
use Rattle.std.specs.Prelude.{◌≡◌, ℕ, ◌+◌, ◌≤◌, Bool, true, false, not, ◌&&◌, ◌||◌, ◌==◌, nat_le, Option, Some, None}
use Rattle.std.specs.Prelude.{⊤, if◌then◌else◌}
use Rattle.prettyless_model.specs.Tree.{Tree, Append, LineSuffix, Indented, Flatten, BreakOrFlat, Group, Union, PartialUnion, Chosen}
use Rattle.prettyless_model.specs.Column.{saturating_add, commit, padding_fits}
use Rattle.prettyless_model.specs.Look.{Look, Answers, GoesOn, by_mode, look, look_end, look_then}
use Rattle.prettyless_model.specs.declared.column.Column.{Column}
use Rattle.prettyless_model.specs.declared.mode.Mode.{Mode}
use Rattle.prettyless_model.specs.declared.mode.Mode.TheVariants.{Break, Flat}
use Rattle.prettyless_summary.specs.declared.summary.Summary.{Summary}
use Rattle.prettyless_summary.specs.declared.summary.End.{End}
use Rattle.prettyless_summary.specs.declared.summary.End.TheVariants.{Open, No, PaddingFits, Yes}
use Rattle.prettyless_summary.specs.declared.summary.Weak.{Weak}
use Rattle.prettyless_summary.specs.declared.summary.Weak.TheVariants as first
use Rattle.prettyless_summary.specs.declared.summary.ReadResult.{ReadResult}
use Rattle.prettyless_summary.specs.declared.summary.ReadResult.TheVariants.{Answer, Line}

-- so many weak spaces: nothing where the line is fresh
abbrev pub after_spaces : ℕ → Column → Column
after_spaces n c = if c.fresh || (n == 0) then c else record c { padding = saturating_add c.padding n }

-- the mode of the weak line that comes first, if there is one
abbrev pub mode_of : Weak → Option Mode
mode_of first.Never = None
mode_of first.Flat = Some Flat
mode_of first.Break = Some Break

-- a weak line, or nothing where there is none
abbrev pub look_weak : ℕ → Option Mode → Column → Bool → Look
look_weak width None c p = GoesOn c p
look_weak width (Some m) c p = if c.fresh && not p then GoesOn c p else look_end width m c p

-- ink of so many columns that ends within the width, with weak spaces after it; or nothing where there is none
abbrev pub look_ink : ℕ → Bool → ℕ → ℕ → Column → Bool → Look
look_ink width false inner trail c p = GoesOn c p
look_ink width true inner trail c p =
    if nat_le (commit inner c).position width then GoesOn (after_spaces trail (commit inner c)) p else Answers false

-- what ends a reading or decides it
abbrev pub look_out : ℕ → End → Column → Bool → Look
look_out width Open c p = GoesOn c p
look_out width No c p = Answers false
look_out width PaddingFits c p = Answers (padding_fits width p c)
look_out width Yes c p = Answers true

-- what a summary has after its weak line: ink, a line suffix, the end
abbrev pub look_rest : ℕ → Summary → Column → Bool → Look
look_rest width s c p =
    look_then (look_ink width s.has_ink s.inner s.trail c p) (λ e q. look_out width s.end e (s.has_suffix || q))

-- The result of reading a line by a summary: weak spaces, then a weak line, then the rest.
abbrev pub look_by : ℕ → Summary → Column → Bool → Look
look_by width s c p = look_then (look_weak width (mode_of s.weak) (after_spaces s.lead c) p) (look_rest width s)

-- reading a line by a summary has the result of a look
abbrev pub ReadsLook : Summary → (ℕ → Column → Bool → Look) → Type 0
ReadsLook s f = (width : ℕ) (c : Column) (p : Bool) → look_by width s c p ≡ f width c p

-- the summary of a document in a mode: it shows a probe the same, whatever the indent
abbrev pub Summarizes : Summary → Tree → Mode → Type 0
Summarizes s d m = (i : ℕ) → ReadsLook s (λ width c p. look width d i m c p)

-- one summary and then a look
abbrev pub ContinuesLook : Summary → (ℕ → Column → Bool → Look) → Summary → Type 0
ContinuesLook s f r = ReadsLook r (λ width c p. look_then (look_by width s c p) (f width))

-- one summary and then another
abbrev pub ThenReads : Summary → Summary → Summary → Type 0
ThenReads s t r = ContinuesLook s (λ width. look_by width t) r

-- it counts at most so many weak spaces apart from those between ink
abbrev pub IsSmall : ℕ → Summary → Type 0
IsSmall n s = s.lead + s.trail ≤ n

-- what is reached, as a look
abbrev pub look_of : ReadResult → Look
look_of (Answer b) = Answers b
look_of (Line c p) = GoesOn c p

-- a document all of whose nodes have summaries: no choice by column or nesting
abbrev pub HasSummaries : Tree → Type 0
HasSummaries (Append l r) = HasSummaries l × HasSummaries r
HasSummaries (LineSuffix d) = HasSummaries d
HasSummaries (Indented how d) = HasSummaries d
HasSummaries (Flatten d) = HasSummaries d
HasSummaries (BreakOrFlat b f) = HasSummaries b × HasSummaries f
HasSummaries (Group d) = HasSummaries d
HasSummaries (Union l r) = HasSummaries l × HasSummaries r
HasSummaries (PartialUnion l r) = HasSummaries l × HasSummaries r
HasSummaries (Chosen test y n) = ⊥
HasSummaries _ = ⊤

-- Whether a document has a summary in a mode: no choice by column or nesting stands in what is read of it in that mode.
abbrev pub has_summary : Tree → Mode → Bool
has_summary (Append l r) m = has_summary l m && has_summary r m
has_summary (Indented how d) m = has_summary d m
has_summary (Flatten d) m = has_summary d Flat
has_summary (BreakOrFlat b f) m = by_mode m (has_summary b m) (has_summary f m)
has_summary (Group d) m = has_summary d m
has_summary (Union l r) m = by_mode m (has_summary r m) (has_summary l m)
has_summary (PartialUnion l r) m = by_mode m (has_summary r m) (has_summary l m)
has_summary (Chosen test y n) m = false
has_summary _ m = true
