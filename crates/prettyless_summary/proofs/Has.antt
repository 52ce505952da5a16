-- Which documents have summaries.
use Rattle.std.proofs.Common.{◌≡◌, ◌&&◌, Bool, true, false, refl}
use Rattle.prettyless_model.specs.Tree as t
use Rattle.prettyless_model.specs.Tree.{Tree, size}
use Rattle.prettyless_model.specs.declared.mode.Mode.{Mode}
use Rattle.prettyless_model.specs.declared.mode.Mode.TheVariants.{Break, Flat}
use Rattle.prettyless_summary.specs.Summary.{HasSummaries, IsSmall, Summarizes, has_summary}
use Rattle.prettyless_summary.specs.Known.{FoundIf, before_choice}
use Rattle.prettyless_summary.specs.declared.known.Known.TheVariants.{Whole, Begins}
use Rattle.prettyless_summary.specs.declared.summary.Summary.{Summary}

both : (a b : Bool) → a ≡ true → b ≡ true → (a && b) ≡ true
both a b h k = rw (h, k) refl

-- a document all of whose nodes have summaries has one in each mode
pub has_one : (d : Tree) (m : Mode) → HasSummaries d → has_summary d m ≡ true
has_one (t.Append l r) m h = both (has_summary l m) (has_summary r m) (has_one l m h.0) (has_one r m h.1)
has_one (t.LineSuffix d) m h = refl
has_one (t.Indented how d) m h = has_one d m h
has_one (t.Flatten d) m h = has_one d Flat h
has_one (t.BreakOrFlat b f) Break h = has_one b Break h.0
has_one (t.BreakOrFlat b f) Flat h = has_one f Flat h.1
has_one (t.Group d) m h = has_one d m h
has_one (t.Union l r) Break h = has_one r Break h.1
has_one (t.Union l r) Flat h = has_one l Flat h.0
has_one (t.PartialUnion l r) Break h = has_one r Break h.1
has_one (t.PartialUnion l r) Flat h = has_one l Flat h.0
has_one (t.Chosen test y n) m h = absurd h
has_one t.Nil m h = refl
has_one t.Fail m h = refl
has_one (t.Text s) m h = refl
has_one (t.TextWithLen w s) m h = refl
has_one (t.MultilineText s) m h = refl
has_one t.WeakSpace m h = refl
has_one t.HardLine m h = refl
has_one t.WeakLine m h = refl
has_one t.ExpandParent m h = refl

-- what is found of a document that has a summary, and of one that has none
pub found_whole : (b : Bool) (s : Summary) (d : Tree) (m : Mode) → FoundIf b (Whole s) d m → (b ≡ true) × IsSmall (size d) s
found_whole true s d m h = (refl, h)
found_whole false s d m h = absurd h

pub found_begins : (b : Bool) (s : Summary) (d : Tree) (m : Mode) → FoundIf b (Begins s) d m → b ≡ false
found_begins true s d m h = absurd h
found_begins false s d m h = refl

pub found_before : (b : Bool) (s : Summary) (d : Tree) (m : Mode) → FoundIf b (Begins s) d m → Summarizes s (before_choice d m) m
found_before true s d m h = absurd h
found_before false s d m h = h.0
