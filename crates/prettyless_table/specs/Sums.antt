-- What a table knows of a document: its summaries, and how cells keep them.
use Rattle.std.specs.Prelude.{◌≡◌, refl, ℕ, ◌-◌, ◌^◌, ◌<◌, ◌≤◌, Bool, true, false}
use Rattle.std.specs.Coded.{le_prop}
use Rattle.std.proofs.Math.Nat.{ℕ_set}
use ghost.Sets.{retract_set}
use mathlib.Core.Bool.{Bool-set}
use Rattle.prettyless_model.specs.Tree.{Tree}
use Rattle.prettyless_model.specs.Look.{Look, Answers, GoesOn}
use Rattle.prettyless_model.specs.declared.column.Column.{Column}
use Rattle.prettyless_model.specs.Column.{start}
use Rattle.prettyless_model.specs.declared.mode.Mode.{Mode}
use Rattle.prettyless_model.specs.declared.mode.Mode.TheVariants.{Break, Flat}
use Rattle.prettyless_summary.specs.Known.{FoundIf, KnownHolds, IsKnown}
use Rattle.prettyless_summary.specs.declared.known.Known.{Known}
use Rattle.prettyless_summary.specs.declared.known.Known.TheVariants.{Whole, Begins}
use Rattle.prettyless_summary.specs.Marks.{marks_of}
use Rattle.prettyless_summary.specs.declared.summary.Summary.{Summary}
use Rattle.prettyless_table.specs.declared.sums.Counts.{Counts}
use Rattle.prettyless_table.specs.declared.sums.Sums.{Sums}

-- what is known of a document in both modes
pub record AreDocumentSums (s : Sums) (d : Tree) : Type 0 where
  pub flat : IsKnown s.flat d Flat
  pub broken : IsKnown s.broken d Break

-- the numbers of what is known fit 32 bits
abbrev pub IsNarrow : Known → Type 0
IsNarrow (Whole s) = s.inner < 2 ^ 32
IsNarrow (Begins s) = s.inner < 2 ^ 32

-- the only summary that has these marks and numbers
abbrev pub IsOnly : ℕ → Counts → Summary → Type 0
IsOnly marks counts s =
    (t : Summary) → counts.lead ≡ t.lead → counts.inner ≡ t.inner → counts.trail ≡ t.trail → marks ≡ marks_of t → s ≡ t

-- this is what marks and numbers say
abbrev pub IsUnpacked : ℕ → Counts → Known → Type 0
IsUnpacked marks counts (Whole s) = (marks < 64) × IsOnly marks counts s
IsUnpacked marks counts (Begins s) = (64 ≤ marks) × IsOnly (marks - 64) counts s

-- what marks and numbers say is known of a document in a mode
abbrev pub Keeps : ℕ → Counts → Tree → Mode → Type 0
Keeps marks counts d m = (k : Known) → IsUnpacked marks counts k → IsKnown k d m

-- a look as numbers, so that an equation of looks has one proof
abbrev pub look_code : Look → Bool × (Bool × Column)
look_code (Answers b) = (true, (b, start))
look_code (GoesOn c p) = (false, (p, c))

abbrev pub look_back : Bool × (Bool × Column) → Look
look_back (true, (b, c)) = Answers b
look_back (false, (p, c)) = GoesOn c p

look_same : (x : Look) → look_back (look_code x) ≡ x
look_same (Answers b) = refl
look_same (GoesOn c p) = refl

Look-set : IsSet Look
Look-set = retract_set look_code look_back look_same (hlevel (ℕ_set, Bool-set))

KnownHolds-prop : (k : Known) (d : Tree) (m : Mode) → IsProp (KnownHolds k d m)
KnownHolds-prop (Whole s) d m = hlevel Look-set
KnownHolds-prop (Begins s) d m = hlevel Look-set

FoundIf-prop : (b : Bool) (k : Known) (d : Tree) (m : Mode) → IsProp (FoundIf b k d m)
FoundIf-prop true (Whole s) d m = hlevel le_prop
FoundIf-prop false (Begins s) d m = hlevel (Look-set, le_prop)
FoundIf-prop true (Begins s) d m = hlevel
FoundIf-prop false (Whole s) d m = hlevel

IsKnown-prop : (k : Known) (d : Tree) (m : Mode) → IsProp (IsKnown k d m)
IsKnown-prop k d m = hlevel (KnownHolds-prop k d m, FoundIf-prop)

pub Keeps-prop : (marks : ℕ) (counts : Counts) (d : Tree) (m : Mode) → IsProp (Keeps marks counts d m)
Keeps-prop marks counts d m = hlevel (λ (k : Known). IsKnown-prop k d m)

pub DocumentSums-prop : (s : Sums) (d : Tree) → IsProp (AreDocumentSums s d)
DocumentSums-prop s d = hlevel (λ (k : Known) (m : Mode). IsKnown-prop k d m)
