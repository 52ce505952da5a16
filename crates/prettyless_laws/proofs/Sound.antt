-- Columns as a layout reaches them: on a fresh line no weak space waits, and after content no indent. So nothing that waits
-- is cut off at the greatest `usize`.
use Rattle.std.proofs.Common.{◌≡◌, ℕ, ◌+◌, ◌-◌, ◌^◌, ◌≤◌, ℤ, pos, negsuc, List, [], ◌∷◌, ◌++◌, refl, ap, ◌∙◌, sym, arith, add-zero}
use Rattle.std.proofs.Common.{zero-add, le_trans, sub-le, Bool, true, false, if◌then◌else◌}
use Rattle.std.proofs.Math.Nat.{min-le_right, min-eq_left}
use Rattle.std.proofs.lemmas.List.{replicate-append-replicate}
use Rattle.prettyless_model.specs.Spaces.{spaces}
use Rattle.prettyless_model.specs.Tree.{Tree}
use Rattle.prettyless_model.specs.Column.{start, saturating_add, gap, commit, blank, nested}
use Rattle.prettyless_model.specs.Indent.{indent_by}
use Rattle.prettyless_model.specs.declared.kind.Indenting.{Indenting}
use Rattle.prettyless_model.specs.declared.kind.Indenting.TheVariants.{Nest, Align}
use Rattle.prettyless_model.specs.Layout.{Entry, after_payload, next_indent, entries}
use Rattle.prettyless_model.specs.declared.column.Column.{Column}
use Rattle.prettyless_model.specs.declared.metrics.Metrics.{Metrics}

-- no more than the greatest `usize`
abbrev pub InRange : ℕ → Type 0
InRange n = n ≤ 2 ^ 64 - 1

abbrev pub SoundAt : Bool → ℕ → ℕ → Type 0
SoundAt true i g = InRange i × (g ≡ 0)
SoundAt false i g = (i ≡ 0) × InRange g

abbrev pub Sound : Column → Type 0
Sound c = SoundAt c.fresh c.indent c.padding

-- the indents of what follows
abbrev pub EntriesInRange : List Entry → Type 0
EntriesInRange [] = Unit {0}
EntriesInRange (e ∷ es) = InRange e.indent × EntriesInRange es

pub sum_in_range : (a b : ℕ) → InRange (saturating_add a b)
sum_in_range a b = min-le_right (a + b) (2 ^ 64 - 1)

pub zero_in_range : InRange 0
zero_in_range = omega arith

pub nested_in_range : (i : ℕ) (k : ℤ) → InRange i → InRange (nested i k)
nested_in_range i (pos k) h = sum_in_range i k
nested_in_range i (negsuc k) h = le_trans (sub-le i (k + 1)) h

-- so is the indent that a node sets
pub indent_in_range : (how : Indenting) (i : ℕ) (c : Column) → InRange i → InRange (indent_by how i c)
indent_in_range (Nest k) i c h = nested_in_range i k h
indent_in_range Align i c h = sum_in_range (saturating_add c.position c.indent) c.padding
indent_in_range _ i c h = zero_in_range

pub next_in_range : (i : ℕ) (rest : List Entry) → InRange i → EntriesInRange rest → InRange (next_indent i rest)
next_in_range i [] h r = h
next_in_range i (e ∷ es) h r = r.0

pub entries_in_range : (i : ℕ) (ds : List Tree) (rest : List Entry) → InRange i → EntriesInRange rest
    → EntriesInRange (entries i ds ++ rest)
entries_in_range i [] rest h r = r
entries_in_range i (d ∷ ds) rest h r = (h, entries_in_range i ds rest h r)

whole_gap : (f : Bool) (i g : ℕ) → SoundAt f i g → saturating_add i g ≡ i + g
whole_gap true i g h = rw h.1 (min-eq_left (rw add-zero h.0))
whole_gap false i g h = rw h.0 (min-eq_left (rw zero-add h.1))

-- a gap is the indent that is pending, and the weak spaces
pub gap_spaces : (c : Column) → Sound c → spaces (gap c) ≡ spaces c.indent ++ spaces c.padding
gap_spaces c h = ap spaces (whole_gap c.fresh c.indent c.padding h) ∙ sym (replicate-append-replicate {A = ℕ} c.indent c.padding 32)

pub commit_sound : (w : ℕ) (c : Column) → Sound (commit w c)
commit_sound w c = (refl, zero_in_range)

blank_fields : (p i g : ℕ) (f : Bool) → SoundAt f i g → Sound (blank (record { position = p; indent = i; padding = g; fresh = f }))
blank_fields p i g true h = h
blank_fields p i g false h = (h.0, sum_in_range g 1)

pub blank_sound : (c : Column) → Sound c → Sound (blank c)
blank_sound c h = blank_fields c.position c.indent c.padding c.fresh h

indent-fields : (p i g : ℕ) (f : Bool) → (blank (record { position = p; indent = i; padding = g; fresh = f })).indent ≡ i
indent-fields p i g true = refl
indent-fields p i g false = refl

pub blank_indent : (c : Column) → (blank c).indent ≡ c.indent
blank_indent c = indent-fields c.position c.indent c.padding c.fresh

either_sound : (b : Bool) (w : ℕ) → Sound (if b then commit w start else start)
either_sound true w = commit_sound w start
either_sound false w = (zero_in_range, refl)

pub after_sound : (m : Metrics) → Sound (after_payload m)
after_sound m = either_sound m.last_nonempty m.last_width

either_indent : (b : Bool) (w : ℕ) → 0 ≡ (if b then commit w start else start).indent
either_indent true w = refl
either_indent false w = refl

pub after_indent : (m : Metrics) → 0 ≡ (after_payload m).indent
after_indent m = either_indent m.last_nonempty m.last_width
