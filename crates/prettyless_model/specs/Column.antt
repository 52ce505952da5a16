-- Columns: where a printer is on its line.
use Rattle.std.specs.Prelude.{ℕ, ◌+◌, ◌-◌, ◌^◌, ℤ, pos, negsuc, Bool, true, false, ◌==◌, ◌||◌, not, nat_le, min, if◌then◌else◌}
use Rattle.prettyless_model.specs.declared.column.Column.{Column}

-- a sum that stops at the greatest `usize`
abbrev pub saturating_add : ℕ → ℕ → ℕ
saturating_add a b = min (a + b) (2 ^ 64 - 1)

-- an indent that a nesting changes, kept within 0 and the greatest `usize`
abbrev pub nested : ℕ → ℤ → ℕ
nested i (pos k) = saturating_add i k
nested i (negsuc k) = i - (k + 1)

-- the beginning of a document
abbrev pub start : Column
start = record { position = 0; indent = 0; padding = 0; fresh = true }

-- the beginning of a line whose indent is written
abbrev pub indented : ℕ → Column
indented k = record { position = k; indent = 0; padding = 0; fresh = true }

-- the beginning of a line whose indent is written with its first content
abbrev pub deferred : ℕ → Column
deferred k = record { position = 0; indent = k; padding = 0; fresh = true }

-- the spaces that are written before the next content
abbrev pub gap : Column → ℕ
gap c = saturating_add c.indent c.padding

-- where the next content would begin
abbrev pub prospective : Column → ℕ
prospective c = saturating_add (saturating_add c.position c.indent) c.padding

-- content of this counted width: the gap is written before it
abbrev pub commit : ℕ → Column → Column
commit w c = record { position = saturating_add (prospective c) w; indent = 0; padding = 0; fresh = false }

-- a weak space: nothing where the line is fresh
abbrev pub blank : Column → Column
blank c = if c.fresh then c else record c { padding = saturating_add c.padding 1 }

-- padding that a pending document would commit stays within the width
abbrev pub padding_fits : ℕ → Bool → Column → Bool
padding_fits width pending c = not pending || (c.padding == 0) || nat_le (prospective c) width
