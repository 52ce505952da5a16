-- When a table is worth it.
use Rattle.std.specs.Prelude.{ℕ, ◌+◌, ◌*◌, ◌-◌, ◌^◌, min, max}
use Rattle.prettyless_sink.specs.declared.visits.Visits.{Visits}
use Rattle.prettyless_printer.specs.declared.shift_policy.ShiftPolicy.{ShiftPolicy}

-- a number that stays at the greatest of 64 bits
abbrev pub capped : ℕ → ℕ
capped n = min n (2 ^ 64 - 1)

-- Probes may visit so many times as many nodes as the printer before a table is worth it,
abbrev pub probe_factor : ℕ
probe_factor = 16

-- and so many more.
abbrev pub probe_grace : ℕ
probe_grace = 1000

-- how many nodes probes may visit in a render before a table is worth it: the factor times as many as the printer visited, and the grace,
-- or as many as the last table could have had, where it was not made
abbrev pub worth : ShiftPolicy → Visits → ℕ
worth g v = max (capped (capped ((v.printer - g.start.printer) * probe_factor) + probe_grace)) g.next_try

-- the count of probes past which a table is worth it
abbrev pub probe_limit : ShiftPolicy → Visits → ℕ
probe_limit g v = capped (g.start.probes + worth g v)
