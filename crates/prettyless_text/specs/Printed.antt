-- What a value printed.
use Rattle.std.specs.Prelude.{ℕ, List, [], Bool, IsTrue, nat_lt, nat_le, length, Result, Ok, Err}
use Rattle.std.specs.String.{string_bytes}
use Rattle.prettyless_text.specs.declared.display.Printed.{Printed}
use Rattle.prettyless_text.specs.declared.display.Printed.TheVariants.{Short, Long}

-- the bytes that were printed
abbrev pub printed_bytes : Printed → List ℕ
printed_bytes (Short s) = s.bytes
printed_bytes (Long s) = string_bytes s

-- the bytes so far, and none once memory was refused
abbrev pub bytes_so_far : {E : Type 0} → Result Printed E → List ℕ
bytes_so_far (Ok p) = printed_bytes p
bytes_so_far (Err e) = []

-- it is in place exactly where it has at most 22 bytes
abbrev pub fits_its_place : Printed → Bool
fits_its_place (Short s) = nat_le (length s.bytes) 22
fits_its_place (Long s) = nat_lt 22 (length (string_bytes s))

-- it is kept where a text of its length is
abbrev pub IsPrinted : Printed → Type 0
IsPrinted p = IsTrue (fits_its_place p)
