-- What a clone of a text is.
use Rattle.std.specs.Prelude.{◌≡◌}
use Rattle.std.specs.Cow.{cow_str_bytes, IsOwnedStr}
use Rattle.std.specs.declared.borrow.CowStr.{CowStr}

-- a copy has the same bytes, and memory of its own only if the text has
abbrev pub IsTextClone : {Z : Type 0} → CowStr Z → CowStr Z → Type 0
IsTextClone text copy = (cow_str_bytes copy ≡ cow_str_bytes text) × (IsOwnedStr copy → IsOwnedStr text)
