-- The bytes of a `Text`, and where they are.
use Rattle.std.specs.Prelude.{ℕ, ◌<◌, ◌≤◌, Bool, true, false, List, length}
use Rattle.std.specs.Box.{boxed_str_bytes}
use Rattle.std.specs.declared.borrow.CowStr.{CowStr}
use Rattle.std.specs.declared.borrow.CowStr.TheVariants as cow
use Rattle.prettyless_text.specs.declared.text.Text.{Text}
use Rattle.prettyless_text.specs.declared.text.Text.TheVariants.{Owned, Borrowed, Small}

-- the bytes of a text, wherever they are
abbrev pub bytes_of_text : Text → List ℕ
bytes_of_text (Owned s) = boxed_str_bytes s.value
bytes_of_text (Borrowed s) = s.now
bytes_of_text (Small s) = s.bytes

-- the text has memory of its own
abbrev pub is_owned : Text → Bool
is_owned (Owned s) = true
is_owned (Borrowed s) = false
is_owned (Small s) = false

-- P, if the text has no memory of its own
abbrev pub IfUnowned : Text → Type 0 → Type 0
IfUnowned (Owned s) P = Unit {0}
IfUnowned (Borrowed s) P = P
IfUnowned (Small s) P = P

-- it is in the node itself if it has at most 22 bytes, and else has memory of its own
abbrev pub IsSmallIfItFits : Text → Type 0
IsSmallIfItFits (Owned s) = 22 < length (boxed_str_bytes s.value)
IsSmallIfItFits (Borrowed s) = ⊥
IsSmallIfItFits (Small s) = length s.bytes ≤ 22

-- a text is owned, and P
abbrev pub IsOwnedAnd : {Z : Type 0} → CowStr Z → Type 0 → Type 0
IsOwnedAnd (cow.Owned s) P = P
IsOwnedAnd (cow.Borrowed s) P = ⊥

-- P, if a text is borrowed
abbrev pub IfLent : {Z : Type 0} → CowStr Z → Type 0 → Type 0
IfLent (cow.Owned s) P = Unit {0}
IfLent (cow.Borrowed s) P = P
