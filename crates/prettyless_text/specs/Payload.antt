-- The source of a payload.
use Rattle.std.specs.Prelude.{ℕ, Bool, true, false, List}
use Rattle.prettyless_text.specs.Source.{source_bytes}
use Rattle.prettyless_text.specs.declared.multiline.MultilineSource.{MultilineSource}
use Rattle.prettyless_text.specs.declared.multiline.MultilineSource.TheVariants.{Owned, Borrowed}
use Rattle.prettyless_text.specs.declared.multiline.MultilineTextData.{MultilineTextData}

-- a source in memory of its own
abbrev is_owned_source : MultilineSource → Bool
is_owned_source (Owned c s) = true
is_owned_source (Borrowed c s) = false

-- P, if the source is borrowed
abbrev IfBorrowedSource : MultilineSource → Type 0 → Type 0
IfBorrowedSource (Owned c s) P = Unit {0}
IfBorrowedSource (Borrowed c s) P = P

-- the bytes of a payload
abbrev pub payload_bytes : MultilineTextData → List ℕ
payload_bytes p = source_bytes p.source

-- the payload has memory of its own
abbrev pub is_owned_payload : MultilineTextData → Bool
is_owned_payload p = is_owned_source p.source

-- P, if the payload has no memory of its own
abbrev pub IfBorrowed : MultilineTextData → Type 0 → Type 0
IfBorrowed p P = IfBorrowedSource p.source P
