-- What is left of the tokens after a list that is open.
use Rattle.std.specs.Prelude.{◌≡◌, ℕ, suc, List, Option, Some, None, option_and_then}
use Rattle.json.specs.Token.{Token}
use Rattle.json.specs.Json.{skip_value}
use Rattle.json.specs.Reads.{skip_items, skip_members}
use Rattle.json_validity.specs.declared.bracket.Bracket.{Bracket}
use Rattle.json_validity.specs.declared.bracket.Bracket.TheVariants.{Array, Object}
use Rattle.json_validity.specs.declared.bracket.Next.{Next}
use Rattle.json_validity.specs.declared.bracket.Next.TheVariants as next
use Rattle.json_validity.specs.declared.value.Begun.{Begun}
use Rattle.json_validity.specs.declared.value.Begun.TheVariants as begun

-- after a list that is open: what is in it may nest so deep
abbrev pub after_list : Bracket → ℕ → List Token → Option (List Token)
after_list Array depth ts = skip_items depth ts
after_list Object depth ts = skip_members depth ts

-- what comes next in a list that is open, and the tokens after it
abbrev pub ComesNext : Bracket → List Token → Next → List Token → Type 0
ComesNext b old next.Member new = (depth : ℕ) → after_list b depth old ≡ option_and_then (after_list b depth) (skip_value depth new)
ComesNext b old next.End new = (depth : ℕ) → after_list b depth old ≡ Some new
ComesNext b old next.Nothing new = (depth : ℕ) → after_list b depth old ≡ None

-- what a value begins with, and the tokens after that
abbrev pub BeginsWith : List Token → Begun → List Token → Type 0
BeginsWith old begun.Leaf new = (depth : ℕ) → skip_value depth old ≡ Some new
BeginsWith old (begun.List b) new = (skip_value 0 old ≡ None) × ((depth : ℕ) → skip_value (suc depth) old ≡ after_list b depth new)
BeginsWith old begun.Nothing new = (depth : ℕ) → skip_value depth old ≡ None
