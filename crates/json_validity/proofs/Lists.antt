-- One turn of a list that is open.
use Rattle.std.proofs.Common.{◌≡◌, ℕ, ◌-◌, ◌<◌, List, length, Option, Some, None, option_and_then, refl, ap, ◌∙◌, arith}
use Rattle.json.specs.Token.{Token}
use Rattle.json.specs.Json.{after_end_array, read_key, value, skip_value}
use Rattle.json.specs.Reads.{skip_items, skip_members}
use Rattle.json.proofs.Grammar.{left, left_none, skip_item, skip_member, items_end, items_fail}
use Rattle.json.proofs.Grammar.{members_end, members_fail, members_no_key, read_key-shorter, skip_value-shorter}
use Rattle.json_validity.proofs.Fuel.{enough_for_items, enough_for_members}

some_tokens : (d : ℕ) (ts r : List Token) → skip_value d ts ≡ Some r → length r < length ts
some_tokens d ts r e = skip_value-shorter d ts r e

-- no bracket comes: a value does, and then the list goes on
pub item_next : (d : ℕ) (ts : List Token) → after_end_array ts ≡ None → skip_items d ts ≡ option_and_then (skip_items d) (skip_value d ts)
item_next d ts going = by (skip_value d ts) refl
  where
    by : (o : Option (List Token)) → skip_value d ts ≡ o → skip_items d ts ≡ option_and_then (skip_items d) o
    by None e = ap left (items_fail (value d) (length ts) ts going (left_none (value d ts) e))
    by (Some r) e =
        let less = some_tokens d ts r e in
        skip_item (value d) (length ts) ts r (omega arith) going e
        ∙ ap left (enough_for_items (value d) (skip_value-shorter d) (length ts - 1) (length r) r (omega arith) (omega arith))

pub items_closed : (d : ℕ) (ts r : List Token) → after_end_array ts ≡ Some r → skip_items d ts ≡ Some r
items_closed d ts r e = ap left (items_end (value d) (length ts) ts r (omega arith) e)

-- a key comes: a value does, and then the object goes on
pub member_next : (d : ℕ) (ts s : List Token) (k : List ℕ) → read_key ts ≡ Some (Some k, s)
    → skip_members d ts ≡ option_and_then (skip_members d) (skip_value d s)
member_next d ts s k key = by (skip_value d s) refl
  where
    by : (o : Option (List Token)) → skip_value d s ≡ o → skip_members d ts ≡ option_and_then (skip_members d) o
    by None e = ap left (members_fail (value d) (length ts) k ts s key (left_none (value d s) e))
    by (Some r) e =
        let less = some_tokens d s r e in
        let lesser = read_key-shorter ts (Some k) s key in
        skip_member (value d) (length ts) ts s r k (omega arith) key e
        ∙ ap left (enough_for_members (value d) (skip_value-shorter d) (length ts - 1) (length r) r (omega arith) (omega arith))

pub members_closed : (d : ℕ) (ts r : List Token) → read_key ts ≡ Some (None, r) → skip_members d ts ≡ Some r
members_closed d ts r e = ap left (members_end (value d) (length ts) ts r (omega arith) e)

pub members_stopped : (d : ℕ) (ts : List Token) → read_key ts ≡ None → skip_members d ts ≡ None
members_stopped d ts e = ap left (members_no_key (value d) (length ts) ts e)
