-- What is read of a list is the same with any number of turns, once there are as many as tokens.
use Rattle.std.proofs.Common.{◌≡◌, ℕ, zero, suc, ◌<◌, ◌≤◌, List, [], ◌∷◌, length, Option, Some, None, option_and_then, refl, sym, ap, arith}
use Rattle.json.specs.Token.{Token}
use Rattle.json.specs.Json.{Json, Items, item, Members, member, Parse, parse_map}
use Rattle.json.specs.Json.{after_end_array, read_key, items_step, members_step, items, members}
use Rattle.json.proofs.Grammar.{left, Takes, read_key-shorter}

-- two readers give the same for fewer tokens than these
abbrev AgreeBelow : {A : Type 0} → Parse A → Parse A → List Token → Type 0
AgreeBelow a b ts = (s : List Token) → length s < length ts → a s ≡ b s

-- a value that takes a token at least, and then what is read by either
after_value : {B : Type 0} (join : Json → B → B) (a b : Parse B) (ts : List Token) → AgreeBelow a b ts → (o : Option (Json × List Token))
    → ((r : List Token) → left o ≡ Some r → length r < length ts)
    → option_and_then (λ q. parse_map (join q.0) (a q.1)) o ≡ option_and_then (λ q. parse_map (join q.0) (b q.1)) o
after_value join a b ts agree None takes = refl
after_value join a b ts agree (Some q) takes = ap (parse_map (join q.0)) (agree q.1 (takes q.1 refl))

module _ (p : Parse Json) (takes : Takes p) where
  -- no value begins where no token is left
  nothing : (o : Option (Json × List Token)) → p [] ≡ o → o ≡ None
  nothing None e = refl
  nothing (Some q) e = let never : length q.1 < length {A = Token} [] = takes [] q.1 (ap left e) in absurd (omega arith)

  items_of_none : (n : ℕ) → items p n [] ≡ None
  unfolding items
  items_of_none zero = refl
  items_of_none (suc n) = ap (option_and_then (λ q. parse_map (item q.0) (items p n q.1))) (nothing (p []) refl)

  item_turn : (a b : Parse Items) (ts : List Token) → AgreeBelow a b ts → (o : Option (List Token))
      → items_step p a ts o ≡ items_step p b ts o
  item_turn a b ts agree (Some r) = refl
  item_turn a b ts agree None = after_value item a b ts agree (p ts) (takes ts)

  pub enough_for_items : (n m : ℕ) (ts : List Token) → length ts ≤ n → length ts ≤ m → items p n ts ≡ items p m ts
  unfolding items
  enough_for_items zero m [] a b = sym (items_of_none m)
  enough_for_items zero m (t ∷ ts) a b = absurd (omega arith)
  enough_for_items (suc n) zero [] a b = items_of_none (suc n)
  enough_for_items (suc n) zero (t ∷ ts) a b = absurd (omega arith)
  enough_for_items (suc n) (suc m) ts a b =
      item_turn (items p n) (items p m) ts (λ s l. enough_for_items n m s (omega arith) (omega arith)) (after_end_array ts)

  member_turn : (a b : Parse Members) (ts : List Token) → AgreeBelow a b ts → (o : Option (Option (List ℕ) × List Token))
      → read_key ts ≡ o → option_and_then (λ q. members_step p a q.0 q.1) o ≡ option_and_then (λ q. members_step p b q.0 q.1) o
  member_turn a b ts agree None e = refl
  member_turn a b ts agree (Some (None, s)) e = refl
  member_turn a b ts agree (Some (Some k, s)) e =
      let less = read_key-shorter ts (Some k) s e in
      after_value (member k) a b ts agree (p s) (λ r is. omega (arith, takes s r is))

  pub enough_for_members : (n m : ℕ) (ts : List Token) → length ts ≤ n → length ts ≤ m → members p n ts ≡ members p m ts
  unfolding members
  enough_for_members zero zero ts a b = refl
  enough_for_members zero (suc m) [] a b = refl
  enough_for_members zero (suc m) (t ∷ ts) a b = absurd (omega arith)
  enough_for_members (suc n) zero [] a b = refl
  enough_for_members (suc n) zero (t ∷ ts) a b = absurd (omega arith)
  enough_for_members (suc n) (suc m) ts a b =
      member_turn (members p n) (members p m) ts (λ s l. enough_for_members n m s (omega arith) (omega arith)) (read_key ts) refl
