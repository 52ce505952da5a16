-- Machines that read lexemes and count how many lists are open: what they make of a value, and of the rest of a list.
use Rattle.std.proofs.Common.{◌≡◌, refl, ◌∙◌, ap, ℕ, suc, ◌+◌, ◌≤◌, max, true, false, List, [], ◌∷◌, ◌++◌, append_assoc, arith}
use Rattle.json_formatter.specs.Documents.{closes, opens}
use Rattle.json_formatter.specs.Values.{PiecedValue as Value, alone, array, object, PiecedItems as Items, no_items, item}
use Rattle.json_formatter.specs.Values.{PiecedMembers as Members, no_members, member}
use Rattle.json_formatter.specs.Values.{bracket, pieced as spelled, pieced_items as spelled_items, more_pieced_items as more_items}
use Rattle.json_formatter.specs.Values.{pieced_members as spelled_members, more_pieced_members as more_members}
use Rattle.json_formatter.specs.Values.{pieced_depth as depth, pieced_items_depth as items_depth, pieced_members_depth as members_depth}
use Rattle.json_formatter.specs.Values.{IsFormedPieced as IsFormed, AreFormedPiecedItems as AreFormedItems}
use Rattle.json_formatter.specs.Values.{AreFormedPiecedMembers as AreFormedMembers}
use Rattle.json_formatter.proofs.GapsWords.{IsWord, key_word, word_formed}

-- ---- steps

-- one step after the other
unfoldable pub steps : {A : Type 0} → (List ℕ → A → A) → List (List ℕ) → A → A
steps step [] a = a
steps step (s ∷ ss) a = step s (steps step ss a)

none_stepped : {A : Type 0} (step : List ℕ → A → A) (a : A) → a ≡ steps step [] a
unfolding steps
none_stepped step a = refl

one_stepped : {A : Type 0} (step : List ℕ → A → A) (s : List ℕ) (ss : List (List ℕ)) (a : A)
    → step s (steps step ss a) ≡ steps step (s ∷ ss) a
unfolding steps
one_stepped step s ss a = refl

pub both_stepped : {A : Type 0} (step : List ℕ → A → A) (xs ys : List (List ℕ)) (a : A)
    → steps step xs (steps step ys a) ≡ steps step (xs ++ ys) a
unfolding steps
both_stepped step [] ys a = refl
both_stepped step (x ∷ xs) ys a = ap (step x) (both_stepped step xs ys a)

-- ---- machines

-- What is made of lexemes where so many lists are open, and what is made of those after what closes the innermost one. No more lists
-- than `limit` are counted.
pub record Walks (A : Type 0) (limit : ℕ) (step : List ℕ → A → A) (make finish : ℕ → List (List ℕ) → A) : Type 0 where
  pub opened : (n : ℕ) (s : List ℕ) (ss : List (List ℕ)) → 1 ≤ n → n + 1 ≤ limit → opens s ≡ true
      → make n (s ∷ ss) ≡ step s (make (n + 1) ss)
  pub passed : (n : ℕ) (s : List ℕ) (ss : List (List ℕ)) → 1 ≤ n → opens s ≡ false → closes s ≡ false
      → make n (s ∷ ss) ≡ step s (make n ss)
  pub closed : (n : ℕ) (s : List ℕ) (ss : List (List ℕ)) → 1 ≤ n → opens s ≡ false → closes s ≡ true
      → make n (s ∷ ss) ≡ step s (finish n ss)
  pub left : (n : ℕ) (ss : List (List ℕ)) → 1 ≤ n → finish (n + 1) ss ≡ make n ss

-- a list is open, and so many more may be opened in it
pub record HasRoom (limit n more : ℕ) : Type 0 where
  pub some : 1 ≤ n
  pub within : n + more ≤ limit

first_room : {limit n : ℕ} (a b : ℕ) → HasRoom limit n (max a b) → HasRoom limit n a
first_room {limit = limit} {n = n} a b r = record { some = r.some; within = less r.within }
  where
    less : n + max a b ≤ limit → n + a ≤ limit
    less h = omega (arith, h)

later_room : {limit n : ℕ} (a b : ℕ) → HasRoom limit n (max a b) → HasRoom limit n b
later_room {limit = limit} {n = n} a b r = record { some = r.some; within = less r.within }
  where
    less : n + max a b ≤ limit → n + b ≤ limit
    less h = omega (arith, h)

inner_room : {limit n : ℕ} (a : ℕ) → HasRoom limit n (suc a) → HasRoom limit (n + 1) a
inner_room {limit = limit} {n = n} a r = record { some = omega arith; within = less r.within }
  where
    less : n + suc a ≤ limit → (n + 1) + a ≤ limit
    less h = omega (arith, h)

one_more : (limit n a : ℕ) → n + suc a ≤ limit → n + 1 ≤ limit
one_more limit n a h = omega (arith, h)

module _ (A : Type 0) (limit : ℕ) (step : List ℕ → A → A) (make finish : ℕ → List (List ℕ) → A) where
  -- where so many lists are open, these lexemes are passed, a step for each, and then so much is left to make
  abbrev pub Passes : ℕ → List (List ℕ) → List (List ℕ) → A → Type 0
  Passes n xs ss left = make n (xs ++ ss) ≡ steps step xs left

  -- a part, and then another one
  both_pass : (n : ℕ) (xs ys ss : List (List ℕ)) (left : A)
      → Passes n xs (ys ++ ss) (make n (ys ++ ss)) → Passes n ys ss left → Passes n (xs ++ ys) ss left
  both_pass n xs ys ss left h k =
      ap (make n) (append_assoc xs ys ss) ∙ h ∙ ap (steps step xs) k ∙ both_stepped step xs ys left

  module _ (w : Walks A limit step make finish) where
    -- a lexeme that neither opens nor closes a list, and then others
    then_pass : {n : ℕ} (s : List ℕ) (xs ss : List (List ℕ)) (left : A) → 1 ≤ n → opens s ≡ false → closes s ≡ false
        → Passes n xs ss left → Passes n (s ∷ xs) ss left
    then_pass {n = n} s xs ss left l o c h = w.passed n s (xs ++ ss) l o c ∙ ap (step s) h ∙ one_stepped step s xs left

    -- what closes the list
    close_passes : {n : ℕ} (s : List ℕ) (ss : List (List ℕ)) → 1 ≤ n → opens s ≡ false → closes s ≡ true
        → Passes n (s ∷ []) ss (finish n ss)
    close_passes {n = n} s ss l o c =
        w.closed n s ss l o c ∙ ap (step s) (none_stepped step (finish n ss)) ∙ one_stepped step s [] (finish n ss)

    -- a list
    list_passes : {n more : ℕ} (s : List ℕ) (xs ss : List (List ℕ)) → HasRoom limit n (suc more) → opens s ≡ true
        → Passes (n + 1) xs ss (finish (n + 1) ss) → Passes n (s ∷ xs) ss (make n ss)
    list_passes {n = n} {more = more} s xs ss r o h =
        w.opened n s (xs ++ ss) r.some (one_more limit n more r.within) o
        ∙ ap (step s) (h ∙ ap (steps step xs) (w.left n ss r.some))
        ∙ one_stepped step s xs (make n ss)

    -- a key, its colon, and what comes after them
    key_passes : {n : ℕ} (k : List ℕ) (xs ss : List (List ℕ)) (left : A) → 1 ≤ n → IsWord k
        → Passes n xs ss left → Passes n (k ∷ (58 ∷ []) ∷ xs) ss left
    key_passes k xs ss left l key h =
        then_pass k ((58 ∷ []) ∷ xs) ss left l key.opens key.closes (then_pass (58 ∷ []) xs ss left l refl refl h)

    mutual
      value_passes : {n : ℕ} (v : Value) → IsFormed v → HasRoom limit n (depth v) → (ss : List (List ℕ))
          → Passes n (spelled v) ss (make n ss)
      value_passes {n = n} (alone s) h r ss =
          let word = word_formed s h in
          then_pass s [] ss (make n ss) r.some word.opens word.closes (none_stepped step (make n ss))
      value_passes {n = n} (array keeps vs) h r ss =
          list_passes (bracket 91 keeps) (spelled_items vs) ss r refl (items_pass {n = n + 1} vs h (inner_room (items_depth vs) r) ss)
      value_passes {n = n} (object keeps ms) h r ss =
          list_passes (bracket 123 keeps) (spelled_members ms) ss r refl
          (members_pass {n = n + 1} ms h (inner_room (members_depth ms) r) ss)

      pub items_pass : {n : ℕ} (vs : Items) → AreFormedItems vs → HasRoom limit n (items_depth vs) → (ss : List (List ℕ))
          → Passes n (spelled_items vs) ss (finish n ss)
      items_pass no_items h r ss = close_passes (93 ∷ []) ss r.some refl refl
      items_pass {n = n} (item v vs) h r ss =
          both_pass n (spelled v) (more_items vs) ss (finish n ss)
          (value_passes v h.0 (first_room (depth v) (items_depth vs) r) (more_items vs ++ ss))
          (more_items_pass vs h.1 (later_room (depth v) (items_depth vs) r) ss)

      more_items_pass : {n : ℕ} (vs : Items) → AreFormedItems vs → HasRoom limit n (items_depth vs) → (ss : List (List ℕ))
          → Passes n (more_items vs) ss (finish n ss)
      more_items_pass no_items h r ss = close_passes (93 ∷ []) ss r.some refl refl
      more_items_pass {n = n} (item v vs) h r ss =
          then_pass (44 ∷ []) (spelled v ++ more_items vs) ss (finish n ss) r.some refl refl
          (both_pass n (spelled v) (more_items vs) ss (finish n ss)
          (value_passes v h.0 (first_room (depth v) (items_depth vs) r) (more_items vs ++ ss))
          (more_items_pass vs h.1 (later_room (depth v) (items_depth vs) r) ss))

      pub members_pass : {n : ℕ} (ms : Members) → AreFormedMembers ms → HasRoom limit n (members_depth ms) → (ss : List (List ℕ))
          → Passes n (spelled_members ms) ss (finish n ss)
      members_pass no_members h r ss = close_passes (125 ∷ []) ss r.some refl refl
      members_pass {n = n} (member k v ms) h r ss =
          key_passes k (spelled v ++ more_members ms) ss (finish n ss) r.some (key_word k h.0)
          (both_pass n (spelled v) (more_members ms) ss (finish n ss)
          (value_passes v h.1 (first_room (depth v) (members_depth ms) r) (more_members ms ++ ss))
          (more_members_pass ms h.2 (later_room (depth v) (members_depth ms) r) ss))

      more_members_pass : {n : ℕ} (ms : Members) → AreFormedMembers ms → HasRoom limit n (members_depth ms) → (ss : List (List ℕ))
          → Passes n (more_members ms) ss (finish n ss)
      more_members_pass no_members h r ss = close_passes (125 ∷ []) ss r.some refl refl
      more_members_pass {n = n} (member k v ms) h r ss =
          then_pass (44 ∷ []) (k ∷ (58 ∷ []) ∷ (spelled v ++ more_members ms)) ss (finish n ss) r.some refl refl
          (key_passes k (spelled v ++ more_members ms) ss (finish n ss) r.some (key_word k h.0)
          (both_pass n (spelled v) (more_members ms) ss (finish n ss)
          (value_passes v h.1 (first_room (depth v) (members_depth ms) r) (more_members ms ++ ss))
          (more_members_pass ms h.2 (later_room (depth v) (members_depth ms) r) ss)))
