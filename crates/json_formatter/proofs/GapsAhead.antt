-- What is read ahead where a list is opened: its columns, the comma after it, and whether its items may fill lines.
use Rattle.std.proofs.Common.{◌≡◌, refl, ◌∙◌, ap, ℕ, ◌+◌, ◌-◌, ◌≤◌, Bool, true, false, ◌&&◌, ◌||◌, nat_le, List, [], ◌∷◌, ◌++◌, Some, inl}
use Rattle.std.proofs.Common.{inr, ◌⊎◌, leb-true, arith}
use Rattle.std.specs.Prelude.{if◌then◌else◌}
use Rattle.std.proofs.lemmas.Bool.{cases_Bool}
use Rattle.std.proofs.Math.Bool.{or-false, or-true}
use Rattle.json_formatter.specs.declared.style.Fill.{Fill}
use Rattle.json_formatter.specs.declared.style.Style.{Style}
use Rattle.json_formatter.specs.ByValue.{items_fill}
use Rattle.json_formatter.specs.Values.{PiecedValue as Value, alone, array, object, PiecedItems as Items, no_items, item}
use Rattle.json_formatter.specs.Values.{PiecedMembers as Members}
use Rattle.json_formatter.specs.Values.{pieced as spelled, pieced_items as spelled_items, more_pieced_items as more_items}
use Rattle.json_formatter.specs.Values.{pieced_members as spelled_members}
use Rattle.json_formatter.specs.Values.{pieced_items_depth as items_depth, pieced_members_depth as members_depth}
use Rattle.json_formatter.specs.Values.{IsFormedPieced as IsFormed, AreFormedPiecedItems as AreFormedItems}
use Rattle.json_formatter.specs.Values.{AreFormedPiecedMembers as AreFormedMembers}
use Rattle.json_formatter.specs.Documents.{is_json_sign, may_fill, next_is}
use Rattle.json_formatter.specs.Flat.{width_to_close}
use Rattle.json_formatter.specs.Gaps.{all_fill, comma_after}
use Rattle.json_formatter.proofs.Closing.{all_items_width, all_width, items_width, members_width}
use Rattle.json_formatter.proofs.GapsPassed.{HasRoom, Walks, items_pass, members_pass, steps}
use Rattle.json_formatter.proofs.GapsWords.{word_formed}
use Rattle.json_formatter.proofs.ValueTrees.{array_fills, object_fills}

-- ---- how many lists are open

one_more_open : (n : ℕ) → 1 ≤ n → nat_le (n + 1) 1 ≡ false
one_more_open n l = by (cases_Bool (nat_le (n + 1) 1))
  where
    too_many : n + 1 ≤ 1 → ⊥
    too_many h = omega (arith, l, h)

    by : (nat_le (n + 1) 1 ≡ true) ⊎ (nat_le (n + 1) 1 ≡ false) → nat_le (n + 1) 1 ≡ false
    by (inl e) = absurd (too_many (leb-true (n + 1) 1 e))
    by (inr e) = e

pub one_less_open : (n : ℕ) → (n + 1) - 1 ≡ n
one_less_open n = omega arith

-- ---- the comma after what closes the list

abbrev same_comma : List ℕ → Bool → Bool
same_comma s comma = comma

abbrev comma_left : ℕ → List (List ℕ) → Bool
comma_left n ss = if nat_le n 1 then next_is (is_json_sign 44) ss else comma_after (n - 1) ss

comma_stays : (xs : List (List ℕ)) (b : Bool) → steps same_comma xs b ≡ b
unfolding steps
comma_stays [] b = refl
comma_stays (x ∷ xs) b = comma_stays xs b

comma_walk : (limit : ℕ) → Walks Bool limit same_comma comma_after comma_left
comma_walk limit =
    record {
      opened = λ n s ss l m o. rw o refl;
      passed = λ n s ss l o c. rw (o, c) refl;
      closed = λ n s ss l o c. rw (o, c) refl;
      left = λ n ss l. rw (one_more_open n l, one_less_open n) refl;
    }

first_list : (more : ℕ) → HasRoom (1 + more) 1 more
first_list more = record { some = omega arith; within = omega arith }

-- ---- the rest of a list, after the bracket that opens it

-- its columns, and the comma after it
pub record IsReadAhead (style : Style) (rest : List (List ℕ)) (columns : ℕ) : Type 0 where
  pub width : (ss : List (List ℕ)) → width_to_close style.compact 1 (rest ++ ss) ≡ Some columns
  pub comma : (ss : List (List ℕ)) → comma_after 1 (rest ++ ss) ≡ next_is (is_json_sign 44) ss

pub items_ahead : (style : Style) (vs : Items) → AreFormedItems vs → IsReadAhead style (spelled_items vs) (all_items_width style vs)
items_ahead style vs h =
    let limit = 1 + items_depth vs in
    record {
      width = items_width style vs h;
      comma = λ ss.
          items_pass Bool limit same_comma comma_after comma_left (comma_walk limit) vs h (first_list (items_depth vs)) ss
          ∙ comma_stays (spelled_items vs) (next_is (is_json_sign 44) ss);
    }

pub members_ahead : (style : Style) (ms : Members) → AreFormedMembers ms → IsReadAhead style (spelled_members ms) (all_width style ms)
members_ahead style ms h =
    let limit = 1 + members_depth ms in
    record {
      width = members_width style ms h;
      comma = λ ss.
          members_pass Bool limit same_comma comma_after comma_left (comma_walk limit) ms h (first_list (members_depth ms)) ss
          ∙ comma_stays (spelled_members ms) (next_is (is_json_sign 44) ss);
    }

-- ---- items that may fill lines

-- an item, and others after it
one_fills : (fill : Fill) (v : Value) (vs : Items) → IsFormed v → (ss : List (List ℕ))
    → all_fill fill (more_items vs ++ ss) ≡ items_fill fill vs
    → all_fill fill ((spelled v ++ more_items vs) ++ ss) ≡ items_fill fill (item v vs)
one_fills fill (alone s) vs h ss e =
    let word = word_formed s h in
    rw (word.closes, word.comma)
    (ap (λ (b : Bool). (may_fill fill s || false) && b) e ∙ ap (λ (b : Bool). b && items_fill fill vs) (or-false (may_fill fill s)))
one_fills fill (array keeps ws) vs h ss e = rw (array_fills keeps fill) refl
one_fills fill (object keeps ms) vs h ss e = rw (object_fills keeps fill) refl

-- a comma before them
comma_fills : (fill : Fill) (ss : List (List ℕ)) → all_fill fill ((44 ∷ []) ∷ ss) ≡ all_fill fill ss
comma_fills fill ss = ap (λ (b : Bool). b && all_fill fill ss) (or-true (may_fill fill (44 ∷ [])))

more_fill : (fill : Fill) (vs : Items) → AreFormedItems vs → (ss : List (List ℕ)) → all_fill fill (more_items vs ++ ss) ≡ items_fill fill vs
more_fill fill no_items h ss = refl
more_fill fill (item v vs) h ss =
    comma_fills fill ((spelled v ++ more_items vs) ++ ss) ∙ one_fills fill v vs h.0 ss (more_fill fill vs h.1 ss)

pub items_all_fill : (fill : Fill) (vs : Items) → AreFormedItems vs → (ss : List (List ℕ))
    → all_fill fill (spelled_items vs ++ ss) ≡ items_fill fill vs
items_all_fill fill no_items h ss = refl
items_all_fill fill (item v vs) h ss = one_fills fill v vs h.0 ss (more_fill fill vs h.1 ss)
