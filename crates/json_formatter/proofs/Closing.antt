-- How wide a list is on a flat line, as it is found from its opening bracket on: the width of what closes it ends with it.
use Rattle.std.proofs.Common.{◌≡◌, refl, ◌∙◌, ap, subst, ℕ, ◌+◌, ◌-◌, ◌≤◌, nat_le, Bool, true, false, not, List, [], ◌∷◌, ◌++◌}
use Rattle.std.proofs.Common.{append_assoc, Option, Some, None, arith}
use Rattle.std.proofs.lemmas.Bool.{lt-leb}
use Rattle.json.specs.Ascii as ascii
use Rattle.json.specs.Word.{ends_word}
use Rattle.prettyless_model.specs.Metrics.{text_width}
use Rattle.json_formatter.specs.declared.style.Style.{Style}
use Rattle.json_formatter.specs.ByValue.{brace_blank, flat, flat_items, items_kept, kept_if, members_kept, more_flat_items}
use Rattle.json_formatter.specs.ByValue.{more_flat_members, value_width}
use Rattle.json_formatter.specs.Values.{PiecedValue as Value, alone, array, object, PiecedItems as Items, no_items, item}
use Rattle.json_formatter.specs.Values.{PiecedMembers as Members, no_members}
use Rattle.json_formatter.specs.Values as g
use Rattle.json_formatter.specs.Values.{bracket, pieced as spelled, pieced_items as spelled_items, more_pieced_items as more_items}
use Rattle.json_formatter.specs.Values.{pieced_members as spelled_members, more_pieced_members as more_members}
use Rattle.json_formatter.specs.Values.{IsFormedPieced as IsFormed, AreFormedPiecedItems as AreFormedItems}
use Rattle.json_formatter.specs.Values.{AreFormedPiecedMembers as AreFormedMembers}
use Rattle.json_formatter.specs.Documents.{opens, closes}
use Rattle.json_formatter.specs.Flat.{blank_if, flat_width, piece_columns, piece_width, wider, width_to_close}
use Rattle.json_formatter.proofs.FlatTrees.{plus_nothing, width_joined}
use Rattle.json_formatter.proofs.ValueTrees.{IsPlain, curly_width, formed_plain, key_formed, square_width}

wider_twice : (a b : ℕ) (o : Option ℕ) → wider a (wider b o) ≡ wider (a + b) o
wider_twice a b None = refl
wider_twice a b (Some n) = ap Some (omega arith)

wider_same : (a b : ℕ) (o : Option ℕ) → a ≡ b → wider a o ≡ wider b o
wider_same a b o e = ap (λ (n : ℕ). wider n o) e

-- one piece more
pub to_opening : (compact : Bool) (n : ℕ) (s : List ℕ) (ss : List (List ℕ)) → opens s ≡ true
    → width_to_close compact n (s ∷ ss) ≡ wider (piece_columns compact s ss) (width_to_close compact (n + 1) ss)
to_opening compact n s ss o = rw o refl

pub to_plain : (compact : Bool) (n : ℕ) (s : List ℕ) (ss : List (List ℕ)) → opens s ≡ false → closes s ≡ false
    → width_to_close compact n (s ∷ ss) ≡ wider (piece_columns compact s ss) (width_to_close compact n ss)
to_plain compact n s ss o c = rw (o, c) refl

pub to_inner : (compact : Bool) (n : ℕ) (s : List ℕ) (ss : List (List ℕ)) → opens s ≡ false → closes s ≡ true → nat_le n 1 ≡ false
    → width_to_close compact n (s ∷ ss) ≡ wider (piece_columns compact s ss) (width_to_close compact (n - 1) ss)
to_inner compact n s ss o c e = rw (o, c, e) refl

pub to_last : (compact : Bool) (n : ℕ) (s : List ℕ) (ss : List (List ℕ)) → opens s ≡ false → closes s ≡ true → nat_le n 1 ≡ true
    → width_to_close compact n (s ∷ ss) ≡ Some (piece_columns compact s ss)
to_last compact n s ss o c e = rw (o, c, e) refl

module _ (style : Style) where
  -- ---- pieces

  abbrev to_close : ℕ → List (List ℕ) → Option ℕ
  to_close n ss = width_to_close style.compact n ss

  -- a lexeme takes so many columns, whatever comes after it
  abbrev Takes : List ℕ → ℕ → Type 0
  Takes s w = (rest : List (List ℕ)) → piece_columns style.compact s rest ≡ w

  -- lexemes of so many columns that leave as many lists open as they found open: the search goes over them
  abbrev pub GoesOver : List (List ℕ) → ℕ → Type 0
  GoesOver ss w = (n : ℕ) (rest : List (List ℕ)) → 1 ≤ n → to_close n (ss ++ rest) ≡ wider w (to_close n rest)

  -- lexemes that close one list
  abbrev pub ClosesOne : List (List ℕ) → ℕ → Type 0
  ClosesOne ss w = (n : ℕ) (rest : List (List ℕ)) → 1 ≤ n → to_close (n + 1) (ss ++ rest) ≡ wider w (to_close n rest)

  -- lexemes that close the last list
  abbrev pub ClosesLast : List (List ℕ) → ℕ → Type 0
  ClosesLast ss w = (rest : List (List ℕ)) → to_close 1 (ss ++ rest) ≡ Some w

  -- two parts
  over_both : (xs ys : List (List ℕ)) (w v : ℕ) → GoesOver xs w → GoesOver ys v → GoesOver (xs ++ ys) (w + v)
  over_both xs ys w v h k = λ n rest l.
      ap (to_close n) (append_assoc xs ys rest)
      ∙ h n (ys ++ rest) l ∙ ap (wider w) (k n rest l)
      ∙ wider_twice w v (to_close n rest)

  over_then_close : (xs ys : List (List ℕ)) (w v : ℕ) → GoesOver xs w → ClosesOne ys v → ClosesOne (xs ++ ys) (w + v)
  over_then_close xs ys w v h k = λ n rest l.
      ap (to_close (n + 1)) (append_assoc xs ys rest)
      ∙ h (n + 1) (ys ++ rest) (omega arith) ∙ ap (wider w) (k n rest l)
      ∙ wider_twice w v (to_close n rest)

  over_then_last : (xs ys : List (List ℕ)) (w v : ℕ) → GoesOver xs w → ClosesLast ys v → ClosesLast (xs ++ ys) (w + v)
  over_then_last xs ys w v h k = λ rest.
      ap (to_close 1) (append_assoc xs ys rest)
      ∙ h 1 (ys ++ rest) (omega arith) ∙ ap (wider w) (k rest)

  -- a bracket that closes a list
  close_one : (s : List ℕ) → opens s ≡ false → closes s ≡ true → Takes s 1 → ClosesOne (s ∷ []) 1
  close_one s e f h = λ n rest l.
      let more : nat_le (n + 1) 1 ≡ false = lt-leb (n + 1) 1 (omega (arith, l)) in
      let less : (n + 1) - 1 ≡ n = omega arith in
      to_inner style.compact (n + 1) s rest e f more ∙ (λ i. wider (h rest i) (to_close (less i) rest))

  close_last : (s : List ℕ) → opens s ≡ false → closes s ≡ true → Takes s 1 → ClosesLast (s ∷ []) 1
  close_last s e f h = λ rest. to_last style.compact 1 s rest e f refl ∙ ap Some (h rest)

  -- a bracket that opens a list, and what closes it
  over_list : (s : List ℕ) (ss : List (List ℕ)) (w v : ℕ) → opens s ≡ true
      → ((rest : List (List ℕ)) → piece_columns style.compact s (ss ++ rest) ≡ w) → ClosesOne ss v → GoesOver (s ∷ ss) (w + v)
  over_list s ss w v e c h = λ n rest l.
      to_opening style.compact n s (ss ++ rest) e
      ∙ ap (wider (piece_columns style.compact s (ss ++ rest))) (h n rest l)
      ∙ wider_twice (piece_columns style.compact s (ss ++ rest)) v (to_close n rest)
      ∙ wider_same (piece_columns style.compact s (ss ++ rest) + v) (w + v) (to_close n rest) (ap (λ (k : ℕ). k + v) (c rest))

  -- a lexeme that neither opens nor closes a list
  over_alone : (s : List ℕ) (w : ℕ) → opens s ≡ false → closes s ≡ false → Takes s w → GoesOver (s ∷ []) w
  over_alone s w e f h = λ n rest l.
      to_plain style.compact n s rest e f ∙ wider_same (piece_columns style.compact s rest) w (to_close n rest) (h rest)

  word_columns : (s : List ℕ) → IsPlain s → Takes s (text_width s)
  word_columns s p = λ rest. rw (p.opens, p.mark, p.brace) (plus_nothing (text_width s))

  over_word : (s : List ℕ) → ends_word s ≡ false → GoesOver (s ∷ []) (text_width s)
  over_word s e = let p = formed_plain s e in over_alone s (text_width s) p.opens p.closes (word_columns s p)

  over_key : (k : List ℕ) → ends_word k ≡ false → GoesOver (k ∷ (ascii.colon ∷ []) ∷ []) (text_width k + 2)
  over_key k e =
      over_both (k ∷ []) ((58 ∷ []) ∷ []) (text_width k) 2 (over_word k e) (over_alone (58 ∷ []) 2 refl refl (λ rest. refl))

  over_comma : GoesOver ((ascii.comma ∷ []) ∷ []) 2
  over_comma = over_alone (44 ∷ []) 2 refl refl (λ rest. refl)

  over_same : (ss : List (List ℕ)) (w v : ℕ) → w ≡ v → GoesOver ss w → GoesOver ss v
  over_same ss w v e h = subst (GoesOver ss) e h

  close_same : (ss : List (List ℕ)) (w v : ℕ) → w ≡ v → ClosesOne ss w → ClosesOne ss v
  close_same ss w v e h = subst (ClosesOne ss) e h

  -- ---- braces

  -- the columns of a blank inside them
  abbrev pub blank : ℕ
  blank = flat_width (brace_blank style)

  -- a bracket that opens an array
  pub bracket_columns : (keeps : Bool) (ss : List (List ℕ))
      → piece_columns style.compact (bracket ascii.open_bracket keeps) ss ≡ 1 + kept_if keeps
  bracket_columns keeps ss = plus_nothing (piece_width (bracket 91 keeps)) ∙ square_width keeps

  -- a brace that opens an object with members, and both blanks
  pub brace_columns : (keeps : Bool) (k : List ℕ) (ss : List (List ℕ)) → closes k ≡ false
      → piece_columns style.compact (bracket ascii.open_brace keeps) (k ∷ ss) ≡ (1 + kept_if keeps) + (blank + blank)
  brace_columns keeps k ss e = by style.compact
    where
      by : (b : Bool)
          → piece_columns b (bracket 123 keeps) (k ∷ ss)
          ≡ (1 + kept_if keeps) + (flat_width (blank_if (not b)) + flat_width (blank_if (not b)))
      by true = rw e (ap (λ (n : ℕ). n + 0) (curly_width keeps))
      by false = rw e (ap (λ (n : ℕ). n + 2) (curly_width keeps))

  -- one that closes it at once
  empty_columns : (keeps : Bool) (ss : List (List ℕ))
      → piece_columns style.compact (bracket ascii.open_brace keeps) ((ascii.close_brace ∷ []) ∷ ss) ≡ 1 + kept_if keeps
  empty_columns keeps ss = plus_nothing (piece_width (bracket 123 keeps)) ∙ curly_width keeps

  -- the members of an object after one, up to its brace, without a blank before that
  abbrev pub more_width : Members → ℕ
  more_width no_members = 1
  more_width (g.member k v ms) = 2 + ((text_width k + 2) + (value_width style v + more_width ms))

  -- all members
  abbrev pub all_width : Members → ℕ
  all_width no_members = 1
  all_width (g.member k v ms) = (text_width k + 2) + (value_width style v + more_width ms)

  blank_more : (ms : Members) → flat_width (more_flat_members style ms) + members_kept ms ≡ more_width ms + blank
  blank_more no_members = let h = width_joined (brace_blank style) ((125 ∷ []) ∷ []) in omega (arith, h)
  blank_more (g.member k v ms) =
      let h = blank_more ms in let j = width_joined (flat style v) (more_flat_members style ms) in omega (arith, h, j)

  -- with both blanks
  pub blank_all : (keeps : Bool) (k : List ℕ) (v : Value) (ms : Members)
      → ((1 + kept_if keeps) + (blank + blank)) + all_width (g.member k v ms) ≡ value_width style (object keeps (g.member k v ms))
  blank_all keeps k v ms =
      let h = blank_more ms in
      let i = width_joined (brace_blank style) (k ∷ (58 ∷ []) ∷ (32 ∷ []) ∷ (flat style v ++ more_flat_members style ms)) in
      let j = width_joined (flat style v) (more_flat_members style ms) in
      omega (arith, h, i, j)

  -- ---- values

  -- the items of an array after one, and all items, up to its bracket
  abbrev more_items_width : Items → ℕ
  more_items_width vs = flat_width (more_flat_items style vs) + items_kept vs

  abbrev pub all_items_width : Items → ℕ
  all_items_width vs = flat_width (flat_items style vs) + items_kept vs

  item_width : (v : Value) (vs : Items) → value_width style v + more_items_width vs ≡ all_items_width (item v vs)
  item_width v vs = let h = width_joined (flat style v) (more_flat_items style vs) in omega (arith, h)

  array_width : (keeps : Bool) (v : Value) (vs : Items)
      → (1 + kept_if keeps) + (value_width style v + more_items_width vs) ≡ value_width style (array keeps (item v vs))
  array_width keeps v vs = let h = width_joined (flat style v) (more_flat_items style vs) in omega (arith, h)

  comma_width : (v : Value) (vs : Items) → 2 + (value_width style v + more_items_width vs) ≡ more_items_width (item v vs)
  comma_width v vs = let h = width_joined (flat style v) (more_flat_items style vs) in omega (arith, h)

  empty_width : (keeps : Bool) → (1 + kept_if keeps) + 1 ≡ 2 + (kept_if keeps + 0)
  empty_width keeps = omega arith

  mutual
    -- a search for what closes a list goes over the values in it
    pub over_value : (v : Value) → IsFormed v → GoesOver (spelled v) (value_width style v)
    over_value (alone s) h = over_same (s ∷ []) (text_width s) ((text_width s + 0) + 0) (omega arith) (over_word s h)
    over_value (array keeps no_items) h =
        over_same (bracket 91 keeps ∷ (93 ∷ []) ∷ []) _ _ (empty_width keeps)
        (over_list (bracket 91 keeps) ((93 ∷ []) ∷ []) (1 + kept_if keeps) 1 refl (λ rest. bracket_columns keeps ((93 ∷ []) ∷ rest))
        (close_one (93 ∷ []) refl refl (λ rest. refl)))
    over_value (array keeps (item v vs)) h =
        over_same (bracket 91 keeps ∷ (spelled v ++ more_items vs)) _ _ (array_width keeps v vs)
        (over_list (bracket 91 keeps) (spelled v ++ more_items vs) (1 + kept_if keeps) _ refl
        (λ rest. bracket_columns keeps ((spelled v ++ more_items vs) ++ rest))
        (over_then_close (spelled v) (more_items vs) _ _ (over_value v h.0) (more_close vs h.1)))
    over_value (object keeps no_members) h =
        over_same (bracket 123 keeps ∷ (125 ∷ []) ∷ []) _ _ (empty_width keeps)
        (over_list (bracket 123 keeps) ((125 ∷ []) ∷ []) (1 + kept_if keeps) 1 refl (λ rest. empty_columns keeps rest)
        (close_one (125 ∷ []) refl refl (λ rest. refl)))
    over_value (object keeps (g.member k v ms)) h =
        let key = key_formed k h.0 in
        over_same (bracket 123 keeps ∷ k ∷ (58 ∷ []) ∷ (spelled v ++ more_members ms)) _ _ (blank_all keeps k v ms)
        (over_list (bracket 123 keeps) (k ∷ (58 ∷ []) ∷ (spelled v ++ more_members ms)) ((1 + kept_if keeps) + (blank + blank))
        (all_width (g.member k v ms)) refl
        (λ rest. brace_columns keeps k ((58 ∷ []) ∷ ((spelled v ++ more_members ms) ++ rest)) (formed_plain k key).closes)
        (over_then_close (k ∷ (58 ∷ []) ∷ []) (spelled v ++ more_members ms) (text_width k + 2) _ (over_key k key)
        (over_then_close (spelled v) (more_members ms) _ _ (over_value v h.1) (more_members_close ms h.2))))

    more_close : (vs : Items) → AreFormedItems vs → ClosesOne (more_items vs) (more_items_width vs)
    more_close no_items h = close_one (93 ∷ []) refl refl (λ rest. refl)
    more_close (item v vs) h =
        close_same ((44 ∷ []) ∷ (spelled v ++ more_items vs)) _ _ (comma_width v vs)
        (over_then_close ((44 ∷ []) ∷ []) (spelled v ++ more_items vs) 2 _ over_comma
        (over_then_close (spelled v) (more_items vs) _ _ (over_value v h.0) (more_close vs h.1)))

    more_members_close : (ms : Members) → AreFormedMembers ms → ClosesOne (more_members ms) (more_width ms)
    more_members_close no_members h = close_one (125 ∷ []) refl refl (λ rest. refl)
    more_members_close (g.member k v ms) h =
        over_then_close ((44 ∷ []) ∷ []) (k ∷ (58 ∷ []) ∷ (spelled v ++ more_members ms)) 2 _ over_comma
        (over_then_close (k ∷ (58 ∷ []) ∷ []) (spelled v ++ more_members ms) (text_width k + 2) _ (over_key k (key_formed k h.0))
        (over_then_close (spelled v) (more_members ms) _ _ (over_value v h.1) (more_members_close ms h.2)))

  -- ---- lists

  -- the items of an array after one, up to its bracket
  more_last : (vs : Items) → AreFormedItems vs → ClosesLast (more_items vs) (more_items_width vs)
  more_last no_items h = close_last (93 ∷ []) refl refl (λ rest. refl)
  more_last (item v vs) h =
      subst (ClosesLast (more_items (item v vs))) (comma_width v vs)
      (over_then_last ((44 ∷ []) ∷ []) (spelled v ++ more_items vs) 2 _ over_comma
      (over_then_last (spelled v) (more_items vs) _ _ (over_value v h.0) (more_last vs h.1)))

  -- those of an array: the search finds their width, with the bracket
  pub items_width : (vs : Items) → AreFormedItems vs → ClosesLast (spelled_items vs) (all_items_width vs)
  items_width no_items h = close_last (93 ∷ []) refl refl (λ rest. refl)
  items_width (item v vs) h =
      subst (ClosesLast (spelled_items (item v vs))) (item_width v vs)
      (over_then_last (spelled v) (more_items vs) _ _ (over_value v h.0) (more_last vs h.1))

  more_members_width : (ms : Members) → AreFormedMembers ms → ClosesLast (more_members ms) (more_width ms)
  more_members_width no_members h = close_last (125 ∷ []) refl refl (λ rest. refl)
  more_members_width (g.member k v ms) h =
      over_then_last ((44 ∷ []) ∷ []) (k ∷ (58 ∷ []) ∷ (spelled v ++ more_members ms)) 2 _ over_comma
      (over_then_last (k ∷ (58 ∷ []) ∷ []) (spelled v ++ more_members ms) (text_width k + 2) _ (over_key k (key_formed k h.0))
      (over_then_last (spelled v) (more_members ms) _ _ (over_value v h.1) (more_members_width ms h.2)))

  -- those of an object, with the brace, and without blanks
  pub members_width : (ms : Members) → AreFormedMembers ms → ClosesLast (spelled_members ms) (all_width ms)
  members_width no_members h = close_last (125 ∷ []) refl refl (λ rest. refl)
  members_width (g.member k v ms) h =
      over_then_last (k ∷ (58 ∷ []) ∷ []) (spelled v ++ more_members ms) (text_width k + 2) _ (over_key k (key_formed k h.0))
      (over_then_last (spelled v) (more_members ms) _ _ (over_value v h.1) (more_members_width ms h.2))
