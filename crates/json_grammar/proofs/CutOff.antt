-- Whether a string goes on after bytes with which it is not JSON: where the text ends within an escape.
use Rattle.std.proofs.Common.{◌≡◌, ◌≢◌, ℕ, suc, ◌+◌, ◌*◌, ◌<◌, ◌≤◌, ◌==◌, nat_lt, Bool, true, false, not, cond, ◌&&◌, List, [], ◌∷◌, ◌++◌}
use Rattle.std.proofs.Common.{length, take, drop, Option, Some, None, option_and_then, is_some, refl, sym, ap, ◌∙◌, subst, arith}
use Rattle.std.proofs.Common.{◌⊎◌, inl, inr}
use Rattle.std.specs.Char.{digit_value, is_digit}
use Rattle.std.proofs.lemmas.Bool.{and_from, and_parts, and_right, cases_Bool, false≢true, false_from_ne_true, le-leb, le-ltb}
use Rattle.std.proofs.lemmas.Bool.{eqb-true, leb-true, lt-ltb, ltb-true, ne_eqb, true≢false}
use Rattle.std.proofs.lemmas.List.{drop-append-le, length-append, length-drop, take-append-drop, take-append-le}
use Rattle.std.proofs.Math.Seq.{take-length}
use Rattle.json.specs.Text.{Within, plain, after_backslash, after_u, after_high, code_unit, content, prepend, short_escape}
use Rattle.json.specs.Text.{is_high_surrogate, is_low_surrogate}
use Rattle.json.specs.Word.{head}
use Rattle.json.proofs.Found.{not_found, Some_inj}
use Rattle.json_lexemes.proofs.Strings.{prepend-nil}
use Rattle.json_grammar.specs.Readings.{is_leaf}
use Rattle.json_grammar.specs.Strings.{BeginsString, GoesOn, HasNoPart, HasParts, IsLongestClosed, IsStringFault, NeverCloses}
use Rattle.json_grammar.specs.Strings.{Reads, TellsOfMore, TellsOfString, expected_in_string, first_unit, padded_unit}
use Rattle.json_grammar.specs.declared.expected.Expected.TheVariants as want
use Rattle.json_grammar.proofs.Closing.{closed_leaf, longest_closed, reads_more}
use Rattle.json_grammar.proofs.Content.{if_low, never_digits, never_half, never_high, never_low, never_number, never_short, no_part_control}
use Rattle.json_grammar.proofs.Content.{no_part_escape, no_part_quote, part_escape, reads_half, reads_number, reads_pair, reads_short}
use Rattle.json_grammar.proofs.Content.{reads_unit}
use Rattle.json_grammar.proofs.Content.{second_unit, unit_by, unit_then}

-- whatever bytes come after these, a quote closes no string with them
abbrev NeverGoesOn : Within → List ℕ → Type 0
NeverGoesOn w bytes = (more : List ℕ) → NeverCloses w (bytes ++ more)

-- ---- digits

-- the four digits and their value
abbrev Spells : ℕ → ℕ → ℕ → ℕ → ℕ → Type 0
Spells a b c d u =
    (digit_value a < 16) × (digit_value b < 16) × (digit_value c < 16) × (digit_value d < 16)
    × (u ≡ digit_value a * 4096 + digit_value b * 256 + digit_value c * 16 + digit_value d)

abbrev all_hex : ℕ → ℕ → ℕ → ℕ → Bool
all_hex a b c d = is_digit a 16 && is_digit b 16 && is_digit c 16 && is_digit d 16

module _ (a b c d : ℕ) where
  abbrev value : ℕ
  value = digit_value a * 4096 + digit_value b * 256 + digit_value c * 16 + digit_value d

  spells : (u : ℕ) → code_unit a b c d ≡ Some u → Spells a b c d u
  unfolding code_unit
  spells u e = by (all_hex a b c d) refl e
    where
      by : (t : Bool) → all_hex a b c d ≡ t → cond t (Some value) None ≡ Some u → Spells a b c d u
      by true all is =
          let p = and_parts (is_digit a 16 && is_digit b 16 && is_digit c 16) (is_digit d 16) all in
          let q = and_parts (is_digit a 16 && is_digit b 16) (is_digit c 16) p.0 in
          let r = and_parts (is_digit a 16) (is_digit b 16) q.0 in (
            ltb-true (digit_value a) 16 r.0,
            ltb-true (digit_value b) 16 r.1,
            ltb-true (digit_value c) 16 q.1,
            ltb-true (digit_value d) 16 p.1,
            sym (Some_inj value u is),
          )
      by false all is = not_found u is

  no_hex : code_unit a b c d ≡ None → all_hex a b c d ≡ false
  unfolding code_unit
  no_hex e = by (all_hex a b c d) e
    where
      by : (t : Bool) → cond t (Some value) None ≡ None → t ≡ false
      by true is = not_found value (sym is)
      by false is = refl

  no_value : all_hex a b c d ≡ false → code_unit a b c d ≡ None
  unfolding code_unit
  no_value e = ap (λ t. cond t (Some value) None) e

-- what is false of all is false of those that are not known to be true
but_true : (x y : Bool) → y ≡ true → (x && y) ≡ false → x ≡ false
but_true true y h e = absurd (true≢false (sym h ∙ e))
but_true false y h e = refl

-- ---- fewer digits than four, and these in place of those that are missing

module _ (p q : ℕ) (p_hex : is_digit p 16 ≡ true) (q_hex : is_digit q 16 ≡ true) where
  -- where they are none, no four digits begin with these
  none_with : (bytes more : List ℕ) → padded_unit bytes p q ≡ None → first_unit (bytes ++ more) ≡ None
  none_with [] more e =
      let no : is_digit p 16 ≡ false =
      but_true (is_digit p 16) (is_digit q 16) q_hex (but_true _ true refl (but_true _ true refl (no_hex p q 48 48 e))) in
      absurd (true≢false (sym p_hex ∙ no))
  none_with (a ∷ []) more e = by more
    where
      no : is_digit a 16 ≡ false
      no = but_true (is_digit a 16) (is_digit q 16) q_hex (but_true _ true refl (but_true _ true refl (no_hex a q 48 48 e)))

      by : (more : List ℕ) → first_unit ((a ∷ []) ++ more) ≡ None
      by [] = refl
      by (b ∷ []) = refl
      by (b ∷ c ∷ []) = refl
      by (b ∷ c ∷ d ∷ rest) = no_value a b c d (ap (λ t. t && is_digit b 16 && is_digit c 16 && is_digit d 16) no)
  none_with (a ∷ b ∷ []) more e = by more
    where
      no : (is_digit a 16 && is_digit b 16) ≡ false
      no = but_true _ true refl (but_true _ true refl (no_hex a b 48 48 e))

      by : (more : List ℕ) → first_unit ((a ∷ b ∷ []) ++ more) ≡ None
      by [] = refl
      by (c ∷ []) = refl
      by (c ∷ d ∷ rest) = no_value a b c d (ap (λ t. t && is_digit c 16 && is_digit d 16) no)
  none_with (a ∷ b ∷ c ∷ []) more e = by more
    where
      no : (is_digit a 16 && is_digit b 16 && is_digit c 16) ≡ false
      no = but_true _ true refl (no_hex a b c 48 e)

      by : (more : List ℕ) → first_unit ((a ∷ b ∷ c ∷ []) ++ more) ≡ None
      by [] = refl
      by (d ∷ rest) = no_value a b c d (ap (λ t. t && is_digit d 16) no)
  none_with (a ∷ b ∷ c ∷ d ∷ rest) more e = e

-- those that are missing
pads : ℕ → ℕ → List ℕ → List ℕ
pads p q [] = p ∷ q ∷ 48 ∷ 48 ∷ []
pads p q (a ∷ []) = q ∷ 48 ∷ 48 ∷ []
pads p q (a ∷ b ∷ []) = 48 ∷ 48 ∷ []
pads p q (a ∷ b ∷ c ∷ []) = 48 ∷ []
pads p q (a ∷ b ∷ c ∷ d ∷ rest) = []

module _ (p q : ℕ) (rest : List ℕ) where
  abbrev padded : List ℕ → List ℕ
  padded bytes = bytes ++ (pads p q bytes ++ rest)

  padded_first : (bytes : List ℕ) → length bytes < 4 → first_unit (padded bytes) ≡ padded_unit bytes p q
  unfolding pads
  padded_first [] h = refl
  padded_first (a ∷ []) h = refl
  padded_first (a ∷ b ∷ []) h = refl
  padded_first (a ∷ b ∷ c ∷ []) h = refl
  padded_first (a ∷ b ∷ c ∷ d ∷ more) h = absurd (omega arith)

  padded_length : (bytes : List ℕ) → length bytes < 4 → length (padded bytes) ≡ 4 + length rest
  unfolding pads
  padded_length [] h = omega arith
  padded_length (a ∷ []) h = omega arith
  padded_length (a ∷ b ∷ []) h = omega arith
  padded_length (a ∷ b ∷ c ∷ []) h = omega arith
  padded_length (a ∷ b ∷ c ∷ d ∷ more) h = absurd (omega arith)

  padded_rest : (bytes : List ℕ) → length bytes < 4 → drop 4 (padded bytes) ≡ rest
  unfolding pads
  padded_rest [] h = refl
  padded_rest (a ∷ []) h = refl
  padded_rest (a ∷ b ∷ []) h = refl
  padded_rest (a ∷ b ∷ c ∷ []) h = refl
  padded_rest (a ∷ b ∷ c ∷ d ∷ more) h = absurd (omega arith)

-- ---- halves of pairs

low_bounds : (u : ℕ) → is_low_surrogate u ≡ true → (56320 ≤ u) × (u < 57344)
low_bounds u e =
    let both = and_parts _ _ e in
    (leb-true 56320 u both.0, ltb-true u 57344 both.1)

is_low : (u : ℕ) → 56320 ≤ u → u < 57344 → is_low_surrogate u ≡ true
is_low u from to = and_from _ _ (le-leb 56320 u from) (lt-ltb u 57344 to)

not_high : (u : ℕ) → 56320 ≤ u → is_high_surrogate u ≡ false
not_high u from = and_right _ _ (le-ltb u 56320 from)

-- a second half, which may not come first
abbrev IsSecond : ℕ → Type 0
IsSecond v = (is_high_surrogate v ≡ false) × (is_low_surrogate v ≡ true)

second : (v : ℕ) → 56320 ≤ v → v < 57344 → IsSecond v
second v from to = (not_high v from, is_low v from to)

-- where the least of all that begin so is one, each is
low_with : (bytes more : List ℕ) (u v : ℕ) → length bytes < 4 → padded_unit bytes 48 48 ≡ Some u → is_low_surrogate u ≡ true
    → first_unit (bytes ++ more) ≡ Some v → IsSecond v
low_with [] more u v h e low f =
    let s = spells 48 48 48 48 u e in
    let low_u = low_bounds u low in
    absurd (omega (arith, s.4, low_u.0))
low_with (a ∷ []) more u v h e low f =
    let s = spells a 48 48 48 u e in
    let low_u = low_bounds u low in
    absurd (omega (arith, s.0, s.4, low_u.0, low_u.1))
low_with (a ∷ b ∷ []) more u v h e low f = by more f
  where
    by : (more : List ℕ) → first_unit ((a ∷ b ∷ []) ++ more) ≡ Some v → IsSecond v
    by [] g = not_found v g
    by (c ∷ []) g = not_found v g
    by (c ∷ d ∷ rest) g =
        let s = spells a b 48 48 u e in
        let t = spells a b c d v g in
        let low_u = low_bounds u low in
        second v (omega (arith, s.4, t.4, low_u.0)) (omega (arith, s.4, t.2, t.3, t.4, low_u.1))
low_with (a ∷ b ∷ c ∷ []) more u v h e low f = by more f
  where
    by : (more : List ℕ) → first_unit ((a ∷ b ∷ c ∷ []) ++ more) ≡ Some v → IsSecond v
    by [] g = not_found v g
    by (d ∷ rest) g =
        let s = spells a b c 48 u e in
        let t = spells a b c d v g in
        let low_u = low_bounds u low in
        second v (omega (arith, s.4, t.4, low_u.0)) (omega (arith, s.4, t.3, t.4, low_u.1))
low_with (a ∷ b ∷ c ∷ d ∷ rest) more u v h e low f = absurd (omega arith)

-- where these digits with `dc00` in place of the missing ones are none, no digits that begin with them are
not_low_with : (bytes more : List ℕ) (u v : ℕ) → length bytes < 4 → padded_unit bytes 100 99 ≡ Some u → is_low_surrogate u ≡ false
    → first_unit (bytes ++ more) ≡ Some v → is_low_surrogate v ≡ false
not_low_with [] more u v h e low f =
    let s = spells 100 99 48 48 u e in
    absurd (true≢false (sym (is_low u (omega (arith, s.4)) (omega (arith, s.4))) ∙ low))
not_low_with (a ∷ []) more u v h e low f = by more f
  where
    by : (more : List ℕ) → first_unit ((a ∷ []) ++ more) ≡ Some v → is_low_surrogate v ≡ false
    by [] g = not_found v g
    by (b ∷ []) g = not_found v g
    by (b ∷ c ∷ []) g = not_found v g
    by (b ∷ c ∷ d ∷ rest) g =
        let s = spells a 99 48 48 u e in
        let t = spells a b c d v g in
        false_from_ne_true _ (λ is_so.
        let low_v = low_bounds v is_so in
        let same : digit_value a ≡ 13 = omega (arith, t.1, t.2, t.3, t.4, low_v.0, low_v.1) in
        true≢false (sym (is_low u (omega (arith, s.4, same)) (omega (arith, s.4, same))) ∙ low))
not_low_with (a ∷ b ∷ []) more u v h e low f = by more f
  where
    by : (more : List ℕ) → first_unit ((a ∷ b ∷ []) ++ more) ≡ Some v → is_low_surrogate v ≡ false
    by [] g = not_found v g
    by (c ∷ []) g = not_found v g
    by (c ∷ d ∷ rest) g =
        let s = spells a b 48 48 u e in
        let t = spells a b c d v g in
        false_from_ne_true _ (λ is_so.
        let low_v = low_bounds v is_so in
        true≢false (sym (is_low u (omega (arith, s.4, t.2, t.3, t.4, low_v.0)) (omega (arith, s.4, t.4, low_v.1))) ∙ low))
not_low_with (a ∷ b ∷ c ∷ []) more u v h e low f = by more f
  where
    by : (more : List ℕ) → first_unit ((a ∷ b ∷ c ∷ []) ++ more) ≡ Some v → is_low_surrogate v ≡ false
    by [] g = not_found v g
    by (d ∷ rest) g =
        let s = spells a b c 48 u e in
        let t = spells a b c d v g in
        false_from_ne_true _ (λ is_so.
        let low_v = low_bounds v is_so in
        true≢false (sym (is_low u (omega (arith, s.4, t.3, t.4, low_v.0)) (omega (arith, s.4, t.4, low_v.1))) ∙ low))
not_low_with (a ∷ b ∷ c ∷ d ∷ rest) more u v h e low f = absurd (omega arith)

-- ---- the second half of a surrogate pair

-- what stands for something is closed by a quote
reads_closes : (w : Within) (bytes : List ℕ) (n : ℕ) → Reads w bytes n → NeverCloses w bytes → ⊥
unfolding content
reads_closes w bytes n reads never =
    not_found (reads.says ++ [])
    (sym (never (take n bytes) (drop n bytes) (sym (take-append-drop n bytes))) ∙ reads.reads (34 ∷ []))

module _ (h : ℕ) where
  pub half_at_end : (bytes : List ℕ) → length bytes ≡ 0 → GoesOn (after_high h) bytes
  unfolding code_unit
  half_at_end [] e = (92 ∷ 117 ∷ 100 ∷ 99 ∷ 48 ∷ 48 ∷ [], reads_half h 56320 (92 ∷ 117 ∷ 100 ∷ 99 ∷ 48 ∷ 48 ∷ []) refl)
  half_at_end (x ∷ xs) e = absurd (omega arith)

  pub half_at_letter : (x : ℕ) (rest bytes : List ℕ) → bytes ≡ x ∷ rest → x ≡ 92 → length rest ≡ 0 → GoesOn (after_high h) bytes
  unfolding code_unit
  half_at_letter x [] bytes is b e =
      subst (GoesOn (after_high h)) (sym (is ∙ ap (λ (y : ℕ). y ∷ []) b))
      (117 ∷ 100 ∷ 99 ∷ 48 ∷ 48 ∷ [], reads_half h 56320 (92 ∷ 117 ∷ 100 ∷ 99 ∷ 48 ∷ 48 ∷ []) refl)
  half_at_letter x (y ∷ ys) bytes is b e = absurd (omega arith)

  no_second_after : (x : ℕ) (xs : List ℕ) → x ≢ 92 → second_unit (x ∷ xs) ≡ None
  no_second_after x [] n = refl
  no_second_after x (y ∷ ys) n = ap (λ t. cond (t && (y == 117)) (option_and_then if_low (first_unit ys)) None) (ne_eqb x 92 n)

  pub half_stops : (x : ℕ) (rest bytes : List ℕ) → bytes ≡ x ∷ rest → x ≢ 92 → NeverGoesOn (after_high h) bytes
  half_stops x rest bytes is n more =
      never_half h (bytes ++ more) (ap (λ (l : List ℕ). second_unit (l ++ more)) is ∙ no_second_after x (rest ++ more) n)

  pub letter_stops : (x y : ℕ) (digits rest bytes : List ℕ) → bytes ≡ x ∷ rest → rest ≡ y ∷ digits → y ≢ 117
      → NeverGoesOn (after_high h) bytes
  letter_stops x y digits rest bytes is rest_is n more =
      never_half h (bytes ++ more)
      (ap (λ (l : List ℕ). second_unit (l ++ more)) (is ∙ ap (λ (l : List ℕ). x ∷ l) rest_is)
      ∙ ap (λ t. cond t (option_and_then if_low (first_unit (digits ++ more))) None) (and_right (x == 92) (y == 117) (ne_eqb y 117 n)))

  -- ---- its digits

  abbrev half : List ℕ → List ℕ
  half digits = 92 ∷ 117 ∷ digits

  whole_half : (digits : List ℕ) → 3 < length digits → NeverCloses (after_high h) (half digits) → second_unit (half digits) ≡ None
  whole_half digits long never = by (second_unit (half digits)) refl
    where
      by : (o : Option ℕ) → second_unit (half digits) ≡ o → second_unit (half digits) ≡ None
      by None e = e
      by (Some u) e = absurd (reads_closes (after_high h) (half digits) 6 (reads_half h u (half digits) e) never)

  same_second : (digits more : List ℕ) → 3 < length digits → second_unit (half digits ++ more) ≡ second_unit (half digits)
  same_second [] more long = absurd (omega arith)
  same_second (a ∷ []) more long = absurd (omega arith)
  same_second (a ∷ b ∷ []) more long = absurd (omega arith)
  same_second (a ∷ b ∷ c ∷ []) more long = absurd (omega arith)
  same_second (a ∷ b ∷ c ∷ d ∷ rest) more long = refl

  pub whole_half_stops : (digits : List ℕ) → 3 < length digits → NeverCloses (after_high h) (half digits)
      → NeverGoesOn (after_high h) (half digits)
  whole_half_stops digits long never more =
      never_half h (half digits ++ more) (same_second digits more long ∙ whole_half digits long never)

  pub digits_none : (digits : List ℕ) → padded_unit digits 100 99 ≡ None → NeverGoesOn (after_high h) (half digits)
  digits_none digits e more =
      never_half h (half digits ++ more) (ap (option_and_then if_low) (none_with 100 99 refl refl digits more e))

  pub digits_go_on : (digits : List ℕ) (u : ℕ) → length digits < 4 → padded_unit digits 100 99 ≡ Some u → is_low_surrogate u ≡ true
      → GoesOn (after_high h) (half digits)
  digits_go_on digits u short e low =
      let more = pads 100 99 digits ++ [] in
      let unit = padded_first 100 99 [] digits short ∙ e in
      let six : 6 ≡ length (half digits ++ more) = omega (arith, padded_length 100 99 [] digits short) in (
        more,
        subst (Reads (after_high h) (half digits ++ more)) six (reads_half h u (half digits ++ more)
            (ap (option_and_then if_low) unit ∙ ap (λ t. cond t (Some u) None) low)),
      )

  pub digits_stop : (digits : List ℕ) (u : ℕ) → length digits < 4 → padded_unit digits 100 99 ≡ Some u → is_low_surrogate u ≡ false
      → NeverGoesOn (after_high h) (half digits)
  digits_stop digits u short e low more = never_half h (half digits ++ more) (by (first_unit (digits ++ more)) refl)
    where
      by : (o : Option ℕ) → first_unit (digits ++ more) ≡ o → option_and_then if_low (first_unit (digits ++ more)) ≡ None
      by None f = ap (option_and_then if_low) f
      by (Some v) f =
          ap (option_and_then if_low) f ∙ ap (λ t. cond t (Some v) None) (not_low_with digits more u v short e low f)

  pub low_tells : (digits : List ℕ) (u : ℕ) (r : Bool) → length digits < 4 → padded_unit digits 100 99 ≡ Some u
      → r ≡ is_low_surrogate u → TellsOfMore (after_high h) (half digits) r
  low_tells digits u true short e low = digits_go_on digits u short e (sym low)
  low_tells digits u false short e low = λ never more. digits_stop digits u short e (sym low) more

pub half_is : (x y : ℕ) (digits rest bytes : List ℕ) → bytes ≡ x ∷ rest → rest ≡ y ∷ digits → x ≡ 92 → y ≡ 117
    → 92 ∷ 117 ∷ digits ≡ bytes
half_is x y digits rest bytes is rest_is x_is y_is =
    sym (is ∙ ap (λ (l : List ℕ). x ∷ l) rest_is ∙ (λ i. x_is i ∷ y_is i ∷ digits))

-- ---- an escape by number

pub number_none : (bytes : List ℕ) → padded_unit bytes 48 48 ≡ None → NeverGoesOn after_u bytes
number_none bytes e more = never_digits (bytes ++ more) (none_with 48 48 refl refl bytes more e)

pub number_low : (bytes : List ℕ) (u : ℕ) → length bytes < 4 → padded_unit bytes 48 48 ≡ Some u → is_low_surrogate u ≡ true
    → NeverGoesOn after_u bytes
number_low bytes u short e low more = by (first_unit (bytes ++ more)) refl
  where
    by : (o : Option ℕ) → first_unit (bytes ++ more) ≡ o → NeverCloses after_u (bytes ++ more)
    by None f = never_digits (bytes ++ more) f
    by (Some v) f =
        let both = low_with bytes more u v short e low f in
        never_low v (bytes ++ more) f both.0 both.1

a_half : List ℕ
a_half = 92 ∷ 117 ∷ 100 ∷ 99 ∷ 48 ∷ 48 ∷ []

reads_a_half : (h : ℕ) → Reads (after_high h) a_half 6
unfolding code_unit a_half
reads_a_half h = reads_half h 56320 a_half refl

length_of_half : length a_half ≡ 6
unfolding a_half
length_of_half = refl

pub number_goes_on : (bytes : List ℕ) (u : ℕ) → length bytes < 4 → padded_unit bytes 48 48 ≡ Some u → is_low_surrogate u ≡ false
    → GoesOn after_u bytes
number_goes_on bytes u short e low = by (cases_Bool (is_high_surrogate u))
  where
    by : (is_high_surrogate u ≡ true) ⊎ (is_high_surrogate u ≡ false) → GoesOn after_u bytes
    by (inl high) =
        let all = padded 48 48 a_half bytes in
        let half = subst (λ (l : List ℕ). Reads (after_high u) l 6) (sym (padded_rest 48 48 a_half bytes short)) (reads_a_half u) in
        let ten : 4 + 6 ≡ length all = omega (arith, padded_length 48 48 a_half bytes short, length_of_half) in (
          pads 48 48 bytes ++ a_half,
          subst (Reads after_u all) ten (reads_pair u 6 all (padded_first 48 48 a_half bytes short ∙ e) high half),
        )
    by (inr high) =
        let all = padded 48 48 [] bytes in
        let four : 4 ≡ length all = omega (arith, padded_length 48 48 [] bytes short) in
        (pads 48 48 bytes ++ [], subst (Reads after_u all) four (reads_unit u all (padded_first 48 48 [] bytes short ∙ e) high low))

pub number_tells : (bytes : List ℕ) (u : ℕ) (r : Bool) → length bytes < 4 → padded_unit bytes 48 48 ≡ Some u → r ≡ is_low_surrogate u
    → TellsOfMore after_u bytes (not r)
number_tells bytes u true short e low = λ never more. number_low bytes u short e (sym low) more
number_tells bytes u false short e low = number_goes_on bytes u short e (sym low)

-- with four digits or more
pub first_digits : (bytes : List ℕ) (u : ℕ) → 4 ≤ length bytes → padded_unit bytes 48 48 ≡ Some u → first_unit bytes ≡ Some u
first_digits [] u h e = absurd (omega arith)
first_digits (a ∷ []) u h e = absurd (omega arith)
first_digits (a ∷ b ∷ []) u h e = absurd (omega arith)
first_digits (a ∷ b ∷ c ∷ []) u h e = absurd (omega arith)
first_digits (a ∷ b ∷ c ∷ d ∷ rest) u h e = e

same_first : (bytes more : List ℕ) → 4 ≤ length bytes → first_unit (bytes ++ more) ≡ first_unit bytes
same_first [] more h = absurd (omega arith)
same_first (a ∷ []) more h = absurd (omega arith)
same_first (a ∷ b ∷ []) more h = absurd (omega arith)
same_first (a ∷ b ∷ c ∷ []) more h = absurd (omega arith)
same_first (a ∷ b ∷ c ∷ d ∷ rest) more h = refl

pub pair_goes_on : (bytes : List ℕ) (u : ℕ) → 4 ≤ length bytes → first_unit bytes ≡ Some u → is_high_surrogate u ≡ true
    → GoesOn (after_high u) (drop 4 bytes) → GoesOn after_u bytes
pair_goes_on bytes u h e high half =
    let more = half.0 in
    let rest = drop 4 bytes ++ more in
    let same : drop 4 (bytes ++ more) ≡ rest = drop-append-le 4 bytes more h in
    let reads = subst (λ (l : List ℕ). Reads (after_high u) l (length rest)) (sym same) half.1 in
    let all : 4 + length rest ≡ length (bytes ++ more) =
    omega (arith, ap length (sym same), length-drop 4 (bytes ++ more), length-append bytes more) in (
      more,
      subst (Reads after_u (bytes ++ more)) all
          (reads_pair u (length rest) (bytes ++ more) (same_first bytes more h ∙ e) high reads),
    )

-- what comes after the first half
after_digits : (bytes : List ℕ) (u : ℕ) → first_unit bytes ≡ Some u → is_high_surrogate u ≡ true → NeverCloses after_u bytes
    → NeverCloses (after_high u) (drop 4 bytes)
unfolding content
after_digits [] u e high never = not_found u e
after_digits (a ∷ []) u e high never = not_found u e
after_digits (a ∷ b ∷ []) u e high never = not_found u e
after_digits (a ∷ b ∷ c ∷ []) u e high never = not_found u e
after_digits (a ∷ b ∷ c ∷ d ∷ xs) u e high never = λ front rest is.
    sym (ap (option_and_then (unit_then (front ++ 34 ∷ []))) e
    ∙ ap (λ t. unit_by t (is_low_surrogate u) (front ++ 34 ∷ []) u) high)
    ∙ never (a ∷ b ∷ c ∷ d ∷ front) rest (ap (λ (l : List ℕ). a ∷ b ∷ c ∷ d ∷ l) is)

pub pair_stops : (bytes : List ℕ) (u : ℕ) → 4 ≤ length bytes → first_unit bytes ≡ Some u → is_high_surrogate u ≡ true
    → (NeverCloses (after_high u) (drop 4 bytes) → NeverGoesOn (after_high u) (drop 4 bytes)) → NeverCloses after_u bytes
    → NeverGoesOn after_u bytes
pair_stops bytes u h e high half never more =
    never_high u (bytes ++ more) (same_first bytes more h ∙ e) high
    (subst (NeverCloses (after_high u)) (sym (drop-append-le 4 bytes more h)) (half (after_digits bytes u e high never) more))

pub pair_tells : (bytes : List ℕ) (u : ℕ) (r : Bool) → 4 ≤ length bytes → first_unit bytes ≡ Some u → is_high_surrogate u ≡ true
    → TellsOfMore (after_high u) (drop 4 bytes) r → TellsOfMore after_u bytes r
pair_tells bytes u true h e high half = pair_goes_on bytes u h e high half
pair_tells bytes u false h e high half = λ never more. pair_stops bytes u h e high half never more

pub number_stops : (bytes : List ℕ) (u : ℕ) → 4 ≤ length bytes → first_unit bytes ≡ Some u → is_high_surrogate u ≡ false
    → NeverCloses after_u bytes → NeverGoesOn after_u bytes
number_stops bytes u h e high never more = by (cases_Bool (is_low_surrogate u))
  where
    by : (is_low_surrogate u ≡ true) ⊎ (is_low_surrogate u ≡ false) → NeverCloses after_u (bytes ++ more)
    by (inl low) = never_low u (bytes ++ more) (same_first bytes more h ∙ e) high low
    by (inr low) = absurd (reads_closes after_u bytes 4 (reads_unit u bytes e high low) never)

-- ---- an escape

pub escape_at_end : (bytes : List ℕ) → length bytes ≡ 0 → GoesOn after_backslash bytes
unfolding short_escape
escape_at_end [] e = (110 ∷ [], reads_short 110 [] (110 ∷ []) refl (λ is. omega arith) refl)
escape_at_end (x ∷ xs) e = absurd (omega arith)

module _ (x : ℕ) (xs bytes : List ℕ) (split : bytes ≡ x ∷ xs) where
  longer : (more : List ℕ) → bytes ++ more ≡ x ∷ (xs ++ more)
  longer more = ap (λ (l : List ℕ). l ++ more) split

  one_more : (more : List ℕ) → 1 + length (xs ++ more) ≡ length (bytes ++ more)
  one_more more = omega (arith, ap length (longer more))

  pub escape_number : x ≡ 117 → GoesOn after_u xs → GoesOn after_backslash bytes
  escape_number u number =
      let more = number.0 in (
        more,
        subst (Reads after_backslash (bytes ++ more)) (one_more more)
            (reads_number x (xs ++ more) (bytes ++ more) (longer more) (length (xs ++ more)) u number.1),
      )

  after_letter : x ≡ 117 → NeverCloses after_backslash bytes → NeverCloses after_u xs
  unfolding content
  after_letter u never front rest is =
      ap (λ y. content after_backslash (y ∷ (front ++ 34 ∷ []))) (sym u)
      ∙ never (x ∷ front) rest (split ∙ ap (λ (l : List ℕ). x ∷ l) is)

  pub escape_number_stops : x ≡ 117 → (NeverCloses after_u xs → NeverGoesOn after_u xs) → NeverCloses after_backslash bytes
      → NeverGoesOn after_backslash bytes
  escape_number_stops u number never more =
      never_number x (xs ++ more) (bytes ++ more) (longer more) u (number (after_letter u never) more)

  pub escape_tells : (r : Bool) → x ≡ 117 → TellsOfMore after_u xs r → TellsOfMore after_backslash bytes r
  escape_tells true u number = escape_number u number
  escape_tells false u number = λ never more. escape_number_stops u number never more

  no_short : x ≢ 117 → NeverCloses after_backslash bytes → is_some (short_escape x) ≡ false
  unfolding content
  no_short n never = by (short_escape x) refl
    where
      by : (o : Option ℕ) → short_escape x ≡ o → is_some (short_escape x) ≡ false
      by None e = ap is_some e
      by (Some c) e =
          not_found (c ∷ [])
          (sym (never (x ∷ []) xs split)
          ∙ (λ i. cond (ne_eqb x 117 n i) (content after_u (34 ∷ []))
          (option_and_then (λ d. prepend (d ∷ []) (content plain (34 ∷ []))) (e i))))

  pub escape_stops : x ≢ 117 → NeverCloses after_backslash bytes → NeverGoesOn after_backslash bytes
  escape_stops n never more = never_short x (xs ++ more) (bytes ++ more) (longer more) n (no_short n never)

  -- ---- a string

  pub string_escape : x ≡ 92 → GoesOn after_backslash xs → GoesOn plain bytes
  string_escape b escape =
      let more = escape.0 in (
        more,
        subst (Reads plain (bytes ++ more)) (one_more more)
            (part_escape x (xs ++ more) (bytes ++ more) (longer more) (length (xs ++ more)) b escape.1).reads,
      )

  some_bytes : 0 < length bytes
  some_bytes = omega (arith, ap length split)

  after_first : x ≡ 92 → HasNoPart bytes → NeverCloses after_backslash xs
  unfolding content
  after_first b (inl quote) =
      let is : x ≡ 34 = sym (ap head split) ∙ quote in
      absurd (omega (arith, is, b))
  after_first b (inr never) = λ front rest is.
      ap (λ y. content plain (y ∷ (front ++ 34 ∷ []))) (sym b)
      ∙ never x front rest (split ∙ ap (λ (l : List ℕ). x ∷ l) is)

  pub string_escape_stops : x ≡ 92 → (NeverCloses after_backslash xs → NeverGoesOn after_backslash xs) → HasNoPart bytes
      → (0 < length bytes) × ((more : List ℕ) → HasNoPart (bytes ++ more))
  string_escape_stops b escape none =
      (some_bytes, λ more. no_part_escape x (xs ++ more) (bytes ++ more) (longer more) b (escape (after_first b none) more))

  pub string_tells : (r : Bool) → x ≡ 92 → TellsOfMore after_backslash xs r → TellsOfString bytes r
  string_tells true b escape = string_escape b escape
  string_tells false b escape = λ none. string_escape_stops b escape none

  refused : x ≢ 92 → HasNoPart bytes → (x ≡ 34) ⊎ (x < 32)
  unfolding content
  refused n (inl quote) = inl (sym (ap head split) ∙ quote)
  refused n (inr never) = by (cases_Bool (x == 34)) (cases_Bool (nat_lt x 32))
    where
      by : ((x == 34) ≡ true) ⊎ ((x == 34) ≡ false) → (nat_lt x 32 ≡ true) ⊎ (nat_lt x 32 ≡ false) → (x ≡ 34) ⊎ (x < 32)
      by (inl q) l = inl (eqb-true x 34 q)
      by (inr q) (inl l) = inr (ltb-true x 32 l)
      by (inr q) (inr l) =
          not_found (x ∷ [])
          (sym (never x [] xs split)
          ∙ (λ i. cond (q i) (Some []) (cond (ne_eqb x 92 n i) (content after_backslash (34 ∷ []))
          (cond (l i) None (prepend (x ∷ []) (content plain (34 ∷ [])))))))

  pub string_stops : x ≢ 92 → HasNoPart bytes → (0 < length bytes) × ((more : List ℕ) → HasNoPart (bytes ++ more))
  string_stops n none = (some_bytes, λ more. by more (refused n none))
    where
      by : (more : List ℕ) → (x ≡ 34) ⊎ (x < 32) → HasNoPart (bytes ++ more)
      by more (inl q) = no_part_quote x (xs ++ more) (bytes ++ more) (longer more) q
      by more (inr l) = no_part_control x (xs ++ more) (bytes ++ more) (longer more) l

pub string_at_end : (bytes : List ℕ) → length bytes ≡ 0 → GoesOn plain bytes
string_at_end [] e = ([], record { within = omega arith; says = []; reads = λ r. prepend-nil (content plain r) })
string_at_end (x ∷ xs) e = absurd (omega arith)

-- ---- the stop

module _ (s : List ℕ) (n : ℕ) (parts : HasParts s n) where
  abbrev inside : List ℕ
  inside = parts.content

  abbrev rest : List ℕ
  rest = drop parts.count inside

  rest_is : drop n s ≡ rest
  rest_is = ap (drop n) parts.is ∙ ap (λ k. drop k (34 ∷ inside)) (parts.len ∙ one)
    where
      one : 1 + parts.count ≡ suc parts.count
      one = omega arith

  longest : IsLongestClosed s n
  longest =
      subst (λ (l : List ℕ). IsLongestClosed l n) (sym parts.is)
      (subst (IsLongestClosed (34 ∷ inside)) (sym parts.len) (longest_closed inside parts.count parts.reads parts.last))

  reads_longer : (more : List ℕ) → Reads plain (inside ++ more) parts.count
  reads_longer more =
      record {
        within = omega (arith, parts.reads.within, length-append inside more);
        says = parts.reads.says;
        reads = λ r.
            ap (λ (l : List ℕ). content plain (l ++ r)) (take-append-le parts.count inside more parts.reads.within) ∙ parts.reads.reads r;
      }

  dropped : (more : List ℕ) → drop parts.count (inside ++ more) ≡ rest ++ more
  dropped more = drop-append-le parts.count inside more parts.reads.within

  string_begins : GoesOn plain (drop n s) → BeginsString s
  string_begins goes =
      let more = goes.0 in
      let all = inside ++ more in
      let last : Reads plain (drop parts.count all) (length (rest ++ more)) =
      subst (λ (l : List ℕ). Reads plain l (length (rest ++ more))) (sym (dropped more))
      (subst (λ (l : List ℕ). Reads plain (l ++ more) (length (l ++ more))) rest_is goes.1) in
      let reads = reads_more all parts.count (length (rest ++ more)) (reads_longer more) last in
      let count : parts.count + length (rest ++ more) ≡ length all =
      omega (arith, ap length (dropped more), length-drop parts.count all, (reads_longer more).within) in
      let whole : take (parts.count + length (rest ++ more)) all ≡ all = ap (λ k. take k all) count ∙ take-length all in
      let leaf = closed_leaf all reads.says (λ r. ap (λ (l : List ℕ). content plain (l ++ r)) (sym whole) ∙ reads.reads r) in
      (more, ap (λ (l : List ℕ). is_leaf ((l ++ more) ++ 34 ∷ [])) parts.is ∙ leaf)

  never_begins : 0 < length (drop n s) → ((more : List ℕ) → HasNoPart (drop n s ++ more)) → BeginsString s → ⊥
  never_begins some none (more, leaf) =
      let all = 34 ∷ (inside ++ more) in
      let last = subst HasNoPart (ap (λ (l : List ℕ). l ++ more) rest_is ∙ sym (dropped more)) (none more) in
      let long = longest_closed (inside ++ more) parts.count (reads_longer more) last in
      let after : 1 + parts.count < length all =
      omega (arith, some, ap length rest_is, length-drop parts.count inside, length-append inside more) in
      let no = long.longest (length all) after (omega arith) in
      true≢false (sym leaf ∙ ap (λ (l : List ℕ). is_leaf ((l ++ more) ++ 34 ∷ [])) parts.is
      ∙ ap (λ (l : List ℕ). is_leaf (l ++ 34 ∷ [])) (sym (take-length all)) ∙ no)

  pub fault_at_end : GoesOn plain (drop n s) → IsStringFault s (length s) want.Quote
  fault_at_end goes =
      record {
        allowed = n;
        longest = longest;
        goes_on = true;
        begins = (λ t. string_begins goes, λ t. refl);
        place = refl;
        expects = refl;
      }

  pub fault_inside : (0 < length (drop n s)) × ((more : List ℕ) → HasNoPart (drop n s ++ more))
      → IsStringFault s n (expected_in_string (drop n s))
  fault_inside none =
      record {
        allowed = n;
        longest = longest;
        goes_on = false;
        begins = (λ t. absurd (false≢true t), λ t. absurd (never_begins none.0 none.1 t));
        place = refl;
        expects = refl;
      }

-- the stop in a string, by whether it goes on
module _ (s bytes : List ℕ) (n : ℕ) (r : Bool) (is : bytes ≡ s) (parts : HasParts bytes n) (tells : TellsOfString (drop n bytes) r) where
  tells_of : (b : Bool) → r ≡ b → TellsOfString (drop n bytes) b
  tells_of b e = subst (TellsOfString (drop n bytes)) e tells

  no_part : HasNoPart (drop n bytes)
  no_part = subst HasNoPart (sym (rest_is bytes n parts)) parts.last

  pub stops_at_end : r ≡ true → IsStringFault s (length bytes) want.Quote
  stops_at_end e = subst (λ (l : List ℕ). IsStringFault l (length bytes) want.Quote) is (fault_at_end bytes n parts (tells_of true e))

  pub stops_inside : r ≡ false → IsStringFault s n (expected_in_string (drop n bytes))
  stops_inside e =
      subst (λ (l : List ℕ). IsStringFault l n (expected_in_string (drop n bytes))) is
      (fault_inside bytes n parts (tells_of false e no_part))
