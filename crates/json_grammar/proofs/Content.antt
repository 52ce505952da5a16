-- The content of a string, part by part.
use Rattle.std.proofs.Common.{◌≡◌, ◌≢◌, ℕ, suc, ◌+◌, ◌-◌, ◌*◌, ◌<◌, ◌≤◌, ◌==◌, nat_lt, Bool, true, false, cond, ◌&&◌, List, []}
use Rattle.std.proofs.Common.{◌∷◌, ◌++◌, length, take, drop, get_or, Option, Some, None, option_and_then, is_some, refl, sym, ap, ◌∙◌}
use Rattle.std.proofs.Common.{subst, arith, ◌⊎◌, inl, inr}
use Rattle.std.specs.Prelude.{⊤}
use Rattle.std.specs.Char.{digit_value, is_digit, encode_utf8}
use Rattle.std.proofs.lemmas.List.{length-drop}
use Rattle.std.proofs.Math.Seq.{take-length}
use Rattle.json.specs.Text.{plain, after_backslash, after_u, after_high, code_unit, content, prepend, short_escape}
use Rattle.json.specs.Text.{is_high_surrogate, is_low_surrogate, surrogate_pair}
use Rattle.std.proofs.lemmas.Bool.{cases_Bool, false≢true, le-ltb, lt-ltb, ltb-false, ltb-true, ne_eqb, true≢false}
use Rattle.json.proofs.Found.{not_found}
use Rattle.json_grammar.specs.Laws.{StringsStopOnce}
use Rattle.json_grammar.specs.Strings.{HasNoPart, IsLongestClosed, IsStringPart, IsStringFault, NeverCloses, Reads}
use Rattle.json_grammar.specs.Strings.{expected_in_string, first_unit, padded_unit}
use Rattle.json_grammar.specs.declared.expected.Expected.{Expected}
use Rattle.json_grammar.specs.declared.expected.Expected.TheVariants as want

pub string_within : (s : List ℕ) (d : ℕ) (e : Expected) → IsStringFault s d e → d ≤ length s
string_within s d e h = omega (arith, h.place, one_of h.goes_on h.longest.within)
  where
    one_of : (b : Bool) → h.allowed ≤ length s → cond b (length s) h.allowed ≤ length s
    one_of true le = omega arith
    one_of false le = le

-- neither of two stops is before the other
no_less : (s : List ℕ) (n m : ℕ) → IsLongestClosed s n → IsLongestClosed s m → n < m → ⊥
no_less s n m a b less = true≢false (sym b.closed ∙ a.longest m less b.within)

-- two tests of one thing
agree : (x y : Bool) → (x ≡ true → y ≡ true) → (y ≡ true → x ≡ true) → x ≡ y
agree true y f g = sym (f refl)
agree false true f g = g refl
agree false false f g = refl

pub stops_once : StringsStopOnce
stops_once s d other e f a b =
    let same : a.allowed ≡ b.allowed = by (cases_Bool (nat_lt a.allowed b.allowed)) (cases_Bool (nat_lt b.allowed a.allowed)) in
    let both : a.goes_on ≡ b.goes_on = agree a.goes_on b.goes_on (λ x. b.begins.1 (a.begins.0 x)) (λ x. a.begins.1 (b.begins.0 x)) in (
      a.place ∙ (λ i. cond (both i) (length s) (same i)) ∙ sym b.place,
      a.expects ∙ (λ i. cond (both i) want.Quote (expected_in_string (drop (same i) s))) ∙ sym b.expects,
    )
  where
    by : (nat_lt a.allowed b.allowed ≡ true) ⊎ (nat_lt a.allowed b.allowed ≡ false) →
        (nat_lt b.allowed a.allowed ≡ true) ⊎ (nat_lt b.allowed a.allowed ≡ false) → a.allowed ≡ b.allowed
    by (inl l) r = absurd (no_less s a.allowed b.allowed a.longest b.longest (ltb-true a.allowed b.allowed l))
    by (inr l) (inl r) = absurd (no_less s b.allowed a.allowed b.longest a.longest (ltb-true b.allowed a.allowed r))
    by (inr l) (inr r) = omega (arith, ltb-false a.allowed b.allowed l, ltb-false b.allowed a.allowed r)

-- what a slice has from a place on
pub take_rest : (n : ℕ) (xs : List ℕ) → take (length xs - n) (drop n xs) ≡ drop n xs
take_rest n xs = ap (λ k. take k (drop n xs)) (sym (length-drop n xs)) ∙ take-length (drop n xs)

-- ---- digits

and_false : (b : Bool) → (b && false) ≡ false
and_false true = refl
and_false false = refl

-- a quote is none
unit_quote : (a b c : ℕ) → code_unit a b c 34 ≡ None
unfolding code_unit
unit_quote a b c = ap (λ t. cond t (Some (digit_value a * 4096 + digit_value b * 256 + digit_value c * 16 + digit_value 34)) None)
    (and_false (is_digit a 16 && is_digit b 16 && is_digit c 16))

pub unit_at : (bytes : List ℕ) → 4 ≤ length bytes
    → first_unit bytes ≡ padded_unit bytes 48 48
unit_at [] h = absurd (omega arith)
unit_at (a ∷ []) h = absurd (omega arith)
unit_at (a ∷ b ∷ []) h = absurd (omega arith)
unit_at (a ∷ b ∷ c ∷ []) h = absurd (omega arith)
unit_at (a ∷ b ∷ c ∷ d ∷ xs) h = refl

pub no_unit : (bytes : List ℕ) → length bytes < 4 → first_unit bytes ≡ None
no_unit [] h = refl
no_unit (a ∷ []) h = refl
no_unit (a ∷ b ∷ []) h = refl
no_unit (a ∷ b ∷ c ∷ []) h = refl
no_unit (a ∷ b ∷ c ∷ d ∷ xs) h = absurd (omega arith)

-- ---- the second half of a surrogate pair

abbrev pub if_low : ℕ → Option ℕ
if_low l = cond (is_low_surrogate l) (Some l) None

-- the code unit of such an escape, with which these bytes begin
abbrev pub second_unit : List ℕ → Option ℕ
second_unit [] = None
second_unit (s ∷ []) = None
second_unit (s ∷ u ∷ xs) = cond ((s == 92) && (u == 117)) (option_and_then if_low (first_unit xs)) None

module _ (f : ℕ → Option (List ℕ)) where
  abbrev low_then : ℕ → Option (List ℕ)
  low_then l = cond (is_low_surrogate l) (f l) None

  none_low : (t : Bool) (l : ℕ) → cond t (Some l) None ≡ None → cond t (f l) None ≡ None
  none_low true l e = not_found l (sym e)
  none_low false l e = refl

  none_then : (t : Bool) (o : Option ℕ) → cond t (option_and_then if_low o) None ≡ None → cond t (option_and_then low_then o) None ≡ None
  none_then true None e = refl
  none_then true (Some l) e = none_low (is_low_surrogate l) l e
  none_then false o e = refl

  some_low : (t : Bool) (l u : ℕ) → cond t (Some l) None ≡ Some u → cond t (f l) None ≡ f u
  some_low true l u e = cc
  some_low false l u e = not_found u e

  some_then : (t : Bool) (o : Option ℕ) (u : ℕ) → cond t (option_and_then if_low o) None ≡ Some u
      → cond t (option_and_then low_then o) None ≡ f u
  some_then true None u e = not_found u e
  some_then true (Some l) u e = some_low (is_low_surrogate l) l u e
  some_then false o u e = not_found u e

-- what a pair stands for, and then the rest
abbrev paired : ℕ → List ℕ → ℕ → Option (List ℕ)
paired h xs l = prepend (encode_utf8 (surrogate_pair h l)) (content plain xs)

no_half : (h : ℕ) (front rest : List ℕ) → second_unit (front ++ rest) ≡ None → content (after_high h) (front ++ 34 ∷ []) ≡ None
unfolding content
no_half h [] rest none = refl
no_half h (s ∷ []) rest none = refl
no_half h (s ∷ u ∷ []) rest none = refl
no_half h (s ∷ u ∷ a ∷ []) rest none = refl
no_half h (s ∷ u ∷ a ∷ b ∷ []) rest none = refl
no_half h (s ∷ u ∷ a ∷ b ∷ c ∷ []) rest none = closed ((s == 92) && (u == 117)) (code_unit a b c 34) (unit_quote a b c)
  where
    closed : (t : Bool) (o : Option ℕ) → o ≡ None
        → cond t (option_and_then (low_then (paired h [])) o) None ≡ None
    closed true o e = ap (option_and_then _) e
    closed false o e = refl
no_half h (s ∷ u ∷ a ∷ b ∷ c ∷ d ∷ xs) rest none =
    none_then (paired h (xs ++ 34 ∷ [])) ((s == 92) && (u == 117)) (code_unit a b c d) none

pub never_half : (h : ℕ) (bytes : List ℕ) → second_unit bytes ≡ None → NeverCloses (after_high h) bytes
never_half h bytes none front rest is = no_half h front rest (ap second_unit (sym is) ∙ none)

no_unit_then : (t : Bool) (u : ℕ) → cond t None None ≡ Some u → ⊥
no_unit_then true u e = not_found u e
no_unit_then false u e = not_found u e

-- by what the bytes are
pub unit_of : (x y : ℕ) (xs rest bytes : List ℕ) → bytes ≡ x ∷ rest → rest ≡ y ∷ xs
    → second_unit bytes ≡ cond ((x == 92) && (y == 117)) (option_and_then if_low (first_unit xs)) None
unit_of x y xs rest bytes is rest_is = ap second_unit (is ∙ ap (λ (l : List ℕ). x ∷ l) rest_is)

pub none_of : (x y : ℕ) (xs rest bytes : List ℕ) → bytes ≡ x ∷ rest → rest ≡ y ∷ xs → first_unit xs ≡ None → second_unit bytes ≡ None
none_of x y xs rest bytes is rest_is none =
    unit_of x y xs rest bytes is rest_is ∙ ap (λ o. cond ((x == 92) && (y == 117)) (option_and_then if_low o) None) none
    ∙ either ((x == 92) && (y == 117))
  where
    either : (t : Bool) → ◌≡◌ {A = Option ℕ} (cond t None None) None
    either true = refl
    either false = refl

pub if_all : (x y u : ℕ) (xs rest bytes : List ℕ) → bytes ≡ x ∷ rest → rest ≡ y ∷ xs → first_unit xs ≡ Some u
    → second_unit bytes ≡ cond ((x == 92) && (y == 117) && is_low_surrogate u) (Some u) None
if_all x y u xs rest bytes is rest_is some =
    unit_of x y xs rest bytes is rest_is ∙ ap (λ o. cond ((x == 92) && (y == 117)) (option_and_then if_low o) None) some
    ∙ both ((x == 92) && (y == 117)) (is_low_surrogate u)
  where
    both : (t l : Bool) → cond t (cond l (Some u) None) None ≡ cond (t && l) (Some u) None
    both true l = refl
    both false l = refl

pub no_second : (bytes : List ℕ) → length bytes ≡ 0 → second_unit bytes ≡ None
no_second [] e = refl
no_second (x ∷ xs) e = absurd (omega arith)

pub one_alone : (x : ℕ) (rest bytes : List ℕ) → bytes ≡ x ∷ rest → length rest ≡ 0 → second_unit bytes ≡ None
one_alone x [] bytes is e = ap second_unit is
one_alone x (y ∷ ys) bytes is e = absurd (omega arith)

pub reads_half : (h u : ℕ) (bytes : List ℕ) → second_unit bytes ≡ Some u → Reads (after_high h) bytes 6
unfolding content
reads_half h v [] e = not_found v e
reads_half h v (s ∷ []) e = not_found v e
reads_half h v (s ∷ u ∷ []) e = absurd (no_unit_then _ v e)
reads_half h v (s ∷ u ∷ a ∷ []) e = absurd (no_unit_then _ v e)
reads_half h v (s ∷ u ∷ a ∷ b ∷ []) e = absurd (no_unit_then _ v e)
reads_half h v (s ∷ u ∷ a ∷ b ∷ c ∷ []) e = absurd (no_unit_then _ v e)
reads_half h v (s ∷ u ∷ a ∷ b ∷ c ∷ d ∷ xs) e =
    record {
      within = omega arith;
      says = encode_utf8 (surrogate_pair h v);
      reads = λ r. some_then (paired h r) ((s == 92) && (u == 117)) (code_unit a b c d) v e;
    }

-- ---- an escape by number

-- what follows its digits, by whether they are one half of a pair or the other
abbrev pub unit_by : Bool → Bool → List ℕ → ℕ → Option (List ℕ)
unit_by high low xs u = cond high (content (after_high u) xs) (cond low None (prepend (encode_utf8 u) (content plain xs)))

abbrev pub unit_then : List ℕ → ℕ → Option (List ℕ)
unit_then xs u = unit_by (is_high_surrogate u) (is_low_surrogate u) xs u

no_digits : (front rest : List ℕ) → first_unit (front ++ rest) ≡ None → content after_u (front ++ 34 ∷ []) ≡ None
unfolding content
no_digits [] rest none = refl
no_digits (a ∷ []) rest none = refl
no_digits (a ∷ b ∷ []) rest none = refl
no_digits (a ∷ b ∷ c ∷ []) rest none = ap (option_and_then (unit_then [])) (unit_quote a b c)
no_digits (a ∷ b ∷ c ∷ d ∷ xs) rest none = ap (option_and_then (unit_then (xs ++ 34 ∷ []))) none

pub never_digits : (bytes : List ℕ) → first_unit bytes ≡ None → NeverCloses after_u bytes
never_digits bytes none front rest is = no_digits front rest (ap first_unit (sym is) ∙ none)

-- where no quote closes a string after its digits and more
no_more : (u : ℕ) (front rest : List ℕ) → first_unit (front ++ rest) ≡ Some u
    → ((xs : List ℕ) → drop 4 (front ++ rest) ≡ xs ++ rest → unit_then (xs ++ 34 ∷ []) u ≡ None) → content after_u (front ++ 34 ∷ []) ≡ None
unfolding content
no_more u [] rest some none = refl
no_more u (a ∷ []) rest some none = refl
no_more u (a ∷ b ∷ []) rest some none = refl
no_more u (a ∷ b ∷ c ∷ []) rest some none = ap (option_and_then (unit_then [])) (unit_quote a b c)
no_more u (a ∷ b ∷ c ∷ d ∷ xs) rest some none = ap (option_and_then (unit_then (xs ++ 34 ∷ []))) some ∙ none xs refl

pub never_low : (u : ℕ) (bytes : List ℕ) → first_unit bytes ≡ Some u → is_high_surrogate u ≡ false → is_low_surrogate u ≡ true
    → NeverCloses after_u bytes
never_low u bytes some high low front rest is =
    no_more u front rest (ap first_unit (sym is) ∙ some)
    (λ xs e. λ i. unit_by (high i) (low i) (xs ++ 34 ∷ []) u)

pub never_high : (u : ℕ) (bytes : List ℕ) → first_unit bytes ≡ Some u → is_high_surrogate u ≡ true
    → NeverCloses (after_high u) (drop 4 bytes) → NeverCloses after_u bytes
never_high u bytes some high never front rest is =
    no_more u front rest (ap first_unit (sym is) ∙ some)
    (λ xs e.
    ap (λ t. unit_by t (is_low_surrogate u) (xs ++ 34 ∷ []) u) high
    ∙ never xs rest (ap (drop 4) is ∙ e))

pub reads_unit : (u : ℕ) (bytes : List ℕ) → first_unit bytes ≡ Some u → is_high_surrogate u ≡ false → is_low_surrogate u ≡ false
    → Reads after_u bytes 4
unfolding content
reads_unit u [] some high low = not_found u some
reads_unit u (a ∷ []) some high low = not_found u some
reads_unit u (a ∷ b ∷ []) some high low = not_found u some
reads_unit u (a ∷ b ∷ c ∷ []) some high low = not_found u some
reads_unit u (a ∷ b ∷ c ∷ d ∷ xs) some high low =
    record {
      within = omega arith;
      says = encode_utf8 u;
      reads = λ r. ap (option_and_then (unit_then r)) some
          ∙ (λ i. unit_by (high i) (low i) r u);
    }

pub reads_pair : (u k : ℕ) (bytes : List ℕ) → first_unit bytes ≡ Some u → is_high_surrogate u ≡ true → Reads (after_high u) (drop 4 bytes) k
    → Reads after_u bytes (4 + k)
unfolding content
reads_pair u k [] some high half = not_found u some
reads_pair u k (a ∷ []) some high half = not_found u some
reads_pair u k (a ∷ b ∷ []) some high half = not_found u some
reads_pair u k (a ∷ b ∷ c ∷ []) some high half = not_found u some
reads_pair u k (a ∷ b ∷ c ∷ d ∷ xs) some high half =
    let longer : 4 + k ≡ suc (suc (suc (suc k))) = omega arith in
    record {
      within = omega (arith, half.within);
      says = half.says;
      reads = λ r.
          ap (λ n. content after_u (take n (a ∷ b ∷ c ∷ d ∷ xs) ++ r)) longer
          ∙ ap (option_and_then (unit_then (take k xs ++ r))) some
          ∙ ap (λ t. unit_by t (is_low_surrogate u) (take k xs ++ r) u) high
          ∙ half.reads r;
    }

-- ---- an escape

abbrev IsNoEscape : List ℕ → Type 0
IsNoEscape [] = ⊤
IsNoEscape (x ∷ xs) = ((x ≡ 117) × NeverCloses after_u xs) ⊎ (((x == 117) ≡ false) × (short_escape x ≡ None))

no_escape : (front rest : List ℕ) → IsNoEscape (front ++ rest) → content after_backslash (front ++ 34 ∷ []) ≡ None
unfolding content short_escape
no_escape [] rest none = refl
no_escape (x ∷ xs) rest (inl (u, never)) = ap (λ y. content after_backslash (y ∷ (xs ++ 34 ∷ []))) u ∙ never xs rest refl
no_escape (x ∷ xs) rest (inr (u, none)) =
    λ i. cond (u i) (content after_u (xs ++ 34 ∷ [])) (option_and_then (λ c. prepend (c ∷ []) (content plain (xs ++ 34 ∷ []))) (none i))

pub never_ended : (bytes : List ℕ) → length bytes ≡ 0 → NeverCloses after_backslash bytes
never_ended [] h front rest is = no_escape front rest (subst IsNoEscape is tt)
never_ended (x ∷ xs) h front rest is = absurd (omega arith)

module _ (x : ℕ) (xs bytes : List ℕ) (split : bytes ≡ x ∷ xs) where
  pub never_number : x ≡ 117 → NeverCloses after_u xs → NeverCloses after_backslash bytes
  never_number u never front rest is = no_escape front rest (subst IsNoEscape (sym split ∙ is) (inl (u, never)))

  pub never_short : x ≢ 117 → is_some (short_escape x) ≡ false → NeverCloses after_backslash bytes
  never_short u none front rest is =
      no_escape front rest (subst IsNoEscape (sym split ∙ is) (inr (ne_eqb x 117 u, is_none (short_escape x) none)))
    where
      is_none : (o : Option ℕ) → is_some o ≡ false → o ≡ None
      is_none None e = refl
      is_none (Some c) e = absurd (true≢false e)

  pub reads_number : (k : ℕ) → x ≡ 117 → Reads after_u xs k → Reads after_backslash bytes (1 + k)
  unfolding content
  reads_number k u number =
      let longer : 1 + k ≡ suc k = omega arith in
      record {
        within = omega (arith, number.within, ap length split);
        says = number.says;
        reads = λ r.
            ap (λ (l : List ℕ). content after_backslash (take (1 + k) l ++ r)) split
            ∙ ap (λ n. content after_backslash (take n (x ∷ xs) ++ r)) longer
            ∙ ap (λ y. content after_backslash (y ∷ (take k xs ++ r))) u
            ∙ number.reads r;
      }

  pub reads_short : x ≢ 117 → is_some (short_escape x) ≡ true → Reads after_backslash bytes 1
  unfolding content
  reads_short u some = by (short_escape x) refl some
    where
      by : (o : Option ℕ) → short_escape x ≡ o → is_some o ≡ true → Reads after_backslash bytes 1
      by None e some = absurd (false≢true some)
      by (Some c) e some =
          record {
            within = omega (arith, ap length split);
            says = c ∷ [];
            reads = λ r.
                ap (λ (l : List ℕ). content after_backslash (take 1 l ++ r)) split
                ∙ (λ i. cond (ne_eqb x 117 u i) (content after_u r) (option_and_then (λ d. prepend (d ∷ []) (content plain r)) (e i)));
          }

  -- ---- a part

  pub no_part_escape : x ≡ 92 → NeverCloses after_backslash xs → HasNoPart bytes
  unfolding content
  no_part_escape b never = inr (λ y front rest is.
      let here : y ∷ (front ++ rest) ≡ x ∷ xs = sym is ∙ split in
      let first : y ≡ 92 = ap (λ (l : List ℕ). get_or l 0 0) here ∙ b in
      ap (λ z. content plain (z ∷ (front ++ 34 ∷ []))) first ∙ never front rest (sym (ap (drop 1) here)))

  pub no_part_quote : x ≡ 34 → HasNoPart bytes
  no_part_quote q = inl (ap (λ (l : List ℕ). get_or l 0 32) split ∙ q)

  pub no_part_control : x < 32 → HasNoPart bytes
  unfolding content
  no_part_control low = inr (λ y front rest is.
      let first : y ≡ x = ap (λ (l : List ℕ). get_or l 0 0) (sym is ∙ split) in
      ap (λ z. content plain (z ∷ (front ++ 34 ∷ []))) first
      ∙ (λ i. cond (ne_eqb x 34 (λ z. omega arith) i) (Some [])
      (cond (ne_eqb x 92 (λ z. omega arith) i) (content after_backslash (front ++ 34 ∷ []))
      (cond (lt-ltb x 32 low i) None (prepend (x ∷ []) (content plain (front ++ 34 ∷ [])))))))

  pub part_escape : (k : ℕ) → x ≡ 92 → Reads after_backslash xs k → IsStringPart bytes (1 + k)
  unfolding content
  part_escape k b escape =
      let longer : 1 + k ≡ suc k = omega arith in
      record {
        some = omega arith;
        reads = record {
          within = omega (arith, escape.within, ap length split);
          says = escape.says;
          reads = λ r.
              ap (λ (l : List ℕ). content plain (take (1 + k) l ++ r)) split
              ∙ ap (λ n. content plain (take n (x ∷ xs) ++ r)) longer
              ∙ ap (λ y. content plain (y ∷ (take k xs ++ r))) b
              ∙ escape.reads r;
        };
      }

  pub part_byte : x ≢ 92 → x ≢ 34 → 32 ≤ x → IsStringPart bytes 1
  unfolding content
  part_byte b q high =
      record {
        some = omega arith;
        reads = record {
          within = omega (arith, ap length split);
          says = x ∷ [];
          reads = λ r.
              ap (λ (l : List ℕ). content plain (take 1 l ++ r)) split
              ∙ (λ i. cond (ne_eqb x 34 q i) (Some []) (cond (ne_eqb x 92 b i) (content after_backslash r)
              (cond (le-ltb x 32 high i) None (prepend (x ∷ []) (content plain r)))));
        };
      }
