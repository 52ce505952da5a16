-- How the width of a list that is open grows, piece by piece.
use Rattle.std.proofs.Common.{◌≡◌, ℕ, ◌+◌, ◌-◌, ◌<◌, ◌≤◌, Bool, true, false, inl, inr, nat_le, refl, sym, ◌∙◌, ap, arith, add_assoc}
use Rattle.std.proofs.Common.{List, [], ◌∷◌, length, ◌&&◌, Option, Some, None}
use Rattle.std.specs.Prelude.{if◌then◌else◌}
use Rattle.std.proofs.lemmas.Bool.{le-leb, lt-leb, cases_lt, cases_Bool}
use Rattle.std.proofs.lemmas.Grind.{common_steps}
use Rattle.prettyless_model.specs.Metrics.{text_width}
use Rattle.json_formatter.specs.Documents.{opens, closes, greatest_width}
use Rattle.json_formatter.specs.Flat.{piece_columns, piece_width, wider}
use Rattle.json_formatter.specs.Window.{comma_columns, width_with_comma, IsLast, IsUnclosed, IsWidthUpTo}

wider_twice : (a b : ℕ) (o : Option ℕ) → wider a (wider b o) ≡ wider (a + b) o
wider_twice a b None = refl
wider_twice a b (Some n) = ap Some (sym (add_assoc a b n))

pub wider_none : (o : Option ℕ) → wider 0 o ≡ o
wider_none None = refl
wider_none (Some n) = ap Some (omega arith)

-- a piece's columns more
pub wider_more : (a b c : ℕ) (o : Option ℕ) → a ≤ b → wider (b - a) (wider c o) ≡ wider (b + c - a) o
wider_more a b c o h =
    let e : b - a + c ≡ b + c - a = omega arith in
    wider_twice (b - a) c o ∙ ap (λ k. wider k o) e

pub within_wider : (a w : ℕ) (o : Option ℕ) → wider a o ≡ Some w → a ≤ w
within_wider a w None e = cc
within_wider a w (Some n) e = let h : a + n ≡ w = cc in omega arith

pub past_wider : (a w : ℕ) (o : Option ℕ) → wider a o ≡ Some w → (v : ℕ) × (o ≡ Some v) × (a + v ≡ w)
past_wider a w None e = cc
past_wider a w (Some n) e = (n, refl, cc)

pub at_plain : (compact : Bool) (n : ℕ) (s : List ℕ) (ss : List (List ℕ)) → opens s ≡ false → closes s ≡ false
    → width_with_comma compact n (s ∷ ss) ≡ wider (piece_columns compact s ss) (width_with_comma compact n ss)
at_plain compact n s ss o c = rw (o, c) refl

pub at_opening : (compact : Bool) (n : ℕ) (s : List ℕ) (ss : List (List ℕ)) → opens s ≡ true
    → width_with_comma compact n (s ∷ ss) ≡ wider (piece_columns compact s ss) (width_with_comma compact (n + 1) ss)
at_opening compact n s ss o = rw o refl

pub at_closing : (compact : Bool) (n : ℕ) (s : List ℕ) (ss : List (List ℕ)) → opens s ≡ false → closes s ≡ true → 1 < n
    → width_with_comma compact n (s ∷ ss) ≡ wider (piece_columns compact s ss) (width_with_comma compact (n - 1) ss)
at_closing compact n s ss o c h =
    let e : nat_le n 1 ≡ false = lt-leb n 1 h in
    rw (o, c, e) refl

pub at_last : (compact : Bool) (n : ℕ) (s : List ℕ) (ss : List (List ℕ)) → opens s ≡ false → closes s ≡ true → n ≤ 1
    → width_with_comma compact n (s ∷ ss) ≡ Some (piece_columns compact s ss + comma_columns ss)
at_last compact n s ss o c h =
    let e : nat_le n 1 ≡ true = le-leb n 1 h in
    rw (o, c, e) refl

-- a piece that opens a list takes a column at least
pub opens_wide : (compact : Bool) (s : List ℕ) (ss : List (List ℕ)) → opens s ≡ true → 1 ≤ piece_columns compact s ss
opens_wide compact [] ss o = cc
opens_wide compact (b ∷ []) ss o =
    let wide : 1 ≤ text_width (b ∷ []) = grind (arith, common_steps) in
    let same : piece_width (b ∷ []) ≡ text_width (b ∷ []) = λ i. if o i && false then greatest_width else text_width (b ∷ []) in
    omega (arith, wide, same)
opens_wide compact (b ∷ c ∷ bs) ss o =
    let long : nat_le 2 (length (b ∷ c ∷ bs)) ≡ true = le-leb 2 (length (b ∷ c ∷ bs)) (omega arith) in
    let same : piece_width (b ∷ c ∷ bs) ≡ greatest_width = λ i. if o i && long i then greatest_width else text_width (b ∷ c ∷ bs) in
    omega (arith, same)

-- the next piece is part of the width
at_least : (compact : Bool) (n w : ℕ) (s : List ℕ) (ss : List (List ℕ)) → width_with_comma compact n (s ∷ ss) ≡ Some w
    → piece_columns compact s ss ≤ w
at_least compact n w s ss e = elim (cases_Bool (opens s)) [
  | inl o ↦ within_wider (piece_columns compact s ss) w (width_with_comma compact (n + 1) ss) (sym (at_opening compact n s ss o) ∙ e)
  | inr o ↦ elim (cases_Bool (closes s)) [
    | inl c ↦ elim (cases_lt 1 n) [
      | inl more ↦
          within_wider (piece_columns compact s ss) w (width_with_comma compact (n - 1) ss) (sym (at_closing compact n s ss o c more) ∙ e)
      | inr last ↦
          let both = sym (at_last compact n s ss o c last) ∙ e in
          let h : piece_columns compact s ss + comma_columns ss ≡ w = cc in
          omega arith
    ]
    | inr c ↦ within_wider (piece_columns compact s ss) w (width_with_comma compact n ss) (sym (at_plain compact n s ss o c) ∙ e)
  ]
]

-- ---- a list that is not closed yet

pub unclosed_plain : (compact : Bool) (rest : List (List ℕ)) (start t n : ℕ) (s : List ℕ) (ss : List (List ℕ))
    → IsUnclosed compact rest start t n (s ∷ ss) → opens s ≡ false → closes s ≡ false
    → IsUnclosed compact rest start (t + piece_columns compact s ss) n ss
unclosed_plain compact rest start t n s ss u o c = record {
  begun = let h = u.begun in omega arith;
  width = u.width ∙ ap (wider (t - start)) (at_plain compact n s ss o c)
      ∙ wider_more start t (piece_columns compact s ss) (width_with_comma compact n ss) u.begun;
}

pub unclosed_opening : (compact : Bool) (rest : List (List ℕ)) (start t n : ℕ) (s : List ℕ) (ss : List (List ℕ))
    → IsUnclosed compact rest start t n (s ∷ ss) → opens s ≡ true
    → IsUnclosed compact rest start (t + piece_columns compact s ss) (n + 1) ss
unclosed_opening compact rest start t n s ss u o = record {
  begun = let h = u.begun in omega arith;
  width = u.width ∙ ap (wider (t - start)) (at_opening compact n s ss o)
      ∙ wider_more start t (piece_columns compact s ss) (width_with_comma compact (n + 1) ss) u.begun;
}

pub unclosed_closing : (compact : Bool) (rest : List (List ℕ)) (start t n : ℕ) (s : List ℕ) (ss : List (List ℕ))
    → IsUnclosed compact rest start t n (s ∷ ss) → opens s ≡ false → closes s ≡ true → 1 < n
    → IsUnclosed compact rest start (t + piece_columns compact s ss) (n - 1) ss
unclosed_closing compact rest start t n s ss u o c h = record {
  begun = let b = u.begun in omega arith;
  width = u.width ∙ ap (wider (t - start)) (at_closing compact n s ss o c h)
      ∙ wider_more start t (piece_columns compact s ss) (width_with_comma compact (n - 1) ss) u.begun;
}

pub closed_width : (compact : Bool) (rest : List (List ℕ)) (start t n : ℕ) (s : List ℕ) (ss : List (List ℕ))
    → IsUnclosed compact rest start t n (s ∷ ss) → opens s ≡ false → closes s ≡ true → n ≤ 1
    → width_with_comma compact 1 rest ≡ Some (t + piece_columns compact s ss - start + comma_columns ss)
closed_width compact rest start t n s ss u o c h =
    let b = u.begun in
    let comma = comma_columns ss in
    let e : t - start + (piece_columns compact s ss + comma) ≡ t + piece_columns compact s ss - start + comma = omega arith in
    u.width ∙ ap (wider (t - start)) (at_last compact n s ss o c h) ∙ ap Some e

-- the next piece is too wide
pub too_wide : (compact : Bool) (rest : List (List ℕ)) (start t n most : ℕ) (s : List ℕ) (ss : List (List ℕ))
    → IsUnclosed compact rest start t n (s ∷ ss) → most < t - start + piece_columns compact s ss → IsWidthUpTo compact most rest None
too_wide compact rest start t n most s ss u past = λ w is.
    let h = sym u.width ∙ is in
    let fits = past_wider (t - start) w (width_with_comma compact n (s ∷ ss)) h in
    let least : piece_columns compact s ss ≤ fits.0 = at_least compact n fits.0 s ss fits.1 in
    let sum : t - start + fits.0 ≡ w = fits.2 in
    omega arith

-- none is left, or the next piece is as wide as is counted
pub last_wide : (compact : Bool) (rest : List (List ℕ)) (start t n most : ℕ) (left : List (List ℕ))
    → IsUnclosed compact rest start t n left → IsLast compact left → most < greatest_width → IsWidthUpTo compact most rest None
last_wide compact rest start t n most [] u last narrow = λ w is.
    let none : None ≡ Some w = sym u.width ∙ is in
    cc
last_wide compact rest start t n most (s ∷ ss) u last narrow = too_wide compact rest start t n most s ss u (omega (arith, last, narrow))
