-- Reading a list from the left: each value is the only one that can be there.
use Rattle.std.proofs.Common.{◌≡◌, ℕ, ◌<◌, ◌≤◌, true, List, [], ◌∷◌, ◌++◌, refl, sym, ap, subst, ◌∙◌, append_assoc, arith, ◌⊎◌, inl, inr}
use Rattle.std.specs.Char.{digit_value, is_ascii_digit}
use Rattle.std.specs.Str.Parse.{IsNumeral}
use Rattle.std.proofs.lemmas.Bool.Decides.{nat_tests}
use Rattle.std.proofs.lemmas.Str.Parse.{digit_from_value}
use Rattle.sexp.specs.Value.{SexpValue, Values, number, list, none, first, depth_of_all, values_before}
use Rattle.sexp.specs.Grammar.{opening, closing, input_space, AreSpaced}
use Rattle.sexp.specs.Fronts.{EndsNumber, BeginsValue, Closes, IsFront, HasNoFront, IsListFront, HasNoListFront}

head_is : (a b : ℕ) (xs ys : List ℕ) → a ∷ xs ≡ b ∷ ys → a ≡ b
head_is a b xs ys e = cc

tail_is : (a b : ℕ) (xs ys : List ℕ) → a ∷ xs ≡ b ∷ ys → xs ≡ ys
tail_is a b xs ys e = cc

space_or_closing : (xs ys : List ℕ) → input_space ∷ xs ≡ closing ∷ ys → ⊥
space_or_closing xs ys e = let same = head_is input_space closing xs ys e in omega arith

-- ---- the parts of a list

-- the values after the first, up to the parenthesis
abbrev Follows : Values → List ℕ → List ℕ → Type 0
Follows vs bytes rest = (text : List ℕ) × (bytes ≡ text ++ closing ∷ rest) × AreSpaced vs text

-- a list opens
pub opens : (vs : Values) (bytes rest : List ℕ) → BeginsValue (list vs) bytes rest → (inner : List ℕ) × (bytes ≡ opening ∷ inner)
    × Closes vs inner rest
opens vs bytes rest h =
    let inner = h.2.0 in (
      inner ++ closing ∷ rest,
      h.1 ∙ ap (λ (x : List ℕ). x ++ rest) h.2.1 ∙ ap (λ (x : List ℕ). opening ∷ x)
          (append_assoc inner (closing ∷ []) rest),
      (inner, refl, h.2.2),
    )

pub opened : (vs : Values) (inner rest : List ℕ) → Closes vs inner rest → BeginsValue (list vs) (opening ∷ inner) rest
opened vs inner rest h =
    (opening ∷ h.0 ++ closing ∷ [], ap (λ (x : List ℕ). opening ∷ x) (h.1 ∙ sym (append_assoc h.0 (closing ∷ []) rest)), (h.0, refl, h.2))

-- a list without values closes at once
closes_none : (bytes rest : List ℕ) → Closes none bytes rest → bytes ≡ closing ∷ rest
closes_none bytes rest h = h.1 ∙ ap (λ (x : List ℕ). x ++ closing ∷ rest) h.2

-- the first value, and what follows it
split_first : (v : SexpValue) (vs : Values) (bytes rest : List ℕ) → Closes (first v vs) bytes rest →
    (middle : List ℕ) × BeginsValue v bytes middle
    × Follows vs middle rest
split_first v vs bytes rest h =
    let front = h.2.0 in
    let back = h.2.1 in (
      back ++ closing ∷ rest,
      (
        front,
        h.1 ∙ ap (λ (x : List ℕ). x ++ closing ∷ rest) h.2.2 ∙ append_assoc front back (closing ∷ rest),
        h.2.3,
      ),
      (back, refl, h.2.4),
    )

join_first : (v : SexpValue) (vs : Values) (bytes middle rest : List ℕ) → BeginsValue v bytes middle → Follows vs middle rest
    → Closes (first v vs) bytes rest
join_first v vs bytes middle rest b f =
    (b.0 ++ f.0, b.1 ∙ ap (λ (x : List ℕ). b.0 ++ x) f.1 ∙ sym (append_assoc b.0 f.0 (closing ∷ rest)), (b.0, f.0, refl, b.2, f.2))

follows_none : (bytes rest : List ℕ) → Follows none bytes rest → bytes ≡ closing ∷ rest
follows_none bytes rest h = h.1 ∙ ap (λ (x : List ℕ). x ++ closing ∷ rest) h.2

-- after a value that others follow a space comes
split_space : (v : SexpValue) (vs : Values) (bytes rest : List ℕ) → Follows (first v vs) bytes rest →
    (inner : List ℕ) × (bytes ≡ input_space ∷ inner)
    × Closes (first v vs) inner rest
split_space v vs bytes rest h =
    let front = h.2.0 in
    let back = h.2.1 in (
      (front ++ back) ++ closing ∷ rest,
      h.1 ∙ ap (λ (x : List ℕ). x ++ closing ∷ rest) h.2.2,
      (front ++ back, refl, (front, back, refl, h.2.3, h.2.4)),
    )

join_space : (v : SexpValue) (vs : Values) (inner rest : List ℕ) → Closes (first v vs) inner rest →
    Follows (first v vs) (input_space ∷ inner) rest
join_space v vs inner rest h =
    (input_space ∷ h.0, ap (λ (x : List ℕ). input_space ∷ x) h.1, (h.2.0, h.2.1, ap (λ (x : List ℕ). input_space ∷ x) h.2.2, h.2.3, h.2.4))

-- what follows a value of a list is a space or the parenthesis, and no digit
ends_number : (vs : Values) (bytes rest : List ℕ) → Follows vs bytes rest → EndsNumber bytes
ends_number none bytes rest h = subst EndsNumber (sym (follows_none bytes rest h)) refl
ends_number (first v vs) bytes rest h = let s = split_space v vs bytes rest h in subst EndsNumber (sym s.1) refl

-- ---- the first byte

digit_is : (c : ℕ) → digit_value c < 10 → is_ascii_digit c ≡ true
digit_is c lt = let range = digit_from_value c lt in grind (arith, nat_tests)

-- a text of digits begins with one
pub first_digit : (text rest : List ℕ) → IsNumeral 10 text → (b : ℕ) × (bs : List ℕ) × (text ++ rest ≡ b ∷ bs) × (is_ascii_digit b ≡ true)
first_digit [] rest h = absurd (omega (arith, h.0))
first_digit (b ∷ bs) rest h = (b, bs ++ rest, refl, digit_is b h.1.0)

-- a value begins with a digit or an opening parenthesis
pub first_byte : (v : SexpValue) (bytes rest : List ℕ) → BeginsValue v bytes rest → (b : ℕ) × (bs : List ℕ) × (bytes ≡ b ∷ bs)
    × ((is_ascii_digit b ≡ true) ⊎ (b ≡ opening))
first_byte (number n) bytes rest h = let f = first_digit h.0 rest h.2.0.0 in (f.0, f.1, h.1 ∙ f.2, inl f.3)
first_byte (list vs) bytes rest h = let o = opens vs bytes rest h in (opening, o.0, o.1, inr refl)

begins_value : (b : ℕ) → closing ≡ b → (is_ascii_digit b ≡ true) ⊎ (b ≡ opening) → ⊥
begins_value b e (inl digit) = grind (arith, nat_tests)
begins_value b e (inr open_) = omega arith

not_closing : (v : SexpValue) (bytes rest : List ℕ) → BeginsValue v (closing ∷ bytes) rest → ⊥
not_closing v bytes rest h =
    let f = first_byte v (closing ∷ bytes) rest h in
    begins_value f.0 (head_is closing f.0 bytes f.1 f.2) f.3

-- ---- a list that is being read

-- one value or more come, and then the parenthesis
abbrev pub GoesOn : Values → List ℕ → List ℕ → Type 0
GoesOn none bytes rest = ⊥
GoesOn (first v vs) bytes rest = Closes (first v vs) bytes rest

-- these values were read, and what the bytes of the list are depends on what the rest goes on with
pub record IsUnderWay (levels : ℕ) (bytes : List ℕ) (read : List SexpValue) (rest : List ℕ) : Type 0 where
  pub found : (vs : Values) (other : List ℕ) → GoesOn vs rest other → depth_of_all vs ≤ levels → Closes (values_before read vs) bytes other
      × (depth_of_all (values_before read vs) ≤ levels)
  pub only : (ws : Values) (other : List ℕ) → Closes ws bytes other → depth_of_all ws ≤ levels →
      (vs : Values) × (ws ≡ values_before read vs)
      × GoesOn vs rest other × (depth_of_all vs ≤ levels)

joined_more : (read : List SexpValue) (v : SexpValue) (vs : Values) → values_before (read ++ v ∷ []) vs ≡ values_before read (first v vs)
joined_more [] v vs = refl
joined_more (w ∷ ws) v vs = ap (first w) (joined_more ws v vs)

-- the list closes at once
empty_only : (levels : ℕ) (rest : List ℕ) (ws : Values) (other : List ℕ) → Closes ws (closing ∷ rest) other → depth_of_all ws ≤ levels
    → (ws ≡ none) × (other ≡ rest)
empty_only levels rest none other c d = (refl, sym (tail_is closing closing rest other (closes_none (closing ∷ rest) other c)))
empty_only levels rest (first w ws) other c d = let s = split_first w ws (closing ∷ rest) other c in absurd (not_closing w rest s.0 s.1)

pub list_is_empty : (levels : ℕ) (rest : List ℕ) → IsListFront levels (closing ∷ rest) none rest
list_is_empty levels rest = record {
  closes = ([], refl, refl);
  nesting = omega arith;
  only = empty_only levels rest;
}

-- the value that comes next is the one that was read
next_value : (levels : ℕ) (bytes : List ℕ) (v : SexpValue) (after : List ℕ) → IsFront levels bytes v after → (vs : Values) (other : List ℕ)
    → GoesOn vs bytes other → depth_of_all vs ≤ levels
    → (ws : Values) × (vs ≡ first v ws) × Follows ws after other × (depth_of_all ws ≤ levels)
next_value levels bytes v after front none other g d = absurd g
next_value levels bytes v after front (first w ws) other g d =
    let s = split_first w ws bytes other g in
    let same = front.only w s.0 s.1 (omega arith) (ends_number ws s.0 other s.2) in
    (ws, ap (λ (x : SexpValue). first x ws) same.0, subst (λ (x : List ℕ). Follows ws x other) same.1 s.2, omega arith)

-- after a space the list goes on
space_found : {levels : ℕ} {bytes : List ℕ} {read : List SexpValue} {rest : List ℕ} {v : SexpValue} {next : List ℕ}
    → IsUnderWay levels bytes read rest → IsFront levels rest v (input_space ∷ next)
    → (vs : Values) (other : List ℕ) → GoesOn vs next other → depth_of_all vs ≤ levels →
    Closes (values_before read (first v vs)) bytes other
    × (depth_of_all (values_before read (first v vs)) ≤ levels)
space_found way front none other g d = absurd g
space_found {rest = rest} {v = v} {next = next} way front (first w ws) other g d =
    way.found (first v (first w ws)) other (join_first v (first w ws) rest (input_space ∷ next) other front.begins
    (join_space w ws next other g))
    (omega (arith, front.nesting))

space_goes_on : (ws : Values) (next other : List ℕ) → Follows ws (input_space ∷ next) other → GoesOn ws next other
space_goes_on none next other f = absurd (space_or_closing next other (follows_none (input_space ∷ next) other f))
space_goes_on (first w ws) next other f = let s = split_space w ws (input_space ∷ next) other f in
    subst (λ (x : List ℕ). Closes (first w ws) x other) (sym (tail_is input_space input_space next s.0 s.1)) s.2

space_only : {levels : ℕ} {bytes : List ℕ} {read : List SexpValue} {rest : List ℕ} {v : SexpValue} {next : List ℕ}
    → IsUnderWay levels bytes read rest → IsFront levels rest v (input_space ∷ next)
    → (ws : Values) (other : List ℕ) → Closes ws bytes other → depth_of_all ws ≤ levels →
    (vs : Values) × (ws ≡ values_before read (first v vs))
    × GoesOn vs next other × (depth_of_all vs ≤ levels)
space_only {levels} {read = read} {rest = rest} {v = v} {next = next} way front ws other c d =
    let a = way.only ws other c d in
    let b = next_value levels rest v (input_space ∷ next) front a.0 other a.2 a.3 in
    (b.0, a.1 ∙ ap (values_before read) b.1, space_goes_on b.0 next other b.2, b.3)

pub list_goes_on : (levels : ℕ) (bytes : List ℕ) (read : List SexpValue) (rest : List ℕ) (v : SexpValue) (next : List ℕ)
    → IsUnderWay levels bytes read rest → IsFront levels rest v (input_space ∷ next) → IsUnderWay levels bytes (read ++ v ∷ []) next
list_goes_on levels bytes read rest v next way front = record {
  found = λ vs other g d. rw (joined_more read v vs) (space_found way front vs other g d);
  only = λ ws other c d. let s = space_only way front ws other c d in
      (s.0, s.1 ∙ sym (joined_more read v s.0), s.2, s.3);
}

-- after a parenthesis the list is read
closes_here : (ws : Values) (tail other : List ℕ) → Follows ws (closing ∷ tail) other → (ws ≡ none) × (other ≡ tail)
closes_here none tail other f = (refl, sym (tail_is closing closing tail other (follows_none (closing ∷ tail) other f)))
closes_here (first w ws) tail other f = let s = split_space w ws (closing ∷ tail) other f in absurd (space_or_closing s.0 tail (sym s.1))

closed_only : {levels : ℕ} {bytes : List ℕ} {read : List SexpValue} {rest : List ℕ} {v : SexpValue} {tail : List ℕ}
    → IsUnderWay levels bytes read rest → IsFront levels rest v (closing ∷ tail)
    → (ws : Values) (other : List ℕ) → Closes ws bytes other → depth_of_all ws ≤ levels →
    (ws ≡ values_before read (first v none)) × (other ≡ tail)
closed_only {levels} {read = read} {rest = rest} {v = v} {tail = tail} way front ws other c d =
    let a = way.only ws other c d in
    let b = next_value levels rest v (closing ∷ tail) front a.0 other a.2 a.3 in
    let e = closes_here b.0 tail other b.2 in
    (a.1 ∙ ap (values_before read) (b.1 ∙ ap (first v) e.0), e.1)

pub list_closes : (levels : ℕ) (bytes : List ℕ) (read : List SexpValue) (rest : List ℕ) (v : SexpValue) (tail : List ℕ)
    → IsUnderWay levels bytes read rest → IsFront levels rest v (closing ∷ tail)
    → IsListFront levels bytes (values_before (read ++ v ∷ []) none) tail
list_closes levels bytes read rest v tail way front =
    let closed : Closes (first v none) rest tail = join_first v none rest (closing ∷ tail) tail front.begins ([], refl, refl) in
    let f = way.found (first v none) tail closed (omega (arith, front.nesting)) in
    rw (joined_more read v none) (record { closes = f.0; nesting = f.1; only = closed_only way front })

no_first : (levels : ℕ) (bytes : List ℕ) → HasNoFront levels bytes → (vs : Values) (other : List ℕ) → GoesOn vs bytes other
    → depth_of_all vs ≤ levels → ⊥
no_first levels bytes missing none other g d = g
no_first levels bytes missing (first v vs) other g d =
    let s = split_first v vs bytes other g in
    missing v s.0 s.1 (omega arith) (ends_number vs s.0 other s.2)

-- the list stops where its next value doesn't begin, or where neither comes after it
pub no_value : (levels : ℕ) (bytes : List ℕ) (read : List SexpValue) (rest : List ℕ) → IsUnderWay levels bytes read rest
    → HasNoFront levels rest → HasNoListFront levels bytes
no_value levels bytes read rest way missing ws other c d =
    let a = way.only ws other c d in
    no_first levels rest missing a.0 other a.2 a.3

no_after : (ws : Values) (after other : List ℕ) → ((tail : List ℕ) → after ≡ closing ∷ tail → ⊥)
    → ((next : List ℕ) → after ≡ input_space ∷ next → ⊥) → Follows ws after other → ⊥
no_after none after other no_closing no_space f = no_closing other (follows_none after other f)
no_after (first w ws) after other no_closing no_space f = let s = split_space w ws after other f in no_space s.0 s.1

pub no_next : (levels : ℕ) (bytes : List ℕ) (read : List SexpValue) (rest : List ℕ) (v : SexpValue) (after : List ℕ)
    → IsUnderWay levels bytes read rest → IsFront levels rest v after
    → ((tail : List ℕ) → after ≡ closing ∷ tail → ⊥) → ((next : List ℕ) → after ≡ input_space ∷ next → ⊥) → HasNoListFront levels bytes
no_next levels bytes read rest v after way front no_closing no_space ws other c d =
    let a = way.only ws other c d in
    let b = next_value levels rest v after front a.0 other a.2 a.3 in
    no_after b.0 after other no_closing no_space b.2
