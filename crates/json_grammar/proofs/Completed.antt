-- Lexemes that may stand where they do, up to the end of a value, are the tokens of a value.
use Rattle.std.proofs.Common.{◌≡◌, ℕ, suc, ◌+◌, ◌-◌, ◌≤◌, nat_lt, true, false, Bool, cond, ◌&&◌, List, [], ◌∷◌}
use Rattle.std.proofs.Common.{◌++◌, length, take, reverse}
use Rattle.std.proofs.Common.{get_or, Option, Some, None, option_and_then, IsSome, refl, sym, ap, ◌∙◌, subst, arith, append_assoc}
use Rattle.std.specs.Prelude.{⊤}
use Rattle.std.proofs.lemmas.Bool.{false≢true, and_parts, ltb-true}
use Rattle.std.proofs.lemmas.List.{reverse-append, reverse-reverse, length-reverse, length-append, length-take}
use Rattle.std.proofs.lemmas.Option.{slice_get_read}
use Rattle.std.proofs.Math.Seq.{get_or-append_seam, take-append_seam}
use Rattle.json.specs.Token.{Token, begin_object, end_object, begin_array, end_array, key, string, number, boolean, null, bad}
use Rattle.json.specs.Json as j
use Rattle.json.specs.Json.{Json, Items, no_items, item, Members, no_members, member, if_last, value}
use Rattle.json.specs.Lex.{Lexeme, token, comma, colon, Place, fresh, after_value, after_comma, after_key, begins_colon, may_begin}
use Rattle.json.specs.Lex.{if_allowed, place_token, punctuate, lex, between, tokens}
use Rattle.json.specs.Tree.{json_tokens, items_tokens, members_tokens, depth, items_depth, members_depth}
use Rattle.json.proofs.Found.{not_found, Some_inj}
use Rattle.json.proofs.Printed.Trees.{value-json_tokens}
use Rattle.json_validity.specs.Document.{document, max_depth}
use Rattle.json_lexemes.specs.Lexemes.{lexemes}
use Rattle.json_grammar.specs.Next as next
use Rattle.json_grammar.specs.Next.{expects_value, is_key, closes_array, closes_object}
use Rattle.json_grammar.specs.Readings as sort
use Rattle.json_grammar.specs.Readings.{JsonReading, JsonSort, before, after_value_in, first_json_reading}
use Rattle.json_grammar.specs.Readings.{innermost_bracket, is_leaf, json_step, passed}
use Rattle.json_grammar.specs.Readings.{json_reading_after, json_sort_of, sort_step}
use Rattle.json_grammar.specs.declared.expected.Expected.{Expected}
use Rattle.json_grammar.specs.declared.expected.Expected.TheVariants as want
use Rattle.json_grammar.specs.declared.next.Bracket.{Bracket}
use Rattle.json_grammar.specs.declared.next.Bracket.TheVariants.{Array, Object}
use Rattle.json_grammar.proofs.Meeting.{IsStringToken, IsWordToken, Means, Meet, met}

-- ---- brackets that are open, the innermost first

pushed : (bs : List Bracket) (b : Bracket) → reverse (bs ++ b ∷ []) ≡ b ∷ reverse bs
pushed bs b = reverse-append bs (b ∷ [])

abbrev pub InArray : List Bracket → Type 0
InArray [] = ⊥
InArray (Array ∷ bs) = ⊤
InArray (Object ∷ bs) = ⊥

abbrev pub InObject : List Bracket → Type 0
InObject [] = ⊥
InObject (Array ∷ bs) = ⊥
InObject (Object ∷ bs) = ⊤

-- what may come next fits the innermost bracket
abbrev pub Fits : List Bracket → Expected → Type 0
Fits bs want.Value = ⊤
Fits bs want.ValueOrBracket = InArray bs
Fits bs want.Key = InObject bs
Fits bs want.KeyOrBrace = InObject bs
Fits bs want.Colon = InObject bs
Fits bs want.CommaOrBracket = InArray bs
Fits bs want.CommaOrBrace = InObject bs
Fits bs want.End = bs ≡ []
Fits bs _ = ⊥

-- the place where that comes, as the toolchain names it
abbrev value_place : List Bracket → Place
value_place [] = fresh
value_place (Array ∷ bs) = after_comma
value_place (Object ∷ bs) = fresh

abbrev place_in : List Bracket → Expected → Place
place_in bs want.Value = value_place bs
place_in bs want.ValueOrBracket = fresh
place_in bs want.Key = after_comma
place_in bs want.KeyOrBrace = fresh
place_in bs want.Colon = after_key
place_in bs _ = after_value

-- ---- tokens that end what is open

-- the tokens of what is left of the lists that are open
abbrev Rests : List Bracket → List Token → Type 0
Rests [] ts = ts ≡ []
Rests (Array ∷ bs) ts = (vs : Items) × (rest : List Token) × (ts ≡ items_tokens vs ++ rest)
    × (items_depth vs + suc (length bs) ≤ max_depth) × Rests bs rest
Rests (Object ∷ bs) ts = (ms : Members) × (rest : List Token) × (ts ≡ members_tokens ms ++ rest)
    × (members_depth ms + suc (length bs) ≤ max_depth) × Rests bs rest

-- the same after a value
abbrev ValueRests : List Bracket → List Token → Type 0
ValueRests bs ts = (v : Json) × (rest : List Token) × (ts ≡ json_tokens v ++ rest) × (depth v + length bs ≤ max_depth) × Rests bs rest

abbrev Completes : List Bracket → Expected → List Token → Type 0
Completes bs want.Value ts = ValueRests bs ts
Completes bs want.Colon ts = ValueRests bs ts
Completes bs _ ts = Rests bs ts

-- a value in front of what is left of an array
item_first : (bs : List Bracket) (ts : List Token) → ValueRests (Array ∷ bs) ts → Rests (Array ∷ bs) ts
item_first bs ts (v, rest, e, d, (vs, more, f, c, h)) = (
  item v vs,
  more,
  e ∙ ap (λ (l : List Token). json_tokens v ++ l) f ∙ sym (append_assoc (json_tokens v) (items_tokens vs) more),
  omega arith,
  h,
)

-- a key, and a value in front of what is left of an object
member_first : (k : List ℕ) (bs : List Bracket) (ts : List Token) → ValueRests (Object ∷ bs) ts → Rests (Object ∷ bs) (key k ∷ ts)
member_first k bs ts (v, rest, e, d, (ms, more, f, c, h)) = (
  member k v ms,
  more,
  ap (λ (l : List Token). key k ∷ l)
      (e ∙ ap (λ (l : List Token). json_tokens v ++ l) f ∙ sym (append_assoc (json_tokens v) (members_tokens ms) more)),
  omega arith,
  h,
)

-- a value where one may come
value_first : (bs : List Bracket) (n : Expected) (ts : List Token) → expects_value n ≡ true → Fits bs n → ValueRests bs ts
    → Completes bs n ts
value_first bs want.Value ts e fits h = h
value_first [] want.ValueOrBracket ts e fits h = absurd fits
value_first (Array ∷ bs) want.ValueOrBracket ts e fits h = item_first bs ts h
value_first (Object ∷ bs) want.ValueOrBracket ts e fits h = absurd fits
value_first bs n ts e fits h = absurd (false≢true e)

value_begins : (bs : List Bracket) (n : Expected) → expects_value n ≡ true → may_begin (place_in bs n) ≡ true
value_begins [] want.Value e = refl
value_begins (Array ∷ bs) want.Value e = refl
value_begins (Object ∷ bs) want.Value e = refl
value_begins bs want.ValueOrBracket e = refl
value_begins bs n e = absurd (false≢true e)

-- after a value
after : (o : Option Bracket) (bs : List Bracket) (ls : List Lexeme)
    → Completes bs (next.after_value o) (punctuate (place_in bs (next.after_value o)) ls) → Rests bs (punctuate after_value ls)
after None bs ls h = h
after (Some Array) bs ls h = h
after (Some Object) bs ls h = h

-- ---- what is left from a lexeme on

abbrev Left : JsonReading → List Lexeme → Type 0
Left r ls = Completes (reverse r.open_brackets) r.next (punctuate (place_in (reverse r.open_brackets) r.next) ls)

abbrev pub IsGood : JsonReading → Type 0
IsGood r = Fits (reverse r.open_brackets) r.next × (length r.open_brackets ≤ max_depth)

module _ (p : Place) (may : may_begin p ≡ true) (ls : List Lexeme) where
  array_begins : punctuate p (token begin_array ∷ ls) ≡ begin_array ∷ punctuate fresh ls
  unfolding punctuate
  array_begins = ap (λ b. if_allowed b begin_array (λ n. punctuate n ls) fresh) may

  object_begins : punctuate p (token begin_object ∷ ls) ≡ begin_object ∷ punctuate fresh ls
  unfolding punctuate
  object_begins = ap (λ b. if_allowed b begin_object (λ n. punctuate n ls) fresh) may

  string_begins : (k : List ℕ) → begins_colon ls ≡ false → punctuate p (token (string k) ∷ ls) ≡ string k ∷ punctuate after_value ls
  unfolding punctuate
  string_begins k e =
      ap (λ b. place_token p (string k) b (λ n. punctuate n ls)) e
      ∙ ap (λ b. if_allowed b (string k) (λ n. punctuate n ls) after_value) may

  key_begins : (k : List ℕ) → begins_colon ls ≡ true → punctuate p (token (string k) ∷ ls) ≡ key k ∷ punctuate after_key ls
  unfolding punctuate
  key_begins k e =
      ap (λ b. place_token p (string k) b (λ n. punctuate n ls)) e
      ∙ ap (λ b. if_allowed b (key k) (λ n. punctuate n ls) after_key) may

  -- a number or a literal is a value
  word_begins : (t : Token) → IsWordToken t
      → (v : Json) × (depth v ≡ 0) × (punctuate p (token t ∷ ls) ≡ json_tokens v ++ punctuate after_value ls)
  unfolding punctuate
  word_begins begin_object w = absurd w
  word_begins end_object w = absurd w
  word_begins begin_array w = absurd w
  word_begins end_array w = absurd w
  word_begins (key k) w = absurd w
  word_begins (string k) w = absurd w
  word_begins (number n) w = (j.number n, refl, ap (λ b. if_allowed b (number n) (λ n. punctuate n ls) after_value) may)
  word_begins (boolean b) w = (j.boolean b, refl, ap (λ c. if_allowed c (boolean b) (λ n. punctuate n ls) after_value) may)
  word_begins null w = (j.null, refl, ap (λ b. if_allowed b null (λ n. punctuate n ls) after_value) may)
  word_begins bad w = absurd w

-- ---- one lexeme, by its sort

module _ (obs : List Bracket) (n : Expected) (ls : List Lexeme) (good : IsGood (before obs n)) where
  abbrev stack : List Bracket
  stack = reverse obs

  abbrev here : Place
  here = place_in stack n

  opens_array : expects_value n ≡ true → Left (before (obs ++ Array ∷ []) want.ValueOrBracket) ls
      → Left (before obs n) (token begin_array ∷ ls)
  opens_array e left =
      let h = subst (λ (l : List Bracket). Rests l (punctuate fresh ls)) (pushed obs Array) left in
      let read = array_begins here (value_begins stack n e) ls ∙ ap (λ (l : List Token). begin_array ∷ l) h.2 in
      value_first stack n _ e good.0 (j.array h.0, h.1, read, omega (arith, h.3), h.4)

  opens_object : expects_value n ≡ true → Left (before (obs ++ Object ∷ []) want.KeyOrBrace) ls
      → Left (before obs n) (token begin_object ∷ ls)
  opens_object e left =
      let h = subst (λ (l : List Bracket). Rests l (punctuate fresh ls)) (pushed obs Object) left in
      let read = object_begins here (value_begins stack n e) ls ∙ ap (λ (l : List Token). begin_object ∷ l) h.2 in
      value_first stack n _ e good.0 (j.object h.0, h.1, read, omega (arith, h.3), h.4)

  -- a value that is no list
  alone : (l : Lexeme) (v : Json) → expects_value n ≡ true → depth v ≡ 0
      → punctuate here (l ∷ ls) ≡ json_tokens v ++ punctuate after_value ls
      → Left (after_value_in obs) ls → Left (before obs n) (l ∷ ls)
  alone l v e flat read left =
      value_first stack n _ e good.0
      (v, punctuate after_value ls, read, omega (arith, flat, good.1, length-reverse obs), after (innermost_bracket obs) stack ls left)

-- the bracket that closes an array, where that fits
array_ends : (bs : List Bracket) (n : Expected) (ls : List Lexeme) → closes_array n ≡ true → Fits bs n → length bs ≤ max_depth
    → ((b : Bracket) (rest : List Bracket) → bs ≡ b ∷ rest → Rests rest (punctuate after_value ls))
    → Completes bs n (punctuate (place_in bs n) (token end_array ∷ ls))
unfolding punctuate
array_ends [] want.ValueOrBracket ls e fits le rests = absurd fits
array_ends (Array ∷ bs) want.ValueOrBracket ls e fits le rests =
    (no_items, punctuate after_value ls, refl, omega arith, rests Array bs refl)
array_ends (Object ∷ bs) want.ValueOrBracket ls e fits le rests = absurd fits
array_ends [] want.CommaOrBracket ls e fits le rests = absurd fits
array_ends (Array ∷ bs) want.CommaOrBracket ls e fits le rests =
    (no_items, punctuate after_value ls, refl, omega arith, rests Array bs refl)
array_ends (Object ∷ bs) want.CommaOrBracket ls e fits le rests = absurd fits
array_ends bs n ls e fits le rests = absurd (false≢true e)

object_ends : (bs : List Bracket) (n : Expected) (ls : List Lexeme) → closes_object n ≡ true → Fits bs n → length bs ≤ max_depth
    → ((b : Bracket) (rest : List Bracket) → bs ≡ b ∷ rest → Rests rest (punctuate after_value ls))
    → Completes bs n (punctuate (place_in bs n) (token end_object ∷ ls))
unfolding punctuate
object_ends [] want.KeyOrBrace ls e fits le rests = absurd fits
object_ends (Array ∷ bs) want.KeyOrBrace ls e fits le rests = absurd fits
object_ends (Object ∷ bs) want.KeyOrBrace ls e fits le rests =
    (no_members, punctuate after_value ls, refl, omega arith, rests Object bs refl)
object_ends [] want.CommaOrBrace ls e fits le rests = absurd fits
object_ends (Array ∷ bs) want.CommaOrBrace ls e fits le rests = absurd fits
object_ends (Object ∷ bs) want.CommaOrBrace ls e fits le rests =
    (no_members, punctuate after_value ls, refl, omega arith, rests Object bs refl)
object_ends bs n ls e fits le rests = absurd (false≢true e)

-- a comma, and a colon
comma_passes : (bs : List Bracket) (n m : Expected) (ls : List Lexeme) → next.after_comma n ≡ Some m → Fits bs n
    → Completes bs m (punctuate (place_in bs m) ls) → Completes bs n (punctuate (place_in bs n) (comma ∷ ls))
unfolding punctuate
comma_passes [] want.CommaOrBracket m ls e fits h = absurd fits
comma_passes (Array ∷ bs) want.CommaOrBracket m ls e fits h =
    item_first bs (punctuate after_comma ls)
    (subst (λ (x : Expected). Completes (Array ∷ bs) x (punctuate (place_in (Array ∷ bs) x) ls)) (sym (Some_inj want.Value m e)) h)
comma_passes (Object ∷ bs) want.CommaOrBracket m ls e fits h = absurd fits
comma_passes [] want.CommaOrBrace m ls e fits h = absurd fits
comma_passes (Array ∷ bs) want.CommaOrBrace m ls e fits h = absurd fits
comma_passes (Object ∷ bs) want.CommaOrBrace m ls e fits h =
    subst (λ (x : Expected). Completes (Object ∷ bs) x (punctuate (place_in (Object ∷ bs) x) ls)) (sym (Some_inj want.Key m e)) h
comma_passes bs n m ls e fits h = not_found m e

colon_passes : (bs : List Bracket) (n m : Expected) (ls : List Lexeme) → next.after_colon n ≡ Some m → Fits bs n
    → Completes bs m (punctuate (place_in bs m) ls) → Completes bs n (punctuate (place_in bs n) (colon ∷ ls))
unfolding punctuate
colon_passes [] want.Colon m ls e fits h = absurd fits
colon_passes (Array ∷ bs) want.Colon m ls e fits h = absurd fits
colon_passes (Object ∷ bs) want.Colon m ls e fits h =
    subst (λ (x : Expected). Completes (Object ∷ bs) x (punctuate (place_in (Object ∷ bs) x) ls)) (sym (Some_inj want.Value m e)) h
colon_passes bs n m ls e fits h = not_found m e

-- a key
key_passes : (bs : List Bracket) (n : Expected) (k : List ℕ) (ls : List Lexeme) → is_key n ≡ true → Fits bs n → begins_colon ls ≡ true
    → ValueRests bs (punctuate after_key ls) → Completes bs n (punctuate (place_in bs n) (token (string k) ∷ ls))
key_passes [] want.Key k ls e fits c h = absurd fits
key_passes (Array ∷ bs) want.Key k ls e fits c h = absurd fits
key_passes (Object ∷ bs) want.Key k ls e fits c h =
    subst (Rests (Object ∷ bs)) (sym (key_begins after_comma refl ls k c)) (member_first k bs (punctuate after_key ls) h)
key_passes [] want.KeyOrBrace k ls e fits c h = absurd fits
key_passes (Array ∷ bs) want.KeyOrBrace k ls e fits c h = absurd fits
key_passes (Object ∷ bs) want.KeyOrBrace k ls e fits c h =
    subst (Rests (Object ∷ bs)) (sym (key_begins fresh refl ls k c)) (member_first k bs (punctuate after_key ls) h)
key_passes bs n k ls e fits c h = absurd (false≢true e)

-- ---- brackets that were opened first

abbrev pub first : List Bracket → Option Bracket
first [] = None
first (b ∷ bs) = Some b

pub reversed : (b : Bracket) (bs : List Bracket) → reverse (b ∷ bs) ≡ reverse bs ++ b ∷ []
reversed b bs =
    let back : reverse (reverse bs ++ b ∷ []) ≡ b ∷ bs = pushed (reverse bs) b ∙ ap (λ (l : List Bracket). b ∷ l) (reverse-reverse bs) in
    sym (ap reverse back) ∙ reverse-reverse (reverse bs ++ b ∷ [])

pub last_of : (bs : List Bracket) (b : Bracket) → innermost_bracket (bs ++ b ∷ []) ≡ Some b
last_of bs b =
    let whole : length (bs ++ b ∷ []) ≡ length bs + 1 = length-append bs (b ∷ []) in
    slice_get_read (bs ++ b ∷ []) (length (bs ++ b ∷ [])) (length (bs ++ b ∷ []) - 1) b refl (omega arith)
    (let at : length (bs ++ b ∷ []) - 1 ≡ length bs = omega arith in
    sym (ap (λ (k : ℕ). get_or (bs ++ b ∷ []) k b) at ∙ get_or-append_seam bs b [] b))

pub innermost_first : (l : List Bracket) → innermost_bracket (reverse l) ≡ first l
innermost_first [] = refl
innermost_first (b ∷ bs) = ap innermost_bracket (reversed b bs) ∙ last_of (reverse bs) b

innermost_is : (obs : List Bracket) → innermost_bracket obs ≡ first (reverse obs)
innermost_is obs = ap innermost_bracket (sym (reverse-reverse obs)) ∙ innermost_first (reverse obs)

pub fits_first : (l : List Bracket) → Fits l (next.after_value (first l))
fits_first [] = refl
fits_first (Array ∷ bs) = tt
fits_first (Object ∷ bs) = tt

fits_after : (obs : List Bracket) → Fits (reverse obs) (next.after_value (innermost_bracket obs))
fits_after obs = subst (λ o. Fits (reverse obs) (next.after_value o)) (sym (innermost_is obs)) (fits_first (reverse obs))

abbrev outer : List Bracket → List Bracket
outer obs = take (length obs - 1) obs

popped : (obs : List Bracket) (b : Bracket) (rest : List Bracket) → reverse obs ≡ b ∷ rest → reverse (outer obs) ≡ rest
popped obs b rest e =
    let whole : obs ≡ reverse rest ++ b ∷ [] = sym (reverse-reverse obs) ∙ ap reverse e ∙ reversed b rest in
    let count : length (reverse rest ++ b ∷ []) - 1 ≡ length (reverse rest) = omega (arith, length-append (reverse rest) (b ∷ [])) in
    ap (λ (l : List Bracket). reverse (outer l)) whole
    ∙ ap (λ (k : ℕ). reverse (take k (reverse rest ++ b ∷ []))) count
    ∙ ap reverse (take-append_seam (reverse rest) (b ∷ []))
    ∙ reverse-reverse rest

-- ---- one lexeme

pub taken : (b : Bool) (x t : JsonReading) → cond b (Some x) None ≡ Some t → (b ≡ true) × (x ≡ t)
taken true x t e = (refl, Some_inj x t e)
taken false x t e = not_found t e

within_max : (k : ℕ) → nat_lt k max_depth ≡ true → k + 1 ≤ max_depth
within_max k e = omega (arith, ltb-true k max_depth e)

-- after these a colon comes
abbrev ColonFollows : JsonReading → List Lexeme → Type 0
ColonFollows t ls = (t.next ≡ want.Colon → begins_colon ls ≡ true)
    × ((o : Option Bracket) → t.next ≡ next.after_value o → begins_colon ls ≡ false)

module _ (obs : List Bracket) (n : Expected) (good : IsGood (before obs n)) where
  -- a bracket that opens
  opened_good : (b : Bracket) (m : Expected) → Fits (b ∷ reverse obs) m → nat_lt (length obs) max_depth ≡ true
      → IsGood (before (obs ++ b ∷ []) m)
  opened_good b m fits room = (
    subst (λ (l : List Bracket). Fits l m) (sym (pushed obs b)) fits,
    omega (arith, within_max (length obs) room, length-append obs (b ∷ [])),
  )

  closed_good : IsGood (after_value_in (outer obs))
  closed_good = (fits_after (outer obs), omega (arith, good.1, length-take (length obs - 1) obs))

  valued_good : IsGood (after_value_in obs)
  valued_good = (fits_after obs, good.1)

  comma_good : (m : Expected) → next.after_comma n ≡ Some m → IsGood (before obs m)
  comma_good m e = (by n e good.0, good.1)
    where
      by : (k : Expected) → next.after_comma k ≡ Some m → Fits (reverse obs) k → Fits (reverse obs) m
      by want.CommaOrBracket f fits = subst (Fits (reverse obs)) (Some_inj want.Value m f) tt
      by want.CommaOrBrace f fits = subst (Fits (reverse obs)) (Some_inj want.Key m f) fits
      by k f fits = not_found m f

  colon_good : (m : Expected) → next.after_colon n ≡ Some m → IsGood (before obs m)
  colon_good m e = (by n e good.0, good.1)
    where
      by : (k : Expected) → next.after_colon k ≡ Some m → Fits (reverse obs) k → Fits (reverse obs) m
      by want.Colon f fits = subst (Fits (reverse obs)) (Some_inj want.Value m f) tt
      by k f fits = not_found m f

  key_good : is_key n ≡ true → IsGood (before obs want.Colon)
  key_good e = (by n e good.0, good.1)
    where
      by : (k : Expected) → is_key k ≡ true → Fits (reverse obs) k → InObject (reverse obs)
      by want.Key f fits = fits
      by want.KeyOrBrace f fits = fits
      by k f fits = absurd (false≢true f)

-- one lexeme leads from a good reading to a good one
pub step_good : (o : JsonSort) (obs : List Bracket) (n : Expected) (s : List ℕ) (t : JsonReading) → IsGood (before obs n)
    → sort_step o (before obs n) s ≡ Some t → IsGood t
step_good sort.open_array obs n s t good e =
    let a = taken (expects_value n && nat_lt (length obs) max_depth) (before (obs ++ Array ∷ []) want.ValueOrBracket) t e in
    let room = (and_parts (expects_value n) (nat_lt (length obs) max_depth) a.0).1 in
    subst IsGood a.1 (opened_good obs n good Array want.ValueOrBracket tt room)
step_good sort.open_object obs n s t good e =
    let a = taken (expects_value n && nat_lt (length obs) max_depth) (before (obs ++ Object ∷ []) want.KeyOrBrace) t e in
    subst IsGood a.1 (opened_good obs n good Object want.KeyOrBrace tt (and_parts (expects_value n) (nat_lt (length obs) max_depth) a.0).1)
step_good sort.close_array obs n s t good e =
    subst IsGood (taken (closes_array n) (after_value_in (outer obs)) t e).1 (closed_good obs n good)
step_good sort.close_object obs n s t good e =
    subst IsGood (taken (closes_object n) (after_value_in (outer obs)) t e).1 (closed_good obs n good)
step_good sort.comma obs n s t good e = by (next.after_comma n) refl e
  where
    by : (m : Option Expected) → next.after_comma n ≡ m → passed (before obs n) m ≡ Some t → IsGood t
    by None f g = not_found t g
    by (Some m) f g = subst IsGood (Some_inj (before obs m) t g) (comma_good obs n good m f)
step_good sort.colon obs n s t good e = by (next.after_colon n) refl e
  where
    by : (m : Option Expected) → next.after_colon n ≡ m → passed (before obs n) m ≡ Some t → IsGood t
    by None f g = not_found t g
    by (Some m) f g = subst IsGood (Some_inj (before obs m) t g) (colon_good obs n good m f)
step_good sort.string obs n s t good e = by (is_key n) refl e
  where
    by : (b : Bool) → is_key n ≡ b → cond b (cond (is_leaf s) (Some (before obs want.Colon)) None)
        (cond (expects_value n && is_leaf s) (Some (after_value_in obs)) None) ≡ Some t → IsGood t
    by true f g = subst IsGood (taken (is_leaf s) (before obs want.Colon) t g).1 (key_good obs n good f)
    by false f g = subst IsGood (taken (expects_value n && is_leaf s) (after_value_in obs) t g).1 (valued_good obs n good)
step_good sort.word obs n s t good e =
    subst IsGood (taken (expects_value n && is_leaf s) (after_value_in obs) t e).1 (valued_good obs n good)

-- where it stands, a lexeme leads to a good reading, and what is left from it on is what is left after it
abbrev Turns : JsonReading → JsonReading → Lexeme → List Lexeme → Type 0
Turns r t l ls = IsGood t × (Left t ls → Left r (l ∷ ls))

module _ (obs : List Bracket) (n : Expected) (good : IsGood (before obs n)) (s : List ℕ) (ls : List Lexeme) (t : JsonReading)
    (colons : ColonFollows t ls) where
  abbrev Turned : Lexeme → Type 0
  Turned l = Turns (before obs n) t l ls

  valued_turn : (l : Lexeme) (k : Token) → l ≡ token k → (is_leaf s ≡ true → IsWordToken k)
      → cond (expects_value n && is_leaf s) (Some (after_value_in obs)) None ≡ Some t → Turned l
  valued_turn l k is word e =
      let a = taken (expects_value n && is_leaf s) (after_value_in obs) t e in
      let both = and_parts (expects_value n) (is_leaf s) a.0 in
      let v = word_begins (place_in (reverse obs) n) (value_begins (reverse obs) n both.0) ls k (word both.1) in
      subst (λ (x : JsonReading). Turns (before obs n) x l ls) a.1 (
        valued_good obs n good,
        subst (λ (y : Lexeme). Left (after_value_in obs) ls → Left (before obs n) (y ∷ ls)) (sym is)
            (alone obs n ls good (token k) v.0 both.0 v.1 v.2),
      )

  string_turn : (l : Lexeme) (k : Token) → l ≡ token k → (is_leaf s ≡ true → IsStringToken k)
      → cond (expects_value n && is_leaf s) (Some (after_value_in obs)) None ≡ Some t → Turned l
  string_turn l k is word e =
      let a = taken (expects_value n && is_leaf s) (after_value_in obs) t e in
      let both = and_parts (expects_value n) (is_leaf s) a.0 in
      let text = word both.1 in
      let no_colon = colons.1 (innermost_bracket obs) (ap (λ (x : JsonReading). x.next) (sym a.1)) in
      let read = string_begins (place_in (reverse obs) n) (value_begins (reverse obs) n both.0) ls text.0 no_colon in
      subst (λ (x : JsonReading). Turns (before obs n) x l ls) a.1 (
        valued_good obs n good,
        subst (λ (y : Lexeme). Left (after_value_in obs) ls → Left (before obs n) (y ∷ ls)) (sym (is ∙ ap token text.1))
            (alone obs n ls good (token (string text.0)) (j.string text.0) both.0 refl read),
      )

  key_turn : (l : Lexeme) (k : Token) → l ≡ token k → (is_leaf s ≡ true → IsStringToken k) → is_key n ≡ true
      → cond (is_leaf s) (Some (before obs want.Colon)) None ≡ Some t → Turned l
  key_turn l k is word due e =
      let a = taken (is_leaf s) (before obs want.Colon) t e in
      let text = word a.0 in
      let colon_next = colons.0 (ap (λ (x : JsonReading). x.next) (sym a.1)) in
      subst (λ (x : JsonReading). Turns (before obs n) x l ls) a.1 (
        key_good obs n good due,
        subst (λ (y : Lexeme). Left (before obs want.Colon) ls → Left (before obs n) (y ∷ ls)) (sym (is ∙ ap token text.1))
            (key_passes (reverse obs) n text.0 ls due good.0 colon_next),
      )

  keyed_turn : (l : Lexeme) (k : Token) → l ≡ token k → (is_leaf s ≡ true → IsStringToken k) → (b : Bool) → is_key n ≡ b
      → cond b (cond (is_leaf s) (Some (before obs want.Colon)) None)
      (cond (expects_value n && is_leaf s) (Some (after_value_in obs)) None) ≡ Some t
      → Turned l
  keyed_turn l k is word true due e = key_turn l k is word due e
  keyed_turn l k is word false due e = string_turn l k is word e

  after_outer : Left (after_value_in (outer obs)) ls → (b : Bracket) (rest : List Bracket) → reverse obs ≡ b ∷ rest
      → Rests rest (punctuate after_value ls)
  after_outer left b rest e =
      subst (λ (l : List Bracket). Rests l (punctuate after_value ls)) (popped obs b rest e)
      (after (innermost_bracket (outer obs)) (reverse (outer obs)) ls left)

  turn : (o : JsonSort) (l : Lexeme) → Means o s l → sort_step o (before obs n) s ≡ Some t → Turned l
  turn sort.open_array l is e =
      let a = taken (expects_value n && nat_lt (length obs) max_depth) (before (obs ++ Array ∷ []) want.ValueOrBracket) t e in
      let both = and_parts (expects_value n) (nat_lt (length obs) max_depth) a.0 in
      subst (λ (x : JsonReading). Turns (before obs n) x l ls) a.1 (
        opened_good obs n good Array want.ValueOrBracket tt both.1,
        subst (λ (y : Lexeme). Left (before (obs ++ Array ∷ []) want.ValueOrBracket) ls → Left (before obs n) (y ∷ ls)) (sym is)
            (opens_array obs n ls good both.0),
      )
  turn sort.open_object l is e =
      let a = taken (expects_value n && nat_lt (length obs) max_depth) (before (obs ++ Object ∷ []) want.KeyOrBrace) t e in
      let both = and_parts (expects_value n) (nat_lt (length obs) max_depth) a.0 in
      subst (λ (x : JsonReading). Turns (before obs n) x l ls) a.1 (
        opened_good obs n good Object want.KeyOrBrace tt both.1,
        subst (λ (y : Lexeme). Left (before (obs ++ Object ∷ []) want.KeyOrBrace) ls → Left (before obs n) (y ∷ ls)) (sym is)
            (opens_object obs n ls good both.0),
      )
  turn sort.close_array l is e =
      let a = taken (closes_array n) (after_value_in (outer obs)) t e in
      subst (λ (x : JsonReading). Turns (before obs n) x l ls) a.1 (
        closed_good obs n good,
        λ left. subst (λ (y : Lexeme). Left (before obs n) (y ∷ ls)) (sym is)
            (array_ends (reverse obs) n ls a.0 good.0 (omega (arith, good.1, length-reverse obs)) (after_outer left)),
      )
  turn sort.close_object l is e =
      let a = taken (closes_object n) (after_value_in (outer obs)) t e in
      subst (λ (x : JsonReading). Turns (before obs n) x l ls) a.1 (
        closed_good obs n good,
        λ left. subst (λ (y : Lexeme). Left (before obs n) (y ∷ ls)) (sym is)
            (object_ends (reverse obs) n ls a.0 good.0 (omega (arith, good.1, length-reverse obs)) (after_outer left)),
      )
  turn sort.comma l is e = by (next.after_comma n) refl e
    where
      by : (m : Option Expected) → next.after_comma n ≡ m → passed (before obs n) m ≡ Some t → Turned l
      by None f g = not_found t g
      by (Some m) f g =
          subst (λ (x : JsonReading). Turns (before obs n) x l ls) (Some_inj (before obs m) t g) (
            comma_good obs n good m f,
            λ left. subst (λ (y : Lexeme). Left (before obs n) (y ∷ ls)) (sym is) (comma_passes (reverse obs) n m ls f good.0 left),
          )
  turn sort.colon l is e = by (next.after_colon n) refl e
    where
      by : (m : Option Expected) → next.after_colon n ≡ m → passed (before obs n) m ≡ Some t → Turned l
      by None f g = not_found t g
      by (Some m) f g =
          subst (λ (x : JsonReading). Turns (before obs n) x l ls) (Some_inj (before obs m) t g) (
            colon_good obs n good m f,
            λ left. subst (λ (y : Lexeme). Left (before obs n) (y ∷ ls)) (sym is) (colon_passes (reverse obs) n m ls f good.0 left),
          )
  turn sort.string l (k, is, text) e = keyed_turn l k is text (is_key n) refl e
  turn sort.word l (k, is, text) e = valued_turn l k is text e

-- ---- which lexeme comes next

-- only a colon follows a key
at_colon : (o : JsonSort) (obs : List Bracket) (s : List ℕ) (l : Lexeme) (ls : List Lexeme) (t : JsonReading) → Means o s l
    → sort_step o (before obs want.Colon) s ≡ Some t → begins_colon (l ∷ ls) ≡ true
at_colon sort.open_array obs s l ls t m e = not_found t e
at_colon sort.close_array obs s l ls t m e = not_found t e
at_colon sort.open_object obs s l ls t m e = not_found t e
at_colon sort.close_object obs s l ls t m e = not_found t e
at_colon sort.comma obs s l ls t m e = not_found t e
at_colon sort.colon obs s l ls t m e = ap (λ (x : Lexeme). begins_colon (x ∷ ls)) m
at_colon sort.string obs s l ls t m e = not_found t e
at_colon sort.word obs s l ls t m e = not_found t e

-- and none follows a value
at_value : (o : JsonSort) (obs : List Bracket) (b : Option Bracket) (s : List ℕ) (l : Lexeme) (ls : List Lexeme)
    (t : JsonReading) → Means o s l
    → sort_step o (before obs (next.after_value b)) s ≡ Some t → begins_colon (l ∷ ls) ≡ false
at_value sort.open_array obs b s l ls t m e = ap (λ (x : Lexeme). begins_colon (x ∷ ls)) m
at_value sort.close_array obs b s l ls t m e = ap (λ (x : Lexeme). begins_colon (x ∷ ls)) m
at_value sort.open_object obs b s l ls t m e = ap (λ (x : Lexeme). begins_colon (x ∷ ls)) m
at_value sort.close_object obs b s l ls t m e = ap (λ (x : Lexeme). begins_colon (x ∷ ls)) m
at_value sort.comma obs b s l ls t m e = ap (λ (x : Lexeme). begins_colon (x ∷ ls)) m
at_value sort.colon obs None s l ls t m e = not_found t e
at_value sort.colon obs (Some Array) s l ls t m e = not_found t e
at_value sort.colon obs (Some Object) s l ls t m e = not_found t e
at_value sort.string obs b s l ls t (k, is, text) e = ap (λ (x : Lexeme). begins_colon (x ∷ ls)) is
at_value sort.word obs b s l ls t (k, is, text) e = ap (λ (x : Lexeme). begins_colon (x ∷ ls)) is

-- the first step, if more than one reading comes of all
pub one_step : (r u : JsonReading) (s : List ℕ) (ss : List (List ℕ)) → json_reading_after r (s ∷ ss) ≡ Some u
    → (t : JsonReading) × (json_step r s ≡ Some t) × (json_reading_after t ss ≡ Some u)
one_step r u s ss e = by (json_step r s) refl
  where
    by : (o : Option JsonReading) → json_step r s ≡ o → (t : JsonReading) × (json_step r s ≡ Some t) × (json_reading_after t ss ≡ Some u)
    by None f = not_found u (sym (ap (option_and_then (λ (t : JsonReading). json_reading_after t ss)) f) ∙ e)
    by (Some t) f = (t, f, sym (ap (option_and_then (λ (x : JsonReading). json_reading_after x ss)) f) ∙ e)

colon_follows : (t u : JsonReading) (ss : List (List ℕ)) (ls : List Lexeme) → Meet ss ls
    → json_reading_after t ss ≡ Some u → u.next ≡ want.End
    → ColonFollows t ls
colon_follows t u [] [] m e end = ((λ is. absurd (no_end (sym is ∙ ap (λ (x : JsonReading). x.next) (Some_inj t u e) ∙ end))), λ o is. refl)
  where
    no_end : want.Colon ≡ want.End → ⊥
    no_end is = cc
colon_follows t u [] (l ∷ ls) m e end = absurd m
colon_follows t u (s ∷ ss) [] m e end = absurd m
colon_follows t u (s ∷ ss) (l ∷ ls) m e end =
    let first = one_step t u s ss e in (
      λ is. at_colon (json_sort_of s) t.open_brackets s l ls first.0 m.0
          (ap (λ (x : Expected). json_step (before t.open_brackets x) s) (sym is) ∙ first.1),
      λ o is. at_value (json_sort_of s) t.open_brackets o s l ls first.0 m.0
          (ap (λ (x : Expected). json_step (before t.open_brackets x) s) (sym is) ∙ first.1),
    )

-- ---- all lexemes

at_last : Rests [] (punctuate after_value [])
unfolding punctuate
at_last = refl

nothing_left : (bs : List Bracket) (n : Expected) → n ≡ want.End → Fits bs n → Completes bs n (punctuate (place_in bs n) [])
nothing_left bs n e fits =
    let none : bs ≡ [] = subst (Fits bs) e fits in
    subst (λ (x : Expected). Completes bs x (punctuate (place_in bs x) [])) (sym e)
    (subst (λ (l : List Bracket). Rests l (punctuate after_value [])) (sym none) at_last)

completes : (ss : List (List ℕ)) (ls : List Lexeme) → Meet ss ls → (r u : JsonReading) → IsGood r → json_reading_after r ss ≡ Some u
    → u.next ≡ want.End → Left r ls
completes [] [] m r u good e end =
    nothing_left (reverse r.open_brackets) r.next (ap (λ (x : JsonReading). x.next) (Some_inj r u e) ∙ end) good.0
completes [] (l ∷ ls) m r u good e end = absurd m
completes (s ∷ ss) [] m r u good e end = absurd m
completes (s ∷ ss) (l ∷ ls) m r u good e end =
    let first = one_step r u s ss e in
    let turned =
    turn r.open_brackets r.next good s ls first.0 (colon_follows first.0 u ss ls m.1 first.2 end) (json_sort_of s) l m.0 first.1 in
    turned.1 (completes ss ls m.1 first.0 u turned.0 first.2 end)

-- a text whose lexemes may stand where they do, up to the end of its value, is JSON
pub is_document : (text : List ℕ) (r : JsonReading) → json_reading_after first_json_reading (lexemes text) ≡ Some r → r.next ≡ want.End
    → IsSome (document text)
is_document text r e end =
    let h = completes (lexemes text) (lex between text) (met text) first_json_reading r (tt, omega arith) e end in
    let all : tokens text ≡ json_tokens h.0 ++ [] = h.2 ∙ ap (λ (l : List Token). json_tokens h.0 ++ l) h.4 in
    let read : value max_depth (tokens text) ≡ Some (h.0, []) =
    ap (value max_depth) all ∙ value-json_tokens h.0 max_depth [] (omega (arith, h.3)) in
    subst IsSome (sym (ap (option_and_then (λ p. if_last p.0 p.1)) read)) refl
