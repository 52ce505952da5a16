-- A string in the text: what it says, and where it ends, do not depend on what is after its closing quote.
use Rattle.std.proofs.Common.{◌≡◌, ℕ, Bool, true, false, cond, ◌&&◌, ◌==◌, nat_lt, List, [], ◌∷◌, ◌++◌, Option, Some, None}
use Rattle.std.proofs.Common.{option_and_then, inl, inr, ◌⊎◌, refl, sym, ap, ap₂, ◌∙◌, subst, append_assoc, is_some}
use Rattle.std.proofs.lemmas.Bool.{false≢true, eqb-true, and_parts, ne_eqb, cases_Bool}
use Rattle.std.specs.Char.{is_digit, encode_utf8}
use Rattle.json.specs.Text.{code_unit, short_escape, is_high_surrogate, is_low_surrogate, surrogate_pair, Within, plain, after_backslash}
use Rattle.json.specs.Text.{after_u, after_high, prepend, content}
use Rattle.json.specs.Word.{is_operator, is_space}
use Rattle.json.specs.Token.{string}
use Rattle.json.specs.Lex.{Lexeme, token, string_token, quote, backslash, operator, space, other, Mode, between, in_string, in_escape}
use Rattle.json.specs.Lex.{lex, lex_byte}
use Rattle.json.proofs.Found.{not_found}
use Rattle.text_lexemes.specs.Languages.{lengthened}
use Rattle.json_lexemes.specs.Lexemes.{cut, cut_byte}
use Rattle.json_lexemes.proofs.Inline.{IsInline, inline_both, inline_by, inline_not, is_line_end}

abbrev mode : Within → Mode
mode plain = in_string
mode after_backslash = in_escape
mode after_u = in_string
mode (after_high h) = in_string

-- a string from here on, up to its closing quote, without a line end, and the same before any other text
record Closed (w : Within) (s xs : List ℕ) : Type 0 where
  front : List ℕ
  rest : List ℕ
  is : xs ≡ front ++ rest
  inline : IsInline front
  read : (r : List ℕ) → content w (front ++ r) ≡ Some s
  lexed : (r : List ℕ) → lex (mode w) (front ++ r) ≡ lex between r
  cuts : (r : List ℕ) → cut (mode w) (front ++ r) ≡ front ∷ cut between r

-- the bytes p stand for f, and lead on
record Leads (w v : Within) (p f : List ℕ) : Type 0 where
  inline : IsInline p
  read : (r : List ℕ) → content w (p ++ r) ≡ prepend f (content v r)
  lexed : (r : List ℕ) → lex (mode w) (p ++ r) ≡ lex (mode v) r
  cuts : (r l : List ℕ) (ls : List (List ℕ)) → cut (mode v) r ≡ l ∷ ls → cut (mode w) (p ++ r) ≡ (p ++ l) ∷ ls

-- what the rest stands for
abbrev Later : List ℕ → List ℕ → Option (List ℕ) → Type 0
Later f s o = (t : List ℕ) × (o ≡ Some t) × (f ++ t ≡ s)

later : (f s : List ℕ) (o : Option (List ℕ)) → prepend f o ≡ Some s → Later f s o
later f s None e = not_found s e
later f s (Some t) e = (t, refl, cc)

then : {w v : Within} {p f s xs : List ℕ} → Leads w v p f → content w (p ++ xs) ≡ Some s →
    ((t : List ℕ) → content v xs ≡ Some t → Closed v t xs) → Closed w s (p ++ xs)
then {w} {v} {p} {f} {s} {xs} leads e closed =
    let t = later f s (content v xs) (sym (leads.read xs) ∙ e) in
    let c = closed t.0 t.1 in
    record {
      front = p ++ c.front;
      rest = c.rest;
      is = ap (λ l. p ++ l) c.is ∙ sym (append_assoc p c.front c.rest);
      inline = inline_both p c.front leads.inline c.inline;
      read = λ r. ap (content w) (append_assoc p c.front r) ∙ leads.read (c.front ++ r) ∙ ap (prepend f) (c.read r) ∙ ap Some t.2;
      lexed = λ r. ap (lex (mode w)) (append_assoc p c.front r) ∙ leads.lexed (c.front ++ r) ∙ c.lexed r;
      cuts = λ r. ap (cut (mode w)) (append_assoc p c.front r) ∙ leads.cuts (c.front ++ r) c.front (cut between r) (c.cuts r);
    }

pub prepend-nil : (o : Option (List ℕ)) → o ≡ prepend [] o
prepend-nil None = refl
prepend-nil (Some s) = refl

-- ---- a byte within a string

passes : (o s : Bool) (x : ℕ) (r : List ℕ) (k : Mode → List Lexeme) (l : Mode → List (List ℕ))
    → (lex_byte in_string (cond o operator (cond s space other)) x r k ≡ k in_string)
    × (cut_byte in_string (cond o operator (cond s space other)) x l ≡ lengthened x (l in_string))
passes true s x r k l = (refl, refl)
passes false true x r k l = (refl, refl)
passes false false x r k l = (refl, refl)

module _ (x : ℕ) (r : List ℕ) (q : (x == 34) ≡ false) (b : (x == 92) ≡ false) where
  pub lex-inside : lex in_string (x ∷ r) ≡ lex in_string r
  unfolding lex
  lex-inside =
      (λ i. lex_byte in_string (cond (q i) quote (cond (b i) backslash (cond (is_operator x) operator (cond (is_space x) space other)))) x
      r (λ m. lex m r))
      ∙ (passes (is_operator x) (is_space x) x r (λ m. lex m r) (λ m. cut m r)).0

  pub cut-inside : cut in_string (x ∷ r) ≡ lengthened x (cut in_string r)
  unfolding cut
  cut-inside =
      (λ i. cut_byte in_string (cond (q i) quote (cond (b i) backslash (cond (is_operator x) operator (cond (is_space x) space other)))) x
      (λ m. cut m r))
      ∙ (passes (is_operator x) (is_space x) x r (λ m. lex m r) (λ m. cut m r)).1

plain_leads : (x : ℕ) → (x == 34) ≡ false → (x == 92) ≡ false → nat_lt x 32 ≡ false → Leads plain plain (x ∷ []) (x ∷ [])
unfolding content
plain_leads x q b c =
    record {
      inline = (inline_not (λ y. nat_lt y 32) x c refl refl, tt);
      read = λ r i. cond (q i) (Some []) (cond (b i) (content after_backslash r) (cond (c i) None (prepend (x ∷ []) (content plain r))));
      lexed = λ r. lex-inside x r q b;
      cuts = λ r l ls e. cut-inside x r q b ∙ ap (lengthened x) e;
    }

backslash_leads : Leads plain after_backslash (92 ∷ []) []
unfolding content lex cut
backslash_leads =
    record {
      inline = (refl, tt);
      read = λ r. prepend-nil (content after_backslash r);
      lexed = λ r. refl;
      cuts = λ r l ls e. ap (lengthened 92) e;
    }

u_leads : Leads after_backslash after_u (117 ∷ []) []
unfolding content lex cut
u_leads =
    record {
      inline = (refl, tt);
      read = λ r. prepend-nil (content after_u r);
      lexed = λ r. refl;
      cuts = λ r l ls e. ap (lengthened 117) e;
    }

short_inline : (x c : ℕ) → short_escape x ≡ Some c → is_line_end x ≡ false
unfolding short_escape
short_inline x c is = inline_by (λ y. is_some (short_escape y)) x (ap is_some is) refl refl

short_leads : (x c : ℕ) → (x == 117) ≡ false → short_escape x ≡ Some c → Leads after_backslash plain (x ∷ []) (c ∷ [])
unfolding content lex cut
short_leads x c u is =
    record {
      inline = (short_inline x c is, tt);
      read = λ r i. cond (u i) (content after_u r) (option_and_then (λ d. prepend (d ∷ []) (content plain r)) (is i));
      lexed = λ r. refl;
      cuts = λ r l ls e. ap (lengthened x) e;
    }

-- ---- four hex digits

no_digit : (x c : ℕ) → is_digit x 16 ≡ true → is_digit c 16 ≡ false → (x == c) ≡ false
no_digit x c h k = ne_eqb x c (λ e. false≢true (sym k ∙ ap (λ y. is_digit y 16) (sym e) ∙ h))

hex_inline : (x : ℕ) → is_digit x 16 ≡ true → is_line_end x ≡ false
hex_inline x h = inline_by (λ y. is_digit y 16) x h refl refl

hex_byte : (x : ℕ) (r l : List ℕ) (ls : List (List ℕ)) → is_digit x 16 ≡ true
    → (lex in_string (x ∷ r) ≡ lex in_string r) × (cut in_string r ≡ l ∷ ls → cut in_string (x ∷ r) ≡ (x ∷ l) ∷ ls)
hex_byte x r l ls h =
    let q = no_digit x 34 h refl in
    let b = no_digit x 92 h refl in
    (lex-inside x r q b, λ e. cut-inside x r q b ∙ ap (lengthened x) e)

decided : (b : Bool) (u v : ℕ) → cond b (Some u) None ≡ Some v → b ≡ true
decided true u v e = refl
decided false u v e = not_found v e

module _ (a b c d u : ℕ) (is : code_unit a b c d ≡ Some u) where
  hex : (is_digit a 16 ≡ true) × (is_digit b 16 ≡ true) × (is_digit c 16 ≡ true) × (is_digit d 16 ≡ true)
  unfolding code_unit
  hex =
      let p = and_parts _ _ (decided (is_digit a 16 && is_digit b 16 && is_digit c 16 && is_digit d 16) _ u is) in
      let q = and_parts _ _ p.0 in
      let r = and_parts _ _ q.0 in
      (r.0, r.1, q.1, p.1)

  inline-unit : IsInline (a ∷ b ∷ c ∷ d ∷ [])
  inline-unit = (hex_inline a hex.0, (hex_inline b hex.1, (hex_inline c hex.2, (hex_inline d hex.3, tt))))

  lex-unit : (r : List ℕ) → lex in_string (a ∷ b ∷ c ∷ d ∷ r) ≡ lex in_string r
  lex-unit r =
      (hex_byte a (b ∷ c ∷ d ∷ r) [] [] hex.0).0 ∙ (hex_byte b (c ∷ d ∷ r) [] [] hex.1).0 ∙ (hex_byte c (d ∷ r) [] [] hex.2).0
      ∙ (hex_byte d r [] [] hex.3).0

  cut-unit : (r l : List ℕ) (ls : List (List ℕ)) → cut in_string r ≡ l ∷ ls → cut in_string (a ∷ b ∷ c ∷ d ∷ r) ≡ (a ∷ b ∷ c ∷ d ∷ l) ∷ ls
  cut-unit r l ls e =
      (hex_byte a (b ∷ c ∷ d ∷ r) (b ∷ c ∷ d ∷ l) ls hex.0).1 ((hex_byte b (c ∷ d ∷ r) (c ∷ d ∷ l) ls hex.1).1
      ((hex_byte c (d ∷ r) (d ∷ l) ls hex.2).1 ((hex_byte d r l ls hex.3).1 e)))

  high_leads : is_high_surrogate u ≡ true → Leads after_u (after_high u) (a ∷ b ∷ c ∷ d ∷ []) []
  unfolding content
  high_leads high =
      record {
        inline = inline-unit;
        read = λ r.
            ap (option_and_then (λ v. cond (is_high_surrogate v) (content (after_high v) r)
            (cond (is_low_surrogate v) None (prepend (encode_utf8 v) (content plain r))))) is
            ∙ ap (λ t. cond t (content (after_high u) r) (cond (is_low_surrogate u) None (prepend (encode_utf8 u) (content plain r)))) high
            ∙ prepend-nil (content (after_high u) r);
        lexed = lex-unit;
        cuts = cut-unit;
      }

  unit_leads : is_high_surrogate u ≡ false → is_low_surrogate u ≡ false → Leads after_u plain (a ∷ b ∷ c ∷ d ∷ []) (encode_utf8 u)
  unfolding content
  unit_leads high low =
      record {
        inline = inline-unit;
        read = λ r.
            ap (option_and_then (λ v. cond (is_high_surrogate v) (content (after_high v) r)
            (cond (is_low_surrogate v) None (prepend (encode_utf8 v) (content plain r))))) is
            ∙ (λ i. cond (high i) (content (after_high u) r) (cond (low i) None (prepend (encode_utf8 u) (content plain r))));
        lexed = lex-unit;
        cuts = cut-unit;
      }

  low_leads : (h : ℕ) → is_low_surrogate u ≡ true → Leads (after_high h) plain (92 ∷ 117 ∷ a ∷ b ∷ c ∷ d ∷ [])
      (encode_utf8 (surrogate_pair h u))
  unfolding content lex cut
  low_leads h low =
      record {
        inline = (refl, (refl, inline-unit));
        read = λ r.
            ap (option_and_then (λ v. cond (is_low_surrogate v) (prepend (encode_utf8 (surrogate_pair h v)) (content plain r)) None)) is
            ∙ ap (λ t. cond t (prepend (encode_utf8 (surrogate_pair h u)) (content plain r)) None) low;
        lexed = λ r. lex-unit r;
        cuts = λ r l ls e. ap (λ x. lengthened 92 (lengthened 117 x)) (cut-unit r l ls e);
      }

-- ---- the whole string

abbrev Closes : Within → List ℕ → Type 0
Closes w xs = (s : List ℕ) → content w xs ≡ Some s → Closed w s xs

at_quote : (s xs : List ℕ) → content plain (34 ∷ xs) ≡ Some s → Closed plain s (34 ∷ xs)
unfolding content lex cut
at_quote s xs e =
    record {
      front = 34 ∷ [];
      rest = xs;
      is = refl;
      inline = (refl, tt);
      read = λ r. e;
      lexed = λ r. refl;
      cuts = λ r. refl;
    }

at_byte : (x : ℕ) (xs : List ℕ) → Closes plain xs → Closes after_backslash xs → Closes plain (x ∷ xs)
unfolding content
at_byte x xs go_on escaped s e = go (cases_Bool (x == 34)) (cases_Bool (x == 92)) (cases_Bool (nat_lt x 32))
  where
    go : ((x == 34) ≡ true) ⊎ ((x == 34) ≡ false) → ((x == 92) ≡ true) ⊎ ((x == 92) ≡ false) →
        (nat_lt x 32 ≡ true) ⊎ (nat_lt x 32 ≡ false) → Closed plain s (x ∷ xs)
    go (inl q) b c =
        let is = eqb-true x 34 q in
        subst (λ y. Closed plain s (y ∷ xs)) (sym is) (at_quote s xs (ap (λ y. content plain (y ∷ xs)) (sym is) ∙ e))
    go (inr q) (inl b) c =
        let is = eqb-true x 92 b in
        subst (λ y. Closed plain s (y ∷ xs)) (sym is) (then {p = 92 ∷ []} backslash_leads
        (ap (λ y. content plain (y ∷ xs)) (sym is) ∙ e) escaped)
    go (inr q) (inr b) (inl c) =
        let refused : content plain (x ∷ xs) ≡ None = λ i. cond (q i) (Some [])
        (cond (b i) (content after_backslash xs) (cond (c i) None (prepend (x ∷ []) (content plain xs)))) in
        not_found s (sym refused ∙ e)
    go (inr q) (inr b) (inr c) = then {p = x ∷ []} (plain_leads x q b c) e go_on

at_escape : (x : ℕ) (xs : List ℕ) → Closes plain xs → Closes after_u xs → Closes after_backslash (x ∷ xs)
unfolding content
at_escape x xs go_on unit s e = go (cases_Bool (x == 117)) (short_escape x) refl
  where
    go : ((x == 117) ≡ true) ⊎ ((x == 117) ≡ false) → (o : Option ℕ) → short_escape x ≡ o → Closed after_backslash s (x ∷ xs)
    go (inl u) o is =
        let x_is = eqb-true x 117 u in
        subst (λ y. Closed after_backslash s (y ∷ xs)) (sym x_is) (then {p = 117 ∷ []} u_leads
        (ap (λ y. content after_backslash (y ∷ xs)) (sym x_is) ∙ e) unit)
    go (inr u) None is =
        let refused : content after_backslash (x ∷ xs) ≡ None = λ i. cond (u i) (content after_u xs)
        (option_and_then (λ c. prepend (c ∷ []) (content plain xs)) (is i)) in
        not_found s (sym refused ∙ e)
    go (inr u) (Some c) is = then {p = x ∷ []} (short_leads x c u is) e go_on

at_unit : (a b c d : ℕ) (xs : List ℕ) → Closes plain xs → ((u : ℕ) → Closes (after_high u) xs) → Closes after_u (a ∷ b ∷ c ∷ d ∷ xs)
unfolding content
at_unit a b c d xs go_on high s e = go (code_unit a b c d) refl
  where
    here : ℕ → Option (List ℕ)
    here u = cond (is_high_surrogate u) (content (after_high u) xs) (cond (is_low_surrogate u) None
        (prepend (encode_utf8 u) (content plain xs)))

    by_unit : (u : ℕ) → code_unit a b c d ≡ Some u → (is_high_surrogate u ≡ true) ⊎ (is_high_surrogate u ≡ false) →
        (is_low_surrogate u ≡ true) ⊎ (is_low_surrogate u ≡ false) → Closed after_u s (a ∷ b ∷ c ∷ d ∷ xs)
    by_unit u is (inl h) l = then {p = a ∷ b ∷ c ∷ d ∷ []} (high_leads a b c d u is h) e (high u)
    by_unit u is (inr h) (inl l) =
        not_found s (sym (ap (option_and_then here) is ∙ (λ i. cond (h i) (content (after_high u) xs)
        (cond (l i) None (prepend (encode_utf8 u) (content plain xs))))) ∙ e)
    by_unit u is (inr h) (inr l) = then {p = a ∷ b ∷ c ∷ d ∷ []} (unit_leads a b c d u is h l) e go_on

    go : (o : Option ℕ) → code_unit a b c d ≡ o → Closed after_u s (a ∷ b ∷ c ∷ d ∷ xs)
    go None is = not_found s (sym (ap (option_and_then here) is) ∙ e)
    go (Some u) is = by_unit u is (cases_Bool (is_high_surrogate u)) (cases_Bool (is_low_surrogate u))

at_pair : (h p u a b c d : ℕ) (xs : List ℕ) → Closes plain xs → Closes (after_high h) (p ∷ u ∷ a ∷ b ∷ c ∷ d ∷ xs)
unfolding content
at_pair h p u a b c d xs go_on s e = go (cases_Bool ((p == 92) && (u == 117))) (code_unit a b c d) refl
  where
    here : ℕ → Option (List ℕ)
    here l = cond (is_low_surrogate l) (prepend (encode_utf8 (surrogate_pair h l)) (content plain xs)) None

    by_unit : (l : ℕ) → code_unit a b c d ≡ Some l → content (after_high h) (92 ∷ 117 ∷ a ∷ b ∷ c ∷ d ∷ xs) ≡ Some s →
        (is_low_surrogate l ≡ true) ⊎ (is_low_surrogate l ≡ false)
        → Closed (after_high h) s (92 ∷ 117 ∷ a ∷ b ∷ c ∷ d ∷ xs)
    by_unit l is f (inl low) = then {p = 92 ∷ 117 ∷ a ∷ b ∷ c ∷ d ∷ []} (low_leads a b c d l is h low) f go_on
    by_unit l is f (inr low) =
        not_found s (sym (ap (option_and_then here) is ∙ ap (λ t. cond t
        (prepend (encode_utf8 (surrogate_pair h l)) (content plain xs)) None) low) ∙ f)

    go : (((p == 92) && (u == 117)) ≡ true) ⊎ (((p == 92) && (u == 117)) ≡ false) → (o : Option ℕ) → code_unit a b c d ≡ o →
        Closed (after_high h) s (p ∷ u ∷ a ∷ b ∷ c ∷ d ∷ xs)
    go (inr t) o is = not_found s (sym (ap (λ v. cond v (option_and_then here (code_unit a b c d)) None) t) ∙ e)
    go (inl t) None is =
        not_found s (sym (ap (λ v. cond v (option_and_then here (code_unit a b c d)) None) t ∙ ap (option_and_then here) is) ∙ e)
    go (inl t) (Some l) is =
        let both = and_parts _ _ t in
        let p_is = eqb-true p 92 both.0 in
        let u_is = eqb-true u 117 both.1 in
        subst (λ y. Closed (after_high h) s (y ∷ u ∷ a ∷ b ∷ c ∷ d ∷ xs)) (sym p_is)
        (subst (λ y. Closed (after_high h) s (92 ∷ y ∷ a ∷ b ∷ c ∷ d ∷ xs)) (sym u_is)
        (by_unit l is (ap₂ (λ y z. content (after_high h) (y ∷ z ∷ a ∷ b ∷ c ∷ d ∷ xs)) (sym p_is) (sym u_is) ∙ e)
        (cases_Bool (is_low_surrogate l))))

closed : (w : Within) (xs : List ℕ) → Closes w xs
unfolding content
closed plain [] = λ s e. not_found s e
closed plain (x ∷ xs) = at_byte x xs (closed plain xs) (closed after_backslash xs)
closed after_backslash [] = λ s e. not_found s e
closed after_backslash (x ∷ xs) = at_escape x xs (closed plain xs) (closed after_u xs)
closed after_u [] = λ s e. not_found s e
closed after_u (a ∷ []) = λ s e. not_found s e
closed after_u (a ∷ b ∷ []) = λ s e. not_found s e
closed after_u (a ∷ b ∷ c ∷ []) = λ s e. not_found s e
closed after_u (a ∷ b ∷ c ∷ d ∷ xs) = at_unit a b c d xs (closed plain xs) (λ u. closed (after_high u) xs)
closed (after_high h) [] = λ s e. not_found s e
closed (after_high h) (p ∷ []) = λ s e. not_found s e
closed (after_high h) (p ∷ u ∷ []) = λ s e. not_found s e
closed (after_high h) (p ∷ u ∷ a ∷ []) = λ s e. not_found s e
closed (after_high h) (p ∷ u ∷ a ∷ b ∷ []) = λ s e. not_found s e
closed (after_high h) (p ∷ u ∷ a ∷ b ∷ c ∷ []) = λ s e. not_found s e
closed (after_high h) (p ∷ u ∷ a ∷ b ∷ c ∷ d ∷ xs) = at_pair h p u a b c d xs (closed plain xs)

-- a good string, from its quote on: up to where it ends, without a line end, and how that reads before any other text
pub record Whole (s xs : List ℕ) : Type 0 where
  pub front : List ℕ
  pub rest : List ℕ
  pub is : xs ≡ front ++ rest
  pub inline : IsInline front
  pub lexed : (r : List ℕ) → lex between (34 ∷ (front ++ r)) ≡ token (string s) ∷ lex between r
  pub cuts : (r : List ℕ) → cut between (34 ∷ (front ++ r)) ≡ (34 ∷ front) ∷ cut between r

pub whole_string : (xs s : List ℕ) → content plain xs ≡ Some s → Whole s xs
unfolding lex cut
whole_string xs s e =
    let c = closed plain xs s e in
    record {
      front = c.front;
      rest = c.rest;
      is = c.is;
      inline = c.inline;
      lexed = λ r. ap₂ (λ o l. token (string_token o) ∷ l) (c.read r) (c.lexed r);
      cuts = λ r. ap (lengthened 34) (c.cuts r);
    }
