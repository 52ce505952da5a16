-- What is open in a text, from its statement to its innermost brackets, leads to where the grammar is.
use Rattle.std.proofs.Common.{◌≡◌, refl, sym, ◌∙◌, ap, subst, ℕ, Bool, true, false, cond, ◌-◌, List, [], ◌∷◌, ◌++◌, inl, inr, length, take}
use Rattle.std.proofs.Common.{arith, length-append}
use Rattle.std.specs.Prelude.{⊤, Some, Ok, slice_get}
use Rattle.std.proofs.Math.Seq.{take-append_seam}
use Rattle.toml_lexemes.specs.Bytes.{ends_with_dot}
use Rattle.toml_lexemes.specs.Shown.{IsWholeLexeme}
use Rattle.toml_lexemes.specs.SpacedLexemes.{after_toml_gap}
use Rattle.toml_grammar.specs.Grammar.{Reading, innermost, is_empty_gap, lexeme_step, sort_turn, turned}
use Rattle.toml_grammar.specs.Sorts as sort
use Rattle.toml_grammar.specs.Sorts.{Sort, sort_of}
use Rattle.toml_grammar.specs.declared.next.Bracket.{Bracket}
use Rattle.toml_grammar.specs.declared.next.Bracket.TheVariants as bracket
use Rattle.toml_grammar.specs.declared.next.Next.{Next}
use Rattle.toml_grammar.specs.declared.next.Next.TheVariants as next
use Rattle.toml_grammar.specs.declared.next.Owner.TheVariants as owner
use Rattle.toml_documents.specs.Documents.{Level, level_end, list_tree, new_level, with_part}
use Rattle.toml_documents.specs.Kinds.{last_after_sort, last_after_text}
use Rattle.toml_documents.specs.Numbers.{only_number_words, opened_kind}
use Rattle.toml_documents.specs.declared.kind.Kind.{Kind}
use Rattle.toml_documents.specs.declared.kind.Kind.TheVariants.{Statement, Header, Table, Array, Numbers}
use Rattle.toml_documents.specs.declared.kind.Last.{Last}
use Rattle.toml_documents.specs.declared.kind.Last.TheVariants as last
use Rattle.toml_documents.specs.declared.style.Style.{Style}
use Rattle.toml_documents.proofs.Closings.{IsClose, after_close, closed, level_closes, list_leads}
use Rattle.toml_documents.proofs.Leading.{leads_more, leads_nil}
use Rattle.toml_documents.proofs.Levels.{IsLevel, level_reaches, part_level}
use Rattle.toml_documents.proofs.Readings.{Context, Fits, FitsEnd, In, IsOf, IsPart, Within, array, header, headers, reading, start}
use Rattle.toml_documents.proofs.Readings.{start_touch, statement, table, touch_at, where_ok}
use Rattle.toml_documents.proofs.Rows.{IsAt}
use Rattle.toml_documents.proofs.Written.{Place, after, at_line, lex_of, place, same_reading, sign}

-- before a statement
abbrev pub line_place : Place
line_place = place at_line (reading [] next.Line)

-- the brackets that are open in what is opened here
abbrev pub inner : Context → List Bracket → List Bracket
inner table bs = bs ++ bracket.Table ∷ []
inner array bs = bs ++ bracket.Array ∷ []
inner c bs = bs

-- what may be opened where this may come next
abbrev pub Opens : Context → Next → Context → Type 0
Opens statement next.Line header = ⊤
Opens header next.Header headers = ⊤
Opens statement next.Value table = ⊤
Opens statement next.Value array = ⊤
Opens table next.Value table = ⊤
Opens table next.Value array = ⊤
Opens array next.Member table = ⊤
Opens array next.Member array = ⊤
Opens d n c = ⊥

abbrev pub IsOpen : Sort → Type 0
IsOpen sort.open_array = ⊤
IsOpen sort.open_table = ⊤
IsOpen k = ⊥

-- a level that stands in another, of which the rest of the stack is
pub record IsNested (S : Context → Reading → Type 0) (c : Context) (lv : Level) (r : Reading) : Type 0 where
  pub around : Context
  pub before : Reading
  pub gap : List ℕ
  pub stack : S around before
  pub opens : Opens around before.next c
  pub step : lexeme_step before (after_toml_gap gap lv.opening) ≡ Ok (reading (inner c before.open_brackets) (start c))
  pub whole : IsWholeLexeme lv.opening
  pub bracket : IsOpen (sort_of lv.opening)
  pub level : IsLevel c (place (after sign) (reading (inner c before.open_brackets) (start c))) lv r.open_brackets r.next
  pub same : r.open_brackets ≡ inner c before.open_brackets

abbrev pub IsStack : Context → List Level → Reading → Type 0
IsStack c [] r = ⊥
IsStack c (lv ∷ []) r = (c ≡ statement) × IsLevel c line_place lv r.open_brackets r.next
IsStack c (lv ∷ outer ∷ lvs) r = IsNested (λ d o. IsStack d (outer ∷ lvs) o) c lv r

-- ---- the innermost level

-- it goes on
pub stack_top : (c : Context) (lv other : Level) (lvs : List Level) (r t : Reading) → IsStack c (lv ∷ lvs) r → other.opening ≡ lv.opening
    → ((a : Place) → IsLevel c a lv r.open_brackets r.next
    → IsLevel c a other t.open_brackets t.next × (t.open_brackets ≡ r.open_brackets))
    → IsStack c (other ∷ lvs) t
stack_top c lv other [] r t (e, h) same k = (e, (k line_place h).0)
stack_top c lv other (outer ∷ lvs) r t h same k =
    let more = k (place (after sign) (reading (inner c h.before.open_brackets) (start c))) h.level in
    record {
      around = h.around;
      before = h.before;
      gap = h.gap;
      stack = h.stack;
      opens = h.opens;
      step =
          subst (λ (s : List ℕ). lexeme_step h.before (after_toml_gap h.gap s) ≡ Ok (reading (inner c h.before.open_brackets) (start c)))
          (sym same) h.step;
      whole = subst IsWholeLexeme (sym same) h.whole;
      bracket = subst (λ (s : List ℕ). IsOpen (sort_of s)) (sym same) h.bracket;
      level = more.0;
      same = more.1 ∙ h.same;
    }

-- what holds of it from wherever it begins
pub stack_level : (c : Context) (lv : Level) (lvs : List Level) (r : Reading) → IsStack c (lv ∷ lvs) r
    → (a : Place) × IsLevel c a lv r.open_brackets r.next
stack_level c lv [] r (e, h) = (line_place, h)
stack_level c lv (outer ∷ lvs) r h = (place (after sign) (reading (inner c h.before.open_brackets) (start c)), h.level)

pub stack_fits : (c : Context) (lv : Level) (lvs : List Level) (r : Reading) → IsStack c (lv ∷ lvs) r
    → FitsEnd c (level_end lv).last r.next × Within c r.open_brackets
stack_fits c lv lvs r h =
    let at = stack_level c lv lvs r h in ((level_reaches c at.0 lv r.open_brackets r.next at.1).fits, at.1.within)

-- ---- opening brackets

module _ (bs : List Bracket) (g s : List ℕ) (t : Reading) where
  -- where an opening bracket leads
  abbrev OpensTo : Context → Next → Kind → Type 0
  OpensTo d n kind = (c : Context) × Opens d n c × IsOf c kind × (t ≡ reading (inner c bs) (start c))

  of_array : (ss : List (List ℕ)) → IsOf array (cond (only_number_words ss) Numbers Array)
  of_array ss = by (only_number_words ss)
    where
      by : (b : Bool) → IsOf array (cond b Numbers Array)
      by true = tt
      by false = tt

  -- the first lexeme of a statement
  pub first_opens : (k : Sort) (ss : List (List ℕ)) → IsOpen k → turned bs (sort_turn k next.Line (innermost bs) g s) ≡ Ok t
      → OpensTo statement next.Line (opened_kind Statement true k ss)
  first_opens sort.open_array ss h e = (header, tt, tt, sym (same_reading e))
  first_opens sort.open_table ss h e = absurd (cc)
  first_opens k ss h e = absurd h

  -- any other, but where a comment began the statement
  pub opens_to : (d : Context) (kind : Kind) → IsOf d kind → (n : Next) (k : Sort) (ss : List (List ℕ)) → IsOpen k → In d n
      → (n ≡ next.Line → ⊥)
      → turned bs (sort_turn k n (innermost bs) g s) ≡ Ok t → OpensTo d n (opened_kind kind false k ss)
  opens_to statement Statement of next.Value sort.open_array ss h i begun e = (array, tt, of_array ss, sym (same_reading e))
  opens_to statement Statement of next.Value sort.open_table ss h i begun e = (table, tt, tt, sym (same_reading e))
  opens_to table Table of next.Value sort.open_array ss h i begun e = (array, tt, of_array ss, sym (same_reading e))
  opens_to table Table of next.Value sort.open_table ss h i begun e = (table, tt, tt, sym (same_reading e))
  opens_to array Array of next.Member sort.open_array ss h i begun e = (array, tt, of_array ss, sym (same_reading e))
  opens_to array Array of next.Member sort.open_table ss h i begun e = (table, tt, tt, sym (same_reading e))
  opens_to array Numbers of next.Member sort.open_array ss h i begun e = (array, tt, of_array ss, sym (same_reading e))
  opens_to array Numbers of next.Member sort.open_table ss h i begun e = (table, tt, tt, sym (same_reading e))
  opens_to header Header of next.Header sort.open_array ss h i begun e =
      (headers, tt, tt, (where_ok (is_empty_gap g) (next.Key owner.Tables true) _ bs t e).1)
  opens_to header Header of next.Header sort.open_table ss h i begun e = absurd (cc)
  opens_to statement kind of next.Line k ss h i begun e = absurd (begun refl)
  opens_to d kind of (next.Key o due) sort.open_array ss h i begun e = absurd (cc)
  opens_to d kind of (next.Key o due) sort.open_table ss h i begun e = absurd (cc)
  opens_to d kind of next.After sort.open_array ss h i begun e = absurd (cc)
  opens_to d kind of next.After sort.open_table ss h i begun e = absurd (cc)
  opens_to d kind of next.AfterDate sort.open_array ss h i begun e = absurd (cc)
  opens_to d kind of next.AfterDate sort.open_table ss h i begun e = absurd (cc)
  opens_to d kind of next.Closing sort.open_array ss h i begun e = absurd (cc)
  opens_to d kind of next.Closing sort.open_table ss h i begun e = absurd (cc)
  opens_to d kind of next.Entry sort.open_array ss h i begun e = absurd (cc)
  opens_to d kind of next.Entry sort.open_table ss h i begun e = absurd (cc)
  opens_to d kind of n k ss h i begun e = absurd assumption

last_bracket : (bs : List Bracket) (b : Bracket) → slice_get (bs ++ b ∷ []) (length bs) ≡ Some b
last_bracket [] b = refl
last_bracket (x ∷ bs) b = last_bracket bs b

one_longer : (bs : List Bracket) (b : Bracket) → length (bs ++ b ∷ []) - 1 ≡ length bs
one_longer bs b = omega (arith, length-append bs (b ∷ []))

innermost_is : (bs : List Bracket) (b : Bracket) → innermost (bs ++ b ∷ []) ≡ Some b
innermost_is bs b = ap (slice_get (bs ++ b ∷ [])) (one_longer bs b) ∙ last_bracket bs b

-- no statement is opened, a header in a statement alone, and the inner brackets of one in a header
opens_statement : (d : Context) (n : Next) → Opens d n statement → ⊥
opens_statement statement next.Line o = absurd o
opens_statement header next.Line o = absurd o
opens_statement headers next.Line o = absurd o
opens_statement table next.Line o = absurd o
opens_statement array next.Line o = absurd o
opens_statement d n o = absurd o

opens_header : (d : Context) (n : Next) → Opens d n header → d ≡ statement
opens_header statement next.Line o = refl
opens_header header next.Line o = absurd o
opens_header headers next.Line o = absurd o
opens_header table next.Line o = absurd o
opens_header array next.Line o = absurd o
opens_header d n o = absurd o

opens_headers : (d : Context) (n : Next) → Opens d n headers → d ≡ header
opens_headers statement next.Line o = absurd o
opens_headers header next.Header o = refl
opens_headers headers next.Line o = absurd o
opens_headers table next.Line o = absurd o
opens_headers array next.Line o = absurd o
opens_headers d n o = absurd o

within_inner : (d : Context) (n : Next) (c : Context) (bs : List Bracket) → Opens d n c → Within d bs → Within c (inner c bs)
within_inner d n statement bs o w = absurd (opens_statement d n o)
within_inner d n header bs o w = subst (λ (c : Context). Within c bs) (opens_header d n o) w
within_inner d n headers bs o w = subst (λ (c : Context). Within c bs) (opens_headers d n o) w
within_inner d n table bs o w = innermost_is bs bracket.Table
within_inner d n array bs o w = innermost_is bs bracket.Array

nested_touch : (d : Context) (n : Next) (c : Context) → Opens d n c → start_touch c ≡ after sign
nested_touch d n statement o = absurd (opens_statement d n o)
nested_touch d n c o = refl

-- a level that has just begun
new_is : (c : Context) (kind : Kind) (s : List ℕ) (bs : List Bracket) → IsOf c kind → Within c bs → start_touch c ≡ after sign
    → IsLevel c (place (after sign) (reading bs (start c))) (new_level kind s) bs (start c)
new_is c kind s bs of w touch = record {
  kind = of;
  within = w;
  p = start c;
  q = start c;
  part =
      leads_nil (place (after sign) (reading bs (start c))) (IsAt (start_touch c) bs (start c))
      (start c, inl refl, ap (λ u. place u (reading bs (start c))) (sym touch));
  fits = refl;
  comma = refl;
  comments = inl refl;
}

-- an opening bracket begins a level
pub stack_opened : (d : Context) (lv : Level) (lvs : List Level) (r t : Reading) (kind : Kind) (g s : List ℕ) → IsStack d (lv ∷ lvs) r
    → IsWholeLexeme s → IsOpen (sort_of s) → lexeme_step r (after_toml_gap g s) ≡ Ok t
    → ((c : Context) × Opens d r.next c × IsOf c kind × (t ≡ reading (inner c r.open_brackets) (start c)))
    → (c : Context) × IsStack c (new_level kind s ∷ lv ∷ lvs) t
stack_opened d lv lvs r t kind g s h whole bracket step (c, opens, of, is) = (
  c,
  subst (λ (u : Reading). IsStack c (new_level kind s ∷ lv ∷ lvs) u) (sym is)
      (record {
        around = d;
        before = r;
        gap = g;
        stack = h;
        opens = opens;
        step = step ∙ ap (λ (u : Reading). Ok u) is;
        whole = whole;
        bracket = bracket;
        level =
            new_is c kind s (inner c r.open_brackets) of (within_inner d r.next c r.open_brackets opens (stack_fits d lv lvs r h).1)
            (nested_touch d r.next c opens);
        same = refl;
      }),
)

-- ---- closing brackets

abbrev next_after : Context → Next
next_after headers = next.Closing
next_after c = next.After

closed_inner : (bs : List Bracket) (b : Bracket) → closed (bs ++ b ∷ []) ≡ reading bs next.After
closed_inner bs b =
    ap (λ (n : ℕ). reading (take n (bs ++ b ∷ [])) next.After) (one_longer bs b)
    ∙ ap (λ (x : List Bracket). reading x next.After) (take-append_seam bs (b ∷ []))

after_inner : (c : Context) (bs : List Bracket) → after_close c (inner c bs) ≡ reading bs (next_after c)
after_inner statement bs = refl
after_inner header bs = refl
after_inner headers bs = refl
after_inner table bs = closed_inner bs bracket.Table
after_inner array bs = closed_inner bs bracket.Array

closed_fits : (d : Context) (n : Next) (c : Context) → Opens d n c → Fits d last.Close (next_after c)
closed_fits statement next.Line header o = inr tt
closed_fits header next.Header headers o = refl
closed_fits statement next.Value table o = inr tt
closed_fits statement next.Value array o = inr tt
closed_fits table next.Value table o = inr tt
closed_fits table next.Value array o = inr tt
closed_fits array next.Member table o = tt
closed_fits array next.Member array o = tt
closed_fits d n c o = absurd o

pub not_statement : (d : Context) (n : Next) (c : Context) → Opens d n c → c ≡ statement → ⊥
not_statement d n header o e = cc
not_statement d n headers o e = cc
not_statement d n table o e = cc
not_statement d n array o e = cc
not_statement d n statement o e = opens_statement d n o

open_part : (k : Sort) → IsOpen k → IsPart k × (lex_of k ≡ sign)
open_part sort.open_array h = (tt, refl)
open_part sort.open_table h = (tt, refl)
open_part k h = absurd h

pub open_last : (s : List ℕ) → IsOpen (sort_of s) → last_after_text s ≡ last.Close
open_last s h = by (sort_of s) h
  where
    by : (k : Sort) → IsOpen k → last_after_sort k (ends_with_dot s) ≡ last.Close
    by sort.open_array h = refl
    by sort.open_table h = refl
    by k h = absurd h

-- a closing bracket ends the innermost level
pub stack_closed : (style : Style) (c : Context) (lv outer : Level) (lvs : List Level) (r t : Reading) (g s : List ℕ)
    → IsStack c (lv ∷ outer ∷ lvs) r → IsWholeLexeme s → IsClose (sort_of s) → lexeme_step r (after_toml_gap g s) ≡ Ok t
    → (d : Context) × IsStack d (with_part outer lv.opening (list_tree style lv s) ∷ lvs) t
stack_closed style c lv outer lvs r t g s h whole close step = (
  h.around,
  stack_top h.around outer (with_part outer lv.opening (list_tree style lv s)) lvs h.before t h.stack refl (λ a level.
      let start_at = reading (inner c h.before.open_brackets) (start c) in
      let closes =
      level_closes c (not_statement h.around h.before.next c h.opens) (place (after sign) start_at) lv r.open_brackets r.next s g t
      h.level whole close step in
      let is : t ≡ reading h.before.open_brackets (next_after c) =
      closes.0 ∙ ap (after_close c) h.same ∙ after_inner c h.before.open_brackets in
      let last_is = open_last lv.opening h.bracket in (
        subst (λ (u : Reading). IsLevel h.around a (with_part outer lv.opening (list_tree style lv s)) u.open_brackets u.next) (sym is)
            (part_level h.around a outer h.before.open_brackets h.before.next level lv.opening h.gap start_at h.whole
            (open_part (sort_of lv.opening) h.bracket).0
            h.step (list_tree style lv s) h.before.open_brackets (next_after c) level.within
            (subst (λ (l : Last). Fits h.around l (next_after c)) (sym last_is) (closed_fits h.around h.before.next c h.opens))
            (λ x ready. leads_more x (list_tree style lv s) (λ b. b ≡ place (after sign) t)
            (IsAt (touch_at h.around (last_after_text lv.opening)) h.before.open_brackets (next_after c))
            (list_leads style lv s x start_at t ready h.whole (open_part (sort_of lv.opening) h.bracket).1 whole close closes.1)
            (λ b e. (next_after c, inl refl, e ∙ (λ i. place (touch_at h.around (sym last_is i)) (is i)))))),
        ap (λ (u : Reading). u.open_brackets) is,
      )),
)
