-- A part, its comma and its comments, in the order of a layout, lead the grammar to where they led it in the order of the text.
use Rattle.std.proofs.Common.{◌≡◌, refl, sym, ◌∙◌, ap, subst, ℕ, Bool, true, false, cond, List, [], ◌∷◌, ◌⊎◌, inl, inr}
use Rattle.std.specs.Prelude.{⊤, Option, Some, None, Ok}
use Rattle.prettyless_model.specs.Tree.{Tree, Nil}
use Rattle.prettyless_trees.specs.Counted as counted
use Rattle.toml_lexemes.specs.Bytes as byte
use Rattle.toml_lexemes.specs.Shown.{IsWholeLexeme}
use Rattle.toml_lexemes.specs.SpacedLexemes.{after_toml_gap}
use Rattle.toml_lexemes.specs.Statements.{trimmed}
use Rattle.toml_lexemes.proofs.WholeLexemes.{sign_is_whole}
use Rattle.toml_grammar.specs.Comments.{is_comment}
use Rattle.toml_grammar.specs.Grammar.{Reading, after_value_comma, comma_turn, comment_after, comment_turn, innermost, lexeme_step}
use Rattle.toml_grammar.specs.Grammar.{line_end_after, line_end_turn, turned, where_so}
use Rattle.toml_grammar.specs.Sorts as sort
use Rattle.toml_grammar.specs.Sorts.{Sort, sort_of}
use Rattle.toml_grammar.specs.declared.expected.Expected.TheVariants as want
use Rattle.toml_grammar.specs.declared.next.Bracket.{Bracket}
use Rattle.toml_grammar.specs.declared.next.Bracket.TheVariants as bracket
use Rattle.toml_grammar.specs.declared.next.Next.{Next}
use Rattle.toml_grammar.specs.declared.next.Next.TheVariants as next
use Rattle.toml_grammar.specs.declared.next.Owner.TheVariants as owner
use Rattle.toml_documents.specs.Documents.{Commented, End, after_comments, comment_tree, comments_tree, end_after_comma, is_some}
use Rattle.toml_documents.specs.Gaps.{gap_before_comma, gap_before_comment, gap_before_first_comment, line_break}
use Rattle.toml_documents.specs.declared.gaps.Gap.{Gap}
use Rattle.toml_documents.specs.declared.gaps.Gap.TheVariants as gap
use Rattle.toml_documents.specs.declared.kind.Kind.{Kind}
use Rattle.toml_documents.specs.declared.kind.Kind.TheVariants.{Statement, Array, Numbers}
use Rattle.toml_documents.specs.declared.kind.Last.{Last}
use Rattle.toml_documents.specs.declared.kind.Last.TheVariants as last
use Rattle.toml_documents.proofs.Leading.{GapLeads, Leads, Lined, LinedTwice, Spaced, leads_append, leads_counted, leads_more, leads_nil}
use Rattle.toml_documents.proofs.Leading.{leads_separated, leads_text}
use Rattle.toml_documents.proofs.Readings.{Context, Fits, FitsComma, FitsComment, FitsEnd, FitsKey, FitsValue, IsAfter, IsOf, IsOnLine}
use Rattle.toml_documents.proofs.Readings.{Ready, Within, array, clear_at, header, headers, reading, stands, start, statement, step_at}
use Rattle.toml_documents.proofs.Readings.{table, touch_at}
use Rattle.toml_documents.proofs.Written.{EndsLine, IsGapAt, MayEnd, MaySpace, MayTouch, Place, Touch, after, after_space, at_line, comment}
use Rattle.toml_documents.proofs.Written.{lex_of, place, same_reading, sign}

-- after a date may stand what may stand after any value, in its place and after a line end
abbrev pub Covers : Next → Next → Type 0
Covers m n = (m ≡ n) ⊎ ((m ≡ next.AfterDate) × (n ≡ next.After))

pub covers_both : (l m n : Next) → Covers l m → Covers m n → Covers l n
covers_both l m n (inl e) k = subst (λ (q : Next). Covers q n) (sym e) k
covers_both l m n (inr (d, a)) (inl e) = inr (d, sym e ∙ a)
covers_both l m n (inr (d, a)) (inr (f, b)) = let clash : next.After ≡ next.AfterDate = sym a ∙ f in absurd (cc)

-- a place where this may come next, or what covers it
abbrev pub IsAt : Touch → List Bracket → Next → Place → Type 0
IsAt u bs n b = (m : Next) × Covers m n × (b ≡ place u (reading bs m))

-- what comes next after a line end, where one may come after a value
abbrev pub ended : Next → Next
ended next.AfterDate = next.After
ended n = n

pub ended_same : (m n : Next) → Covers m n → ended m ≡ ended n
ended_same m n (inl e) = ap ended e
ended_same m n (inr (d, a)) = ap ended d ∙ sym (ap ended a)

-- a comma leads on
abbrev pub CommaTo : List Bracket → Next → Type 0
CommaTo bs q = turned bs (comma_turn next.After (innermost bs)) ≡ Ok (reading bs q)

-- there is a comma or not
abbrev pub HasComma : Bool → List Bracket → Next → Next → Type 0
HasComma false bs p q = q ≡ p
HasComma true bs p q = IsAfter p × CommaTo bs q

-- where comments may come
abbrev pub MayComment : Context → Next → Type 0
MayComment statement next.After = ⊤
MayComment statement next.AfterDate = ⊤
MayComment array next.Member = ⊤
MayComment array next.After = ⊤
MayComment array next.AfterDate = ⊤
MayComment c n = ⊥

pub record IsCommentText (s : List ℕ) : Type 0 where
  pub whole : IsWholeLexeme (trimmed s)
  pub sorted : sort_of (trimmed s) ≡ sort.comment
  pub allowed : is_comment (trimmed s) ≡ true

abbrev pub AreCommentTexts : List Commented → Type 0
AreCommentTexts [] = ⊤
AreCommentTexts (r ∷ rs) = IsCommentText r.comment × AreCommentTexts rs

-- a statement has one
abbrev pub MayBeMany : Context → List Commented → Type 0
MayBeMany statement rs = rs ≡ []
MayBeMany c rs = ⊤

-- there are comments or none
abbrev pub HasComments : Context → List Commented → Next → Next → Type 0
HasComments c [] q n = Covers q n
HasComments c (r ∷ rs) q n = (ended q ≡ n) × MayComment c q × MayBeMany c rs × AreCommentTexts (r ∷ rs)

-- ---- commas

fits_end : (c : Context) (l : Last) (n : Next) → Fits c l n → FitsEnd c l n
fits_end statement last.Comma n h = absurd h
fits_end statement last.Comment n h = inl h
fits_end header last.Comma n h = absurd h
fits_end header last.Comment n h = absurd h
fits_end headers last.Comma n h = absurd h
fits_end headers last.Comment n h = absurd h
fits_end table last.Comma n (inl h) = absurd h
fits_end table last.Comma n (inr h) = absurd h
fits_end table last.Comment n (inl h) = absurd h
fits_end table last.Comment n (inr h) = absurd h
fits_end array last.Comma n h = absurd h
fits_end array last.Comment n h = absurd h
fits_end c l n h = h

-- no value begins what is open
start_no_value : (c : Context) (n : Next) → n ≡ start c → IsAfter n → ⊥
start_no_value statement n e h = subst IsAfter e h
start_no_value header n e h = subst IsAfter e h
start_no_value headers n e h = subst IsAfter e h
start_no_value table n e h = subst IsAfter e h
start_no_value array n e h = subst IsAfter e h

-- after a value stands what may be followed on the same line
pub value_is_on_line : (c : Context) (l : Last) (n : Next) → Fits c l n → IsAfter n → IsOnLine l
value_is_on_line c last.Start n h k = absurd (start_no_value c n h k)
value_is_on_line c last.Close n h k = tt
value_is_on_line c last.Word n h k = tt
value_is_on_line c last.Dot n h k = tt
value_is_on_line c last.String n h k = tt
value_is_on_line statement last.Equals n h k = subst IsAfter h k
value_is_on_line table last.Equals n h k = subst IsAfter h k
value_is_on_line header last.Equals n h k = h
value_is_on_line headers last.Equals n h k = h
value_is_on_line array last.Equals n h k = h
value_is_on_line statement last.Comma n h k = h
value_is_on_line header last.Comma n h k = h
value_is_on_line headers last.Comma n h k = h
value_is_on_line table last.Comma n (inl h) k = h
value_is_on_line table last.Comma n (inr h) k = h
value_is_on_line array last.Comma n h k = h
value_is_on_line statement last.Comment n h k = subst IsAfter h k
value_is_on_line header last.Comment n h k = h
value_is_on_line headers last.Comment n h k = h
value_is_on_line table last.Comment n (inl h) k = h
value_is_on_line table last.Comment n (inr h) k = h
value_is_on_line array last.Comment n h k = h

pub value_covers : (m n : Next) → Covers m n → IsAfter n → IsAfter m
value_covers m n (inl e) h = subst IsAfter (sym e) h
value_covers m n (inr (d, a)) h = subst IsAfter (sym d) tt

comma_gap : (l : Last) → IsOnLine l → gap_before_comma l ≡ gap.Nothing
comma_gap last.Close h = refl
comma_gap last.Word h = refl
comma_gap last.Dot h = refl
comma_gap last.String h = refl
comma_gap l h = absurd h

comma_touch : (c : Context) (l : Last) (m : Next) → IsOnLine l → MayTouch (touch_at c l) m (44 ∷ [])
comma_touch c last.Close m h = tt
comma_touch c last.Word m h = inl refl
comma_touch c last.Dot m h = inl refl
comma_touch c last.String m h = refl
comma_touch c l m h = absurd h

line_touch : (c : Context) (l : Last) (g : List ℕ) → IsOnLine l → IsGapAt (touch_at c l) g → g ≡ []
line_touch c last.Close g h e = e
line_touch c last.Word g h e = e
line_touch c last.Dot g h e = e
line_touch c last.String g h e = e
line_touch c l g h e = absurd h

comma_by : (bs : List Bracket) (m q : Next) (b : Option Bracket) → IsAfter m
    → turned bs (after_value_comma next.After b) ≡ Ok (reading bs q)
    → turned bs (comma_turn m b) ≡ Ok (reading bs q)
comma_by bs next.After q b h e = e
comma_by bs next.AfterDate q None h e = absurd (cc)
comma_by bs next.AfterDate q (Some bracket.Array) h e = e
comma_by bs next.AfterDate q (Some bracket.Table) h e = e
comma_by bs m q b h e = absurd h

pub comma_ready : (c : Context) (l : Last) (bs : List Bracket) (m q : Next) → IsOnLine l → IsAfter m → CommaTo bs q
    → Ready (44 ∷ []) (reading bs q) (place (touch_at c l) (reading bs m))
comma_ready c l bs m q on h to = (
  comma_touch c l m on,
  λ g e. subst (λ (x : List ℕ). lexeme_step (reading bs m) (after_toml_gap x (44 ∷ [])) ≡ Ok (reading bs q)) (sym (line_touch c l g on e))
      (comma_by bs m q (innermost bs) h to),
)

none_in : (bs : List Bracket) (q : Next) → bs ≡ [] → CommaTo bs q → ⊥
none_in bs q is e =
    let to : turned [] (comma_turn next.After None) ≡ Ok (reading [] q) = subst (λ (x : List Bracket). CommaTo x q) is e in cc

pub fits_comma : (c : Context) (bs : List Bracket) (q : Next) → Within c bs → CommaTo bs q → FitsComma c q
fits_comma statement bs q w e = none_in bs q w e
fits_comma header bs q w e = none_in bs q w e
fits_comma headers bs q w e = none_in bs q w e
fits_comma table bs q w e =
    let to : turned bs (after_value_comma next.After (Some bracket.Table)) ≡ Ok (reading bs q) =
    subst (λ (x : Option Bracket). turned bs (after_value_comma next.After x) ≡ Ok (reading bs q)) w e in
    ap (λ (r : Reading). r.next) (sym (same_reading to))
fits_comma array bs q w e =
    let to : turned bs (after_value_comma next.After (Some bracket.Array)) ≡ Ok (reading bs q) =
    subst (λ (x : Option Bracket). turned bs (after_value_comma next.After x) ≡ Ok (reading bs q)) w e in
    ap (λ (r : Reading). r.next) (sym (same_reading to))

-- a document leads to where it ends so
pub record Reaches (c : Context) (a : Place) (e : End) (bs : List Bracket) (n : Next) : Type 0 where
  pub leads : Leads a e.tree (IsAt (touch_at c e.last) bs n)
  pub fits : FitsEnd c e.last n

-- a document and then a comma, or none
pub comma_reaches : (c : Context) (a : Place) (e : End) (bs : List Bracket) (p q : Next) → Within c bs
    → Leads a e.tree (IsAt (touch_at c e.last) bs p) → Fits c e.last p → (comma : Bool) → HasComma comma bs p q
    → Reaches c a (end_after_comma comma e) bs q
comma_reaches c a e bs p q w h f false is = record {
  leads = subst (λ (n : Next). Leads a e.tree (IsAt (touch_at c e.last) bs n)) (sym is) h;
  fits = subst (FitsEnd c e.last) (sym is) (fits_end c e.last p f);
}
comma_reaches c a e bs p q w h f true (value, to) = record {
  leads =
      let on = value_is_on_line c e.last p f value in
      leads_separated a e.tree (counted.text (byte.comma ∷ [])) (IsAt (touch_at c e.last) bs p) (Ready (44 ∷ []) (reading bs q))
      (IsAt (after sign) bs q) h
      (λ b r. leads_text b (place (after sign) (reading bs q)) (44 ∷ []) (IsAt (after sign) bs q)
      (stands (44 ∷ []) (reading bs q) b (sign_is_whole 44 refl) r) (q, inl refl, refl))
      (gap_before_comma e.last)
      (λ b (m, covers, is). subst (λ (x : Place). GapLeads (gap_before_comma e.last) x (Ready (44 ∷ []) (reading bs q))) (sym is)
      (subst (λ (g : Gap). GapLeads g (place (touch_at c e.last) (reading bs m)) (Ready (44 ∷ []) (reading bs q)))
      (sym (comma_gap e.last on))
      (comma_ready c e.last bs m q on (value_covers m p covers value) to)));
  fits = fits_comma c bs q w to;
}

-- ---- comments

-- what comes next in an array between its values
abbrev pub IsArrayNext : Next → Type 0
IsArrayNext next.Member = ⊤
IsArrayNext next.After = ⊤
IsArrayNext next.AfterDate = ⊤
IsArrayNext n = ⊥

array_line_by : (bs : List Bracket) (m : Next) (b : Option Bracket) → b ≡ Some bracket.Array → IsArrayNext m
    → turned bs (line_end_turn m b) ≡ Ok (reading bs (ended m))
array_line_by bs next.Member b e h = refl
array_line_by bs next.After b e h = ap (λ (x : Option Bracket). turned bs (line_end_after next.After x)) e
array_line_by bs next.AfterDate b e h = ap (λ (x : Option Bracket). turned bs (line_end_after next.AfterDate x)) e
array_line_by bs m b e h = absurd h

pub array_line : (bs : List Bracket) (m : Next) → Within array bs → IsArrayNext m → EndsLine (reading bs m) (reading bs (ended m))
array_line bs m w h = array_line_by bs m (innermost bs) w h

array_comment_by : (bs : List Bracket) (m : Next) (b : Option Bracket) (ok : Bool) → b ≡ Some bracket.Array → ok ≡ true → IsArrayNext m
    → turned bs (comment_turn m b ok) ≡ Ok (reading bs (ended m))
array_comment_by bs next.Member b ok e so h = ap (λ (x : Bool). turned bs (where_so x next.Member want.Comment)) so
array_comment_by bs next.After b ok e so h =
    ap (λ (x : Option Bracket). turned bs (comment_after next.After x ok)) e
    ∙ ap (λ (x : Bool). turned bs (where_so x next.After want.Comment)) so
array_comment_by bs next.AfterDate b ok e so h =
    ap (λ (x : Option Bracket). turned bs (comment_after next.AfterDate x ok)) e
    ∙ ap (λ (x : Bool). turned bs (where_so x next.After want.Comment)) so
array_comment_by bs m b ok e so h = absurd h

statement_comment_by : (bs : List Bracket) (m : Next) (ok : Bool) → bs ≡ [] → ok ≡ true → IsAfter m
    → turned bs (comment_turn m (innermost bs) ok) ≡ Ok (reading bs (ended m))
statement_comment_by bs next.After ok e so h =
    ap (λ (x : List Bracket). turned bs (comment_after next.After (innermost x) ok)) e
    ∙ ap (λ (x : Bool). turned bs (where_so x next.After want.Comment)) so
statement_comment_by bs next.AfterDate ok e so h =
    ap (λ (x : List Bracket). turned bs (comment_after next.AfterDate (innermost x) ok)) e
    ∙ ap (λ (x : Bool). turned bs (where_so x next.After want.Comment)) so
statement_comment_by bs m ok e so h = absurd h

commented_turn : (c : Context) (bs : List Bracket) (m : Next) (ok : Bool) → Within c bs → MayComment c m → ok ≡ true
    → turned bs (comment_turn m (innermost bs) ok) ≡ Ok (reading bs (ended m))
commented_turn statement bs next.After ok w h so = statement_comment_by bs next.After ok w so tt
commented_turn statement bs next.AfterDate ok w h so = statement_comment_by bs next.AfterDate ok w so tt
commented_turn array bs next.Member ok w h so = array_comment_by bs next.Member (innermost bs) ok w so tt
commented_turn array bs next.After ok w h so = array_comment_by bs next.After (innermost bs) ok w so tt
commented_turn array bs next.AfterDate ok w h so = array_comment_by bs next.AfterDate (innermost bs) ok w so tt
commented_turn c bs m ok w h so = absurd h

-- the line begins, or a space is before it
abbrev Apart : Touch → Type 0
Apart at_line = ⊤
Apart after_space = ⊤
Apart (after l) = ⊥

apart_touch : (u : Touch) (n : Next) (s : List ℕ) → Apart u → MayTouch u n s
apart_touch at_line n s h = tt
apart_touch after_space n s h = tt
apart_touch (after l) n s h = absurd h

comment_ready : (c : Context) (bs : List Bracket) (m : Next) (s : List ℕ) (u : Touch) → Apart u → Within c bs → MayComment c m
    → IsCommentText s
    → Ready (trimmed s) (reading bs (ended m)) (place u (reading bs m))
comment_ready c bs m s u apart w h text = (
  apart_touch u m (trimmed s) apart,
  λ g e. step_at (reading bs m) (reading bs (ended m)) g (trimmed s) sort.comment text.sorted (clear_at u g e)
      (commented_turn c bs m (is_comment (trimmed s)) w h text.allowed),
)

pub ended_twice : (m : Next) → ended (ended m) ≡ ended m
ended_twice next.AfterDate = refl
ended_twice m = refl

pub array_ended : (m : Next) → IsArrayNext m → IsArrayNext (ended m)
array_ended next.Member h = tt
array_ended next.After h = tt
array_ended next.AfterDate h = tt
array_ended m h = absurd h

array_comments : (m : Next) → IsArrayNext m → MayComment array m
array_comments next.Member h = tt
array_comments next.After h = tt
array_comments next.AfterDate h = tt
array_comments m h = absurd h

module _ (bs : List Bracket) (w : Within array bs) (s : List ℕ) (text : IsCommentText s) where
  -- in an array, after a space, a line end or two
  array_space : (m : Next) → IsArrayNext m → (u : Touch) → MaySpace u
      → Spaced (place u (reading bs m)) (Ready (trimmed s) (reading bs (ended m)))
  array_space m h u may = (may, comment_ready array bs m s after_space tt w (array_comments m h) text)

  array_lined : (m : Next) → IsArrayNext m → (u : Touch) → MayEnd u
      → Lined (place u (reading bs m)) (Ready (trimmed s) (reading bs (ended m)))
  array_lined m h u may = (
    reading bs (ended m),
    may,
    array_line bs m w h,
    subst (λ (n : Next). Ready (trimmed s) (reading bs n) (place at_line (reading bs (ended m)))) (ended_twice m)
        (comment_ready array bs (ended m) s at_line tt w (array_comments (ended m) (array_ended m h)) text),
  )

  array_lines : (m : Next) → IsArrayNext m → (u : Touch) → MayEnd u
      → LinedTwice (place u (reading bs m)) (Ready (trimmed s) (reading bs (ended m)))
  array_lines m h u may = (
    reading bs (ended m),
    may,
    array_line bs m w h,
    subst (λ (n : Next). Lined (place at_line (reading bs (ended m))) (Ready (trimmed s) (reading bs n))) (ended_twice m)
        (array_lined (ended m) (array_ended m h) at_line tt),
  )

  array_break : (m : Next) → IsArrayNext m → (u : Touch) → MayEnd u → (blank : Bool)
      → GapLeads (line_break blank) (place u (reading bs m)) (Ready (trimmed s) (reading bs (ended m)))
  array_break m h u may true = array_lines m h u may
  array_break m h u may false = array_lined m h u may

  array_either : (m : Next) → IsArrayNext m → (u : Touch) → MayEnd u → MaySpace u → (broken blank : Bool)
      → GapLeads (cond broken (line_break blank) gap.Beside) (place u (reading bs m)) (Ready (trimmed s) (reading bs (ended m)))
  array_either m h u may space true blank = array_break m h u may blank
  array_either m h u may space false blank = array_space m h u space

  array_first : (m : Next) → IsArrayNext m → (u : Touch) → MayEnd u → MaySpace u → (broken : Bool)
      → GapLeads (cond broken gap.Break gap.Beside) (place u (reading bs m)) (Ready (trimmed s) (reading bs (ended m)))
  array_first m h u may space true = array_lined m h u may
  array_first m h u may space false = array_space m h u space

  array_gap : (kind : Kind) → IsOf array kind → (l : Last) (m : Next) → IsArrayNext m → (u : Touch) → MayEnd u → MaySpace u
      → (broken blank : Bool)
      → GapLeads (gap_before_first_comment kind l broken blank) (place u (reading bs m)) (Ready (trimmed s) (reading bs (ended m)))
  array_gap Array of last.Comment m h u may space broken blank = array_break m h u may blank
  array_gap Array of last.Start m h u may space broken blank = array_first m h u may space broken
  array_gap Array of l m h u may space broken blank = array_either m h u may space broken blank
  array_gap Numbers of last.Comment m h u may space broken blank = array_break m h u may blank
  array_gap Numbers of last.Start m h u may space broken blank = array_first m h u may space broken
  array_gap Numbers of l m h u may space broken blank = array_either m h u may space broken blank
  array_gap kind of l m h u may space broken blank = absurd of

comment_leads : (a : Place) (bs : List Bracket) (n : Next) (s : List ℕ) → IsCommentText s → Ready (trimmed s) (reading bs n) a
    → Leads a (comment_tree s) (λ x. x ≡ place (after comment) (reading bs n))
comment_leads a bs n s text ready =
    leads_counted a (place (after (lex_of (sort_of (trimmed s)))) (reading bs n)) 0 (trimmed s)
    (λ x. x ≡ place (after comment) (reading bs n))
    (stands (trimmed s) (reading bs n) a text.whole ready) (ap (λ (k : Sort). place (after (lex_of k)) (reading bs n)) text.sorted)

-- one comment
module _ (bs : List Bracket) (kind : Kind) (l : Last) (u : Touch) (q : Next) where
  abbrev FirstLeads : Type 0
  FirstLeads =
      (m : Next) → Covers m q → (s : List ℕ) → IsCommentText s → (broken blank : Bool)
      → GapLeads (gap_before_first_comment kind l broken blank) (place u (reading bs m)) (Ready (trimmed s) (reading bs (ended m)))

  first_comment : FirstLeads → (b : Place) → IsAt u bs q b → (r : Commented) → IsCommentText r.comment
      → Leads b (comments_tree kind l (r ∷ [])) (λ x. x ≡ place (after comment) (reading bs (ended q)))
  first_comment first b (m, covers, is) r text =
      leads_separated b Nil (comment_tree r.comment) (λ x. x ≡ b) (Ready (trimmed r.comment) (reading bs (ended m)))
      (λ x. x ≡ place (after comment) (reading bs (ended q))) (leads_nil b (λ x. x ≡ b) refl)
      (λ x ready. leads_more x (comment_tree r.comment) (λ y. y ≡ place (after comment) (reading bs (ended m)))
      (λ y. y ≡ place (after comment) (reading bs (ended q))) (comment_leads x bs (ended m) r.comment text ready)
      (λ y e. e ∙ ap (λ (n : Next). place (after comment) (reading bs n)) (ended_same m q covers)))
      (gap_before_comment kind l false r.broken r.blank)
      (λ x e. subst (λ (y : Place). GapLeads (gap_before_first_comment kind l r.broken r.blank) y
      (Ready (trimmed r.comment) (reading bs (ended m))))
      (sym (e ∙ is)) (first m covers r.comment text r.broken r.blank))

  -- in an array maybe more, each on a line
  more_comments : Within array bs → IsArrayNext q → FirstLeads → (b : Place) → IsAt u bs q b → (r : Commented) (rs : List Commented)
      → AreCommentTexts (r ∷ rs) → Leads b (comments_tree kind l (r ∷ rs)) (λ x. x ≡ place (after comment) (reading bs (ended q)))
  more_comments w h first b at r [] texts = first_comment first b at r texts.0
  more_comments w h first b at r (o ∷ rs) texts =
      let here = place (after comment) (reading bs (ended q)) in
      leads_separated b (comments_tree kind l (o ∷ rs)) (comment_tree r.comment) (λ x. x ≡ here)
      (Ready (trimmed r.comment) (reading bs (ended (ended q)))) (λ x. x ≡ here) (more_comments w h first b at o rs texts.1)
      (λ x ready. leads_more x (comment_tree r.comment) (λ y. y ≡ place (after comment) (reading bs (ended (ended q)))) (λ y. y ≡ here)
      (comment_leads x bs (ended (ended q)) r.comment texts.0 ready)
      (λ y e. e ∙ ap (λ (n : Next). place (after comment) (reading bs n)) (ended_twice q)))
      (line_break r.blank)
      (λ x e. subst (λ (y : Place). GapLeads (line_break r.blank) y (Ready (trimmed r.comment) (reading bs (ended (ended q))))) (sym e)
      (array_break bs w r.comment texts.0 (ended q) (array_ended q h) (after comment) tt r.blank))

array_next_of : (q : Next) → MayComment array q → IsArrayNext q
array_next_of next.Member h = tt
array_next_of next.After h = tt
array_next_of next.AfterDate h = tt
array_next_of q h = absurd h

pub array_next_covers : (m q : Next) → Covers m q → IsArrayNext q → IsArrayNext m
array_next_covers m q (inl e) h = subst IsArrayNext (sym e) h
array_next_covers m q (inr (d, a)) h = subst IsArrayNext (sym d) tt

value_of : (q : Next) → MayComment statement q → IsAfter q
value_of next.After h = tt
value_of next.AfterDate h = tt
value_of q h = absurd h

after_value : (m : Next) → IsAfter m → MayComment statement m
after_value next.After h = tt
after_value next.AfterDate h = tt
after_value m h = absurd h

-- where the line may end, and a space may stand, after what is in an array
touch_fits : (l : Last) (p : Next) → Fits array l p → MayEnd (touch_at array l) × MaySpace (touch_at array l)
touch_fits last.Start p h = (tt, tt)
touch_fits last.Close p h = (tt, tt)
touch_fits last.Word p h = (tt, tt)
touch_fits last.Dot p h = (tt, tt)
touch_fits last.String p h = (tt, tt)
touch_fits last.Equals p h = absurd h
touch_fits last.Comma p h = absurd h
touch_fits last.Comment p h = absurd h

touch_after : (e : End) (p : Next) (comma : Bool) → Fits array e.last p
    → MayEnd (touch_at array (end_after_comma comma e).last) × MaySpace (touch_at array (end_after_comma comma e).last)
touch_after e p false h = touch_fits e.last p h
touch_after e p true h = (tt, tt)

statement_first : (bs : List Bracket) (l : Last) (q : Next) → bs ≡ [] → IsOnLine l → IsAfter q
    → FirstLeads bs Statement l (touch_at statement l) q
statement_first bs last.Close q w on h m covers s text broken blank =
    (tt, comment_ready statement bs m s after_space tt w (after_value m (value_covers m q covers h)) text)
statement_first bs last.Word q w on h m covers s text broken blank =
    (tt, comment_ready statement bs m s after_space tt w (after_value m (value_covers m q covers h)) text)
statement_first bs last.Dot q w on h m covers s text broken blank =
    (tt, comment_ready statement bs m s after_space tt w (after_value m (value_covers m q covers h)) text)
statement_first bs last.String q w on h m covers s text broken blank =
    (tt, comment_ready statement bs m s after_space tt w (after_value m (value_covers m q covers h)) text)
statement_first bs l q w on h m covers s text broken blank = absurd on

array_fits_comment : (q n : Next) → MayComment array q → ended q ≡ n → FitsComment array n
array_fits_comment next.Member n h e = inl (sym e)
array_fits_comment next.After n h e = inr (sym e)
array_fits_comment next.AfterDate n h e = inr (sym e)
array_fits_comment q n h e = absurd h

statement_fits_comment : (q n : Next) → MayComment statement q → ended q ≡ n → FitsComment statement n
statement_fits_comment next.After n h e = inr (sym e)
statement_fits_comment next.AfterDate n h e = inr (sym e)
statement_fits_comment q n h e = absurd h

date_start : (c : Context) → next.AfterDate ≡ start c → ⊥
date_start statement e = cc
date_start header e = cc
date_start headers e = cc
date_start table e = cc
date_start array e = cc

entry_date : (l : Last) → FitsKey owner.Value l next.AfterDate ⊎ FitsValue l next.AfterDate
    → FitsKey owner.Value l next.After ⊎ FitsValue l next.After
entry_date last.Word h = inr tt
entry_date l (inl h) = absurd h
entry_date l (inr h) = absurd h

-- what ends as a date does ends as a value may
date_fits : (c : Context) (l : Last) → FitsEnd c l next.AfterDate → FitsEnd c l next.After
date_fits c last.Start h = absurd (date_start c h)
date_fits statement last.Equals h = absurd (cc)
date_fits statement last.Comma h = absurd h
date_fits statement last.Comment (inl e) = absurd (cc)
date_fits statement last.Comment (inr e) = absurd (cc)
date_fits statement l h = entry_date l h
date_fits table last.Equals h = absurd (cc)
date_fits table last.Comma h = absurd (cc)
date_fits table last.Comment h = absurd h
date_fits table l h = entry_date l h
date_fits array last.Word h = tt
date_fits array last.Comma h = absurd (cc)
date_fits array last.Comment (inl e) = absurd (cc)
date_fits array last.Comment (inr e) = absurd (cc)
date_fits array l h = absurd h
date_fits header last.Close h = absurd (cc)
date_fits header l h = absurd h
date_fits headers l h = absurd h

fits_covers : (c : Context) (l : Last) (q n : Next) → Covers q n → FitsEnd c l q → FitsEnd c l n
fits_covers c l q n (inl e) h = subst (FitsEnd c l) e h
fits_covers c l q n (inr (d, a)) h = subst (FitsEnd c l) (sym a) (date_fits c l (subst (FitsEnd c l) d h))

reaches_covered : (c : Context) (a : Place) (e : End) (bs : List Bracket) (q n : Next) → Covers q n → Reaches c a e bs q
    → Reaches c a e bs n
reaches_covered c a e bs q n covers h = record {
  leads = leads_more a e.tree (IsAt (touch_at c e.last) bs q) (IsAt (touch_at c e.last) bs n) h.leads
      (λ b (m, k, is). (m, covers_both m q n k covers, is));
  fits = fits_covers c e.last q n covers h.fits;
}

-- with comments after it
commented_reaches : (c : Context) (a : Place) (e : End) (bs : List Bracket) (q n : Next) (tree : Tree) → ended q ≡ n → FitsComment c n
    → Reaches c a e bs q
    → ((b : Place) → IsAt (touch_at c e.last) bs q b → Leads b tree (λ x. x ≡ place (after comment) (reading bs (ended q))))
    → Reaches c a (after_comments true tree e) bs n
commented_reaches c a e bs q n tree is fits h k = record {
  leads = leads_append a e.tree tree (IsAt (touch_at c e.last) bs q) (IsAt (after comment) bs n) h.leads
      (λ b at. leads_more b tree (λ x. x ≡ place (after comment) (reading bs (ended q))) (IsAt (after comment) bs n) (k b at)
      (λ x e. (ended q, inl is, e)));
  fits = fits;
}

-- a part, a comma and comments
pub rest_reaches : (c : Context) (a : Place) (kind : Kind) → IsOf c kind → (e : End) (bs : List Bracket) (p q n : Next) → Within c bs
    → Leads a e.tree (IsAt (touch_at c e.last) bs p) → Fits c e.last p → (comma : Bool) → HasComma comma bs p q → (rs : List Commented)
    → HasComments c rs q n
    → Reaches c a (after_comments (is_some rs) (comments_tree kind e.last rs) (end_after_comma comma e)) bs n
rest_reaches c a kind of e bs p q n w h f comma has [] covers =
    reaches_covered c a (end_after_comma comma e) bs q n covers (comma_reaches c a e bs p q w h f comma has)
rest_reaches array a kind of e bs p q n w h f comma has (r ∷ rs) (is, may, many, texts) =
    let next = array_next_of q may in
    let touch = touch_after e p comma f in
    let u = touch_at array (end_after_comma comma e).last in
    commented_reaches array a (end_after_comma comma e) bs q n (comments_tree kind e.last (r ∷ rs)) is (array_fits_comment q n may is)
    (comma_reaches array a e bs p q w h f comma has)
    (λ b at. more_comments bs kind e.last u q w next
    (λ m covers s text broken blank. array_gap bs w s text kind of e.last m
    (array_next_covers m q covers next) u touch.0 touch.1 broken blank)
    b at r rs texts)
rest_reaches statement a Statement of e bs p q n w h f true has (r ∷ rs) (is, may, many, texts) = absurd (none_in bs q w has.1)
rest_reaches statement a Statement of e bs p q n w h f false has (r ∷ rs) (is, may, many, texts) =
    let value = value_of q may in
    let on = value_is_on_line statement e.last p f (subst IsAfter has value) in
    commented_reaches statement a e bs q n (comments_tree Statement e.last (r ∷ rs)) is (statement_fits_comment q n may is)
    (comma_reaches statement a e bs p q w h f false has)
    (λ b at. subst (λ (l : List Commented). Leads b (comments_tree Statement e.last (r ∷ l))
    (λ x. x ≡ place (after comment) (reading bs (ended q))))
    (sym many)
    (first_comment bs Statement e.last (touch_at statement e.last) q (statement_first bs e.last q w on value) b at r texts.0))
rest_reaches c a kind of e bs p q n w h f comma has (r ∷ rs) (is, may, many, texts) = absurd assumption
