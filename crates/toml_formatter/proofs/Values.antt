-- Values and lists.
use Rattle.std.proofs.Common.{◌≡◌, refl, sym, ◌∙◌, ap, subst, ℕ, suc, Bool, true, false, cond, ◌||◌, ◌==◌, List, [], ◌∷◌, ◌++◌, inl, inr}
use Rattle.std.specs.Prelude.{◌⊎◌, ⊤}
use Rattle.prettyless_model.specs.Tree.{Tree}
use Rattle.prettyless_pointers.specs.Trees.{ref_tree}
use Rattle.prettyless_model.specs.Shows as shown
use Rattle.prettyless_model.specs.Shows.{Shown, more, shows}
use Rattle.prettyless_shapes.specs.Items.{ShowsBoth, ShowsSame}
use Rattle.prettyless_laws.specs.Shown.{text_items}
use Rattle.toml_lexemes.specs.Bytes.{hash, head, is_sign, is_quote, ends_word, ends_with_dot, is_blank}
use Rattle.toml_lexemes.specs.View.{toml_text_of, HasTomlKind}
use Rattle.toml_lexemes.specs.declared.lexeme.Lexeme.{Lexeme}
use Rattle.toml_lexemes.specs.declared.lexeme.Lexeme.TheVariants as lexeme
use Rattle.toml_lexemes.specs.Statements.{Role, a_closing, a_word, any_other, role, role_of, trimmed, Collected, outside, with_role}
use Rattle.toml_lexemes.specs.Statements.{with_lexeme, with_lexemes}
use Rattle.toml_lexemes.specs.Shown.{IsWholeLexeme, least_after_word, least_after}
use Rattle.toml_documents.specs.declared.gaps.Gap.{Gap as Between}
use Rattle.toml_documents.specs.declared.kind.Last.{Last}
use Rattle.toml_documents.specs.declared.kind.Last.TheVariants as last
use Rattle.toml_formatter.specs.declared.line.Line.{Line}
use Rattle.toml_documents.specs.Gaps.{gap_items, least_of, least_needed}
use Rattle.toml_documents.specs.Kinds.{is_closing, is_opening, last_after_word, last_after, IsPart}
use Rattle.toml_lexemes.specs.Sound.{IsSound, IsSoundIn, LineEndsNext}
use Rattle.toml_formatter.specs.Lines.{directly_after, EndsAs, EndsCollected, HoldsNothingAfter, WaitingComments, waiting, LineRead}
use Rattle.toml_formatter.specs.Lines.{ShowsTaken, ValueRead, IsValue, ClosedRead, IsClosed}
use Rattle.std.proofs.lemmas.Bool.{eqb-true, or_cases}
use Rattle.toml_lexemes.proofs.WholeLexemes.{quote_role, word_role}
use Rattle.toml_formatter.proofs.LineLemmas.{hash_role, IsSettled}
use Rattle.toml_formatter.proofs.Stages.{read_both, MayFollow, text_read}

-- ---- what lexemes end as

-- a list begins after its bracket
pub opening_ends : (x : Lexeme) → is_opening x ≡ true → (c : Collected) →
    EndsCollected true last.Start (with_lexeme c (toml_text_of x)) (toml_text_of x)
opening_ends lexeme.OpenArray e c = record { needs = λ u. refl; plain = (refl, refl); inside = tt }
opening_ends lexeme.OpenTable e c = record { needs = λ u. refl; plain = (refl, refl); inside = tt }
opening_ends lexeme.CloseArray e c = absurd (cc)
opening_ends lexeme.CloseTable e c = absurd (cc)
opening_ends lexeme.Comma e c = absurd (cc)
opening_ends lexeme.Equals e c = absurd (cc)
opening_ends lexeme.LineEnd e c = absurd (cc)
opening_ends (lexeme.Comment s) e c = absurd (cc)
opening_ends (lexeme.String s) e c = absurd (cc)
opening_ends (lexeme.Word s) e c = absurd (cc)

-- and opens one bracket more
pub opening_depth : (x : Lexeme) → is_opening x ≡ true → (c : Collected) (k : Collected) → k.depth ≡ (with_lexeme c (toml_text_of x)).depth
    → (y : Lexeme) → is_closing y ≡ true → (with_lexeme k (toml_text_of y)).depth ≡ c.depth
opening_depth x e c k h y f = closing_depth y f k c (h ∙ deeper x e)
  where
    deeper : (x : Lexeme) → is_opening x ≡ true → (with_lexeme c (toml_text_of x)).depth ≡ suc c.depth
    deeper lexeme.OpenArray e = refl
    deeper lexeme.OpenTable e = refl
    deeper lexeme.CloseArray e = absurd (cc)
    deeper lexeme.CloseTable e = absurd (cc)
    deeper lexeme.Comma e = absurd (cc)
    deeper lexeme.Equals e = absurd (cc)
    deeper lexeme.LineEnd e = absurd (cc)
    deeper (lexeme.Comment s) e = absurd (cc)
    deeper (lexeme.String s) e = absurd (cc)
    deeper (lexeme.Word s) e = absurd (cc)

    closing_depth : (y : Lexeme) → is_closing y ≡ true → (k c : Collected) → k.depth ≡ suc c.depth
        → (with_lexeme k (toml_text_of y)).depth ≡ c.depth
    closing_depth lexeme.CloseArray e k c h = ap outside h
    closing_depth lexeme.CloseTable e k c h = ap outside h
    closing_depth lexeme.OpenArray e k c h = absurd (cc)
    closing_depth lexeme.OpenTable e k c h = absurd (cc)
    closing_depth lexeme.Comma e k c h = absurd (cc)
    closing_depth lexeme.Equals e k c h = absurd (cc)
    closing_depth lexeme.LineEnd e k c h = absurd (cc)
    closing_depth (lexeme.Comment s) e k c h = absurd (cc)
    closing_depth (lexeme.String s) e k c h = absurd (cc)
    closing_depth (lexeme.Word s) e k c h = absurd (cc)

pub closing_ends : (x : Lexeme) → is_closing x ≡ true → (c : Collected) →
    EndsCollected false last.Close (with_lexeme c (toml_text_of x)) (toml_text_of x)
closing_ends lexeme.CloseArray e c = record { needs = λ u. refl; plain = (refl, refl); inside = tt }
closing_ends lexeme.CloseTable e c = record { needs = λ u. refl; plain = (refl, refl); inside = tt }
closing_ends lexeme.OpenArray e c = absurd (cc)
closing_ends lexeme.OpenTable e c = absurd (cc)
closing_ends lexeme.Comma e c = absurd (cc)
closing_ends lexeme.Equals e c = absurd (cc)
closing_ends lexeme.LineEnd e c = absurd (cc)
closing_ends (lexeme.Comment s) e c = absurd (cc)
closing_ends (lexeme.String s) e c = absurd (cc)
closing_ends (lexeme.Word s) e c = absurd (cc)

pub closing_role : (x : Lexeme) → is_closing x ≡ true → role (toml_text_of x) ≡ a_closing
closing_role lexeme.CloseArray e = refl
closing_role lexeme.CloseTable e = refl
closing_role lexeme.OpenArray e = absurd (cc)
closing_role lexeme.OpenTable e = absurd (cc)
closing_role lexeme.Comma e = absurd (cc)
closing_role lexeme.Equals e = absurd (cc)
closing_role lexeme.LineEnd e = absurd (cc)
closing_role (lexeme.Comment s) e = absurd (cc)
closing_role (lexeme.String s) e = absurd (cc)
closing_role (lexeme.Word s) e = absurd (cc)

pub closing_whole : (x : Lexeme) (ss : List (List ℕ)) → is_closing x ≡ true → IsSound (toml_text_of x) ss → IsWholeLexeme (toml_text_of x)
closing_whole x ss e h = subst (λ (r : Role). IsSoundIn r (toml_text_of x) ss) (closing_role x e) h.sound

pub closing_head : (x : Lexeme) → is_closing x ≡ true → (l : Last) → least_needed l (head (toml_text_of x)) ≡ least_needed l 93
closing_head lexeme.CloseArray e l = refl
closing_head lexeme.CloseTable e last.Start = refl
closing_head lexeme.CloseTable e last.Close = refl
closing_head lexeme.CloseTable e last.Equals = refl
closing_head lexeme.CloseTable e last.Word = refl
closing_head lexeme.CloseTable e last.Dot = refl
closing_head lexeme.CloseTable e last.String = refl
closing_head lexeme.CloseTable e last.Comma = refl
closing_head lexeme.CloseTable e last.Comment = refl
closing_head lexeme.OpenArray e l = absurd (cc)
closing_head lexeme.OpenTable e l = absurd (cc)
closing_head lexeme.Comma e l = absurd (cc)
closing_head lexeme.Equals e l = absurd (cc)
closing_head lexeme.LineEnd e l = absurd (cc)
closing_head (lexeme.Comment s) e l = absurd (cc)
closing_head (lexeme.String s) e l = absurd (cc)
closing_head (lexeme.Word s) e l = absurd (cc)

-- a bracket's text shows itself
pub closing_shows : (x : Lexeme) (d : Tree) (t : List ℕ) → is_closing x ≡ true → t ≡ toml_text_of x → shows d (text_items t)
    → shows d (Shown (toml_text_of x) ∷ [])
closing_shows lexeme.CloseArray d t e f h = subst (λ (s : List ℕ). shows d (text_items s)) f h
closing_shows lexeme.CloseTable d t e f h = subst (λ (s : List ℕ). shows d (text_items s)) f h
closing_shows lexeme.OpenArray d t e f h = absurd (cc)
closing_shows lexeme.OpenTable d t e f h = absurd (cc)
closing_shows lexeme.Comma d t e f h = absurd (cc)
closing_shows lexeme.Equals d t e f h = absurd (cc)
closing_shows lexeme.LineEnd d t e f h = absurd (cc)
closing_shows (lexeme.Comment s) d t e f h = absurd (cc)
closing_shows (lexeme.String s) d t e f h = absurd (cc)
closing_shows (lexeme.Word s) d t e f h = absurd (cc)

pub opening_shows : (x : Lexeme) (d : Tree) (t : List ℕ) → is_opening x ≡ true → t ≡ toml_text_of x → shows d (text_items t)
    → shows d (Shown (toml_text_of x) ∷ [])
opening_shows lexeme.OpenArray d t e f h = subst (λ (s : List ℕ). shows d (text_items s)) f h
opening_shows lexeme.OpenTable d t e f h = subst (λ (s : List ℕ). shows d (text_items s)) f h
opening_shows lexeme.CloseArray d t e f h = absurd (cc)
opening_shows lexeme.CloseTable d t e f h = absurd (cc)
opening_shows lexeme.Comma d t e f h = absurd (cc)
opening_shows lexeme.Equals d t e f h = absurd (cc)
opening_shows lexeme.LineEnd d t e f h = absurd (cc)
opening_shows (lexeme.Comment s) d t e f h = absurd (cc)
opening_shows (lexeme.String s) d t e f h = absurd (cc)
opening_shows (lexeme.Word s) d t e f h = absurd (cc)

pub opening_last : (x : Lexeme) → is_opening x ≡ true → last_after x ≡ last.Close
opening_last lexeme.OpenArray e = refl
opening_last lexeme.OpenTable e = refl
opening_last lexeme.CloseArray e = refl
opening_last lexeme.CloseTable e = refl
opening_last lexeme.Comma e = refl
opening_last lexeme.Equals e = absurd (cc)
opening_last lexeme.LineEnd e = refl
opening_last (lexeme.Comment s) e = refl
opening_last (lexeme.String s) e = absurd (cc)
opening_last (lexeme.Word s) e = absurd (cc)

-- ---- lists

-- the document shows a bracket that opens a list
pub record ShowsOpening (x : Lexeme) (d : Tree) : Type 0 where
  pub opens : is_opening x ≡ true
  pub shown : shows d (Shown (toml_text_of x) ∷ [])

-- the document shows a closing bracket, and these lexemes are left after it
pub record ShowsClosing (y : Lexeme) (left : List (List ℕ)) (d : Tree) : Type 0 where
  pub closes : is_closing y ≡ true
  pub sound : IsSound (toml_text_of y) left
  pub shown : shows d (Shown (toml_text_of y) ∷ [])

-- a bracket and the line after it, which are nested, and after a gap a closing bracket make the whole
pub record MakesList (open_bracket line_doc : Tree) (gap : Between) (close_bracket whole : Tree) : Type 0 where
  pub front : Tree
  pub nested : Tree
  pub all : Tree
  pub front_shows : ShowsBoth open_bracket [] line_doc front
  pub nested_shows : ShowsSame front nested
  pub all_shows : ShowsBoth nested (gap_items gap) close_bracket all
  pub whole_shows : ShowsSame all whole

pub list_closed : {x y : Lexeme} {line : Line} {gap : Between} {left taken : List (List ℕ)} {o close whole : Tree}
    → ShowsOpening x o → ShowsClosing y left close → MakesList o (ref_tree line.doc) gap close whole
    → more (least_needed line.last 93) (least_of gap) ≡ least_of gap → IsClosed true line (toml_text_of y) taken
    → IsValue (last_after x) (toml_text_of x) left (taken ++ toml_text_of y ∷ []) whole
list_closed {x} {y} {line} {gap} {left} {taken} opener closer list enough h = record {
  items = h.items ++ (gap_items gap ++ Shown (toml_text_of y) ∷ []);
  shown = list.whole_shows (Shown (toml_text_of x) ∷ (h.items ++ (gap_items gap ++ Shown (toml_text_of y) ∷ [])))
      (list.all_shows (Shown (toml_text_of x) ∷ h.items) (Shown (toml_text_of y) ∷ [])
      (list.nested_shows (Shown (toml_text_of x) ∷ h.items)
      (list.front_shows (Shown (toml_text_of x) ∷ []) h.items opener.shown h.shown)) closer.shown);
  read = λ c. one c (h.read (directly_after (with_lexeme c (toml_text_of x)) (toml_text_of x)) (
    with_lexeme c (toml_text_of x),
    toml_text_of x,
    refl,
    opening_ends x opener.opens c,
  ));
}
  where
    clash : true ≡ false → ⊥
    clash e = cc

    one : (c : Collected) → ClosedRead true line (toml_text_of y) taken h.items
        (directly_after (with_lexeme c (toml_text_of x)) (toml_text_of x))
        → ValueRead (last_after x) (toml_text_of x) left (taken ++ toml_text_of y ∷ [])
        (h.items ++ (gap_items gap ++ Shown (toml_text_of y) ∷ [])) c
    one c r =
        let a = directly_after (with_lexeme c (toml_text_of x)) (toml_text_of x) in
        let k = with_lexeme r.collected (toml_text_of y) in
        let next : MayFollow true line.last r.collected r.text r.marked gap (toml_text_of y) = record {
          ends = r.needs;
          inside = r.inside;
          suits = record {
            enough =
                subst (λ (l : shown.Least). more l (least_of gap) ≡ least_of gap)
                (sym (closing_head y closer.closes line.last)) enough;
            stays = λ e. absurd (clash e);
          };
          whole = closing_whole y left closer.closes closer.sound;
          closing = λ e. closing_role y closer.closes;
        } in
        record {
          collected = k;
          text = toml_text_of y;
          read = read_both a (record { collected = r.collected; last = r.text; place = shown.after_text; marked = r.marked })
              (directly_after k (toml_text_of y)) h.items (gap_items gap ++ Shown (toml_text_of y) ∷ []) r.read
              (text_read [] (directly_after k (toml_text_of y)) next refl);
          same = sym r.same;
          ends = inr (
            subst (λ (l : Last). EndsCollected false l k (toml_text_of y)) (sym (opening_last x opener.opens))
                (closing_ends y closer.closes r.collected),
            opening_depth x opener.opens c r.collected (r.level refl) y closer.closes,
          );
        }

pub list_unclosed : {x : Lexeme} {line : Line} {taken : List (List ℕ)} {o : Tree} (whole : Tree)
    → ShowsOpening x o → ShowsBoth o [] (ref_tree line.doc) whole → IsSettled line → ShowsTaken true true line [] taken
    → IsValue (last_after x) (toml_text_of x) [] taken whole
list_unclosed {x} {line} {taken} whole opener both settled h = record {
  items = h.items;
  shown = both (Shown (toml_text_of x) ∷ []) h.items opener.shown h.shown;
  read = λ c. one c (h.read (directly_after (with_lexeme c (toml_text_of x)) (toml_text_of x)) (
    with_lexeme c (toml_text_of x),
    toml_text_of x,
    refl,
    opening_ends x opener.opens c,
  ));
}
  where
    no_comments : h.rs ≡ []
    no_comments = subst (λ (w : Bool). WaitingComments w true line.last h.rs h.comment_items) settled.no_comments h.comments

    one : (c : Collected) → LineRead true true line [] taken h.items h.rs (directly_after (with_lexeme c (toml_text_of x)) (toml_text_of x))
        → ValueRead (last_after x) (toml_text_of x) [] taken h.items c
    one c r = record {
      collected = r.collected;
      text = r.text;
      read = r.read;
      same = sym (r.same ∙ ap (λ (w : Bool). with_lexemes r.collected (waiting w h.rs)) settled.no_comma
          ∙ ap (λ (rs : List (List ℕ)). with_lexemes r.collected rs) no_comments);
      ends = inl refl;
    }

-- ---- values of one lexeme

quote_is : (x : ℕ) → is_quote x ≡ true → (x ≡ 34) ⊎ (x ≡ 39)
quote_is x e = elim (or_cases (x == 34) (x == 39) e) [ inl p ↦ inl (eqb-true x 34 p) | inr p ↦ inr (eqb-true x 39 p) ]

quote_needs : (x : ℕ) (xs : List ℕ) → is_quote x ≡ true → EndsAs last.String (x ∷ xs)
quote_needs x xs e u = elim (quote_is x e) [
  | inl p ↦ ap (λ (y : ℕ). least_after (ends_with_dot (x ∷ xs)) y (head u)) p
  | inr p ↦ ap (λ (y : ℕ). least_after (ends_with_dot (x ∷ xs)) y (head u)) p
]

neither : (p q : Bool) → (p || q) ≡ false → (p ≡ false) × (q ≡ false)
neither true q e = absurd (cc)
neither false q e = (refl, e)

pick : (a b q : Bool) (l m z w : shown.Least) → a ≡ false → b ≡ false → q ≡ false → cond a l (cond b m (cond q z w)) ≡ w
pick a b q l m z w e f g = rw (e, f, g) refl

needed_after_word : (dotted : Bool) (y : ℕ) → least_after_word dotted y ≡ least_needed (last_after_word dotted) y
needed_after_word true y = refl
needed_after_word false y = refl

word_needs : (x : ℕ) (xs : List ℕ) → ends_word x ≡ false → EndsAs (last_after_word (ends_with_dot (x ∷ xs))) (x ∷ xs)
word_needs x xs e u =
    let hashless = neither (is_sign x || is_blank x || is_quote x || (x == 10)) (x == hash) e in
    let lineless = neither (is_sign x || is_blank x || is_quote x) (x == 10) hashless.0 in
    let quoteless = neither (is_sign x || is_blank x) (is_quote x) lineless.0 in
    let signless = neither (is_sign x) (is_blank x) quoteless.0 in
    pick (is_sign x) (x == hash) (is_quote x) _ _ _ _ signless.0 hashless.1 quoteless.1
    ∙ needed_after_word (ends_with_dot (x ∷ xs)) (head u)

-- a role that changes no depth, after which nothing waits
abbrev IsPlain : Role → Type 0
IsPlain a_word = ⊤
IsPlain any_other = ⊤
IsPlain r = ⊥

plain_read : (r : Role) → IsPlain r → (c : Collected) (s : List ℕ)
    → ((with_role r c s).depth ≡ c.depth) × ((with_role r c s).comma ≡ false) × ((with_role r c s).comments ≡ [])
plain_read a_word plain c s = (refl, refl, refl)
plain_read any_other plain c s = (refl, refl, refl)
plain_read r plain c s = absurd plain

-- a lexeme alone, which is no sign of a list
alone : (l : Last) (x : ℕ) (xs : List ℕ) (left : List (List ℕ)) (d : Tree) → IsPlain (role_of x) → EndsAs l (x ∷ xs)
    → ((c : Collected) → (c.comma ≡ false) × (c.comments ≡ []) → HoldsNothingAfter l c) → shows d (Shown (x ∷ xs) ∷ [])
    → IsValue l (x ∷ xs) left [] d
alone l x xs left d is needs plain h = record {
  items = [];
  shown = h;
  read = λ c. record {
    collected = with_lexeme c (x ∷ xs);
    text = x ∷ xs;
    read = refl;
    same = refl;
    ends = inr (
      record { needs = needs; plain = plain (with_lexeme c (x ∷ xs)) (nothing c); inside = tt },
      (plain_read (role_of x) is c (x ∷ xs)).0,
    );
  };
}
  where
    nothing : (c : Collected) → ((with_lexeme c (x ∷ xs)).comma ≡ false) × ((with_lexeme c (x ∷ xs)).comments ≡ [])
    nothing c = let read = plain_read (role_of x) is c (x ∷ xs) in (read.1, read.2)

string_alone : (s : List ℕ) (left : List (List ℕ)) (d : Tree) → is_quote (head s) ≡ true → shows d (text_items s)
    → IsValue last.String s left [] d
string_alone [] left d e h = absurd (cc)
string_alone (x ∷ xs) left d e h = alone last.String x xs left d (subst IsPlain (sym (quote_role x e)) tt)
    (quote_needs x xs e) (λ c n. n) h

word_alone : (s : List ℕ) (left : List (List ℕ)) (d : Tree) → ends_word (head s) ≡ false → shows d (text_items s)
    → IsValue (last_after_word (ends_with_dot s)) s left [] d
word_alone [] left d e h = absurd (cc)
word_alone (x ∷ xs) left d e h =
    alone (last_after_word (ends_with_dot (x ∷ xs))) x xs left d (subst IsPlain (sym (word_role x e)) tt) (word_needs x xs e)
    (λ c n. nothing (ends_with_dot (x ∷ xs)) c n) h
  where
    nothing : (dotted : Bool) (c : Collected) → (c.comma ≡ false) × (c.comments ≡ []) → HoldsNothingAfter (last_after_word dotted) c
    nothing true c n = n
    nothing false c n = n

pub part_alone : (x : Lexeme) (t : List ℕ) (left : List (List ℕ)) (d : Tree) → HasTomlKind x → IsPart x → is_opening x ≡ false →
    t ≡ toml_text_of x
    → shows d (text_items t)
    → IsValue (last_after x) (toml_text_of x) left [] d
part_alone lexeme.Equals t left d n p e f h = alone last.Equals 61 [] left d tt (λ u. refl) (λ c k. k)
    (subst (λ (s : List ℕ). shows d (text_items s)) f h)
part_alone (lexeme.String s) t left d n p e f h = string_alone s.now left d n (subst (λ (y : List ℕ). shows d (text_items y)) f h)
part_alone (lexeme.Word s) t left d n p e f h = word_alone s.now left d n (subst (λ (y : List ℕ). shows d (text_items y)) f h)
part_alone lexeme.OpenArray t left d n p e f h = absurd (cc)
part_alone lexeme.OpenTable t left d n p e f h = absurd (cc)
part_alone lexeme.CloseArray t left d n p e f h = absurd p
part_alone lexeme.CloseTable t left d n p e f h = absurd p
part_alone lexeme.Comma t left d n p e f h = absurd p
part_alone lexeme.LineEnd t left d n p e f h = absurd p
part_alone (lexeme.Comment s) t left d n p e f h = absurd p

-- a part of a statement is whole
pub part_whole : (x : Lexeme) (ss : List (List ℕ)) → HasTomlKind x → IsPart x → IsSound (toml_text_of x) ss → IsWholeLexeme (toml_text_of x)
part_whole lexeme.OpenArray ss n p h = h.sound
part_whole lexeme.OpenTable ss n p h = h.sound
part_whole lexeme.Equals ss n p h = h.sound
part_whole (lexeme.String s) ss n p h = subst (λ (r : Role). IsSoundIn r s.now ss) (quote_role (head s.now) n) h.sound
part_whole (lexeme.Word s) ss n p h = subst (λ (r : Role). IsSoundIn r s.now ss) (word_role (head s.now) n) h.sound
part_whole lexeme.CloseArray ss n p h = absurd p
part_whole lexeme.CloseTable ss n p h = absurd p
part_whole lexeme.Comma ss n p h = absurd p
part_whole lexeme.LineEnd ss n p h = absurd p
part_whole (lexeme.Comment s) ss n p h = absurd p

-- what does not close a list, and is no comma, comment or line end, is a part
pub comment_whole : (s : List ℕ) (ss : List (List ℕ)) → head s ≡ hash → IsSound s ss → IsWholeLexeme (trimmed s) × LineEndsNext ss
comment_whole s ss e h = subst (λ (r : Role). IsSoundIn r s ss) (hash_role s e) h.sound
