-- Lexemes that are spelled are the lexemes of the bytes that they make.
use Rattle.std.proofs.Common.{◌≡◌, refl, sym, ◌∙◌, ap, ℕ, zero, suc, Bool, true, false, List, [], ◌∷◌, ◌++◌, map, All, Option, Some, None}
use Rattle.std.proofs.Common.{subst, append-nil}
use Rattle.std.proofs.lemmas.List.Elements.{All-nil, All-cons}
use Rattle.toml_lexemes.specs.Lexemes.{toml_lexemes_of}
use Rattle.toml_lexemes.specs.Spaced.{IsTomlGap, MayFollow, IsWellSpaced}
use Rattle.toml_lexemes.specs.SpacedLexemes.{toml_spaced_as}
use Rattle.toml_lexemes.proofs.Joined.{first_spaced}
use Rattle.toml_lexemes.proofs.Kept.{same_lexemes}
use Rattle.toml_grammar.proofs.Closed.{key_strings_are_strings}
use Rattle.toml_syntax.specs.TypedLexemes.{TomlLexeme, open_array, close_array, open_table, close_table, comma, equals, line_end, comment}
use Rattle.toml_syntax.specs.TypedLexemes.{string, word}
use Rattle.toml_syntax.specs.TypedLexemes.{text_end, TypedAfterGap, typed_after_gap, lexeme_bytes, one_blank, typed_spaced}
use Rattle.toml_syntax.specs.Tree.{Lead, Key, no_parts, with_word, with_string, Comments, no_comments, with_comment}
use Rattle.toml_syntax.specs.Tree.{TomlValue, plain, moment, quoted, array, table, ArrayItems, no_items, with_item, TableMembers}
use Rattle.toml_syntax.specs.Tree.{no_members, with_member}
use Rattle.toml_syntax.specs.Tree.{Body, note, header, pair, Remark, Statement}
use Rattle.toml_syntax.specs.Spelled.{spelled_line_ends, spelled_key, spelled_comments, comma_if, comma_after_members}
use Rattle.toml_syntax.specs.Spelled.{brace_gap, spelled_value, spelled_array_items}
use Rattle.toml_syntax.specs.Spelled.{spelled_table_members, spelled_body, spelled_remark, spelled_statement, spelled_statements}
use Rattle.toml_syntax.specs.Formed.{StandsAlone, IsFormedKey, AreFormedComments, IsFormedValue, AreFormedArrayItems}
use Rattle.toml_syntax.specs.Formed.{AreFormedTableMembers, IsFormedBody, IsFormedRemark}
use Rattle.toml_syntax.specs.Formed.{IsFormedStatement, AreFormed}
use Rattle.toml_syntax.specs.Formatted.{lexemes_text, typed_lexemes_in}
use Rattle.toml_syntax.proofs.Apart.{Follows, AreChained, last_comments, IsApart, AreApartItems, AreApartMembers, IsApartBody, AreApart}
use Rattle.toml_syntax.proofs.Fits.{Any, Parting, WordEnd, QuoteFree, LineNext, Joins, FitsBetween, ◌▹◌, fits_none}
use Rattle.toml_syntax.proofs.Fits.{fits_before, fits_after}
use Rattle.toml_syntax.proofs.Fits.{open_array_fits, close_array_fits, open_table_fits, close_table_fits, comma_fits, equals_fits}
use Rattle.toml_syntax.proofs.Fits.{line_end_fits, comment_fits}
use Rattle.toml_syntax.proofs.Fits.{word_fits, string_fits, word_quote_free, string_ends_word}

-- ---- line ends

lines_fit : (n : ℕ) → FitsBetween Any (spelled_line_ends n) Any
lines_fit zero = fits_none Any
lines_fit (suc n) = line_end_fits Any (λ r. tt) ▹ lines_fit n

-- what comments need after them, where B is needed with none
abbrev After : (List ℕ → Type 0) → Comments → List ℕ → Type 0
After B no_comments r = B r
After B (with_comment cs l s) r = LineNext r

after_line : (B : List ℕ → Type 0) → ((r : List ℕ) → Parting r → B r) → (cs : Comments) (r : List ℕ) → After B cs (10 ∷ r)
after_line B soft no_comments r = soft (10 ∷ r) (refl, refl)
after_line B soft (with_comment cs l s) r = refl

-- line ends, and then what parts or begins a line
lines_then : (B C : List ℕ → Type 0) (b : List TypedAfterGap) → ((r : List ℕ) → Parting r → B r) → (cs : Comments) (n : ℕ) → Follows cs n
    → FitsBetween Parting b C → FitsBetween (After B cs) (spelled_line_ends n ++ b) C
lines_then B C b soft no_comments zero h f = fits_after B f soft
lines_then B C b soft (with_comment cs l s) zero h f = absurd h
lines_then B C b soft cs (suc n) h f = line_end_fits (After B cs) (after_line B soft cs) ▹ lines_fit n ▹ fits_after Any f (λ r k. tt)

-- line ends, and then an item
lines_item : (C : List ℕ → Type 0) (b : List TypedAfterGap) (cs : Comments) (n : ℕ) → Follows cs n → FitsBetween Any b C
    → FitsBetween (After Any cs) (spelled_line_ends n ++ b) C
lines_item C b no_comments zero h f = f
lines_item C b (with_comment cs l s) zero h f = absurd h
lines_item C b cs (suc n) h f = line_end_fits (After Any cs) (after_line Any (λ r k. tt) cs) ▹ lines_fit n ▹ f

comments_fit : (B : List ℕ → Type 0) → ((r : List ℕ) → Parting r → B r) → (cs : Comments) → AreChained cs → AreFormedComments cs
    → FitsBetween B (spelled_comments cs) (After B cs)
comments_fit B soft no_comments a h = fits_none B
comments_fit B soft (with_comment cs l s) a h =
    comments_fit B soft cs a.0 h.0
    ▹ lines_then B LineNext (typed_after_gap l.gap (comment s) ∷ []) soft cs l.line_ends a.1
    (comment_fits Parting l.gap s h.1.0 h.2 (λ r k. k))

-- ---- keys

-- what a key needs after it
abbrev AfterKey : Key → List ℕ → Type 0
AfterKey no_parts r = Any r
AfterKey (with_word k w) r = WordEnd r
AfterKey (with_string k s) r = QuoteFree r

key_fits : (k : Key) (due : Bool) (g : List ℕ) → IsTomlGap g → IsFormedKey k due → FitsBetween Any (spelled_key g k) (AfterKey k)
key_fits no_parts due g c h = fits_none Any
key_fits (with_word no_parts w) due g c h = word_fits Any g w c h.4 (λ r. tt)
key_fits (with_word (with_word k v) w) due g c h = absurd h.0
key_fits (with_word (with_string k s) w) due g c h =
    key_fits (with_string k s) h.1 g c h.2 ▹ word_fits QuoteFree [] w tt h.4 (λ r. word_quote_free w r h.4)
key_fits (with_string no_parts s) due g c h = string_fits Any g s c h.3 (key_strings_are_strings s h.1) (λ r. tt)
key_fits (with_string (with_word k w) s) due g c h =
    key_fits (with_word k w) true g c h.0 ▹ string_fits WordEnd [] s tt h.3 (key_strings_are_strings s h.1) (λ r. string_ends_word s r h.3)
key_fits (with_string (with_string k t) s) due g c h = absurd (clash h.0.2)
  where
    clash : true ≡ false → ⊥
    clash e = cc

parting_key : (k : Key) (r : List ℕ) → Parting r → AfterKey k r
parting_key no_parts r h = tt
parting_key (with_word k w) r h = h.0
parting_key (with_string k s) r h = h.1

whole_key_fits : (k : Key) (due : Bool) (g : List ℕ) → IsTomlGap g → IsFormedKey k due → FitsBetween Any (spelled_key g k) Parting
whole_key_fits k due g c h = fits_before Parting (key_fits k due g c h) (parting_key k)

-- ---- values

-- what an item needs after the comma, or where there is none
abbrev AfterComma : Bool → List ℕ → Type 0
AfterComma true r = Any r
AfterComma false r = Parting r

soft_comma : (b : Bool) (r : List ℕ) → Parting r → AfterComma b r
soft_comma true r h = tt
soft_comma false r h = h

comma_if_fits : (b : Bool) → FitsBetween Parting (comma_if b) (AfterComma b)
comma_if_fits false = fits_none Parting
comma_if_fits true = comma_fits Parting [] tt (λ r k. k)

-- what items need after them
abbrev AfterItems : Bool → Comments → ArrayItems → List ℕ → Type 0
AfterItems b head no_items r = After Any head r
AfterItems b head (with_item is l v cs) r = After (AfterComma b) cs r

after_commas : (head : Comments) (is : ArrayItems) (r : List ℕ) → After Any (last_comments head is) r → AfterItems true head is r
after_commas head no_items r h = h
after_commas head (with_item is l v no_comments) r h = h
after_commas head (with_item is l v (with_comment cs k s)) r h = h

-- what members need after them
abbrev AfterMembers : TableMembers → List ℕ → Type 0
AfterMembers no_members r = Any r
AfterMembers (with_member ms k v) r = Parting r

comma_after_fits : (ms : TableMembers) → FitsBetween (AfterMembers ms) (comma_after_members ms) Any
comma_after_fits no_members = fits_none Any
comma_after_fits (with_member ms k v) = comma_fits Parting [] tt (λ r k. k)

blank : IsTomlGap one_blank
blank = (refl, tt)

brace_fits : (ms : TableMembers) → FitsBetween (AfterMembers ms) (typed_after_gap (brace_gap ms) close_table ∷ []) Parting
brace_fits no_members = fits_before Parting (close_table_fits Any [] tt (λ r k. tt)) (λ r k. tt)
brace_fits (with_member ms k v) = fits_before Parting (close_table_fits Parting one_blank blank (λ r k. k)) (λ r k. tt)

bracket_fits : (b : Bool) (head : Comments) (is : ArrayItems) (l : Lead) → IsTomlGap l.gap → Follows (last_comments head is) l.line_ends
    → FitsBetween (AfterItems b head is) (spelled_line_ends l.line_ends ++ typed_after_gap l.gap close_array ∷ []) Parting
bracket_fits b head no_items l c h =
    lines_then Any Parting (typed_after_gap l.gap close_array ∷ []) (λ r k. tt) head l.line_ends h
    (fits_before Parting (close_array_fits Parting l.gap c (λ r k. k)) (λ r k. tt))
bracket_fits b head (with_item is k v cs) l c h =
    lines_then (AfterComma b) Parting (typed_after_gap l.gap close_array ∷ []) (soft_comma b) cs l.line_ends h
    (fits_before Parting (close_array_fits Parting l.gap c (λ r k. k)) (λ r k. tt))

mutual
  value_fits : (v : TomlValue) (g : List ℕ) → IsTomlGap g → IsFormedValue v → IsApart v → FitsBetween Any (spelled_value g v) Parting
  value_fits (plain w) g c h a = fits_before Parting (word_fits Any g w c h.1 (λ r. tt)) (λ r k. k.0)
  value_fits (moment d t) g c h a =
      word_fits Any g d c h.3 (λ r. tt) ▹ fits_before Parting (word_fits WordEnd one_blank t blank h.4 (λ r. refl)) (λ r k. k.0)
  value_fits (quoted s) g c h a = fits_before Parting (string_fits Any g s c h.1 h.0 (λ r. tt)) (λ r k. k.1)
  value_fits (array cs is b l) g c h a =
      open_array_fits Any g c (λ r k. tt)
      ▹ comments_fit Any (λ r k. tt) cs a.0 h.0
      ▹ items_fit is b cs h.1 a.1
      ▹ bracket_fits b cs is l h.3.0 a.2
  value_fits (table ms) g c h a = open_table_fits Any g c (λ r k. tt) ▹ members_fit ms h a ▹ brace_fits ms

  items_fit : (is : ArrayItems) (b : Bool) (head : Comments) → AreFormedArrayItems is → AreApartItems head is
      → FitsBetween (After Any head) (spelled_array_items b is) (AfterItems b head is)
  items_fit no_items b head h a = fits_none (After Any head)
  items_fit (with_item is l v cs) b head h a =
      fits_before (After Any (last_comments head is)) (items_fit is true head h.0 a.0) (after_commas head is)
      ▹ lines_item (After (AfterComma b) cs) (spelled_value l.gap v ++ (comma_if b ++ spelled_comments cs))
      (last_comments head is) l.line_ends a.1
      (value_fits v l.gap h.1.0 h.2 a.2 ▹ comma_if_fits b ▹ comments_fit (AfterComma b) (soft_comma b) cs a.3 h.3)

  members_fit : (ms : TableMembers) → AreFormedTableMembers ms → AreApartMembers ms
      → FitsBetween Any (spelled_table_members ms) (AfterMembers ms)
  members_fit no_members h a = fits_none Any
  members_fit (with_member ms k v) h a =
      members_fit ms h.0 a.0
      ▹ comma_after_fits ms
      ▹ whole_key_fits k false one_blank blank h.1
      ▹ equals_fits Parting one_blank blank (λ r k. k)
      ▹ value_fits v one_blank blank h.2 a.1

-- ---- statements

-- what a line needs after it
abbrev AfterBody : Body → List ℕ → Type 0
AfterBody (note s) r = LineNext r
AfterBody (header b k) r = Parting r
AfterBody (pair k g v) r = Parting r

body_fits : (b : Body) (g : List ℕ) → IsTomlGap g → IsFormedBody b → IsApartBody b → FitsBetween Any (spelled_body g b) (AfterBody b)
body_fits (note s) g c h a = comment_fits Any g s c h (λ r k. tt)
body_fits (header false k) g c h a =
    open_array_fits Any g c (λ r k. tt)
    ▹ whole_key_fits k false [] tt h
    ▹ fits_before Parting (close_array_fits Parting [] tt (λ r k. k)) (λ r k. tt)
body_fits (header true k) g c h a =
    open_array_fits Any g c (λ r k. tt)
    ▹ open_array_fits Any [] tt (λ r k. tt)
    ▹ whole_key_fits k false [] tt h
    ▹ close_array_fits Parting [] tt (λ r k. k)
    ▹ fits_before Parting (close_array_fits Any [] tt (λ r k. tt)) (λ r k. tt)
body_fits (pair k b v) g c h a =
    whole_key_fits k false g c h.0 ▹ equals_fits Parting b h.1.0 (λ r k. k) ▹ value_fits v one_blank blank h.2 a

end_fits : (b : Body) (r : Option Remark) → IsFormedRemark b r
    → FitsBetween (AfterBody b) (spelled_remark r ++ typed_after_gap [] line_end ∷ []) Any
end_fits (note s) None h = line_end_fits LineNext (λ r. refl)
end_fits (header b k) None h = line_end_fits Parting (λ r. (refl, refl))
end_fits (pair k g v) None h = line_end_fits Parting (λ r. (refl, refl))
end_fits (note s) (Some r) h = absurd h
end_fits (header b k) (Some r) h = comment_fits Parting r.gap r.text h.0.0 h.1 (λ r k. k) ▹ line_end_fits LineNext (λ r. refl)
end_fits (pair k g v) (Some r) h = comment_fits Parting r.gap r.text h.0.0 h.1 (λ r k. k) ▹ line_end_fits LineNext (λ r. refl)

statement_fits : (s : Statement) → IsFormedStatement s → IsApartBody s.body → FitsBetween Any (spelled_statement s) Any
statement_fits s h a = lines_fit s.before.line_ends ▹ body_fits s.body s.before.gap h.0.0 h.1 a ▹ end_fits s.body s.remark h.2

pub spelled_join : (ss : List Statement) → AreFormed ss → AreApart ss → Joins (spelled_statements ss)
spelled_join [] h a = (tt, refl)
spelled_join (s ∷ ss) h a = ((statement_fits s h.0 a.0).on (spelled_statements ss) (spelled_join ss h.1 a.1) tt).0

-- ---- texts

-- the lexemes before the end
abbrev lexemes_of : TomlLexeme → List (List ℕ) → List (List ℕ)
lexemes_of text_end ss = []
lexemes_of open_array ss = lexeme_bytes open_array ∷ ss
lexemes_of close_array ss = lexeme_bytes close_array ∷ ss
lexemes_of open_table ss = lexeme_bytes open_table ∷ ss
lexemes_of close_table ss = lexeme_bytes close_table ∷ ss
lexemes_of comma ss = lexeme_bytes comma ∷ ss
lexemes_of equals ss = lexeme_bytes equals ∷ ss
lexemes_of line_end ss = lexeme_bytes line_end ∷ ss
lexemes_of (comment s) ss = s ∷ ss
lexemes_of (string s) ss = s ∷ ss
lexemes_of (word s) ss = s ∷ ss

abbrev all_lexemes : List TypedAfterGap → List (List ℕ)
all_lexemes [] = []
all_lexemes (p ∷ ps) = lexemes_of p.lexeme (all_lexemes ps)

-- the lexemes of bytes, with their gaps
abbrev Lexed : List TypedAfterGap → Type 0
Lexed ps =
    All (λ s. toml_lexemes_of s ≡ s ∷ []) (all_lexemes ps) × IsWellSpaced (lexemes_text ps) (all_lexemes ps)
    × (map typed_spaced (toml_spaced_as (lexemes_text ps) (all_lexemes ps)) ≡ ps)

-- one lexeme more
one_more : (g : List ℕ) (l : TomlLexeme) (ps : List TypedAfterGap) → IsTomlGap g → StandsAlone l
    → MayFollow (lexeme_bytes l) (lexemes_text ps) → Lexed ps
    → All (λ s. toml_lexemes_of s ≡ s ∷ []) (lexeme_bytes l ∷ all_lexemes ps)
    × IsWellSpaced (g ++ (lexeme_bytes l ++ lexemes_text ps)) (lexeme_bytes l ∷ all_lexemes ps)
    × (map typed_spaced (toml_spaced_as (g ++ (lexeme_bytes l ++ lexemes_text ps)) (lexeme_bytes l ∷ all_lexemes ps))
    ≡ typed_after_gap g l ∷ ps)
one_more g l ps c a f h = (
  All-cons (λ s. toml_lexemes_of s ≡ s ∷ []) (lexeme_bytes l) (all_lexemes ps) a.0 h.0,
  (g, lexemes_text ps, c, refl, f, h.1),
  ap (map typed_spaced) (first_spaced g (lexeme_bytes l) (lexemes_text ps) (all_lexemes ps) c a.0)
      ∙ ap (λ k. typed_after_gap g k ∷ map typed_spaced (toml_spaced_as (lexemes_text ps) (all_lexemes ps))) a.1
      ∙ ap (λ qs. typed_after_gap g l ∷ qs) h.2,
)

lexed : (ps : List TypedAfterGap) → Joins ps → Lexed ps
lexed [] h = absurd h
lexed (p ∷ ps) h = by p.lexeme p.gap ps h (lexed ps)
  where
    by : (l : TomlLexeme) (g : List ℕ) (ps : List TypedAfterGap) → Joins (typed_after_gap g l ∷ ps) → (Joins ps → Lexed ps)
        → Lexed (typed_after_gap g l ∷ ps)
    by text_end g ps h k =
        subst (λ qs. Lexed (typed_after_gap g text_end ∷ qs)) (sym h.1) (
          All-nil (λ s. toml_lexemes_of s ≡ s ∷ []),
          subst IsTomlGap (sym (append-nil g)) h.0,
          ap (λ x. typed_after_gap x text_end ∷ [])
              (append-nil g),
        )
    by open_array g ps h k = one_more g open_array ps h.0 h.1.0 h.1.1 (k h.1.2)
    by close_array g ps h k = one_more g close_array ps h.0 h.1.0 h.1.1 (k h.1.2)
    by open_table g ps h k = one_more g open_table ps h.0 h.1.0 h.1.1 (k h.1.2)
    by close_table g ps h k = one_more g close_table ps h.0 h.1.0 h.1.1 (k h.1.2)
    by comma g ps h k = one_more g comma ps h.0 h.1.0 h.1.1 (k h.1.2)
    by equals g ps h k = one_more g equals ps h.0 h.1.0 h.1.1 (k h.1.2)
    by line_end g ps h k = one_more g line_end ps h.0 h.1.0 h.1.1 (k h.1.2)
    by (comment s) g ps h k = one_more g (comment s) ps h.0 h.1.0 h.1.1 (k h.1.2)
    by (string s) g ps h k = one_more g (string s) ps h.0 h.1.0 h.1.1 (k h.1.2)
    by (word s) g ps h k = one_more g (word s) ps h.0 h.1.0 h.1.1 (k h.1.2)

-- lexemes that join are those of their bytes
pub same_spaced : (ps : List TypedAfterGap) → Joins ps → typed_lexemes_in (lexemes_text ps) ≡ ps
same_spaced ps h =
    let all = lexed ps h in
    ap (λ ss. map typed_spaced (toml_spaced_as (lexemes_text ps) ss)) (same_lexemes (lexemes_text ps) (all_lexemes ps) all.0 all.1) ∙ all.2
