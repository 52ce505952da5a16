-- Lexemes with gaps in front of others: what they need of the bytes after them, and what they give to the lexeme before them.
use Rattle.std.proofs.Common.{◌≡◌, refl, sym, ap, ℕ, Bool, true, false, ◌==◌, ◌||◌, List, [], ◌∷◌, ◌++◌, subst}
use Rattle.std.proofs.Common.{append_assoc, arith}
use Rattle.std.specs.Bool.{⊤}
use Rattle.std.proofs.lemmas.Bool.{eqb-true, or_parts, or_cases}
use Rattle.std.proofs.Common.{◌⊎◌, inl, inr}
use Rattle.toml_lexemes.specs.Bytes.{is_sign, is_blank, is_quote, ends_word, head}
use Rattle.toml_lexemes.specs.Spaced.{IsTomlGap, MayFollow}
use Rattle.toml_lexemes.proofs.Following.{signs_are_ended, end_may_follow}
use Rattle.toml_lexemes.proofs.WholeLexemes.{no_lexeme}
use Rattle.toml_grammar.specs.Comments.{is_comment}
use Rattle.toml_grammar.specs.Strings.{is_string}
use Rattle.toml_grammar.proofs.Closed.{strings_are_closed}
use Rattle.toml_syntax.specs.TypedLexemes.{TomlLexeme, open_array, close_array, open_table, close_table, comma, equals, line_end, comment}
use Rattle.toml_syntax.specs.TypedLexemes.{string, word}
use Rattle.toml_syntax.specs.TypedLexemes.{text_end, TypedAfterGap, typed_after_gap, lexeme_bytes}
use Rattle.toml_syntax.specs.Formed.{StandsAlone}
use Rattle.toml_syntax.specs.Formatted.{lexemes_text}
use Rattle.toml_syntax.proofs.Alone.{open_array_alone, close_array_alone, open_table_alone, close_table_alone, comma_alone, equals_alone}
use Rattle.toml_syntax.proofs.Alone.{line_end_alone}
use Rattle.toml_syntax.proofs.Alone.{word_begins, word_followed, string_begins, comment_alone, comment_head, comment_followed}

-- ---- what is needed

-- any bytes
abbrev pub Any : List ℕ → Type 0
Any r = ⊤

-- a byte that ends a word and is no quote, or no byte
abbrev pub Parting : List ℕ → Type 0
Parting r = (ends_word (head r) ≡ true) × (is_quote (head r) ≡ false)

-- a byte that ends a word
abbrev pub WordEnd : List ℕ → Type 0
WordEnd r = ends_word (head r) ≡ true

-- no quote
abbrev pub QuoteFree : List ℕ → Type 0
QuoteFree r = is_quote (head r) ≡ false

-- a line feed, or no byte
abbrev pub LineNext : List ℕ → Type 0
LineNext [] = ⊤
LineNext (x ∷ xs) = x ≡ 10

pub line_parting : (r : List ℕ) → LineNext r → Parting r
line_parting [] h = (refl, refl)
line_parting (x ∷ r) h = subst (λ y. Parting (y ∷ r)) (sym h) (refl, refl)

-- ---- lists of lexemes

-- the last is the end of the text, and each other one stands alone and has after it what may follow it
abbrev JoinsAs : TomlLexeme → List TypedAfterGap → Type 0 → Type 0
JoinsAs text_end ps later = ps ≡ []
JoinsAs open_array ps later = StandsAlone open_array × MayFollow (lexeme_bytes open_array) (lexemes_text ps) × later
JoinsAs close_array ps later = StandsAlone close_array × MayFollow (lexeme_bytes close_array) (lexemes_text ps) × later
JoinsAs open_table ps later = StandsAlone open_table × MayFollow (lexeme_bytes open_table) (lexemes_text ps) × later
JoinsAs close_table ps later = StandsAlone close_table × MayFollow (lexeme_bytes close_table) (lexemes_text ps) × later
JoinsAs comma ps later = StandsAlone comma × MayFollow (lexeme_bytes comma) (lexemes_text ps) × later
JoinsAs equals ps later = StandsAlone equals × MayFollow (lexeme_bytes equals) (lexemes_text ps) × later
JoinsAs line_end ps later = StandsAlone line_end × MayFollow (lexeme_bytes line_end) (lexemes_text ps) × later
JoinsAs (comment s) ps later = StandsAlone (comment s) × MayFollow s (lexemes_text ps) × later
JoinsAs (string s) ps later = StandsAlone (string s) × MayFollow s (lexemes_text ps) × later
JoinsAs (word s) ps later = StandsAlone (word s) × MayFollow s (lexemes_text ps) × later

abbrev pub Joins : List TypedAfterGap → Type 0
Joins [] = ⊥
Joins (p ∷ ps) = IsTomlGap p.gap × JoinsAs p.lexeme ps (Joins ps)

-- lexemes that join with what has B after them, and give F to what is before them
pub record FitsBetween (F : List ℕ → Type 0) (a : List TypedAfterGap) (B : List ℕ → Type 0) : Type 0 where
  pub on : (rest : List TypedAfterGap) → Joins rest → B (lexemes_text rest) → Joins (a ++ rest) × F (lexemes_text (a ++ rest))

-- one after the other
infixr 4 ◌▹◌
pub ◌▹◌ : {F M B : List ℕ → Type 0} {a b : List TypedAfterGap} → FitsBetween F a M → FitsBetween M b B → FitsBetween F (a ++ b) B
◌▹◌ {F} {M} {B} {a} {b} f g =
    record {
      on = λ rest j h.
          let r = g.on rest j h in
          subst (λ ps. Joins ps × F (lexemes_text ps)) (sym (append_assoc a b rest)) (f.on (b ++ rest) r.0 r.1);
    }

pub fits_none : (F : List ℕ → Type 0) → FitsBetween F [] F
fits_none F = record { on = λ rest j h. (j, h) }

pub fits_before : {F B : List ℕ → Type 0} {a : List TypedAfterGap} → (C : List ℕ → Type 0) → FitsBetween F a B → ((r : List ℕ) → C r → B r)
    → FitsBetween F a C
fits_before {F} {B} {a} C f h = record { on = λ rest j k. f.on rest j (h (lexemes_text rest) k) }

pub fits_after : {F B : List ℕ → Type 0} {a : List TypedAfterGap} → (G : List ℕ → Type 0) → FitsBetween F a B → ((r : List ℕ) → F r → G r)
    → FitsBetween G a B
fits_after {F} {B} {a} G f h = record { on = λ rest j k. let r = f.on rest j k in (r.0, h (lexemes_text (a ++ rest)) r.1) }

-- ---- gaps

by_blank : (P : ℕ → Type 0) → P 32 → P 9 → P 13 → (x : ℕ) → is_blank x ≡ true → P x
by_blank P p q r x e =
    either ((x == 32) || (x == 9)) (x == 13) (either (x == 32) (x == 9) (at 32 p) (at 9 q)) (at 13 r) e
  where
    at : (c : ℕ) → P c → (x == c) ≡ true → P x
    at c p e = subst P (sym (eqb-true x c e)) p

    either : (p q : Bool) → (p ≡ true → P x) → (q ≡ true → P x) → (p || q) ≡ true → P x
    either p q f g h = elim (or_cases p q h) [ inl e ↦ f e | inr e ↦ g e ]

-- a gap, or what follows it, is parting
parting_gap : (g r : List ℕ) → IsTomlGap g → Parting r → Parting (g ++ r)
parting_gap [] r h k = k
parting_gap (x ∷ g) r h k = by_blank (λ y. Parting (y ∷ (g ++ r))) (refl, refl) (refl, refl) (refl, refl) x h.0

-- ---- lexemes

pub open_array_fits : (F : List ℕ → Type 0) (g : List ℕ) → IsTomlGap g → ((r : List ℕ) → Parting r → F r)
    → FitsBetween F (typed_after_gap g open_array ∷ []) Any
open_array_fits F g c h =
    record {
      on = λ rest j k. (
        (c, (open_array_alone, signs_are_ended 91 (lexemes_text rest) refl, j)),
        h _
            (parting_gap g (91 ∷ lexemes_text rest) c (refl, refl)),
      );
    }

pub close_array_fits : (F : List ℕ → Type 0) (g : List ℕ) → IsTomlGap g → ((r : List ℕ) → Parting r → F r)
    → FitsBetween F (typed_after_gap g close_array ∷ []) Any
close_array_fits F g c h =
    record {
      on = λ rest j k. (
        (c, (close_array_alone, signs_are_ended 93 (lexemes_text rest) refl, j)),
        h _
            (parting_gap g (93 ∷ lexemes_text rest) c (refl, refl)),
      );
    }

pub open_table_fits : (F : List ℕ → Type 0) (g : List ℕ) → IsTomlGap g → ((r : List ℕ) → Parting r → F r)
    → FitsBetween F (typed_after_gap g open_table ∷ []) Any
open_table_fits F g c h =
    record {
      on = λ rest j k. (
        (c, (open_table_alone, signs_are_ended 123 (lexemes_text rest) refl, j)),
        h _
            (parting_gap g (123 ∷ lexemes_text rest) c (refl, refl)),
      );
    }

pub close_table_fits : (F : List ℕ → Type 0) (g : List ℕ) → IsTomlGap g → ((r : List ℕ) → Parting r → F r)
    → FitsBetween F (typed_after_gap g close_table ∷ []) Any
close_table_fits F g c h =
    record {
      on = λ rest j k. (
        (c, (close_table_alone, signs_are_ended 125 (lexemes_text rest) refl, j)),
        h _
            (parting_gap g (125 ∷ lexemes_text rest) c (refl, refl)),
      );
    }

pub comma_fits : (F : List ℕ → Type 0) (g : List ℕ) → IsTomlGap g → ((r : List ℕ) → Parting r → F r)
    → FitsBetween F (typed_after_gap g comma ∷ []) Any
comma_fits F g c h =
    record {
      on = λ rest j k.
          ((c, (comma_alone, signs_are_ended 44 (lexemes_text rest) refl, j)), h _ (parting_gap g (44 ∷ lexemes_text rest) c (refl, refl)));
    }

pub equals_fits : (F : List ℕ → Type 0) (g : List ℕ) → IsTomlGap g → ((r : List ℕ) → Parting r → F r)
    → FitsBetween F (typed_after_gap g equals ∷ []) Any
equals_fits F g c h =
    record {
      on = λ rest j k. (
        (c, (equals_alone, signs_are_ended 61 (lexemes_text rest) refl, j)),
        h _
            (parting_gap g (61 ∷ lexemes_text rest) c (refl, refl)),
      );
    }

-- a line end with no gap before it
pub line_end_fits : (F : List ℕ → Type 0) → ((r : List ℕ) → F (10 ∷ r)) → FitsBetween F (typed_after_gap [] line_end ∷ []) Any
line_end_fits F h =
    record { on = λ rest j k. ((tt, (line_end_alone, signs_are_ended 10 (lexemes_text rest) refl, j)), h (lexemes_text rest)) }

line_next_follows : (s r : List ℕ) → is_comment s ≡ true → LineNext r → MayFollow s r
line_next_follows s [] h k = end_may_follow s
line_next_follows s (x ∷ r) h k = subst (λ y. MayFollow s (y ∷ r)) (sym k) (comment_followed s r h)

hash_parting : (s r : List ℕ) → head s ≡ 35 → Parting (s ++ r)
hash_parting [] r h = absurd (omega arith)
hash_parting (x ∷ s) r h = subst (λ y. Parting (y ∷ (s ++ r))) (sym h) (refl, refl)

pub comment_fits : (F : List ℕ → Type 0) (g s : List ℕ) → IsTomlGap g → is_comment s ≡ true → ((r : List ℕ) → Parting r → F r)
    → FitsBetween F (typed_after_gap g (comment s) ∷ []) LineNext
comment_fits F g s c e h =
    record {
      on = λ rest j k. (
        (c, (comment_alone s e, line_next_follows s (lexemes_text rest) e k, j)),
        h _
            (parting_gap g (s ++ lexemes_text rest) c (hash_parting s (lexemes_text rest) (comment_head s e))),
      );
    }

pub word_fits : (F : List ℕ → Type 0) (g w : List ℕ) → IsTomlGap g → StandsAlone (word w) → ((r : List ℕ) → F (g ++ (w ++ r)))
    → FitsBetween F (typed_after_gap g (word w) ∷ []) WordEnd
word_fits F g w c a h = record { on = λ rest j k. ((c, (a, word_followed w (lexemes_text rest) a k, j)), h (lexemes_text rest)) }

no_quote_follows : (s r : List ℕ) → is_string s ≡ true → QuoteFree r → MayFollow s r
no_quote_follows s [] h k = end_may_follow s
no_quote_follows s (x ∷ r) h k = strings_are_closed s h x r k

pub string_fits : (F : List ℕ → Type 0) (g s : List ℕ) → IsTomlGap g → StandsAlone (string s) → is_string s ≡ true
    → ((r : List ℕ) → F (g ++ (s ++ r)))
    → FitsBetween F (typed_after_gap g (string s) ∷ []) QuoteFree
string_fits F g s c a e h = record { on = λ rest j k. ((c, (a, no_quote_follows s (lexemes_text rest) e k, j)), h (lexemes_text rest)) }

-- a word begins with no quote, and a quote ends a word
pub word_quote_free : (w r : List ℕ) → StandsAlone (word w) → QuoteFree (w ++ r)
word_quote_free [] r a = absurd (no_lexeme a.0)
word_quote_free (x ∷ w) r a =
    let one = or_parts (is_sign x || is_blank x || is_quote x || (x == 10)) (x == 35) (word_begins (x ∷ w) a) in
    let two = or_parts (is_sign x || is_blank x || is_quote x) (x == 10) one.0 in
    λ j. (or_parts (is_sign x || is_blank x) (is_quote x) two.0).1 j

quote_ends : (x : ℕ) → is_quote x ≡ true → ends_word x ≡ true
quote_ends x e = go (or_cases (x == 34) (x == 39) e)
  where
    go : ((x == 34) ≡ true) ⊎ ((x == 39) ≡ true) → ends_word x ≡ true
    go (inl h) = ap ends_word (eqb-true x 34 h)
    go (inr h) = ap ends_word (eqb-true x 39 h)

pub string_ends_word : (s r : List ℕ) → StandsAlone (string s) → WordEnd (s ++ r)
string_ends_word [] r a = absurd (no_lexeme a.0)
string_ends_word (x ∷ s) r a = quote_ends x (string_begins (x ∷ s) a)
