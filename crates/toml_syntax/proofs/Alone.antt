-- Which texts are one lexeme alone.
use Rattle.std.proofs.Common.{◌≡◌, refl, sym, ◌∙◌, ap, ℕ, Bool, true, false, cond, ◌==◌, ◌&&◌, ◌||◌, List, [], ◌∷◌, ◌++◌, subst}
use Rattle.std.specs.List.{list_all}
use Rattle.std.proofs.lemmas.Bool.{eqb-true, true≢false, and_parts, or_parts}
use Rattle.text_lexemes.specs.Languages.{between, within, begins, goes_on, stops, lengthened, cut}
use Rattle.text_lexemes.proofs.Cuts.{cut_begun}
use Rattle.toml_lexemes.specs.Bytes.{is_sign, is_blank, is_quote, ends_word, head}
use Rattle.toml_lexemes.specs.Lexemes.{in_comment, in_word, begins_line_feed, cut_toml, toml}
use Rattle.toml_lexemes.specs.Spaced.{MayFollow}
use Rattle.toml_lexemes.proofs.CommentGaps.{comment_begun}
use Rattle.toml_lexemes.proofs.Following.{first_word, word_blank, words_are_ended, comments_are_ended}
use Rattle.toml_lexemes.proofs.Kept.{cut_turned, no_blank}
use Rattle.toml_lexemes.proofs.WholeLexemes.{no_lexeme}
use Rattle.toml_lexemes.proofs.Words.{AreLetters, word_letters}
use Rattle.toml_grammar.specs.Bytes.{is_non_eol}
use Rattle.toml_grammar.specs.Comments.{is_comment}
use Rattle.toml_grammar.proofs.Comments.{comments_end_with_no_return}
use Rattle.toml_syntax.specs.TypedLexemes.{TomlLexeme, open_array, close_array, open_table, close_table, comma, equals, line_end, comment}
use Rattle.toml_syntax.specs.TypedLexemes.{string, word}
use Rattle.toml_syntax.specs.TypedLexemes.{text_end, typed_by, typed}
use Rattle.toml_syntax.specs.Formed.{StandsAlone, IsTextAlone}

-- ---- signs

pub open_array_alone : StandsAlone open_array
unfolding cut
open_array_alone = (refl, refl)

pub close_array_alone : StandsAlone close_array
unfolding cut
close_array_alone = (refl, refl)

pub open_table_alone : StandsAlone open_table
unfolding cut
open_table_alone = (refl, refl)

pub close_table_alone : StandsAlone close_table
unfolding cut
close_table_alone = (refl, refl)

pub comma_alone : StandsAlone comma
unfolding cut
comma_alone = (refl, refl)

pub equals_alone : StandsAlone equals
unfolding cut
equals_alone = (refl, refl)

pub line_end_alone : StandsAlone line_end
unfolding cut
line_end_alone = (refl, refl)

-- ---- words

pub typed_word : (x : ℕ) (s : List ℕ) → ends_word x ≡ false → typed_by x s ≡ word s
typed_word x s e =
    let a = or_parts (is_sign x || is_blank x || is_quote x || (x == 10)) (x == 35) e in
    let b = or_parts (is_sign x || is_blank x || is_quote x) (x == 10) a.0 in
    let c = or_parts (is_sign x || is_blank x) (is_quote x) b.0 in
    let d = or_parts (is_sign x) (is_blank x) c.0 in
    let f = or_parts ((x == 91) || (x == 93) || (x == 123) || (x == 125) || (x == 44)) (x == 61) d.0 in
    let g = or_parts ((x == 91) || (x == 93) || (x == 123) || (x == 125)) (x == 44) f.0 in
    let h = or_parts ((x == 91) || (x == 93) || (x == 123)) (x == 125) g.0 in
    let k = or_parts ((x == 91) || (x == 93)) (x == 123) h.0 in
    let l = or_parts (x == 91) (x == 93) k.0 in
    λ j. cond (l.0 j) open_array (cond (l.1 j) close_array (cond (k.1 j) open_table (cond (h.1 j) close_table (cond (g.1 j) comma
    (cond (f.1 j) equals (cond (b.1 j) line_end (cond (a.1 j) (comment s) (cond (c.1 j) (string s) (word s)))))))))

-- the sort of a lexeme by the tests for its first byte
abbrev pub by_sort : Bool → Bool → Bool → Bool → Bool → Bool → Bool → Bool → Bool → List ℕ → TomlLexeme
by_sort a b c d e f g h i s =
    cond a open_array (cond b close_array (cond c open_table (cond d close_table (cond e comma (cond f equals (cond g line_end
    (cond h (comment s) (cond i (string s) (word s)))))))))

-- the first byte of a word is no sign, no line feed, no hash and no quote
by_tests : (a b c d e f g h i : Bool) (s w : List ℕ)
    → by_sort a b c d e f g h i s ≡ word w → (p : Bool) → p ≡ false
    → ((((((((((a || b) || c) || d) || e) || f) || p) || i) || g) || h) ≡ false) × (s ≡ w)
by_tests true b c d e f g h i s w t p k = absurd (cc)
by_tests false true c d e f g h i s w t p k = absurd (cc)
by_tests false false true d e f g h i s w t p k = absurd (cc)
by_tests false false false true e f g h i s w t p k = absurd (cc)
by_tests false false false false true f g h i s w t p k = absurd (cc)
by_tests false false false false false true g h i s w t p k = absurd (cc)
by_tests false false false false false false true h i s w t p k = absurd (cc)
by_tests false false false false false false false true i s w t p k = absurd (cc)
by_tests false false false false false false false false true s w t p k = absurd (cc)
by_tests false false false false false false false false false s w t p k = (ap (λ x. ((x || false) || false) || false) k, cc)

pub word_begins : (w : List ℕ) → StandsAlone (word w) → ends_word (head w) ≡ false
word_begins [] h = absurd (no_lexeme h.0)
word_begins (x ∷ s) h =
    (by_tests (x == 91) (x == 93) (x == 123) (x == 125) (x == 44) (x == 61) (x == 10) (x == 35) (is_quote x) (x ∷ s) (x ∷ s) h.1
    (is_blank x)
    (no_blank x s h.0)).0

pub word_followed : (w r : List ℕ) → StandsAlone (word w) → ends_word (head r) ≡ true → MayFollow w r
word_followed w r h e = (words_are_ended w r h.0 (word_begins w h)).1 e

letters_both : (s t : List ℕ) → AreLetters s → AreLetters t → AreLetters (s ++ t)
letters_both [] t h k = k
letters_both (x ∷ s) t h k = (h.0, letters_both s t h.1 k)

letters_within : (s : List ℕ) → AreLetters s → cut_toml (within in_word) s ≡ s ∷ []
unfolding cut
letters_within [] h = refl
letters_within (x ∷ s) h =
    cut_turned in_word x s (goes_on in_word) (ap (λ p. cond p stops (goes_on in_word)) h.0) ∙ ap (lengthened x) (letters_within s h.1)

letters_alone : (x : ℕ) (s : List ℕ) → AreLetters (x ∷ s) → StandsAlone (word (x ∷ s))
letters_alone x s h = (
  cut_begun toml x s (begins in_word) (word_blank x h.0) (first_word x h.0) ∙ ap (lengthened x) (letters_within s h.1),
  typed_word x (x ∷ s) h.0,
)

-- words side by side are a word
pub words_joined : (v w : List ℕ) → StandsAlone (word v) → StandsAlone (word w) → StandsAlone (word (v ++ w))
words_joined [] w h k = absurd (no_lexeme h.0)
words_joined (x ∷ v) w h k =
    letters_alone x (v ++ w)
    (letters_both (x ∷ v) w (word_letters (x ∷ v) h.0 (word_begins (x ∷ v) h)) (word_letters w k.0 (word_begins w k)))

-- ---- strings

string_tests : (a b c d e f g h i : Bool) (s w : List ℕ)
    → by_sort a b c d e f g h i s ≡ string w → (i ≡ true) × (s ≡ w)
string_tests true b c d e f g h i s w t = absurd (cc)
string_tests false true c d e f g h i s w t = absurd (cc)
string_tests false false true d e f g h i s w t = absurd (cc)
string_tests false false false true e f g h i s w t = absurd (cc)
string_tests false false false false true f g h i s w t = absurd (cc)
string_tests false false false false false true g h i s w t = absurd (cc)
string_tests false false false false false false true h i s w t = absurd (cc)
string_tests false false false false false false false true i s w t = absurd (cc)
string_tests false false false false false false false false true s w t = (refl, cc)
string_tests false false false false false false false false false s w t = absurd (cc)

pub string_begins : (s : List ℕ) → StandsAlone (string s) → is_quote (head s) ≡ true
string_begins [] h = absurd (no_lexeme h.0)
string_begins (x ∷ s) h =
    (string_tests (x == 91) (x == 93) (x == 123) (x == 125) (x == 44) (x == 61) (x == 10) (x == 35) (is_quote x) (x ∷ s) (x ∷ s) h.1).0

-- a lexeme of a text, as a text of its own
pub lexeme_alone : (s : List ℕ) (l : TomlLexeme) → cut_toml between s ≡ s ∷ [] → typed s ≡ l → IsTextAlone l
lexeme_alone [] l h e = absurd (no_lexeme h)
lexeme_alone (x ∷ s) (word w) h e =
    let is = (by_tests (x == 91) (x == 93) (x == 123) (x == 125) (x == 44) (x == 61) (x == 10) (x == 35) (is_quote x)
    (x ∷ s) w e false refl).1 in
    subst (λ v. StandsAlone (word v)) is (h, e ∙ ap word (sym is))
lexeme_alone (x ∷ s) (string w) h e =
    let is = (string_tests (x == 91) (x == 93) (x == 123) (x == 125) (x == 44) (x == 61) (x == 10) (x == 35) (is_quote x) (x ∷ s) w e).1 in
    subst (λ v. StandsAlone (string v)) is (h, e ∙ ap string (sym is))
lexeme_alone (x ∷ s) open_array h e = tt
lexeme_alone (x ∷ s) close_array h e = tt
lexeme_alone (x ∷ s) open_table h e = tt
lexeme_alone (x ∷ s) close_table h e = tt
lexeme_alone (x ∷ s) comma h e = tt
lexeme_alone (x ∷ s) equals h e = tt
lexeme_alone (x ∷ s) line_end h e = tt
lexeme_alone (x ∷ s) (comment t) h e = tt
lexeme_alone (x ∷ s) text_end h e = tt

-- ---- comments

not_byte : (x c : ℕ) → is_non_eol c ≡ false → is_non_eol x ≡ true → (x == c) ≡ false
not_byte x c other here = by (x == c) refl
  where
    by : (b : Bool) → (x == c) ≡ b → b ≡ false
    by false e = refl
    by true e = absurd (true≢false (sym here ∙ ap is_non_eol (eqb-true x c e) ∙ other))

in_comment_alone : (s : List ℕ) → list_all is_non_eol s ≡ true → cut_toml (within in_comment) s ≡ s ∷ []
unfolding cut
in_comment_alone [] h = refl
in_comment_alone (x ∷ s) h =
    let parts = and_parts (is_non_eol x) (list_all is_non_eol s) h in
    let feed = not_byte x 10 refl parts.0 in
    let return = not_byte x 13 refl parts.0 in
    cut_turned in_comment x s (goes_on in_comment) (λ j. cond (feed j || (return j && begins_line_feed s)) stops (goes_on in_comment))
    ∙ ap (lengthened x) (in_comment_alone s parts.1)

pub comment_alone : (s : List ℕ) → is_comment s ≡ true → StandsAlone (comment s)
unfolding is_comment
comment_alone [] h = absurd (true≢false (sym h))
comment_alone (x ∷ s) h =
    let parts = and_parts (x == 35) (list_all is_non_eol (x ∷ s)) h in
    let rest = and_parts (is_non_eol x) (list_all is_non_eol s) parts.1 in
    subst (λ y. StandsAlone (comment (y ∷ s))) (sym (eqb-true x 35 parts.0))
    (comment_begun s ∙ ap (lengthened 35) (in_comment_alone s rest.1), refl)

pub comment_head : (s : List ℕ) → is_comment s ≡ true → head s ≡ 35
unfolding is_comment
comment_head [] h = absurd (true≢false (sym h))
comment_head (x ∷ s) h = eqb-true x 35 (and_parts (x == 35) (list_all is_non_eol (x ∷ s)) h).0

-- after a comment stands a line feed, or nothing
pub comment_followed : (s ys : List ℕ) → is_comment s ≡ true → MayFollow s (10 ∷ ys)
comment_followed s ys h =
    (comments_are_ended s 10 ys (comment_alone s h).0 (comment_head s h)).1 (refl, λ e. absurd (comments_end_with_no_return s h e))
