-- What kind a lexeme has, by its first byte.
use Rattle.std.proofs.Common.{◌≡◌, refl, sym, ◌∙◌, ap, Bor, ℕ, false, cond, ◌||◌, ◌==◌, List, [], ◌∷◌}
use Rattle.std.proofs.lemmas.Bool.{or_parts}
use Rattle.toml_lexemes.specs.Bytes.{head, is_sign, is_blank, is_quote, ends_word, ends_with_dot}
use Rattle.toml_lexemes.specs.View.{toml_text_of, HasTomlKind}
use Rattle.toml_lexemes.specs.declared.lexeme.Lexeme.{Lexeme}
use Rattle.toml_lexemes.specs.declared.lexeme.Lexeme.TheVariants as lexeme
use Rattle.toml_grammar.specs.Sorts as sort
use Rattle.toml_grammar.specs.Sorts.{Sort, sort_of}
use Rattle.toml_grammar.proofs.Allowed.{sort_comment, sort_string}
use Rattle.toml_documents.specs.Kinds.{is_closing, IsPart, last_after, last_after_sort, last_after_text, sort_for}

pub sort_word : (s : List ℕ) → ends_word (head s) ≡ false → sort_of s ≡ sort.word
sort_word [] e = absurd (cc)
sort_word (x ∷ xs) e =
    let a = or_parts (is_sign x || is_blank x || is_quote x || (x == 10)) (x == 35) e in
    let b = or_parts (is_sign x || is_blank x || is_quote x) (x == 10) a.0 in
    let c = or_parts (is_sign x || is_blank x) (is_quote x) b.0 in
    let d = or_parts (is_sign x) (is_blank x) c.0 in
    let f = or_parts ((x == 91) || (x == 93) || (x == 123) || (x == 125) || (x == 44)) (x == 61) d.0 in
    let g = or_parts ((x == 91) || (x == 93) || (x == 123) || (x == 125)) (x == 44) f.0 in
    let h = or_parts ((x == 91) || (x == 93) || (x == 123)) (x == 125) g.0 in
    let k = or_parts ((x == 91) || (x == 93)) (x == 123) h.0 in
    let l = or_parts (x == 91) (x == 93) k.0 in
    λ j. cond (l.0 j) sort.open_array (cond (l.1 j) sort.close_array (cond (k.1 j) sort.open_table
    (cond (h.1 j) sort.close_table (cond (g.1 j) sort.comma (cond (f.1 j) sort.equals (cond (b.1 j) sort.line_end
    (cond (a.1 j) sort.comment (cond (c.1 j) sort.string sort.word))))))))

-- the sort that a lexeme has by its first byte
pub sort_known : (x : Lexeme) → HasTomlKind x → sort_of (toml_text_of x) ≡ sort_for x
sort_known lexeme.OpenArray named = refl
sort_known lexeme.CloseArray named = refl
sort_known lexeme.OpenTable named = refl
sort_known lexeme.CloseTable named = refl
sort_known lexeme.Comma named = refl
sort_known lexeme.Equals named = refl
sort_known lexeme.LineEnd named = refl
sort_known (lexeme.Comment s) named = sort_comment s.now named
sort_known (lexeme.String s) named = sort_string s.now named
sort_known (lexeme.Word s) named = sort_word s.now named

last_known : (x : Lexeme) → IsPart x → last_after x ≡ last_after_sort (sort_for x) (ends_with_dot (toml_text_of x))
last_known lexeme.OpenArray part = refl
last_known lexeme.CloseArray part = absurd part
last_known lexeme.OpenTable part = refl
last_known lexeme.CloseTable part = absurd part
last_known lexeme.Comma part = absurd part
last_known lexeme.Equals part = refl
last_known lexeme.LineEnd part = absurd part
last_known (lexeme.Comment s) part = absurd part
last_known (lexeme.String s) part = refl
last_known (lexeme.Word s) part = refl

pub part_last : (x : Lexeme) → HasTomlKind x → IsPart x → last_after x ≡ last_after_text (toml_text_of x)
part_last x named part =
    last_known x part ∙ ap (λ (k : Sort). last_after_sort k (ends_with_dot (toml_text_of x))) (sym (sort_known x named))

-- what closes no list and is no comma, comment or line end is a part
pub list_part : (x : Lexeme) → is_closing x ≡ false → (x ≡ lexeme.LineEnd → ⊥) → (x ≡ lexeme.Comma → ⊥)
    → ((r : Bor (List ℕ)) → x ≡ lexeme.Comment r → ⊥) → IsPart x
list_part lexeme.OpenArray e n p q = tt
list_part lexeme.OpenTable e n p q = tt
list_part lexeme.Equals e n p q = tt
list_part (lexeme.String s) e n p q = tt
list_part (lexeme.Word s) e n p q = tt
list_part lexeme.CloseArray e n p q = absurd (cc)
list_part lexeme.CloseTable e n p q = absurd (cc)
list_part lexeme.Comma e n p q = absurd (p refl)
list_part lexeme.LineEnd e n p q = absurd (n refl)
list_part (lexeme.Comment s) e n p q = absurd (q s refl)
