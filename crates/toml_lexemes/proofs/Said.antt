-- The lexemes of a text are in its statements, in their order, but the commas and the line ends.
use Rattle.std.proofs.Common.{◌≡◌, ℕ, zero, suc, Bool, true, false, not, cond, ◌==◌, ◌||◌, List, [], ◌∷◌, ◌++◌, All, refl, sym, ap, ap₂}
use Rattle.std.proofs.Common.{◌∙◌, subst, append_assoc, append-nil, filter}
use Rattle.std.specs.List.{flat_map}
use Rattle.std.proofs.lemmas.Grind.{flat_map-append}
use Rattle.std.proofs.lemmas.List.Elements.{filter-append, All-head, All-tail}
use Rattle.std.specs.Prelude.{⊤}
use Rattle.toml_lexemes.specs.Bytes.{ends_word, head}
use Rattle.text_lexemes.specs.Languages.{between, lengthened}
use Rattle.toml_lexemes.specs.Lexemes.{cut_toml}
use Rattle.toml_lexemes.specs.Statements.{Role, a_comma, a_comment, a_line_end, an_opening, a_closing, a_word, any_other, role}
use Rattle.toml_lexemes.specs.Statements.{role_of, ends_part, word_parts, trimmed, followed_by_comma, Collected, none_collected}
use Rattle.toml_lexemes.specs.Statements.{whole_line, with_statement, statements_of}
use Rattle.toml_lexemes.specs.Statements.{line_ended_at, with_held_comma, with_role, with_lexeme, with_lexemes, statements}
use Rattle.toml_lexemes.specs.StatementLaws.{is_comma_role, is_comma, said_first, said}
use Rattle.toml_lexemes.proofs.Gaps.{lexemes_alone}
use Rattle.toml_lexemes.proofs.SoundTexts.{comment_begins}
use Rattle.toml_lexemes.proofs.WholeLexemes.{word_role, trimmed_begins}
use Rattle.toml_lexemes.proofs.Words.{AreLetters, word_letters}

-- the lexemes that are no commas
abbrev no_commas : List (List ℕ) → List (List ℕ)
no_commas ss = filter (λ s. not (is_comma s)) ss

no_commas_both : (ss ts : List (List ℕ)) → no_commas (ss ++ ts) ≡ no_commas ss ++ no_commas ts
no_commas_both ss ts = filter-append (λ s. not (is_comma s)) ss ts

-- all lexemes of statements
abbrev all_of : List (List (List ℕ)) → List (List ℕ)
all_of lines = flat_map (λ line. line) lines

-- what is said by the statements that ended, and by the one that has not
abbrev said_by : Collected → List (List ℕ)
said_by c = no_commas (all_of c.done) ++ (no_commas c.line ++ no_commas c.comments)

-- a comma is not said
with_comma_said : (line : List (List ℕ)) (b : Bool) → no_commas (followed_by_comma line b) ≡ no_commas line
with_comma_said line false = refl
with_comma_said line true = no_commas_both line ((44 ∷ []) ∷ []) ∙ append-nil (no_commas line)

whole_said : (c : Collected) → no_commas (whole_line c) ≡ no_commas c.line ++ no_commas c.comments
whole_said c =
    no_commas_both (followed_by_comma c.line c.comma) c.comments
    ∙ ap (λ (l : List (List ℕ)). l ++ no_commas c.comments) (with_comma_said c.line c.comma)

statement_said : (done : List (List (List ℕ))) (line : List (List ℕ))
    → no_commas (all_of (with_statement done line)) ≡ no_commas (all_of done) ++ no_commas line
statement_said done [] = sym (append-nil (no_commas (all_of done)))
statement_said done (s ∷ ss) =
    ap no_commas (flat_map-append (λ line. line) done ((s ∷ ss) ∷ []) ∙ ap (λ (l : List (List ℕ)). all_of done ++ l) (append-nil (s ∷ ss)))
    ∙ no_commas_both (all_of done) (s ∷ ss)

statements_said : (c : Collected) → no_commas (all_of (statements_of c)) ≡ said_by c
statements_said c =
    statement_said c.done (whole_line c) ∙ ap (λ (l : List (List ℕ)). no_commas (all_of c.done) ++ l) (whole_said c)

-- ---- one more lexeme

ended_said : (n : ℕ) (c : Collected) → said_by (line_ended_at n c) ≡ said_by c
ended_said zero c = append-nil (no_commas (all_of (statements_of c))) ∙ statements_said c
ended_said (suc n) c = refl

comma_said : (b : Bool) (c : Collected) → c.comma ≡ b → said_by (with_held_comma b c) ≡ said_by c
comma_said false c e = refl
comma_said true c e =
    ap (λ (l : List (List ℕ)). no_commas (all_of c.done) ++ l) (append-nil (no_commas (whole_line c)) ∙ whole_said c)

-- a lexeme at the end
module _ (d l r : List (List ℕ)) (s : List (List ℕ)) where
  at_end : d ++ (l ++ (r ++ s)) ≡ (d ++ (l ++ r)) ++ s
  at_end = ap (λ (x : List (List ℕ)). d ++ x) (sym (append_assoc l r s)) ∙ sym (append_assoc d (l ++ r) s)

  in_line : d ++ (((l ++ r) ++ s) ++ []) ≡ (d ++ (l ++ r)) ++ s
  in_line = ap (λ (x : List (List ℕ)). d ++ x) (append-nil ((l ++ r) ++ s)) ∙ sym (append_assoc d (l ++ r) s)

one_said : (s : List ℕ) → is_comma s ≡ false → no_commas (s ∷ []) ≡ s ∷ []
one_said s e = rw e

trimmed_is_no_comma : (s : List ℕ) → role s ≡ a_comment → is_comma (trimmed s) ≡ false
trimmed_is_no_comma [] e = refl
trimmed_is_no_comma (x ∷ s) e =
    subst (λ y. is_comma (trimmed (y ∷ s)) ≡ false) (sym (comment_begins x e)) (ap is_comma (trimmed_begins s))

line_said : (c : Collected) (line ss : List (List ℕ)) → no_commas line ≡ no_commas c.line ++ no_commas c.comments
    → no_commas ss ≡ ss → no_commas (all_of c.done) ++ (no_commas (line ++ ss) ++ []) ≡ said_by c ++ ss
line_said c line ss e n =
    ap (λ (l : List (List ℕ)). no_commas (all_of c.done) ++ (l ++ []))
    (no_commas_both line ss ∙ ap₂ (λ (x y : List (List ℕ)). x ++ y) e n)
    ∙ in_line (no_commas (all_of c.done)) (no_commas c.line) (no_commas c.comments) ss

-- ---- words

-- none is a comma
abbrev HasNoCommas : List (List ℕ) → Type 0
HasNoCommas [] = ⊤
HasNoCommas (s ∷ ss) = (is_comma s ≡ false) × HasNoCommas ss

all_kept : (ss : List (List ℕ)) → HasNoCommas ss → no_commas ss ≡ ss
all_kept [] h = refl
all_kept (s ∷ ss) (here, later) = no_commas_both (s ∷ []) ss ∙ ap₂ (λ (x y : List (List ℕ)). x ++ y) (one_said s here) (all_kept ss later)

letter_is_no_comma : (x : ℕ) → ends_word x ≡ false → is_comma_role (role_of x) ≡ false
letter_is_no_comma x e = ap is_comma_role (word_role x e)

parts_are_no_commas : (s : List ℕ) → AreLetters s → HasNoCommas (word_parts s)
parts_are_no_commas [] h = tt
parts_are_no_commas (x ∷ s) (here, later) = by ((x == 46) || ends_part s) (parts_are_no_commas s later)
  where
    longer : (ss : List (List ℕ)) → HasNoCommas ss → HasNoCommas (lengthened x ss)
    longer [] h = (letter_is_no_comma x here, tt)
    longer (t ∷ ts) h = (letter_is_no_comma x here, h.1)

    by : (b : Bool) → HasNoCommas (word_parts s) → HasNoCommas (cond b ((x ∷ []) ∷ word_parts s) (lengthened x (word_parts s)))
    by true h = (letter_is_no_comma x here, h)
    by false h = longer (word_parts s) h

-- the lexeme is one alone
abbrev IsAlone : List ℕ → Type 0
IsAlone s = cut_toml between s ≡ s ∷ []

letter_if_word : (x : ℕ) → role_of x ≡ a_word → ends_word x ≡ false
letter_if_word x e = says (x == 44) (x == 35) (x == 10) ((x == 91) || (x == 123)) ((x == 93) || (x == 125)) (ends_word x) e
  where
    says : (p q r t u v : Bool)
        → cond p a_comma (cond q a_comment (cond r a_line_end (cond t an_opening (cond u a_closing (cond v any_other a_word))))) ≡ a_word
        → v ≡ false
    says true q r t u v e = absurd (cc)
    says false true r t u v e = absurd (cc)
    says false false true t u v e = absurd (cc)
    says false false false true u v e = absurd (cc)
    says false false false false true v e = absurd (cc)
    says false false false false false true e = absurd (cc)
    says false false false false false false e = refl

word_said : (s : List ℕ) → IsAlone s → role s ≡ a_word → no_commas (word_parts s) ≡ word_parts s
word_said s lexeme e = all_kept (word_parts s) (parts_are_no_commas s (word_letters s lexeme (letter_if_word (head s) e)))

role_said : (r : Role) (c : Collected) (s : List ℕ) → IsAlone s → role s ≡ r → said_by (with_role r c s) ≡ said_by c ++ said_first r s []
role_said a_comma c s lexeme e = comma_said c.comma c refl ∙ sym (append-nil (said_by c))
role_said a_line_end c s lexeme e = ended_said c.depth c ∙ sym (append-nil (said_by c))
role_said a_comment c s lexeme e =
    ap (λ (l : List (List ℕ)). no_commas (all_of c.done) ++ (no_commas c.line ++ l))
    (no_commas_both c.comments (trimmed s ∷ [])
    ∙ ap (λ (l : List (List ℕ)). no_commas c.comments ++ l) (one_said (trimmed s) (trimmed_is_no_comma s e)))
    ∙ at_end (no_commas (all_of c.done)) (no_commas c.line) (no_commas c.comments) (trimmed s ∷ [])
role_said an_opening c s lexeme e = line_said c (whole_line c) (s ∷ []) (whole_said c) (one_said s (ap is_comma_role e))
role_said a_closing c s lexeme e =
    line_said c (c.line ++ c.comments) (s ∷ []) (no_commas_both c.line c.comments) (one_said s (ap is_comma_role e))
role_said a_word c s lexeme e =
    line_said c (whole_line c) (word_parts s) (whole_said c) (word_said s lexeme e)
    ∙ ap (λ (l : List (List ℕ)). said_by c ++ l) (sym (append-nil (word_parts s)))
role_said any_other c s lexeme e = line_said c (whole_line c) (s ∷ []) (whole_said c) (one_said s (ap is_comma_role e))

said_more : (r : Role) (s : List ℕ) (ss : List (List ℕ)) → said_first r s [] ++ ss ≡ said_first r s ss
said_more a_comma s ss = refl
said_more a_line_end s ss = refl
said_more a_comment s ss = refl
said_more an_opening s ss = refl
said_more a_closing s ss = refl
said_more a_word s ss = ap (λ (l : List (List ℕ)). l ++ ss) (append-nil (word_parts s))
said_more any_other s ss = refl

all_said : (ss : List (List ℕ)) (c : Collected) → All IsAlone ss → said_by (with_lexemes c ss) ≡ said_by c ++ said ss
all_said [] c alone = sym (append-nil (said_by c))
all_said (s ∷ ss) c alone =
    all_said ss (with_lexeme c s) (All-tail IsAlone s ss alone)
    ∙ ap (λ (l : List (List ℕ)). l ++ said ss) (role_said (role s) c s (All-head IsAlone s ss alone) refl)
    ∙ append_assoc (said_by c) (said_first (role s) s []) (said ss)
    ∙ ap (λ (l : List (List ℕ)). said_by c ++ l) (said_more (role s) s (said ss))

pub lexemes_are_said : (text : List ℕ) → no_commas (all_of (statements text)) ≡ said (cut_toml between text)
unfolding statements
lexemes_are_said text =
    statements_said (with_lexemes none_collected (cut_toml between text)) ∙ all_said (cut_toml between text) none_collected
    (lexemes_alone text)
