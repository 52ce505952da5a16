-- Statements do not depend on gaps, and a line end outside of brackets divides them.
use Rattle.std.proofs.Common.{◌≡◌, ℕ, zero, suc, Bool, true, false, List, [], ◌∷◌, ◌++◌, All, refl, sym, ap, ◌∙◌, append_assoc, append-nil}
use Rattle.std.proofs.lemmas.List.Elements.{All-head, All-tail}
use Rattle.text_lexemes.specs.Languages.{between}
use Rattle.toml_lexemes.specs.Lexemes.{cut_toml}
use Rattle.toml_lexemes.specs.Spaced.{IsWellSpaced}
use Rattle.toml_lexemes.proofs.Gaps.{lexemes_alone}
use Rattle.toml_lexemes.proofs.Kept.{same_lexemes}
use Rattle.toml_lexemes.specs.Statements.{Role, a_comma, a_comment, a_line_end, an_opening, a_closing, a_word, any_other, role}
use Rattle.toml_lexemes.specs.Statements.{Collected, none_collected, whole_line, with_statement, statements_of, line_ended_at, line_ended}
use Rattle.toml_lexemes.specs.Statements.{with_held_comma, with_role, with_lexeme, with_lexemes, statements}
use Rattle.toml_lexemes.specs.StatementLaws.{IsBalanced}
use Rattle.toml_lexemes.proofs.LineEnds.{with_both}

pub gaps_keep_statements : (text other : List ℕ) → IsWellSpaced other (cut_toml between text) → statements other ≡ statements text
unfolding statements
gaps_keep_statements text other spaced =
    ap (λ ss. statements_of (with_lexemes none_collected ss)) (same_lexemes other (cut_toml between text) (lexemes_alone text) spaced)

-- line ends alone
nothing_collected : (ss : List (List ℕ)) → All (λ s. s ≡ 10 ∷ []) ss → with_lexemes none_collected ss ≡ none_collected
nothing_collected [] h = refl
nothing_collected (s ∷ ss) h =
    ap (λ t. with_lexemes (with_lexeme none_collected t) ss) (All-head (λ t. t ≡ 10 ∷ []) s ss h)
    ∙ nothing_collected ss (All-tail (λ t. t ≡ 10 ∷ []) s ss h)

pub line_ends_say_nothing : (text : List ℕ) → All (λ s. s ≡ 10 ∷ []) (cut_toml between text) → statements text ≡ []
unfolding statements
line_ends_say_nothing text h = ap statements_of (nothing_collected (cut_toml between text) h)

-- ---- statements that ended before

module _ (before : List (List (List ℕ))) where
  -- the same after these statements
  later : Collected → Collected
  later c = record c { done = before ++ c.done }

  statement_later : (done : List (List (List ℕ))) (line : List (List ℕ))
      → with_statement (before ++ done) line ≡ before ++ with_statement done line
  statement_later done [] = refl
  statement_later done (s ∷ ss) = append_assoc before done ((s ∷ ss) ∷ [])

  statements_later : (c : Collected) → statements_of (later c) ≡ before ++ statements_of c
  unfolding later
  statements_later c = statement_later c.done (whole_line c)

  ended_later : (n : ℕ) (c : Collected) → line_ended_at n (later c) ≡ later (line_ended_at n c)
  unfolding later
  ended_later zero c =
      ap (λ (done : List (List (List ℕ))). record { depth = 0; comma = false; comments = []; line = []; done = done })
      (statement_later c.done (whole_line c))
  ended_later (suc n) c = refl

  comma_later : (b : Bool) (c : Collected) → with_held_comma b (later c) ≡ later (with_held_comma b c)
  unfolding later
  comma_later true c = refl
  comma_later false c = refl

  role_later : (r : Role) (c : Collected) (s : List ℕ) → with_role r (later c) s ≡ later (with_role r c s)
  unfolding later
  role_later a_comma c s = comma_later c.comma c
  role_later a_comment c s = refl
  role_later a_line_end c s = ended_later c.depth c
  role_later an_opening c s = refl
  role_later a_closing c s = refl
  role_later a_word c s = refl
  role_later any_other c s = refl

  lexemes_later : (ss : List (List ℕ)) (c : Collected) → with_lexemes (later c) ss ≡ later (with_lexemes c ss)
  lexemes_later [] c = refl
  lexemes_later (s ∷ ss) c = ap (λ d. with_lexemes d ss) (role_later (role s) c s) ∙ lexemes_later ss (with_lexeme c s)

-- a line end at depth 0
divided : (c : Collected) → c.depth ≡ 0 → line_ended c ≡ later (statements_of c) none_collected
unfolding later
divided c e =
    ap (λ n. line_ended_at n c) e
    ∙ ap (λ (done : List (List (List ℕ))). record { depth = 0; comma = false; comments = []; line = []; done = done })
    (sym (append-nil (statements_of c)))

pub line_ends_divide : (text before after : List ℕ) → IsBalanced before
    → cut_toml between text ≡ cut_toml between before ++ (10 ∷ []) ∷ cut_toml between after
    → statements text ≡ statements before ++ statements after
unfolding statements
line_ends_divide text before after balanced e =
    let c = with_lexemes none_collected (cut_toml between before) in
    ap (λ ss. statements_of (with_lexemes none_collected ss)) e
    ∙ ap statements_of (with_both none_collected (cut_toml between before) ((10 ∷ []) ∷ cut_toml between after))
    ∙ ap (λ d. statements_of (with_lexemes d (cut_toml between after))) (divided c balanced)
    ∙ ap statements_of (lexemes_later (statements_of c) (cut_toml between after) none_collected)
    ∙ statements_later (statements_of c) (with_lexemes none_collected (cut_toml between after))
