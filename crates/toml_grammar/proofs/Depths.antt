-- How many brackets are open after lexemes.
use Rattle.std.proofs.Common.{◌≡◌, ℕ, ◌+◌, ◌-◌, ◌<◌, ◌≤◌, Bool, false, true, cond, ◌||◌, ◌==◌, ltb, ◌⊎◌, inl, inr, List, [], ◌∷◌, ◌++◌}
use Rattle.std.proofs.Common.{length, drop, refl, sym, ap, ◌∙◌, append-nil, append_assoc, arith}
use Rattle.std.proofs.lemmas.Bool.{le-ltb, lt-ltb, ltb-false, eqb-true, or_cases, or_parts}
use Rattle.toml_lexemes.specs.Bytes.{hash, head, is_sign, is_blank, is_quote, ends_word}
use Rattle.toml_lexemes.specs.Lexemes.{toml_lexemes_of}
use Rattle.toml_lexemes.specs.SpacedLexemes.{SpacedToml, blanks, toml_spaced_as}
use Rattle.toml_grammar.specs.Sorts as sort
use Rattle.toml_grammar.specs.Sorts.{sort_by, sort_of}
use Rattle.toml_grammar.specs.Nesting.{max_brackets, depth_after, nest_too_deep, is_too_deep, spellings}
use Rattle.toml_grammar.proofs.Cuts.{IsCut, cut_after}

-- ---- one lexeme

-- a lexeme after which so many brackets are open, which is not too deep
pub depth_step : (s : List ℕ) (ss : List (List ℕ)) (n m : ℕ) → depth_after (sort_of s) n ≡ m → m ≤ max_brackets
    → nest_too_deep n (s ∷ ss) ≡ nest_too_deep m ss
depth_step s ss n m e h =
    ap (λ k. ltb max_brackets k || nest_too_deep k ss) e ∙ ap (λ b. b || nest_too_deep m ss) (le-ltb max_brackets m h)

pub comment_depth : (s : List ℕ) → head s ≡ hash → (n : ℕ) → depth_after (sort_of s) n ≡ n
comment_depth [] e n = refl
comment_depth (x ∷ xs) e n = ap (λ b. depth_after (sort_by b) n) e

pub string_depth : (s : List ℕ) → is_quote (head s) ≡ true → (n : ℕ) → depth_after (sort_of s) n ≡ n
string_depth [] e n = refl
string_depth (x ∷ xs) e n = go (or_cases (x == 34) (x == 39) e)
  where
    go : ((x == 34) ≡ true) ⊎ ((x == 39) ≡ true) → depth_after (sort_by x) n ≡ n
    go (inl h) = ap (λ b. depth_after (sort_by b) n) (eqb-true x 34 h)
    go (inr h) = ap (λ b. depth_after (sort_by b) n) (eqb-true x 39 h)

pub word_depth : (s : List ℕ) → ends_word (head s) ≡ false → (n : ℕ) → depth_after (sort_of s) n ≡ n
word_depth [] e n = refl
word_depth (x ∷ xs) e n =
    let a = or_parts (is_sign x || is_blank x || is_quote x || (x == 10)) (x == 35) e in
    let b = or_parts (is_sign x || is_blank x || is_quote x) (x == 10) a.0 in
    let c = or_parts (is_sign x || is_blank x) (is_quote x) b.0 in
    let d = or_parts (is_sign x) (is_blank x) c.0 in
    let f = or_parts ((x == 91) || (x == 93) || (x == 123) || (x == 125) || (x == 44)) (x == 61) d.0 in
    let g = or_parts ((x == 91) || (x == 93) || (x == 123) || (x == 125)) (x == 44) f.0 in
    let h = or_parts ((x == 91) || (x == 93) || (x == 123)) (x == 125) g.0 in
    let k = or_parts ((x == 91) || (x == 93)) (x == 123) h.0 in
    let l = or_parts (x == 91) (x == 93) k.0 in
    λ j. depth_after (cond (l.0 j) sort.open_array (cond (l.1 j) sort.close_array (cond (k.1 j) sort.open_table
    (cond (h.1 j) sort.close_table (cond (g.1 j) sort.comma (cond (f.1 j) sort.equals (cond (b.1 j) sort.line_end
    (cond (a.1 j) sort.comment (cond (c.1 j) sort.string sort.word))))))))) n

-- ---- lexemes of a text

-- These lexemes of a text come first, and after them so many brackets are open; before that, no more than may be were open.
pub record IsShallow (text : List ℕ) (others : List SpacedToml) (depth left : ℕ) : Type 0 where
  pub before : List SpacedToml
  pub at : IsCut text before others left
  pub shallow : depth ≤ max_brackets
  pub same : (ss : List (List ℕ)) → nest_too_deep 0 (spellings before ++ ss) ≡ nest_too_deep depth ss

spellings-append : (ps qs : List SpacedToml) → spellings (ps ++ qs) ≡ spellings ps ++ spellings qs
spellings-append [] qs = refl
spellings-append (p ∷ ps) qs = ap (λ ss. p.lexeme ∷ ss) (spellings-append ps qs)

-- the lexemes of a text, and the end of it
spelled_all : (ss : List (List ℕ)) (bytes : List ℕ) → spellings (toml_spaced_as bytes ss) ≡ ss ++ [] ∷ []
spelled_all [] bytes = refl
spelled_all (s ∷ ss) bytes = ap (λ l. s ∷ l) (spelled_all ss (drop (length (blanks bytes) + length s) bytes))

or_same : (b p q : Bool) → (b ≡ false → p ≡ q) → (b || p) ≡ (b || q)
or_same true p q h = refl
or_same false p q h = h refl

-- the end opens no bracket
end_opens_none : (ss : List (List ℕ)) (n : ℕ) → n ≤ max_brackets → nest_too_deep n (ss ++ [] ∷ []) ≡ nest_too_deep n ss
end_opens_none [] n h = depth_step [] [] n n refl h
end_opens_none (s ∷ ss) n h =
    let d = depth_after (sort_of s) n in
    or_same (ltb max_brackets d) _ _ (λ e. end_opens_none ss d (ltb-false max_brackets d e))

module _ (text : List ℕ) (items : List SpacedToml) (depth left : ℕ) (h : IsShallow text items depth left) where
  -- so far brackets are not too deep
  pub not_yet : nest_too_deep 0 (spellings h.before) ≡ false
  not_yet = ap (λ ss. nest_too_deep 0 ss) (sym (append-nil (spellings h.before))) ∙ h.same []

  -- where no lexeme is left, none is too deep
  pub nowhere : items ≡ [] → is_too_deep text ≡ false
  nowhere is =
      sym (end_opens_none (toml_lexemes_of text) 0 (omega arith))
      ∙ ap (λ ss. nest_too_deep 0 ss) (sym (spelled_all (toml_lexemes_of text) text)
      ∙ ap spellings (h.at.cut ∙ ap (λ l. h.before ++ l) is ∙ append-nil h.before)) ∙ not_yet

  module _ (p : SpacedToml) (others : List SpacedToml) (is : items ≡ p ∷ others) where
    with_next : (ss : List (List ℕ)) → nest_too_deep 0 (spellings (h.before ++ p ∷ []) ++ ss) ≡ nest_too_deep depth (p.lexeme ∷ ss)
    with_next ss =
        ap (λ l. nest_too_deep 0 (l ++ ss)) (spellings-append h.before (p ∷ []))
        ∙ ap (λ l. nest_too_deep 0 l) (append_assoc (spellings h.before) (p.lexeme ∷ []) ss) ∙ h.same (p.lexeme ∷ ss)

    -- one lexeme more
    pub still : depth_after (sort_of p.lexeme) depth ≤ max_brackets
        → IsShallow text others (depth_after (sort_of p.lexeme) depth) (left - length p.gap - length p.lexeme)
    still shallow =
        record {
          before = h.before ++ p ∷ [];
          at = cut_after text h.before items left h.at p others is;
          shallow = shallow;
          same = λ ss. with_next ss ∙ depth_step p.lexeme ss depth _ refl shallow;
        }

    -- a lexeme that is too deep
    pub here : max_brackets < depth_after (sort_of p.lexeme) depth → nest_too_deep 0 (spellings (h.before ++ p ∷ [])) ≡ true
    here deep =
        ap (λ ss. nest_too_deep 0 ss) (sym (append-nil (spellings (h.before ++ p ∷ [])))) ∙ with_next []
        ∙ ap (λ b. b || false) (lt-ltb max_brackets _ deep)
