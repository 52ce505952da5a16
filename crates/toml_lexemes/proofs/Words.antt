-- Words that meet at a dot: they are one lexeme, which has the parts of both.
use Rattle.std.proofs.Common.{◌≡◌, ℕ, suc, Bool, true, false, cond, ◌==◌, ◌||◌, ◌-◌, List, [], ◌∷◌, ◌++◌, length, refl, sym, ap}
use Rattle.std.proofs.Common.{◌∙◌, subst, append_assoc, append-nil, arith}
use Rattle.std.specs.Prelude.{⊤, get_or}
use Rattle.toml_lexemes.specs.Bytes.{ends_word, head, ends_with_dot}
use Rattle.text_lexemes.specs.Languages.{between, within, begins, goes_on, stops, lengthened}
use Rattle.toml_lexemes.specs.Lexemes.{in_word, turn, begins_line_feed, cut_toml, toml}
use Rattle.toml_lexemes.specs.Statements.{a_word, role_of, ends_part, word_parts, Collected, whole_line, with_role, with_lexeme}
use Rattle.text_lexemes.proofs.Cuts.{IsSome, some_more, cut_begun}
use Rattle.toml_lexemes.proofs.Following.{first_word, word_blank}
use Rattle.toml_lexemes.proofs.Kept.{some_cut, shortened, cut_turned}

-- ---- the bytes of a word

-- no byte ends a word
abbrev pub AreLetters : List ℕ → Type 0
AreLetters [] = ⊤
AreLetters (x ∷ xs) = (ends_word x ≡ false) × AreLetters xs

goes_on_at : (x : ℕ) (s : List ℕ) → ends_word x ≡ false → turn in_word x (begins_line_feed s) ≡ goes_on in_word
goes_on_at x s e = ap (λ p. cond p stops (goes_on in_word)) e

-- what is left of a word, alone
module _ (x : ℕ) (s : List ℕ) (alone : cut_toml (within in_word) (x ∷ s) ≡ (x ∷ s) ∷ []) where
  is_letter : ends_word x ≡ false
  is_letter = by (ends_word x) refl
    where
      by : (p : Bool) → ends_word x ≡ p → p ≡ false
      by false e = refl
      by true e =
          let stop : turn in_word x (begins_line_feed s) ≡ stops = ap (λ p. cond p stops (goes_on in_word)) e in
          let clash : [] ∷ cut_toml between (x ∷ s) ≡ (x ∷ s) ∷ [] = sym (cut_turned in_word x s stops stop) ∙ alone in
          absurd cc

  tail_alone : cut_toml (within in_word) s ≡ s ∷ []
  tail_alone =
      shortened x s (cut_toml (within in_word) s) (some_cut in_word s)
      (sym (cut_turned in_word x s (goes_on in_word) (goes_on_at x s is_letter)) ∙ alone)

are_letters : (s : List ℕ) → cut_toml (within in_word) s ≡ s ∷ [] → AreLetters s
are_letters [] e = tt
are_letters (x ∷ s) e = (is_letter x s e, are_letters s (tail_alone x s e))

word_begun : (x : ℕ) (s : List ℕ) → ends_word x ≡ false → cut_toml between (x ∷ s) ≡ lengthened x (cut_toml (within in_word) s)
word_begun x s e = cut_begun toml x s (begins in_word) (word_blank x e) (first_word x e)

pub word_letters : (s : List ℕ) → cut_toml between s ≡ s ∷ [] → ends_word (head s) ≡ false → AreLetters s
word_letters [] alone e = absurd (cc)
word_letters (x ∷ s) alone e =
    (e, are_letters s (shortened x s (cut_toml (within in_word) s) (some_cut in_word s) (sym (word_begun x s e) ∙ alone)))

-- ---- one lexeme

-- bytes of a word in front of what goes on with it
letters_more : (s w t : List ℕ) (ts : List (List ℕ)) → AreLetters s → cut_toml (within in_word) w ≡ t ∷ ts
    → cut_toml (within in_word) (s ++ w) ≡ (s ++ t) ∷ ts
letters_more [] w t ts h e = e
letters_more (x ∷ s) w t ts (here, later) e =
    cut_turned in_word x (s ++ w) (goes_on in_word) (goes_on_at x (s ++ w) here)
    ∙ ap (lengthened x) (letters_more s w t ts later e)

-- the lexemes of bytes that begin with a word, alone and after a word
pub words_meet : (x : ℕ) (s : List ℕ) (y : ℕ) (ys : List ℕ) → AreLetters (x ∷ s) → ends_word y ≡ false
    → (t : List ℕ) × (ts : List (List ℕ)) × (cut_toml between (y ∷ ys) ≡ (y ∷ t) ∷ ts)
    × (cut_toml between (x ∷ (s ++ (y ∷ ys))) ≡ (x ∷ (s ++ (y ∷ t))) ∷ ts)
words_meet x s y ys (here, later) e = by (cut_toml (within in_word) ys) refl
  where
    by : (ss : List (List ℕ)) → cut_toml (within in_word) ys ≡ ss
        → (t : List ℕ) × (ts : List (List ℕ)) × (cut_toml between (y ∷ ys) ≡ (y ∷ t) ∷ ts)
        × (cut_toml between (x ∷ (s ++ (y ∷ ys))) ≡ (x ∷ (s ++ (y ∷ t))) ∷ ts)
    by [] is = absurd (subst IsSome is (some_cut in_word ys))
    by (t ∷ ts) is =
        let within_word : cut_toml (within in_word) (y ∷ ys) ≡ (y ∷ t) ∷ ts =
        cut_turned in_word y ys (goes_on in_word) (goes_on_at y ys e) ∙ ap (lengthened y) is in (
          t,
          ts,
          word_begun y ys e ∙ ap (lengthened y) is,
          word_begun x (s ++ (y ∷ ys)) here ∙ ap (lengthened x) (letters_more s (y ∷ ys) (y ∷ t) ts later within_word),
        )

-- ---- parts

some_parts : (x : ℕ) (s : List ℕ) → IsSome (word_parts (x ∷ s))
some_parts x s = by ((x == 46) || ends_part s)
  where
    by : (b : Bool) → IsSome (cond b ((x ∷ []) ∷ word_parts s) (lengthened x (word_parts s)))
    by true = tt
    by false = some_more x (word_parts s)

lengthened_both : (x : ℕ) (ss ts : List (List ℕ)) → IsSome ss → lengthened x (ss ++ ts) ≡ lengthened x ss ++ ts
lengthened_both x [] ts h = absurd h
lengthened_both x (s ∷ ss) ts h = refl

same_end : (x y : ℕ) (ys : List ℕ) → ends_with_dot (x ∷ (y ∷ ys)) ≡ ends_with_dot (y ∷ ys)
same_end x y ys =
    let longer : suc (suc (length ys)) - 1 ≡ suc (length ys) = omega arith in
    let shorter : suc (length ys) - 1 ≡ length ys = omega arith in
    ap (λ (k : ℕ). get_or (x ∷ (y ∷ ys)) k 32 == 46) longer ∙ sym (ap (λ (k : ℕ). get_or (y ∷ ys) k 32 == 46) shorter)

-- bytes that meet at a dot have the parts of both
pub parts_both : (x : ℕ) (s t : List ℕ) → (ends_with_dot (x ∷ s) || ends_part t) ≡ true
    → word_parts (x ∷ (s ++ t)) ≡ word_parts (x ∷ s) ++ word_parts t
parts_both x [] t e =
    ap (λ b. cond b ((x ∷ []) ∷ word_parts t) (lengthened x (word_parts t))) e
    ∙ sym (ap (λ (l : List (List ℕ)). l ++ word_parts t) (one ((x == 46) || true)))
  where
    one : (b : Bool) → cond b ((x ∷ []) ∷ []) (lengthened x []) ≡ (x ∷ []) ∷ []
    one true = refl
    one false = refl
parts_both x (y ∷ ys) t e =
    by ((x == 46) || (y == 46)) (parts_both y ys t (ap (λ b. b || ends_part t) (sym (same_end x y ys)) ∙ e))
  where
    by : (b : Bool) → word_parts (y ∷ (ys ++ t)) ≡ word_parts (y ∷ ys) ++ word_parts t
        → cond b ((x ∷ []) ∷ word_parts (y ∷ (ys ++ t))) (lengthened x (word_parts (y ∷ (ys ++ t))))
        ≡ cond b ((x ∷ []) ∷ word_parts (y ∷ ys)) (lengthened x (word_parts (y ∷ ys))) ++ word_parts t
    by true more = ap (λ (l : List (List ℕ)). (x ∷ []) ∷ l) more
    by false more =
        ap (lengthened x) more ∙ lengthened_both x (word_parts (y ∷ ys)) (word_parts t) (some_parts y ys)

-- and are read as both
pub both_read : (c : Collected) (x : ℕ) (s : List ℕ) (y : ℕ) (t : List ℕ) → role_of x ≡ a_word → role_of y ≡ a_word
    → (ends_with_dot (x ∷ s) || (y == 46)) ≡ true → with_lexeme c (x ∷ (s ++ (y ∷ t))) ≡ with_lexeme (with_lexeme c (x ∷ s)) (y ∷ t)
both_read c x s y t is next e =
    let front = whole_line c ++ word_parts (x ∷ s) in
    let line : whole_line c ++ word_parts (x ∷ (s ++ (y ∷ t))) ≡ (front ++ []) ++ word_parts (y ∷ t) =
    ap (λ (l : List (List ℕ)). whole_line c ++ l) (parts_both x s (y ∷ t) e)
    ∙ sym (append_assoc (whole_line c) (word_parts (x ∷ s)) (word_parts (y ∷ t)))
    ∙ ap (λ (l : List (List ℕ)). l ++ word_parts (y ∷ t)) (sym (append-nil front)) in
    ap (λ r. with_role r c (x ∷ (s ++ (y ∷ t)))) is
    ∙ ap (λ (l : List (List ℕ)). record c { comma = false; comments = []; line = l }) line
    ∙ sym (ap (λ d. with_lexeme d (y ∷ t)) (ap (λ r. with_role r c (x ∷ s)) is)
    ∙ ap (λ r. with_role r (record c { comma = false; comments = []; line = front }) (y ∷ t)) next)
