-- The cut of a text, between two places of it.
use Rattle.std.proofs.Common.{◌≡◌, ℕ, zero, suc, ◌+◌, ◌-◌, ◌<◌, ◌≤◌, ◌≢◌, true, false, List, [], ◌∷◌, ◌++◌, length, take, drop, get_or, inl, inr}
use Rattle.std.proofs.Common.{◌⊎◌, sym, ap, ap₂, ◌∙◌, subst, arith, append_assoc, append-nil, length-drop, take-append-drop, drop-drop}
use Rattle.std.proofs.lemmas.Bool.{or_cases, cases_lt, ne_eqb}
use Rattle.std.proofs.lemmas.List.{take_more, drop_more, drop_all, take_all, get_or-drop}
use Rattle.json.specs.Word.{is_operator, is_space, ends_word}
use Rattle.json.specs.Lex.{Mode, between, in_word, in_string, in_escape}
use Rattle.text_lexemes.specs.Languages.{lengthened}
use Rattle.json_lexemes.specs.Lexemes.{cut}
use Rattle.json_lexemes.specs.Words.{StringGoesOn}
use Rattle.json_lexemes.proofs.Classes.{each_space, each_operator}
use Rattle.json_lexemes.proofs.Ended.{ends}
use Rattle.json_lexemes.proofs.Words.{IsRun, cut-run}
use Rattle.json_lexemes.proofs.Strings.{cut-inside}

-- what ends a word is ASCII
pub ends_ascii : (x : ℕ) → ends x ≡ true → x < 128
ends_ascii x h = go (or_cases _ _ h)
  where
    go : (is_operator x ≡ true) ⊎ (is_space x ≡ true) → x < 128
    go (inl e) = each_operator (λ y. y < 128) (omega arith) (omega arith) (omega arith) (omega arith) (omega arith) (omega arith) x e
    go (inr e) = each_space (λ y. y < 128) (omega arith) (omega arith) (omega arith) (omega arith) x e

pub IsRun-push : (w : List ℕ) (x : ℕ) → IsRun w → ends x ≡ false → IsRun (w ++ x ∷ [])
IsRun-push [] x h e = (e, tt)
IsRun-push (y ∷ w) x h e = (h.0, IsRun-push w x h.1 e)

module _ (d : List ℕ) (from place : ℕ) (le : from ≤ place) where
  -- the bytes between the two places
  abbrev part : List ℕ
  part = take (place - from) (drop from d)

  rejoined : drop from d ≡ part ++ drop place d
  rejoined =
      let e : from + (place - from) ≡ place = omega arith in
      sym (ap (λ l. part ++ l) (ap (λ k. drop k d) (sym e) ∙ sym (drop-drop (place - from) from d))
      ∙ take-append-drop (place - from) (drop from d))

  -- one byte more
  part_more : place < length d → take (place + 1 - from) (drop from d) ≡ part ++ get_or d place 0 ∷ []
  part_more lt =
      let k : place + 1 - from ≡ place - from + 1 = omega arith in
      let at : from + (place - from) ≡ place = omega arith in
      ap (λ n. take n (drop from d)) k ∙ take_more (drop from d) (place - from) 0 (omega (arith, length-drop from d))
      ∙ ap (λ x. part ++ x ∷ []) (get_or-drop from d (place - from) 0 ∙ ap (λ n. get_or d n 0) at)

  -- ---- a word

  pub run_more : place < length d → IsRun part → ends (get_or d place 0) ≡ false → IsRun (take (place + 1 - from) (drop from d))
  run_more lt run e = subst IsRun (sym (part_more lt)) (IsRun-push part (get_or d place 0) run e)

  word_to : IsRun part → ends_word (drop place d) ≡ true → cut in_word (drop from d) ≡ part ∷ cut between (drop place d)
  word_to run ended = ap (cut in_word) rejoined ∙ cut-run part (drop place d) run ended

  pub word_to_byte : place < length d → IsRun part → ends (get_or d place 0) ≡ true →
      cut in_word (drop from d) ≡ part ∷ cut between (drop place d)
  word_to_byte lt run e = word_to run (ap ends_word (drop_more d place 0 lt) ∙ e)

  pub word_to_end : length d ≤ place → IsRun part → cut in_word (drop from d) ≡ part ∷ cut between (drop place d)
  word_to_end past run = word_to run (ap ends_word (drop_all place d past))

-- ---- a string

-- from a place on, what the cut finds in a mode is the rest of the string that goes on at `from`, and what is after it
abbrev GoesOn : Mode → List ℕ → ℕ → ℕ → Type 0
GoesOn m d from place =
    (s : List ℕ) (ss : List (List ℕ)) → cut m (drop place d) ≡ s ∷ ss →
    cut in_string (drop from d) ≡ (take (place - from) (drop from d) ++ s) ∷ ss

-- within a string
abbrev pub IsInside : List ℕ → ℕ → ℕ → Type 0
IsInside d from place = GoesOn in_string d from place

module _ (d : List ℕ) (from place : ℕ) (le : from ≤ place) where
  one_byte : (m n : Mode) → place < length d → cut m (drop place d) ≡ lengthened (get_or d place 0) (cut n (drop (place + 1) d)) →
      GoesOn m d from place → GoesOn n d from (place + 1)
  one_byte m n lt step h s ss e =
      let x = get_or d place 0 in
      h (x ∷ s) ss (step ∙ ap (lengthened x) e)
      ∙ ap (λ l. l ∷ ss) (sym (append_assoc (part d from place le) (x ∷ []) s) ∙ ap (λ l. l ++ s) (sym (part_more d from place le lt)))

  pub inside_more : place < length d → get_or d place 0 ≢ 34 → get_or d place 0 ≢ 92 → IsInside d from place → IsInside d from (place + 1)
  inside_more lt q b h =
      let x = get_or d place 0 in
      one_byte in_string in_string lt (ap (cut in_string) (drop_more d place 0 lt)
      ∙ cut-inside x (drop (place + 1) d) (ne_eqb x 34 q) (ne_eqb x 92 b)) h

  escape_more : place < length d → get_or d place 0 ≡ 92 → IsInside d from place → GoesOn in_escape d from (place + 1)
  unfolding cut
  escape_more lt b h =
      one_byte in_string in_escape lt
      (ap (cut in_string) (drop_more d place 0 lt ∙ ap (λ x. x ∷ drop (place + 1) d) b)
      ∙ ap (λ x. lengthened x (cut in_escape (drop (place + 1) d))) (sym b)) h

  escaped_more : place < length d → GoesOn in_escape d from place → IsInside d from (place + 1)
  unfolding cut
  escaped_more lt h = one_byte in_escape in_string lt (ap (cut in_escape) (drop_more d place 0 lt)) h

  escaped_end : length d ≤ place → GoesOn in_escape d from place → IsInside d from (place + 1)
  unfolding cut
  escaped_end past h s ss e =
      let all = λ (k : ℕ) (l : length d ≤ k). take_all (k - from) (drop from d) (omega (arith, length-drop from d)) in
      h s ss (ap (cut in_escape) (drop_all place d past) ∙ sym (ap (cut in_string) (drop_all (place + 1) d (omega arith))) ∙ e)
      ∙ ap (λ l. (l ++ s) ∷ ss) (all place past ∙ sym (all (place + 1) (omega arith)))

  pub closes_here : place < length d → get_or d place 0 ≡ 34 → IsInside d from place →
      cut in_string (drop from d) ≡ take (place + 1 - from) (drop from d) ∷ cut between (drop (place + 1) d)
  unfolding cut
  closes_here lt q h =
      let x = get_or d place 0 in
      h (x ∷ []) (cut between (drop (place + 1) d)) (ap (cut in_string) (drop_more d place 0 lt ∙ ap (λ y. y ∷ drop (place + 1) d) q)
      ∙ ap (λ y. (y ∷ []) ∷ cut between (drop (place + 1) d)) (sym q))
      ∙ ap (λ l. l ∷ cut between (drop (place + 1) d)) (sym (part_more d from place le lt))

  pub never_closes : from ≤ length d → length d ≤ place → IsInside d from place →
      cut in_string (drop from d) ≡ take (length d - from) (drop from d) ∷ cut between (drop (length d) d)
  unfolding cut
  never_closes within past h =
      let all = λ (k : ℕ) (l : length d ≤ k). take_all (k - from) (drop from d) (omega (arith, length-drop from d)) in
      h [] [] (ap (cut in_string) (drop_all place d past))
      ∙ ap₂ (λ l t. l ∷ cut between t) (append-nil (take (place - from) (drop from d)) ∙ all place past
      ∙ sym (all (length d) (omega arith))) (sym (drop_all (length d) d (omega arith)))

pub inside_escape : (d : List ℕ) (from place : ℕ) → from ≤ place → place < length d → get_or d place 0 ≡ 92 → IsInside d from place →
    IsInside d from (place + 2)
inside_escape d from place le lt b h = subst (IsInside d from) two (go (cases_lt (place + 1) (length d)))
  where
    two : place + 1 + 1 ≡ place + 2
    two = omega arith

    go : (place + 1 < length d) ⊎ (length d ≤ place + 1) → IsInside d from (place + 1 + 1)
    go (inl more) = escaped_more d from (place + 1) (omega arith) more (escape_more d from place le lt b h)
    go (inr past) = escaped_end d from (place + 1) (omega arith) past (escape_more d from place le lt b h)

-- so many bytes more
pub inside_far : (d : List ℕ) (from place k : ℕ) → from ≤ place → place + k ≤ length d → StringGoesOn d place (place + k) →
    IsInside d from place → IsInside d from (place + k)
inside_far d from place zero le within on h = let same : place ≡ place + 0 = omega arith in subst (IsInside d from) same h
inside_far d from place (suc k) le within on h =
    let last = on (place + k) (omega arith) (omega arith) in
    let next : place + k + 1 ≡ place + suc k = omega arith in
    subst (IsInside d from) next
    (inside_more d from (place + k) (omega arith) (omega arith) last.0 last.1
    (inside_far d from place k le (omega arith) (λ i a b. on i a (omega arith)) h))
