-- The cut of a text, between two places of it.
use Rattle.std.proofs.Common.{◌≡◌, ℕ, ◌+◌, ◌-◌, ◌<◌, ◌≤◌, List, [], ◌∷◌, ◌++◌, length, take, drop, get_or, sym, ap, ◌∙◌, arith}
use Rattle.std.proofs.Common.{append_assoc, append-nil, length-drop}
use Rattle.std.proofs.lemmas.List.{take_more, drop_more, drop_all, get_or-drop}
use Rattle.text_lexemes.specs.Languages.{Language, between, within, Turn, goes_on, ends, stops, lengthened, cut_turn, cut}
use Rattle.text_lexemes.proofs.Cuts.{cut_nil, cut_inside_nil, cut_turned}

module _ (d : List ℕ) (from place : ℕ) (le : from ≤ place) where
  -- the bytes between the two places
  abbrev pub part : List ℕ
  part = take (place - from) (drop from d)

  -- one byte more
  pub part_more : place < length d → take (place + 1 - from) (drop from d) ≡ part ++ get_or d place 0 ∷ []
  part_more lt =
      let k : place + 1 - from ≡ place - from + 1 = omega arith in
      let at : from + (place - from) ≡ place = omega arith in
      ap (λ n. take n (drop from d)) k ∙ take_more (drop from d) (place - from) 0 (omega (arith, length-drop from d))
      ∙ ap (λ x. part ++ x ∷ []) (get_or-drop from d (place - from) 0 ∙ ap (λ n. get_or d n 0) at)

module _ {Inner : Type 0} (L : Language Inner) (i : Inner) (d : List ℕ) (from : ℕ) where
  -- what the cut finds from a place on, in a mode, is the rest of the lexeme that goes on at `from` in the mode i, and what is after it
  abbrev pub GoesOn : Inner → ℕ → Type 0
  GoesOn n place =
      (s : List ℕ) (ss : List (List ℕ)) → cut L (within n) (drop place d) ≡ s ∷ ss
      → cut L (within i) (drop from d) ≡ (take (place - from) (drop from d) ++ s) ∷ ss

  pub GoesOn-start : GoesOn i from
  GoesOn-start s ss e = let k : 0 ≡ from - from = omega arith in e ∙ ap (λ n. (take n (drop from d) ++ s) ∷ ss) k

module _ {Inner : Type 0} (L : Language Inner) (i : Inner) (d : List ℕ) (from place : ℕ) (le : from ≤ place) where
  -- the turn that the byte at the place takes
  abbrev pub turn_here : Inner → Turn Inner
  turn_here n = L.turn n (get_or d place 0) (drop (place + 1) d)

  cut_here : (n : Inner) (t : Turn Inner) → place < length d → turn_here n ≡ t
      → cut L (within n) (drop place d)
      ≡ cut_turn t (cut L between (get_or d place 0 ∷ drop (place + 1) d)) (get_or d place 0) (λ m. cut L m (drop (place + 1) d))
  cut_here n t lt e = ap (cut L (within n)) (drop_more d place 0 lt) ∙ cut_turned L n (get_or d place 0) (drop (place + 1) d) t e

  pub goes_more : (n m : Inner) → place < length d → turn_here n ≡ goes_on m → GoesOn L i d from n place → GoesOn L i d from m (place + 1)
  goes_more n m lt e h s ss found =
      let x = get_or d place 0 in
      h (x ∷ s) ss (cut_here n (goes_on m) lt e ∙ ap (lengthened x) found)
      ∙ ap (λ l. l ∷ ss) (sym (append_assoc (part d from place le) (x ∷ []) s) ∙ ap (λ l. l ++ s) (sym (part_more d from place le lt)))

  pub ends_here : (n : Inner) → place < length d → turn_here n ≡ ends → GoesOn L i d from n place
      → cut L (within i) (drop from d) ≡ take (place + 1 - from) (drop from d) ∷ cut L between (drop (place + 1) d)
  ends_here n lt e h =
      h (get_or d place 0 ∷ []) (cut L between (drop (place + 1) d)) (cut_here n ends lt e)
      ∙ ap (λ l. l ∷ cut L between (drop (place + 1) d)) (sym (part_more d from place le lt))

  pub stops_here : (n : Inner) → place < length d → turn_here n ≡ stops → GoesOn L i d from n place
      → cut L (within i) (drop from d) ≡ part d from place le ∷ cut L between (drop place d)
  stops_here n lt e h =
      h [] (cut L between (drop place d)) (cut_here n stops lt e ∙ ap (λ l. [] ∷ cut L between l) (sym (drop_more d place 0 lt)))
      ∙ ap (λ l. l ∷ cut L between (drop place d)) (append-nil (part d from place le))

  pub never_ends : (n : Inner) → length d ≤ place → GoesOn L i d from n place
      → cut L (within i) (drop from d) ≡ part d from place le ∷ cut L between (drop place d)
  never_ends n past h =
      let none = drop_all place d past in
      h [] (cut L between (drop place d))
      (ap (cut L (within n)) none ∙ cut_inside_nil L n ∙ ap (λ ss. [] ∷ ss) (sym (cut_nil L) ∙ ap (cut L between) (sym none)))
      ∙ ap (λ l. l ∷ cut L between (drop place d)) (append-nil (part d from place le))
