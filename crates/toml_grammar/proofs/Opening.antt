-- Which brackets are open where a text has a fault.
use Rattle.std.proofs.Common.{◌≡◌, ◌≢◌, ◌≤◌, ◌<◌, ℕ, ◌+◌, ◌-◌, List, [], ◌∷◌, ◌++◌, length, drop, refl, sym, ap, subst, ◌∙◌, arith}
use Rattle.std.proofs.Common.{All, append-nil, append_assoc, length-append}
use Rattle.std.proofs.lemmas.List.{append_cancel_left}
use Rattle.std.proofs.lemmas.List.Elements.{All-head, All-tail}
use Rattle.toml_lexemes.specs.Lexemes.{toml_lexemes_of}
use Rattle.toml_lexemes.specs.SpacedLexemes.{SpacedToml, blanks, toml_put_together, toml_spaced_as}
use Rattle.toml_lexemes.proofs.Gaps.{lexemes_some}
use Rattle.toml_grammar.specs.Faults.{IsFault}
use Rattle.toml_grammar.specs.Opened.{opened_after, opened_by, opened_in}
use Rattle.toml_grammar.specs.Sorts.{sort_of}
use Rattle.toml_grammar.specs.declared.fault.Fault.{Fault}
use Rattle.toml_grammar.specs.declared.opened.Opened.{Opened}
use Rattle.toml_grammar.proofs.Cuts.{IsCut, cut_after, joined-append}

-- ---- one lexeme more

opened-append : (ps : List SpacedToml) (q : SpacedToml) (at : ℕ) (os : List Opened) → opened_after at os (ps ++ q ∷ [])
    ≡ opened_by (sort_of q.lexeme) (at + length (toml_put_together ps) + length q.gap) (opened_after at os ps)
opened-append [] q at os =
    let same : at + length q.gap ≡ at + 0 + length q.gap = omega arith in
    ap (λ n. opened_by (sort_of q.lexeme) n os) same
opened-append (p ∷ ps) q at os =
    let next = at + (length p.gap + length p.lexeme) in
    let same : next + length (toml_put_together ps) + length q.gap
    ≡ at + length (p.gap ++ (p.lexeme ++ toml_put_together ps)) + length q.gap =
    omega (arith, length-append p.gap (p.lexeme ++ toml_put_together ps), length-append p.lexeme (toml_put_together ps)) in
    let inner = opened_by (sort_of p.lexeme) (at + length p.gap) os in
    opened-append ps q next inner ∙ ap (λ n. opened_by (sort_of q.lexeme) n (opened_after next inner ps)) same

-- ---- no lexeme but the end is empty

abbrev first_lexeme : List SpacedToml → List ℕ
first_lexeme [] = []
first_lexeme (p ∷ ps) = p.lexeme

abbrev all_but_first : List SpacedToml → List SpacedToml
all_but_first [] = []
all_but_first (p ∷ ps) = ps

one_is_last : (x p q : SpacedToml) (b rest : List SpacedToml) → x ∷ [] ≡ b ++ p ∷ q ∷ rest → ⊥
one_is_last x p q [] rest e = let tail : [] ≡ q ∷ rest = cc in cc
one_is_last x p q (y ∷ []) rest e = let tail : [] ≡ p ∷ q ∷ rest = cc in cc
one_is_last x p q (y ∷ (z ∷ b)) rest e = let tail : [] ≡ z ∷ (b ++ p ∷ q ∷ rest) = cc in cc

some_before : (ss : List (List ℕ)) (bytes : List ℕ) (b : List SpacedToml) (p q : SpacedToml) (rest : List SpacedToml)
    → All (λ s. s ≢ []) ss → toml_spaced_as bytes ss ≡ b ++ p ∷ q ∷ rest → p.lexeme ≢ []
some_before [] bytes b p q rest each e = absurd (one_is_last _ p q b rest e)
some_before (s ∷ ss) bytes [] p q rest each e =
    subst (λ (l : List ℕ). l ≢ []) (ap first_lexeme e) (All-head (λ s. s ≢ []) s ss each)
some_before (s ∷ ss) bytes (x ∷ b) p q rest each e =
    let others = ap all_but_first e in
    some_before ss (drop (length (blanks bytes) + length s) bytes) b p q rest (All-tail (λ s. s ≢ []) s ss each) others

some_length : (s : List ℕ) → s ≢ [] → 0 < length s
some_length [] h = absurd (h refl)
some_length (x ∷ xs) h = omega arith

-- ---- lexemes before a fault

-- the lexemes before the fault are these, and then more or none
abbrev pub IsUpTo : List ℕ → Fault → List SpacedToml → Type 0
IsUpTo text fault before = (is : IsFault text fault) → (more : List SpacedToml) × (is.before ≡ before ++ more)

-- lexemes before the fault have been read, after which these brackets are open; the others are left, with so many bytes
pub record IsOpened (text : List ℕ) (fault : Fault) (others : List SpacedToml) (os : List Opened) (left : ℕ) : Type 0 where
  pub before : List SpacedToml
  pub at : IsCut text before others left
  pub same : os ≡ opened_in before
  pub up_to : IsUpTo text fault before

module _ (text : List ℕ) (fault : Fault) (items : List SpacedToml) (os : List Opened) (left : ℕ)
    (h : IsOpened text fault items os left) (is : IsFault text fault) where
  -- what is left is the rest of the lexemes before the fault, and then that of the fault
  rest_is : items ≡ (h.up_to is).0 ++ is.found ∷ is.after
  rest_is =
      append_cancel_left h.before items ((h.up_to is).0 ++ is.found ∷ is.after)
      (sym h.at.cut ∙ is.cut ∙ ap (λ b. b ++ is.found ∷ is.after) (h.up_to is).1
      ∙ append_assoc h.before (h.up_to is).0 (is.found ∷ is.after))

  -- the lexemes do not end before it
  pub goes_on : items ≡ [] → ⊥
  goes_on none = some ((h.up_to is).0) (sym none ∙ rest_is)
    where
      some : (m : List SpacedToml) → [] ≡ m ++ is.found ∷ is.after → ⊥
      some [] e = cc
      some (x ∷ m) e = cc

  module _ (p : SpacedToml) (others : List SpacedToml) (next : items ≡ p ∷ others) where
    -- where more lexemes are before the fault, the next one is, and it ends before that
    here : (m : List SpacedToml) → is.before ≡ h.before ++ m → items ≡ m ++ is.found ∷ is.after
        → (fault.offset ≤ length (toml_put_together h.before) + length p.gap → m ≡ [])
        × (length (toml_put_together h.before) + length p.gap < fault.offset
        → (more : List SpacedToml) × (is.before ≡ (h.before ++ p ∷ []) ++ more))
    here [] e k = (
      λ stops. refl,
      λ later.
          let same : p ≡ is.found = cc in
          let before : is.before ≡ h.before = e ∙ append-nil h.before in
          let bytes = ap (λ b. length (toml_put_together b)) before in
          let gaps = ap (λ (q : SpacedToml). length q.gap) same in
          absurd (omega (arith, later, is.place, bytes, gaps)),
    )
    here (q ∷ m) e k = (
      λ stops.
          let same : p ≡ q = cc in
          let tail = following m in
          let bytes = ap (λ b. length (toml_put_together b)) e ∙ ap length (joined-append h.before (q ∷ m))
          ∙ length-append (toml_put_together h.before) (q.gap ++ (q.lexeme ++ toml_put_together m)) in
          let gaps = ap (λ (q : SpacedToml). length q.gap) same in
          absurd (omega (
            arith,
            stops,
            is.place,
            bytes,
            gaps,
            tail (k),
            length-append q.gap (q.lexeme ++ toml_put_together m),
            length-append q.lexeme (toml_put_together m),
          )),
      λ later.
          let same : p ≡ q = cc in
          (m, e ∙ ap (λ (q : SpacedToml). h.before ++ q ∷ m) (sym same) ∙ sym (append_assoc h.before (p ∷ []) m)),
    )
      where
        following : (m : List SpacedToml) → items ≡ (q ∷ m) ++ is.found ∷ is.after → 0 < length q.lexeme
        following [] k =
            some_length q.lexeme (some_before (toml_lexemes_of text) text h.before q is.found is.after (lexemes_some text)
            (h.at.cut ∙ ap (λ l. h.before ++ l) k))
        following (r ∷ m) k =
            some_length q.lexeme (some_before (toml_lexemes_of text) text h.before q r (m ++ is.found ∷ is.after) (lexemes_some text)
            (h.at.cut ∙ ap (λ l. h.before ++ l) k))

    -- the lexeme of the fault is the next one
    pub stops_here : fault.offset ≤ length (toml_put_together h.before) + length p.gap → os ≡ opened_in is.before
    stops_here stops =
        let up = h.up_to is in
        let none = (here up.0 up.1 rest_is).0 stops in
        h.same ∙ ap opened_in (sym (append-nil h.before) ∙ ap (λ m. h.before ++ m) (sym none) ∙ sym up.1)

    -- the next one is before it
    pub one_more_before : length (toml_put_together h.before) + length p.gap < fault.offset
        → (more : List SpacedToml) × (is.before ≡ (h.before ++ p ∷ []) ++ more)
    one_more_before later = let up = h.up_to is in (here up.0 up.1 rest_is).1 later

-- one lexeme more has been read
pub opened_more : (text : List ℕ) (fault : Fault) (items : List SpacedToml) (os : List Opened) (left : ℕ)
    (h : IsOpened text fault items os left) (p : SpacedToml) (others : List SpacedToml) → items ≡ p ∷ others → (next : List Opened) (at : ℕ)
    → at ≡ length (toml_put_together h.before) + length p.gap → at < fault.offset → next ≡ opened_by (sort_of p.lexeme) at os
    → IsOpened text fault others next (left - length p.gap - length p.lexeme)
opened_more text fault items os left h p others is next at place later made =
    let whole : at ≡ 0 + length (toml_put_together h.before) + length p.gap = omega (arith, place) in
    record {
      before = h.before ++ p ∷ [];
      at = cut_after text h.before items left h.at p others is;
      same = made ∙ (λ i. opened_by (sort_of p.lexeme) (whole i) (h.same i)) ∙ sym (opened-append h.before p 0 []);
      up_to = λ f. one_more_before text fault items os left h f p others is (omega (arith, place, later));
    }
