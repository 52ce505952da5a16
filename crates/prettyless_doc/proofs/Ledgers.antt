-- What a ledger that grew says of its parts.
use Rattle.std.proofs.Common.{◌≡◌, ℕ, List, [], ◌∷◌, ◌++◌, refl, ap, sym, ◌∙◌, arith, append_assoc}
use Rattle.std.specs.Coded.{Coded}
use base.Stored.{Gv, gnil, gnum, gcons}
use Rattle.prettyless_doc.specs.Ledger.{code_numbers, ledger}

-- the number that a code's list begins with
tag : List ℕ → ℕ
tag [] = 0
tag (n ∷ ns) = n

-- lists that begin with different numbers differ
tags_differ : {A : Type 0} (m n : ℕ) (ms ns : List ℕ) → ¬ (m ≡ n) → m ∷ ms ≡ n ∷ ns → A
unfolding tag
tags_differ m n ms ns differ e = absurd (differ (ap tag e))

-- where two codes begin two lists alike, the codes are alike, and so is what follows
same_first : (a b : Gv) (xs ys : List ℕ) → code_numbers a ++ xs ≡ code_numbers b ++ ys → (a ≡ b) × (xs ≡ ys)
same_first gnil gnil xs ys e = (refl, cc)
same_first (gnum m) (gnum n) xs ys e = (cc, cc)
same_first (gcons a a') (gcons b b') xs ys e =
    let rest : code_numbers a ++ (code_numbers a' ++ xs) ≡ code_numbers b ++ (code_numbers b' ++ ys) =
    cc (append_assoc (code_numbers a) (code_numbers a') xs, append_assoc (code_numbers b) (code_numbers b') ys) in
    let first = same_first a b (code_numbers a' ++ xs) (code_numbers b' ++ ys) rest in
    let second = same_first a' b' xs ys first.1 in
    ((λ i. gcons (first.0 i) (second.0 i)), second.1)
same_first gnil (gnum n) xs ys e = tags_differ 0 1 _ _ (omega arith) e
same_first gnil (gcons b b') xs ys e = tags_differ 0 2 _ _ (omega arith) e
same_first (gnum m) gnil xs ys e = tags_differ 1 0 _ _ (omega arith) e
same_first (gnum m) (gcons b b') xs ys e = tags_differ 1 2 _ _ (omega arith) e
same_first (gcons a a') gnil xs ys e = tags_differ 2 0 _ _ (omega arith) e
same_first (gcons a a') (gnum n) xs ys e = tags_differ 2 1 _ _ (omega arith) e

module _ {A : Type 0} (c : Coded A) where
  -- a ledger after more bytes
  pub ledger_and : (first : A) (given more : List ℕ) → ledger c first (given ++ more) ≡ ledger c first given ++ more
  unfolding ledger
  ledger_and first given more = sym (append_assoc (code_numbers (c.code first)) given more)

  -- a ledger that grew: what was first is the same, and what was given grew
  pub ledger_grew : (first first' : A) (given given' more : List ℕ)
      → ledger c first' given' ≡ ledger c first given ++ more
      → (first' ≡ first) × (given' ≡ given ++ more)
  unfolding ledger
  ledger_grew first first' given given' more e =
      let same = same_first (c.code first') (c.code first) given' (given ++ more)
      (e ∙ append_assoc (code_numbers (c.code first)) given more) in
      (c.inj first' first same.0, same.1)
