-- How readers go on: what is read again and again, step by step.
use Rattle.std.proofs.Common.{◌≡◌, refl, sym, ◌∙◌, ap, ℕ, zero, suc, ◌≤◌, Bool, true, false, List, [], ◌∷◌, length, inl, inr, ◌⊎◌, arith}
use Rattle.std.proofs.lemmas.Bool.{cases_Bool}
use Rattle.json_formatter.specs.Documents.{Reader, read, then_read, onto, stops, many, until}

-- a reader takes a lexeme where one is left
abbrev pub Shrinks : {A : Type 0} → Reader A → Type 0
Shrinks reader = (s : List ℕ) (ss : List (List ℕ)) → length (reader (s ∷ ss)).left ≤ length ss

-- nothing more is read
pub many_stops : {A : Type 0} (ends : List ℕ → Bool) (reader : Reader A) (n : ℕ) (ss : List (List ℕ)) → stops ends ss ≡ true →
    many ends reader n ss ≡ read [] ss
unfolding many
many_stops ends reader zero ss e = refl
many_stops ends reader (suc n) ss e = rw e refl

-- one more is read
pub many_more : {A : Type 0} (ends : List ℕ → Bool) (reader : Reader A) (n : ℕ) (ss : List (List ℕ)) → stops ends ss ≡ false →
    many ends reader (suc n) ss ≡ then_read (reader ss) (λ x left. onto x (many ends reader n left))
unfolding many
many_more ends reader n ss e = rw e refl

-- so many times are enough after one more, if they are for what it leaves
one_enough : {A : Type 0} (ends : List ℕ → Bool) (reader : Reader A) (n m : ℕ) (s : List ℕ) (ss : List (List ℕ)) →
    (ends s ≡ true) ⊎ (ends s ≡ false) → many ends reader n (reader (s ∷ ss)).left ≡ many ends reader m (reader (s ∷ ss)).left
    → many ends reader (suc n) (s ∷ ss) ≡ many ends reader (suc m) (s ∷ ss)
one_enough ends reader n m s ss (inl e) h = many_stops ends reader (suc n) (s ∷ ss) e ∙ sym (many_stops ends reader (suc m) (s ∷ ss) e)
one_enough ends reader n m s ss (inr e) h = many_more ends reader n (s ∷ ss) e ∙ ap (onto (reader (s ∷ ss)).found) h
    ∙ sym (many_more ends reader m (s ∷ ss) e)

-- so many times are enough
pub many_enough : {A : Type 0} (ends : List ℕ → Bool) (reader : Reader A) → Shrinks reader → (n m : ℕ) (ss : List (List ℕ)) →
    length ss ≤ n → length ss ≤ m → many ends reader n ss ≡ many ends reader m ss
many_enough ends reader shrinks n m [] l k = many_stops ends reader n [] refl ∙ sym (many_stops ends reader m [] refl)
many_enough ends reader shrinks zero m (s ∷ ss) l k = absurd (omega arith)
many_enough ends reader shrinks (suc n) zero (s ∷ ss) l k = absurd (omega arith)
many_enough ends reader shrinks (suc n) (suc m) (s ∷ ss) l k =
    let next = reader (s ∷ ss) in
    let h = shrinks s ss in
    one_enough ends reader n m s ss (cases_Bool (ends s))
    (many_enough ends reader shrinks n m next.left (omega (arith, h)) (omega (arith, h)))

-- until a lexeme ends it: one more is read
pub until_more : {A : Type 0} (ends : List ℕ → Bool) (reader : Reader A) → Shrinks reader → (s : List ℕ) (ss : List (List ℕ)) →
    ends s ≡ false → until ends reader (s ∷ ss) ≡ onto (reader (s ∷ ss)).found (until ends reader (reader (s ∷ ss)).left)
until_more ends reader shrinks s ss e =
    let next = reader (s ∷ ss) in
    let h = shrinks s ss in
    many_enough ends reader shrinks (length (s ∷ ss)) (suc (length ss)) (s ∷ ss) (omega arith) (omega arith)
    ∙ many_more ends reader (length ss) (s ∷ ss) e
    ∙ ap (onto next.found) (many_enough ends reader shrinks (length ss) (length next.left) next.left (omega (arith, h)) (omega arith))

-- many take no lexeme back, if those after one more don't
one_shrinks : {A : Type 0} (ends : List ℕ → Bool) (reader : Reader A) → Shrinks reader → (n : ℕ) (s : List ℕ) (ss : List (List ℕ)) →
    (ends s ≡ true) ⊎ (ends s ≡ false)
    → length (many ends reader n (reader (s ∷ ss)).left).left ≤ length (reader (s ∷ ss)).left →
    length (many ends reader (suc n) (s ∷ ss)).left ≤ length (s ∷ ss)
one_shrinks ends reader shrinks n s ss (inl e) h = rw (many_stops ends reader (suc n) (s ∷ ss) e) (omega arith)
one_shrinks ends reader shrinks n s ss (inr e) h = let k = shrinks s ss in rw (many_more ends reader n (s ∷ ss) e) (omega (arith, h, k))

pub many_shrinks : {A : Type 0} (ends : List ℕ → Bool) (reader : Reader A) → Shrinks reader → (n : ℕ) (ss : List (List ℕ)) →
    length (many ends reader n ss).left ≤ length ss
unfolding many
many_shrinks ends reader shrinks zero ss = omega arith
many_shrinks ends reader shrinks (suc n) [] = omega arith
many_shrinks ends reader shrinks (suc n) (s ∷ ss) =
    one_shrinks ends reader shrinks n s ss (cases_Bool (ends s)) (many_shrinks ends reader shrinks n (reader (s ∷ ss)).left)
