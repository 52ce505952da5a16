-- What a byte's class says of the byte.
use Rattle.std.proofs.Common.{◌≡◌, ℕ, Bool, true, false, cond, ◌==◌, ◌||◌, ◌⊎◌, inl, inr, refl, sym, subst}
use Rattle.std.proofs.lemmas.Bool.{eqb-true, or_cases}
use Rattle.json.specs.Word.{is_operator, is_space}
use Rattle.json.specs.Lex.{Class, quote, backslash, operator, space, other, class}

-- what each class says
abbrev pub IsOfClass : Class → ℕ → Type 0
IsOfClass quote x = x ≡ 34
IsOfClass backslash x = x ≡ 92
IsOfClass operator x = is_operator x ≡ true
IsOfClass space x = is_space x ≡ true
IsOfClass other x = (is_operator x || is_space x) ≡ false

sorted : (q b o s : Bool) (x : ℕ) → (q ≡ true → x ≡ 34) → (b ≡ true → x ≡ 92) → o ≡ is_operator x → s ≡ is_space x
    → IsOfClass (cond q quote (cond b backslash (cond o operator (cond s space other)))) x
sorted true b o s x hq hb ho hs = hq refl
sorted false true o s x hq hb ho hs = hb refl
sorted false false true s x hq hb ho hs = sym ho
sorted false false false true x hq hb ho hs = sym hs
sorted false false false false x hq hb ho hs = λ i. sym ho i || sym hs i

pub IsOfClass-class : (x : ℕ) → IsOfClass (class x) x
IsOfClass-class x = sorted (x == 34) (x == 92) (is_operator x) (is_space x) x (eqb-true x 34) (eqb-true x 92) refl refl

-- c or an earlier one
or_last : (P : ℕ → Type 0) (x c : ℕ) (b : Bool) → P c → (b ≡ true → P x) → (b ≡ true) ⊎ ((x == c) ≡ true) → P x
or_last P x c b p f (inl e) = f e
or_last P x c b p f (inr e) = subst P (sym (eqb-true x c e)) p

-- a fact of each space, and of each operator
pub each_space : (P : ℕ → Type 0) → P 32 → P 9 → P 10 → P 13 → (x : ℕ) → is_space x ≡ true → P x
each_space P a b c d x h =
    or_last P x 13 _ d (λ i. or_last P x 10 _ c (λ j. or_last P x 9 _ b (λ k. subst P (sym (eqb-true x 32 k)) a) (or_cases _ _ j))
    (or_cases _ _ i)) (or_cases _ _ h)

pub each_operator : (P : ℕ → Type 0) → P 123 → P 125 → P 91 → P 93 → P 58 → P 44 → (x : ℕ) → is_operator x ≡ true → P x
each_operator P a b c d e f x h =
    or_last P x 44 _ f (λ i. or_last P x 58 _ e (λ j. or_last P x 93 _ d
    (λ k. or_last P x 91 _ c (λ l. or_last P x 125 _ b (λ m. subst P (sym (eqb-true x 123 m)) a)
    (or_cases _ _ l)) (or_cases _ _ k)) (or_cases _ _ j)) (or_cases _ _ i)) (or_cases _ _ h)

pub class-space : (x : ℕ) → is_space x ≡ true → class x ≡ space
class-space = each_space (λ x. class x ≡ space) refl refl refl refl

pub class-operator : (x : ℕ) → is_operator x ≡ true → class x ≡ operator
class-operator = each_operator (λ x. class x ≡ operator) refl refl refl refl refl refl
