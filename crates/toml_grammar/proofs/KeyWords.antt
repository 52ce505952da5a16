-- What the words of keys are: bare letters and dots, where one without a part due begins with a dot, and a part is due after a dot.
use Rattle.std.proofs.Common.{◌≡◌, refl, sym, ◌∙◌, ap, subst, arith, ℕ, suc, ◌-◌, Bool, true, false, cond, ◌==◌, ◌&&◌, ◌||◌, List, []}
use Rattle.std.proofs.Common.{◌∷◌, length, get_or}
use Rattle.std.proofs.lemmas.Bool.{eqb-true, true≢false}
use Rattle.std.specs.List.{fold, list_all}
use Rattle.std.specs.Prelude.{Option, Some, None}
use Rattle.toml_lexemes.specs.Bytes.{dot, ends_with_dot, head}
use Rattle.toml_grammar.specs.Bytes.{is_bare}
use Rattle.toml_grammar.specs.Keys.{key_next, key_word, part_due}
use Rattle.toml_grammar.specs.declared.key.KeyPlace.{KeyPlace}
use Rattle.toml_grammar.specs.declared.key.KeyPlace.TheVariants as place

-- a byte of a key's word
abbrev pub is_key_byte : ℕ → Bool
is_key_byte x = is_bare x || (x == dot)

wrong_stays : (t : List ℕ) → fold key_next place.Wrong t ≡ place.Wrong
wrong_stays [] = refl
wrong_stays (x ∷ t) = wrong_stays t

no_due : (s : List ℕ) (after : Bool) → part_due (fold key_next place.Wrong s) ≡ Some after → ⊥
no_due s after h = let none : None ≡ Some after = sym (ap part_due (wrong_stays s)) ∙ h in cc

due_byte : (b c : Bool) (s : List ℕ) (after : Bool) → part_due (fold key_next (cond b place.Inside place.Wrong) s) ≡ Some after
    → b || c ≡ true
due_byte true c s after h = refl
due_byte false c s after h = absurd (no_due s after h)

inside_byte : (b c : Bool) (s : List ℕ) (after : Bool)
    → part_due (fold key_next (cond c place.Due (cond b place.Inside place.Wrong)) s) ≡ Some after → b || c ≡ true
inside_byte true c s after h = refl
inside_byte false true s after h = refl
inside_byte false false s after h = absurd (no_due s after h)

after_byte : (b c : Bool) (s : List ℕ) (after : Bool) → part_due (fold key_next (cond c place.Due place.Wrong) s) ≡ Some after
    → b || c ≡ true
after_byte true c s after h = refl
after_byte false true s after h = refl
after_byte false false s after h = absurd (no_due s after h)

one_key_byte : (p : KeyPlace) (x : ℕ) (s : List ℕ) (after : Bool) → part_due (fold key_next (key_next p x) s) ≡ Some after
    → is_key_byte x ≡ true
one_key_byte place.Due x s after h = due_byte (is_bare x) (x == dot) s after h
one_key_byte place.Inside x s after h = inside_byte (is_bare x) (x == dot) s after h
one_key_byte place.After x s after h = after_byte (is_bare x) (x == dot) s after h
one_key_byte place.Wrong x s after h = absurd (no_due s after h)

key_bytes : (p : KeyPlace) (s : List ℕ) (after : Bool) → part_due (fold key_next p s) ≡ Some after → list_all is_key_byte s ≡ true
key_bytes p [] after h = refl
key_bytes p (x ∷ s) after h = λ i. one_key_byte p x s after h i && key_bytes (key_next p x) s after h i

-- ---- dots

bare_dot : (x : ℕ) (b : Bool) → (x == dot) ≡ b → is_bare x ≡ true → b ≡ false
bare_dot x true e h = absurd (true≢false (sym (subst (λ (y : ℕ). is_bare y ≡ true) (eqb-true x 46 e) h)))
bare_dot x false e h = refl

due_end : (x : ℕ) (b : Bool) (after : Bool) → is_bare x ≡ b → part_due (cond b place.Inside place.Wrong) ≡ Some after → after ≡ (x == dot)
due_end x true after e h = let is : after ≡ false = cc in is ∙ sym (bare_dot x (x == dot) refl e)
due_end x false after e h = absurd (cc)

inside_end : (b c : Bool) (after : Bool) → part_due (cond c place.Due (cond b place.Inside place.Wrong)) ≡ Some after → after ≡ c
inside_end b true after h = cc
inside_end true false after h = cc
inside_end false false after h = absurd (cc)

after_end : (c : Bool) (after : Bool) → part_due (cond c place.Due place.Wrong) ≡ Some after → after ≡ c
after_end true after h = cc
after_end false after h = absurd (cc)

one_end : (p : KeyPlace) (x : ℕ) (after : Bool) → part_due (key_next p x) ≡ Some after → after ≡ (x == dot)
one_end place.Due x after h = due_end x (is_bare x) after refl h
one_end place.Inside x after h = inside_end (is_bare x) (x == dot) after h
one_end place.After x after h = after_end (x == dot) after h
one_end place.Wrong x after h = absurd (cc)

-- a byte before others changes no end
pub same_end : (x y : ℕ) (ys : List ℕ) → ends_with_dot (x ∷ (y ∷ ys)) ≡ ends_with_dot (y ∷ ys)
same_end x y ys =
    let longer : suc (suc (length ys)) - 1 ≡ suc (length ys) = omega arith in
    let shorter : suc (length ys) - 1 ≡ length ys = omega arith in
    ap (λ (k : ℕ). get_or (x ∷ (y ∷ ys)) k 32 == 46) longer ∙ sym (ap (λ (k : ℕ). get_or (y ∷ ys) k 32 == 46) shorter)

key_end : (p : KeyPlace) (x : ℕ) (s : List ℕ) (after : Bool) → part_due (fold key_next p (x ∷ s)) ≡ Some after
    → after ≡ ends_with_dot (x ∷ s)
key_end p x [] after h = one_end p x after h
key_end p x (y ∷ s) after h = key_end (key_next p x) y s after h ∙ sym (same_end x y s)

-- ---- words

-- its bytes are those of keys
pub key_word_bytes : (due after : Bool) (s : List ℕ) → key_word due s ≡ Some after → list_all is_key_byte s ≡ true
unfolding key_word
key_word_bytes due after s h = key_bytes (cond due place.Due place.After) s after h

-- a part is due after a dot alone
pub key_word_end : (due after : Bool) (x : ℕ) (s : List ℕ) → key_word due (x ∷ s) ≡ Some after → after ≡ ends_with_dot (x ∷ s)
unfolding key_word
key_word_end due after x s h = key_end (cond due place.Due place.After) x s after h

start_dot : (c : Bool) (s : List ℕ) (after : Bool) → part_due (fold key_next (cond c place.Due place.Wrong) s) ≡ Some after → c ≡ true
start_dot true s after h = refl
start_dot false s after h = absurd (no_due s after h)

-- where none is due, a dot comes first
pub key_word_start : (after : Bool) (x : ℕ) (s : List ℕ) → key_word false (x ∷ s) ≡ Some after → (x == dot) ≡ true
unfolding key_word
key_word_start after x s h = start_dot (x == dot) s after h
