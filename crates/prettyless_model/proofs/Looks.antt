-- Looks: one after another, and their answers.
use Rattle.std.proofs.Common.{◌≡◌, refl, ap, ◌∙◌, Bool, true, false, if◌then◌else◌}
use Rattle.prettyless_model.specs.Look.{Look, Answers, GoesOn, look_then, answer_of}
use Rattle.prettyless_model.specs.declared.column.Column.{Column}

pub look-then-then : (x : Look) (f g : Column → Bool → Look) → look_then (look_then x f) g ≡ look_then x (λ c p. look_then (f c p) g)
look-then-then (Answers b) f g = refl
look-then-then (GoesOn c p) f g = refl

pub answer-then : (x : Look) (f : Column → Bool → Look) (g : Column → Bool → Bool) → answer_of (look_then x f) g ≡ answer_of x
    (λ c p. answer_of (f c p) g)
answer-then (Answers b) f g = refl
answer-then (GoesOn c p) f g = refl

pub look-each : (x : Look) (f g : Column → Bool → Look) → ((c : Column) (p : Bool) → f c p ≡ g c p) → look_then x f ≡ look_then x g
look-each (Answers b) f g h = refl
look-each (GoesOn c p) f g h = h c p

-- equal looks, and then looks that are equal wherever the first ones go on
pub look-same : (x y : Look) (f g : Column → Bool → Look) → x ≡ y → ((c : Column) (p : Bool) → f c p ≡ g c p)
    → look_then x f ≡ look_then y g
look-same x y f g e h = ap (λ (z : Look). look_then z f) e ∙ look-each y f g h

pub answer-each : (x : Look) (f g : Column → Bool → Bool) → ((c : Column) (p : Bool) → f c p ≡ g c p) → answer_of x f ≡ answer_of x g
answer-each (Answers b) f g h = refl
answer-each (GoesOn c p) f g h = h c p

-- and then answers that are
pub answer-same : (x y : Look) (f g : Column → Bool → Bool) → x ≡ y → ((c : Column) (p : Bool) → f c p ≡ g c p)
    → answer_of x f ≡ answer_of y g
answer-same x y f g e h = ap (λ (z : Look). answer_of z f) e ∙ answer-each y f g h

-- one of two looks, by one test
pub look-either : (t : Bool) (x y z w : Look) → x ≡ z → y ≡ w → (if t then x else y) ≡ (if t then z else w)
look-either true x y z w e f = e
look-either false x y z w e f = f
