-- Summaries and looks, one after another.
use Rattle.std.proofs.Common.{◌≡◌, ℕ, Bool, ◌||◌, refl, ap, ◌∙◌}
use Rattle.prettyless_model.specs.Look.{Look, Answers, GoesOn, look_then}
use Rattle.prettyless_model.specs.declared.column.Column.{Column}
use Rattle.prettyless_model.proofs.Looks.{look-then-then}
use Rattle.prettyless_summary.specs.Summary.{ContinuesLook, look_by, look_ink, look_out, look_rest, look_weak, mode_of}
use Rattle.prettyless_summary.specs.Summary.{after_spaces}
use Rattle.prettyless_summary.specs.declared.summary.Summary.{Summary}
use Rattle.prettyless_summary.specs.declared.summary.End.{End}
use Rattle.prettyless_summary.specs.declared.summary.End.TheVariants.{Open, No, PaddingFits, Yes}

-- a summary and then a look, and then another one
pub continues : (s r t : Summary) (f g : ℕ → Column → Bool → Look) → ContinuesLook s f r → ContinuesLook r g t →
    ContinuesLook s (λ width c p. look_then (f width c p) (g width)) t
continues s r t f g h k width c p =
    k width c p ∙ ap (λ (x : Look). look_then x (g width)) (h width c p) ∙ look-then-then (look_by width s c p) (f width) (g width)

-- a look that answers, whatever follows it

closed_out : (width : ℕ) (x : End) → (x ≡ Open → ⊥) → (f : Column → Bool → Look) (c : Column) (p : Bool) →
    look_out width x c p ≡ look_then (look_out width x c p) f
closed_out width Open h f c p = absurd (h refl)
closed_out width No h f c p = refl
closed_out width PaddingFits h f c p = refl
closed_out width Yes h f c p = refl

answers_then : (x : Look) (f g : Column → Bool → Look) → ((c : Column) (p : Bool) → f c p ≡ look_then (f c p) g) →
    look_then x f ≡ look_then (look_then x f) g
answers_then (Answers b) f g h = refl
answers_then (GoesOn c p) f g h = h c p

-- a summary that is closed, and then anything, is that summary
pub closed : (s : Summary) → (s.end ≡ Open → ⊥) → (f : ℕ → Column → Bool → Look) → ContinuesLook s f s
closed s h f width c p =
    answers_then (look_weak width (mode_of s.weak) (after_spaces s.lead c) p) (look_rest width s) (f width)
    (λ e q. answers_then (look_ink width s.has_ink s.inner s.trail e q) (λ g r. look_out width s.end g (s.has_suffix || r)) (f width)
    (λ g r. closed_out width s.end h (f width) g (s.has_suffix || r)))
