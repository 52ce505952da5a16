-- Ink: what stays of bytes without space, CR and LF.
use Rattle.std.proofs.Common.{◌≡◌, ℕ, zero, suc, List, [], ◌++◌, refl, ap, ◌∙◌, not}
use Rattle.std.proofs.lemmas.List.Elements.{filter-append}
use Rattle.prettyless_model.specs.Options.{ending}
use Rattle.prettyless_model.specs.Spaces.{spaces}
use Rattle.prettyless_model.specs.declared.options.LineEnding.{LineEnding}
use Rattle.prettyless_model.specs.declared.options.LineEnding.TheVariants.{Lf, Crlf}
use Rattle.prettyless_model.specs.Spelling.{is_blank_byte, ink}

pub ink-append : (a b : List ℕ) → ink (a ++ b) ≡ ink a ++ ink b
ink-append a b = filter-append (λ b. not (is_blank_byte b)) a b

pub ink-spaces : (n : ℕ) → ink (spaces n) ≡ []
ink-spaces zero = refl
ink-spaces (suc n) = ink-spaces n

pub ink-ending : (e : LineEnding) → ink (ending e) ≡ []
ink-ending Lf = refl
ink-ending Crlf = refl

-- bytes with no ink before others
pub ink-after : (a b : List ℕ) → ink a ≡ [] → ink (a ++ b) ≡ ink b
ink-after a b e = ink-append a b ∙ ap (λ (x : List ℕ). x ++ ink b) e
