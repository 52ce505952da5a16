-- What is known of a writer's bytes, as the sink over it says it.
use Rattle.std.proofs.Common.{◌≡◌, ℕ, List, ◌++◌, ◌≤◌, length, take, drop, refl, sym, take-append-drop, ap, ◌∙◌, arith, min, Option, None}
use Rattle.std.proofs.Common.{Some, IsSome}
use Rattle.std.specs.Io.KnownBytes.{Appends}
use Rattle.prettyless_sink.specs.Sink.{known, AppendsCount}

-- a write that took so many bytes
pub known_count : (old new : Option (List ℕ)) (text : List ℕ) (count : ℕ) → Appends old new (take count text) → IsSome old → IsSome new
    × AppendsCount (known old) (known new) text count
known_count None new text count p is_known = cc is_known
known_count (Some x) None text count p is_known = absurd p
known_count (Some x) (Some y) text count p is_known =
    (refl, ((λ le. p), (take count text, drop count text, sym (take-append-drop count text), p)))

-- what a sink appended that takes as much of a count as the text has
pub appended_count : (old new text : List ℕ) (taken count : ℕ) → taken ≡ min count (length text) → new ≡ old ++ take taken text
    → AppendsCount old new text count
appended_count old new text taken count e after = (
  (λ (le : count ≤ length text). let same : taken ≡ count = omega arith in after ∙ ap (λ (n : ℕ). old ++ take n text) same),
  (take taken text, drop taken text, sym (take-append-drop taken text), after),
)
