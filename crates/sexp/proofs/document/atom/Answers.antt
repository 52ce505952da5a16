use Rattle.std.proofs.Common.{◌≡◌, ◌<◌, ◌^◌, ◌∙◌, ℕ, suc, true, List, [], ◌∷◌, refl, ap, arith}
use Rattle.std.specs.Fmt.{decimal}
use Rattle.std.specs.Str.{IsAscii}
use Rattle.std.proofs.lemmas.Bool.{lt-ltb}
use Rattle.std.proofs.lemmas.Fmt.{IsAscii-decimal}
use Rattle.prettyless.specs.Counted.{as_string}
use Rattle.prettyless.specs.Tree.{Text}
use Rattle.prettyless_model.specs.Metrics.{is_ascii}
use Rattle.sexp.proofs.document.atom.Goals as goal

all_ascii : (s : List ℕ) → IsAscii s → is_ascii s ≡ true
all_ascii [] h = refl
all_ascii (b ∷ s) h = rw (lt-ltb b 128 (h 0)) (all_ascii s (λ i. h (suc i)))

-- digits are ASCII
counts_digits : (n : ℕ) → n < 2 ^ 64 → as_string (decimal n) ≡ Text (decimal n)
counts_digits n small = rw (all_ascii (decimal n) (IsAscii-decimal n small)) refl

pub returns : goal.returns
returns g c =
    let shown = c.in_ok-as_string.ensures.ok in
    c.in_ok-into_doc.ensures.ok ∙ shown.1 ∙ ap as_string shown.2 ∙ counts_digits c.args.number (omega arith)
