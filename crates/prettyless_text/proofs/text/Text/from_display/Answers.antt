use Rattle.std.proofs.Common.{◌≡◌, ◌++◌, [], ap, ◌∙◌, List, ℕ, Option, Some, None, Result, Ok, Err, IfSome, IsOk, OnOk}
use Rattle.std.specs.Prelude.{IfOk}
use Rattle.prettyless_text.specs.Printed.{bytes_so_far}
use Rattle.prettyless_text.specs.TextBytes.{bytes_of_text}
use Rattle.prettyless_text.specs.declared.text.Text.{Text}
use Rattle.prettyless_text.proofs.text.Text.from_display.Goals as goal

-- what a value printed from nothing is what it says that it prints
printed : {A D E : Type 0} (r : Result Text E) (outcome : Result A D) (o : Option (List ℕ)) (old new : List ℕ) → old ≡ []
    → IfOk r (λ t. bytes_of_text t ≡ new) → IfOk r (λ _. IsOk outcome) →
    OnOk outcome (IfSome o (λ bs. new ≡ old ++ bs)) → IfOk r (λ t. IfSome o (λ bs. bytes_of_text t ≡ bs))
printed (Err e) outcome o old new empty same ended wrote = tt
printed (Ok t) (Err e) o old new empty same ended wrote = cc ended
printed (Ok t) (Ok done) None old new empty same ended wrote = tt
printed (Ok t) (Ok done) (Some bs) old new empty same ended wrote = same ∙ wrote ∙ ap (λ (x : List ℕ). x ++ bs) empty

pub returns-clause-bytes : goal.returns-clause-bytes
returns-clause-bytes g c =
    printed c.finished.result c.print-outcome.result (g.V.Display.output c.args.value) _ (bytes_so_far c.print-outcome.new.printer.text)
    c.new.ensures c.finished.ensures.bytes c.finished.ensures.ended c.print-outcome.ensures
