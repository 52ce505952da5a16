use Rattle.std.proofs.Common.{sym, subst, ◌∙◌, ℕ}
use Rattle.std.proofs.lemmas.Bool.{false≢true}
use Rattle.json_validity.specs.Document.{IsJsonWithin}
use Rattle.json_formatter.specs.Formats.{depth_of}
use Rattle.json_formatter.proofs.Layouts.{deeper}
use Rattle.json_formatter.proofs.layout.check_json.Goals as goal

pub returns-then-branch-2-clause-err : goal.returns-then-branch-2-clause-err
returns-then-branch-2-clause-err c =
    let text = c.args.text.now in
    deeper c.args.style text (c.in_ok-is_json.ensures.0 c.if-branch-2.true)
    (λ (h : IsJsonWithin (depth_of c.args.style) text).
    false≢true (sym c.if-branch.false ∙ c.in_ok-is_json_within.ensures.1
    (subst (λ (n : ℕ). IsJsonWithin n text) (sym c.depth_of.ensures) h)))
