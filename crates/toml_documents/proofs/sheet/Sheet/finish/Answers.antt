use Rattle.std.proofs.Common.{◌∙◌, ap, List, ℕ, ◌++◌}
use Rattle.std.specs.String.{string_bytes}
use Rattle.toml_documents.specs.Alignment.{comments_as}
use Rattle.toml_documents.proofs.SheetLemmas.{all_lines}
use Rattle.toml_documents.proofs.sheet.Sheet.finish.Goals as goal

pub returns : goal.returns
returns c = λ before h.
    all_lines c.args.self (string_bytes c.push_as.new.done) before
    (c.in_ok-push_as.ensures ∙ ap (λ (l : List ℕ). string_bytes c.args.self.done ++ comments_as c.args.self.align l) c.as_str.ensures.value) h
