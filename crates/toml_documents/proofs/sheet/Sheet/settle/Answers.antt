use Rattle.std.proofs.Common.{◌∙◌, ap, List, ℕ, ◌++◌}
use Rattle.std.proofs.lemmas.Bool.{and_parts}
use Rattle.std.specs.String.{string_bytes}
use Rattle.toml_documents.specs.Sheets.{settled_lines}
use Rattle.toml_documents.proofs.SheetLemmas.{settled_more}
use Rattle.toml_documents.proofs.sheet.Sheet.settle.Goals as goal

pub returns-clause-sheet : goal.returns-clause-sheet
returns-clause-sheet c = λ before h.
    let sheet = c.args.self.now in
    let parts = and_parts sheet.walk.whole sheet.walk.free c.requires.settled in
    let done = c.in_ok-push_settled.ensures
    ∙ ap (λ (l : List ℕ). string_bytes sheet.done ++ settled_lines sheet.walk.plain l) c.as_str.ensures.value in
    settled_more sheet c.push_settled.new.done c.clear.new.self before c.requires.align parts.0 parts.1 done c.clear.ensures.bytes h
