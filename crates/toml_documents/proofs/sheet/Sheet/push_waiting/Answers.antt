use Rattle.toml_documents.proofs.SheetLemmas.{waiting_more}
use Rattle.toml_documents.proofs.sheet.Sheet.push_waiting.Goals as goal

pub returns-clause-sheet : goal.returns-clause-sheet
returns-clause-sheet c = λ before h.
    waiting_more c.args.self.now c.push_str.new.self c.over-self.result before c.args.lines.now c.requires c.in_ok-push_str.ensures.bytes
    c.over-self.ensures h
