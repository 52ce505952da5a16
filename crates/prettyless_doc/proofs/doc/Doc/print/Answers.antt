use Rattle.std.proofs.Common.{rules}
use Rattle.prettyless_doc.proofs.doc.Doc.print.Goals as goal

pub returns-clause-options : goal.returns-clause-options
returns-clause-options g c = search rules depth 1

pub returns-clause-content : goal.returns-clause-content
returns-clause-content g c = search rules depth 1
