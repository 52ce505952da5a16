use Rattle.std.proofs.Common.{refl}
use Rattle.prettyless_printer.proofs.Contents.{printed_content}
use Rattle.prettyless_doc.proofs.doc.Doc.print_with.Goals as goal

pub returns-clause-content : goal.returns-clause-content
returns-clause-content g c = printed_content _ _

pub returns-clause-options : goal.returns-clause-options
returns-clause-options g c = refl
