use Rattle.std.proofs.Common.{sym, ap, Bool}
use Rattle.prettyless_pointers.specs.Trees.{ref_tree}
use Rattle.toml_documents.specs.Documents.{after_comments}
use Rattle.toml_formatter.specs.Drafts.{line_end}
use Rattle.toml_formatter.proofs.DraftLemmas.{comments_end}
use Rattle.toml_formatter.proofs.LineLemmas.{comments_shown}
use Rattle.toml_formatter.proofs.line.Line.with_settled_comments.Goals as goal

pub returns-clause-line : goal.returns-clause-line
returns-clause-line c = λ nested exact left taken settled h.
    comments_shown nested exact c.args.self left taken c.in_ok-doc.doc settled c.if-not-self.false c.in_ok-doc.ensures.items h

pub returns-then-not-self-clause-end : goal.returns-then-not-self-clause-end
returns-then-not-self-clause-end c =
    ap (λ (b : Bool). after_comments b (ref_tree c.args.self.comments) (line_end c.args.self)) (sym c.if-not-self.true)

pub returns-clause-end : goal.returns-clause-end
returns-clause-end c = comments_end c.args.self c.in_ok-doc.doc c.if-not-self.false c.in_ok-doc.ensures.ok
