use Rattle.std.proofs.Common.{sym, ap, Bool}
use Rattle.prettyless_pointers.specs.Trees.{ref_tree}
use Rattle.toml_lexemes.specs.Bytes.{comma}
use Rattle.toml_documents.specs.Documents.{end_after_comma}
use Rattle.toml_formatter.specs.Drafts.{line_end}
use Rattle.toml_documents.specs.Gaps.{Suits}
use Rattle.toml_formatter.proofs.DraftLemmas.{comma_end}
use Rattle.toml_formatter.proofs.LineLemmas.{comma_shown}
use Rattle.toml_formatter.proofs.line.Line.with_settled_comma.Goals as goal

pub returns-clause-line : goal.returns-clause-line
returns-clause-line c = λ nested exact left taken goes_on h.
    let suits : Suits nested c.args.self.last comma c.before_comma.result = record {
      enough = c.before_comma.ensures.enough;
      stays = λ e. c.before_comma.ensures.stays (goes_on e c.if-not-self.false);
    } in
    comma_shown (ref_tree c.in_ok-comma.comma) c.in_ok-doc.doc c.if-not-self.false c.in_ok-comma.ensures.items
    c.in_ok-doc.ensures.items suits h

pub returns-then-not-self-clause-end : goal.returns-then-not-self-clause-end
returns-then-not-self-clause-end c = ap (λ (b : Bool). end_after_comma b (line_end c.args.self)) (sym c.if-not-self.true)

pub returns-clause-end : goal.returns-clause-end
returns-clause-end c =
    comma_end c.args.self c.in_ok-doc.doc (ref_tree c.in_ok-comma.comma) c.before_comma.result c.if-not-self.false c.in_ok-doc.ensures.ok
    c.before_comma.ensures.gap c.in_ok-comma.ensures.ok
