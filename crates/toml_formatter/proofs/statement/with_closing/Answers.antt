use Rattle.std.proofs.Common.{◌≡◌, subst, sym, ◌∙◌, ap, true, false, ◌∷◌, ◌++◌, []}
use Rattle.prettyless_trees.specs.Built.{append}
use Rattle.prettyless_trees.specs.Counted.{text}
use Rattle.prettyless_pointers.specs.Trees.{ref_tree}
use Rattle.toml_lexemes.specs.View.{toml_text_of}
use Rattle.toml_documents.specs.Documents.{closed_end, new_statement, with_part}
use Rattle.toml_formatter.specs.Drafts.{line_end, Stands}
use Rattle.toml_documents.specs.declared.kind.Last.TheVariants.{Close}
use Rattle.toml_formatter.specs.Lines.{ShowsTaken}
use Rattle.toml_formatter.specs.declared.line.Line.{Line}
use Rattle.toml_formatter.proofs.DraftLemmas.{begun_stands, closing_last}
use Rattle.toml_formatter.proofs.StatementLemmas.{bracket_taken}
use Rattle.toml_formatter.proofs.Values.{closing_role, closing_shows, ShowsClosing}
use Rattle.toml_formatter.proofs.statement.with_closing.Goals as goal

pub returns-clause-line : goal.returns-clause-line
returns-clause-line c = λ left taken sound h.
    let x = toml_text_of c.args.bracket in
    let closed = c.in_ok-line.ensures in
    let d = ref_tree c.in_ok-bracket.bracket in
    let closer : ShowsClosing c.args.bracket left d = record {
      closes = c.requires.closes;
      sound = sound;
      shown =
          closing_shows c.args.bracket d c.text.result.now c.requires.closes c.text.ensures
          c.in_ok-bracket.ensures.items;
    } in
    subst (λ (l : Line). ShowsTaken false true l left (taken ++ x ∷ [])) (sym c.begun.ensures)
    (bracket_taken c.in_ok-doc.doc closer (closed.last c.requires.goes_on.0 c.requires.goes_on.1)
    c.in_ok-doc.ensures.items (closed.closed x left taken (closing_role c.args.bracket c.requires.closes) h))

pub returns-clause-stands : goal.returns-clause-stands
returns-clause-stands c = λ lv kinds h.
    let s = toml_text_of c.args.bracket in
    let end : line_end c.in_ok-line.line ≡ closed_end lv = c.in_ok-line.ensures.end lv kinds h in
    let bracket = c.in_ok-bracket.ensures.ok ∙ ap text c.text.ensures in
    let tree : ref_tree c.in_ok-doc.doc ≡ append (closed_end lv).tree (text s) =
    c.in_ok-doc.ensures.ok ∙ (λ i. append ((end i).tree) (bracket i)) in
    subst (λ (l : Line). Stands (with_part new_statement s (append (closed_end lv).tree (text s))) l) (sym c.begun.ensures)
    (begun_stands c.in_ok-doc.doc Close s (append (closed_end lv).tree (text s)) tree (closing_last c.args.bracket c.requires.closes))
