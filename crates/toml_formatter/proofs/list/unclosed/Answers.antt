use Rattle.std.proofs.Common.{◌≡◌, sym, ◌∙◌, ap, true, []}
use Rattle.prettyless_trees.specs.Built.{append}
use Rattle.prettyless_trees.specs.Counted.{text}
use Rattle.prettyless_pointers.specs.Trees.{ref_tree}
use Rattle.toml_documents.specs.Documents.{level_end}
use Rattle.toml_formatter.specs.Drafts.{line_end}
use Rattle.toml_formatter.proofs.DraftLemmas.{settled_same}
use Rattle.toml_formatter.proofs.LineLemmas.{IsSettled, never}
use Rattle.toml_formatter.proofs.Values.{list_unclosed, opening_shows, ShowsOpening}
use Rattle.toml_formatter.proofs.list.unclosed.Goals as goal

pub returns-clause-made : goal.returns-clause-made
returns-clause-made c = λ taken h.
    let line = c.in_ok-line.ensures in
    let o = ref_tree c.in_ok-text.field-0 in
    let opener : ShowsOpening c.args.bracket o = record {
      opens = c.requires;
      shown = opening_shows c.args.bracket o c.text.result.now c.requires c.text.ensures c.in_ok-text.ensures.items;
    } in
    let settled : IsSettled c.in_ok-line.line = record { no_comma = line.no_comma; no_comments = line.no_comments } in
    list_unclosed (ref_tree c.in_ok-joined.field-0) opener c.in_ok-joined.ensures.items settled
    (line.line true true [] taken never h)

pub returns-clause-tree : goal.returns-clause-tree
returns-clause-tree c = λ lv opening h.
    let end : line_end c.in_ok-line.line ≡ level_end lv = c.in_ok-line.ensures.end ∙ settled_same lv c.args.line h in
    let opener = c.in_ok-text.ensures.ok ∙ ap text (c.text.ensures ∙ sym opening) in
    c.in_ok-joined.ensures.ok ∙ (λ i. append (opener i) ((end i).tree))
