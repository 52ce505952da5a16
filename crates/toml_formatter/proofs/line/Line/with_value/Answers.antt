use Rattle.std.proofs.Common.{◌∙◌, true, false, ◌∷◌}
use Rattle.prettyless_pointers.specs.Trees.{ref_tree}
use Rattle.toml_lexemes.specs.View.{toml_text_of}
use Rattle.toml_documents.specs.Gaps.{is_nested}
use Rattle.toml_formatter.proofs.DraftLemmas.{part_stands, settled_same}
use Rattle.toml_formatter.proofs.LineLemmas.{goes_on_last, IsSettled, value_taken}
use Rattle.toml_formatter.proofs.line.Line.with_value.Goals as goal

pub returns-clause-line : goal.returns-clause-line
returns-clause-line c = λ left old taken more h v.
    let n = is_nested c.args.kind in
    let s = toml_text_of c.args.first in
    let after = c.in_ok-line.ensures in
    let settled : IsSettled c.in_ok-line.line = record { no_comma = after.no_comma; no_comments = after.no_comments } in
    rw c.last_of.ensures
    (value_taken false false c.in_ok-doc.doc settled c.in_ok-doc.ensures.items c.before-gap.ensures.suits c.requires.whole
    (after.line n true (s ∷ old) taken (λ e k. goes_on_last n c.args.self c.requires.goes_on e) h) v)

pub returns-clause-stands : goal.returns-clause-stands
returns-clause-stands c = λ lv kinds h.
    let after = c.in_ok-line.ensures in
    part_stands lv c.in_ok-line.line c.args.kind c.args.first (ref_tree c.args.value) c.in_ok-doc.doc c.before-gap.result c.last_of.result
    c.requires.named c.requires.part kinds (after.end ∙ settled_same lv c.args.self h) after.no_comma after.no_comments
    (after.blank ∙ h.blank) c.before-gap.ensures.gap c.in_ok-doc.ensures.ok c.last_of.ensures
