use Rattle.std.proofs.Common.{◌≡◌, sym, ◌∙◌, ap, Bool, true, false, ◌∷◌}
use Rattle.toml_documents.specs.Documents.{broken_if, trailed_end}
use Rattle.prettyless_pointers.specs.Trees.{ref_tree}
use Rattle.toml_formatter.specs.Drafts.{line_end}
use Rattle.toml_formatter.proofs.LineLemmas.{closed_marked, closed_plain, comma_changed, IsSettled}
use Rattle.toml_documents.specs.Gaps.{is_nested}
use Rattle.toml_formatter.proofs.DraftLemmas.{closed_same}
use Rattle.toml_formatter.proofs.line.Line.closed.Goals as goal

pub returns-then-may_trail-clause-closed : goal.returns-then-may_trail-clause-closed
returns-then-may_trail-clause-closed c = λ x left taken closing h.
    let n = is_nested c.args.kind in
    let after = c.in_ok-line.ensures in
    let settled : IsSettled c.in_ok-line.line = record { no_comma = after.no_comma; no_comments = after.no_comments } in
    closed_marked n c.in_ok-line.line x left taken closing settled
    (after.line n false (x ∷ left) taken (λ e k. c.requires e)
    (comma_changed n c.args.self c.keeps_comma.result x left taken c.keeps_comma.ensures.held h))
    c.in_ok-doc.doc (c.may_trail.ensures.nested c.if-may_trail.true) (c.may_trail.ensures.plain c.if-may_trail.true)
    (λ xs shown. c.in_ok-doc.ensures.items _ (c.in_ok-trailed.ensures.items xs shown))

pub returns-clause-closed : goal.returns-clause-closed
returns-clause-closed c = λ x left taken closing h.
    let n = is_nested c.args.kind in
    let after = c.in_ok-line.ensures in
    let settled : IsSettled c.in_ok-line.line = record { no_comma = after.no_comma; no_comments = after.no_comments } in
    closed_plain n c.in_ok-line.line x left taken closing settled
    (after.line n false (x ∷ left) taken (λ e k. c.requires e)
    (comma_changed n c.args.self c.keeps_comma.result x left taken c.keeps_comma.ensures.held h))

pub returns-then-may_trail-clause-end : goal.returns-then-may_trail-clause-end
returns-then-may_trail-clause-end c = λ lv kinds h.
    let line = c.in_ok-line.line in
    let tree : ref_tree c.in_ok-doc.doc ≡ (trailed_end true c.args.self.comma (line_end line)).tree =
    c.in_ok-doc.ensures.ok ∙ ap (broken_if c.args.self.comma) c.in_ok-trailed.ensures.ok in
    let trailed : line_end (record line { doc = c.in_ok-doc.doc }) ≡ trailed_end true c.args.self.comma (line_end line) =
    λ i. record { tree = tree i; last = line.last } in
    trailed ∙ ap (λ (b : Bool). trailed_end b c.args.self.comma (line_end line)) (sym c.if-may_trail.true)
    ∙ closed_same lv c.args.self line c.args.kind c.keeps_comma.result kinds h c.keeps_comma.ensures.kept c.in_ok-line.ensures.end
    c.may_trail.result c.may_trail.ensures.trails

pub returns-clause-end : goal.returns-clause-end
returns-clause-end c = λ lv kinds h.
    let line = c.in_ok-line.line in
    ap (λ (b : Bool). trailed_end b c.args.self.comma (line_end line)) (sym c.if-may_trail.false)
    ∙ closed_same lv c.args.self line c.args.kind c.keeps_comma.result kinds h c.keeps_comma.ensures.kept c.in_ok-line.ensures.end
    c.may_trail.result c.may_trail.ensures.trails
