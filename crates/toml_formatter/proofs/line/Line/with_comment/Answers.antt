use Rattle.std.proofs.Common.{◌≡◌, sym, ◌∙◌, ap, subst, refl, true, false, [], ◌∷◌, ◌++◌, List, ℕ}
use Rattle.prettyless_model.specs.Tree.{TextWithLen}
use Rattle.prettyless_pointers.specs.Trees.{ref_tree}
use Rattle.toml_documents.specs.Gaps.{is_nested}
use Rattle.toml_documents.specs.Documents.{with_comment, comment_tree}
use Rattle.toml_formatter.specs.Drafts.{Stands}
use Rattle.toml_formatter.specs.Lines.{ShowsTaken}
use Rattle.toml_formatter.specs.declared.line.Line.{Line}
use Rattle.toml_formatter.proofs.DraftLemmas.{first_comments, comment_stands}
use Rattle.toml_formatter.proofs.LineLemmas.{comment_first, comment_next, commented_nested, trimmed_shows}
use Rattle.toml_formatter.proofs.line.Line.with_comment.Goals as goal

pub returns-then-self-clause-line : goal.returns-then-self-clause-line
returns-then-self-clause-line c = λ left taken h.
    let n = is_nested c.args.kind in
    let r = c.args.comment.now in
    let x = ref_tree c.in_ok-comment.comment in
    let gap = c.before_comment-gap in
    subst (λ (l : Line). ShowsTaken n true l left (taken ++ r ∷ [])) (sym c.with_comments.ensures)
    (comment_next n c.args.self.last gap.result r c.requires.comment c.requires.whole c.args.self false false c.in_ok-comments.comments x x
    c.if-self.true refl (trimmed_shows x r c.trimmed.result.now c.requires.comment c.trimmed.ensures c.in_ok-comment.ensures.items)
    c.in_ok-comments.ensures.items
    (gap.ensures.others c.if-self.true) (commented_nested n c.args.self c.requires.goes_on c.if-self.true) left taken h)

pub returns-clause-line : goal.returns-clause-line
returns-clause-line c = λ left taken h.
    let n = is_nested c.args.kind in
    let r = c.args.comment.now in
    let x = ref_tree c.in_ok-comment.comment in
    let gap = c.before_comment-gap in
    subst (λ (l : Line). ShowsTaken n true l left (taken ++ r ∷ [])) (sym c.with_comments-2.ensures)
    (comment_first n c.args.self.last gap.result r c.requires.comment c.requires.whole c.args.self false false c.in_ok-comments-2.comments
    (ref_tree c.in_ok-nil.field-0) x
    c.if-self.false refl c.in_ok-nil.ensures.items
    (trimmed_shows x r c.trimmed.result.now c.requires.comment c.trimmed.ensures c.in_ok-comment.ensures.items)
    c.in_ok-comments-2.ensures.items
    gap.ensures.enough (λ e. gap.ensures.stays e c.if-self.false) left taken h)

pub returns-then-self-clause-stands : goal.returns-then-self-clause-stands
returns-then-self-clause-stands c = λ lv kinds h.
    let r = c.args.comment.now in
    let x = ref_tree c.in_ok-comment.comment in
    let text : x ≡ comment_tree r = c.in_ok-comment.ensures.ok ∙ ap (λ (s : List ℕ). TextWithLen 0 s) c.trimmed.ensures in
    subst (λ (l : Line). Stands (with_comment lv r) l) (sym c.with_comments.ensures)
    (comment_stands lv c.args.self c.args.kind r c.before_comment-gap.result (ref_tree c.args.self.comments) x c.in_ok-comments.comments
    kinds h c.before_comment-gap.ensures.gap (h.comments c.if-self.true) text c.in_ok-comments.ensures.ok)

pub returns-clause-stands : goal.returns-clause-stands
returns-clause-stands c = λ lv kinds h.
    let r = c.args.comment.now in
    let x = ref_tree c.in_ok-comment.comment in
    let nothing = ref_tree c.in_ok-nil.field-0 in
    let text : x ≡ comment_tree r = c.in_ok-comment.ensures.ok ∙ ap (λ (s : List ℕ). TextWithLen 0 s) c.trimmed.ensures in
    subst (λ (l : Line). Stands (with_comment lv r) l) (sym c.with_comments-2.ensures)
    (comment_stands lv c.args.self c.args.kind r c.before_comment-gap.result nothing x c.in_ok-comments-2.comments kinds h
    c.before_comment-gap.ensures.gap (first_comments lv c.args.self nothing h c.if-self.false c.in_ok-nil.ensures.ok) text
    c.in_ok-comments-2.ensures.ok)
