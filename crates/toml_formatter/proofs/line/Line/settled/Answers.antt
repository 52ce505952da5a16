use Rattle.std.proofs.Common.{◌∙◌}
use Rattle.std.proofs.lemmas.Result.{IfOk-weaker}
use Rattle.prettyless_pointers.specs.Trees.{ref_tree}
use Rattle.toml_documents.specs.Documents.{after_comments}
use Rattle.toml_formatter.proofs.line.Line.settled.Goals as goal

pub returns-clause-line : goal.returns-clause-line
returns-clause-line c =
    let before = c.in_ok-with_settled_comma.ensures in
    IfOk-weaker c.with_settled_comments.result _ _
    (λ line then nested exact left taken goes_on h. then nested exact left taken before.no_comma
    (before.line nested exact left taken goes_on h))
    c.with_settled_comments.ensures.line

pub returns-clause-end : goal.returns-clause-end
returns-clause-end c =
    let before = c.in_ok-with_settled_comma.ensures in
    IfOk-weaker c.with_settled_comments.result _ _
    (λ line e. e ∙ (λ i. after_comments (before.commented i) (ref_tree (before.comments i)) (before.end i)))
    c.with_settled_comments.ensures.end

pub returns-clause-blank : goal.returns-clause-blank
returns-clause-blank c =
    IfOk-weaker c.with_settled_comments.result _ _ (λ line e. e ∙ c.in_ok-with_settled_comma.ensures.blank)
    c.with_settled_comments.ensures.blank
