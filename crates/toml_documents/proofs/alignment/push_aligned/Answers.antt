use Rattle.std.proofs.Common.{sym, ap, ◌∙◌, ◌++◌, List, ℕ, append-nil}
use Rattle.std.specs.Prelude.{Option}
use Rattle.std.specs.String.{string_bytes}
use Rattle.toml_lexemes.specs.SpacedLexemes.{SpacedToml, toml_put_together}
use Rattle.toml_lexemes.specs.SpacedLexer.{spaced_of}
use Rattle.toml_documents.specs.Alignment.{aligned_from, moved_by, moved_gap, standing_past}
use Rattle.toml_documents.specs.declared.standing.Standing.{Standing}
use Rattle.toml_documents.proofs.Aligning.{one_more}
use Rattle.toml_documents.proofs.alignment.push_aligned.Goals as goal

pub loop-found-preserved : goal.loop-found-preserved
loop-found-preserved c =
    let st = c.loop-found.standing in
    let p = spaced_of c.in-Some.found in
    let left = c.next.new.self in
    let before = string_bytes c.loop-found.text in
    let mid = string_bytes c.push_gap.new.text in
    let after = string_bytes c.push_str.new.self in
    let whole = ap (λ (ps : List SpacedToml). before ++ toml_put_together (aligned_from st ps)) (sym c.in-Some.ensures.steps.0)
    ∙ c.loop-found.invariant in
    let gap = c.in_ok-push_gap.ensures ∙ ap (λ (m : Option ℕ). before ++ moved_gap m p.gap) c.past-step.ensures.moved in
    let text = c.in_ok-push_str.ensures.bytes ∙ ap (λ (l : List ℕ). mid ++ l) c.text.ensures in
    ap (λ (s : Standing). after ++ toml_put_together (aligned_from s left)) c.past-step.ensures.standing
    ∙ one_more before mid after (moved_gap (moved_by st p left) p.gap) p.lexeme
    (toml_put_together (aligned_from (standing_past st p left) left)) _ gap text whole

pub returns : goal.returns
returns c =
    let text = string_bytes c.loop-found.text in
    sym (append-nil text)
    ∙ ap (λ (ps : List SpacedToml). text ++ toml_put_together (aligned_from c.loop-found.standing ps)) (sym c.in_default.ensures.steps.0)
    ∙ c.loop-found.invariant
