use Rattle.std.proofs.Common.{ℕ, List, ◌++◌, sym, ◌∙◌, ap}
use Rattle.json_lexemes.specs.View.{text_of}
use Rattle.json_formatter.specs.Gaps.{gap_bytes}
use Rattle.json_formatter.specs.Kept.{gap_kept, kept_after, laid_left}
use Rattle.json_formatter.specs.PieceTexts.{piece_text}
use Rattle.json_formatter.specs.Spelling.{respelled}
use Rattle.json_formatter.proofs.PlainLeft.{plain_next, spelled_next}
use Rattle.json_formatter.proofs.gaps.Layout.advance.Goals as goal

pub returns-then-self-clause-next : goal.returns-then-self-clause-next
returns-then-self-clause-next c =
    let a = c.self.inside in
    let left = c.next.new.self in
    let plain = c.self.invariant.1 c.if-self.true in
    let step = c.step-gap.ensures in
    sym c.self.view_is
    ∙ ap (λ (ss : List (List ℕ)). laid_left a.style a.state a.kept a.spelling ss) c.in_ok-piece.ensures.next
    ∙ plain_next a.style a.state a.kept a.spelling (piece_text c.in_ok-piece.piece) left plain.0 plain.1 plain.2
    ∙ (λ i. gap_bytes (sym step.gap i) ++ (sym c.lexeme-lexeme.ensures.text i
    ++ laid_left a.style (sym step.state i) a.kept a.spelling (sym step.same i)))

pub returns-clause-next : goal.returns-clause-next
returns-clause-next c =
    let a = c.self.inside in
    let left = c.next.new.self in
    let step = c.step-gap.ensures in
    let lexeme = c.lexeme-lexeme.ensures.text in
    let spelled = c.spell_kept-spelled.ensures in
    sym c.self.view_is
    ∙ ap (λ (ss : List (List ℕ)). laid_left a.style a.state a.kept a.spelling ss) c.in_ok-piece.ensures.next
    ∙ spelled_next a.style a.state a.kept a.spelling (piece_text c.in_ok-piece.piece) left
    ∙ (λ i. respelled a.spelling (gap_kept a.kept (gap_bytes (sym step.gap i))) ++ (sym lexeme i
    ++ laid_left a.style (sym step.state i) (kept_after a.kept (sym lexeme i)) a.spelling (sym step.same i)))
    ∙ (λ i. sym spelled.gap i ++ (text_of c.lexeme-lexeme.result
    ++ laid_left a.style c.step-gap.new.self (sym spelled.left i) a.spelling c.step-gap.new.pieces))
