use Rattle.std.proofs.Common.{sym, ◌∙◌, arith}
use Rattle.json_lexemes.proofs.Firsts.{cut-past}
use Rattle.json_lexemes.proofs.SpacedLexemes.{none_spaced}
use Rattle.json_lexemes.proofs.spaced_lexer.SpacedLexer.next.Goals as goal

pub returns-then-place-text : goal.returns-then-place-text
returns-then-place-text c =
    let a = c.self.inside in
    let none = sym c.self.view_is ∙ none_spaced a.text.now a.from a.place c.self.invariant.passed
    (cut-past a.text.now a.place (omega arith)) in
    record { next = (none, none) }
