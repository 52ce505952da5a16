use Rattle.std.proofs.Common.{◌≡◌, [], drop, sym, ◌∙◌, arith, rules}
use Rattle.text_lexemes.specs.Languages.{between}
use Rattle.toml_lexemes.specs.Lexemes.{cut_toml, toml}
use Rattle.text_lexemes.proofs.Firsts.{boundary_past, cut_past}
use Rattle.toml_lexemes.proofs.lexer.LexerIterator.next.Goals as goal

pub returns-then-place-text-clause-steps : goal.returns-then-place-text-clause-steps
returns-then-place-text-clause-steps c =
    let d = c.self.inside.text.now in
    let place = c.blanks_end-place.result in
    let none : cut_toml between (drop place d) ≡ [] = cut_past toml d place (omega arith) in
    let passed : cut_toml between (drop place d) ≡ cut_toml between (drop c.self.inside.place d) = rw
    (← c.as_bytes.ensures.value) c.blanks_end-place.ensures.cut in
    (sym c.self.view_is ∙ sym passed ∙ none, none)

pub lexeme_at-lexeme-requires-clause-boundary : goal.lexeme_at-lexeme-requires-clause-boundary
lexeme_at-lexeme-requires-clause-boundary c =
    let same = c.as_bytes.ensures.value in
    boundary_past c.self.inside.text.now c.self.inside.place c.blanks_end-place.result
    c.self.invariant.utf8 c.self.invariant.boundary c.blanks_end-place.ensures.bounds.0
    (rw (← same) c.blanks_end-place.ensures.bounds.1) (rw (← same) c.blanks_end-place.ensures.after)

pub returns-clause-steps : goal.returns-clause-steps
returns-clause-steps c = search rules depth 1

pub returns-clause-goes : goal.returns-clause-goes
returns-clause-goes c = search rules depth 1
