use Rattle.std.proofs.Common.{◌≡◌, ◌+◌, List, [], ◌∷◌, cond, length, drop, Some, None, sym, ap, ◌∙◌, arith, rules}
use Rattle.text_lexemes.specs.Languages.{between}
use Rattle.toml_lexemes.specs.Lexemes.{cut_toml, toml}
use Rattle.toml_lexemes.specs.SpacedLexemes as spec
use Rattle.toml_lexemes.specs.SpacedLexer.{spaced_of}
use Rattle.toml_lexemes.specs.View.{toml_text_of}
use Rattle.text_lexemes.proofs.Firsts.{next_spaced, last_spaced, boundary_past, cut_past}
use Rattle.toml_lexemes.proofs.spaced.SpacedLexerIterator.next.Goals as goal

all : (c : goal.After-t9-1) → c.args.self.now ≡ spaced_of record { gap = c.range_from.result; lexeme = None } ∷ []
all c =
    let d = c.self.inside.text.now in
    let from = c.self.inside.place in
    let place = c.blanks_end-place.result in
    let same = c.as_bytes.ensures.value in
    let passed : cut_toml between (drop place d) ≡ cut_toml between (drop from d) = rw (← same) c.blanks_end-place.ensures.cut in
    let none : cut_toml between (drop from d) ≡ [] = sym passed ∙ cut_past toml d place (omega arith) in
    sym c.self.view_is ∙ ap (λ b. cond b [] (spec.toml_spaced_lexemes (drop from d))) c.if-self.false ∙ last_spaced toml (drop from d) none
    ∙ ap (λ g. spec.after_toml_gap g [] ∷ []) (sym c.range_from.ensures.value)

pub returns-then-place-text-clause-steps : goal.returns-then-place-text-clause-steps
returns-then-place-text-clause-steps c = (all c, tt)

pub returns-then-place-text-clause-goes : goal.returns-then-place-text-clause-goes
returns-then-place-text-clause-goes c = search (rules, all c) depth 1

pub lexeme_at-lexeme-requires-clause-boundary : goal.lexeme_at-lexeme-requires-clause-boundary
lexeme_at-lexeme-requires-clause-boundary c =
    let same = c.as_bytes.ensures.value in
    boundary_past c.self.inside.text.now c.self.inside.place c.blanks_end-place.result
    c.self.invariant.utf8 c.self.invariant.boundary c.blanks_end-place.ensures.bounds.0
    (rw (← same) c.blanks_end-place.ensures.bounds.1) (rw (← same) c.blanks_end-place.ensures.after)

pub range-requires-clause-end_boundary : goal.range-requires-clause-end_boundary
range-requires-clause-end_boundary c =
    let same = c.as_bytes.ensures.value in
    boundary_past c.self.inside.text.now c.self.inside.place c.blanks_end-place.result
    c.self.invariant.utf8 c.self.invariant.boundary c.blanks_end-place.ensures.bounds.0
    (rw (← same) c.blanks_end-place.ensures.bounds.1) (rw (← same) c.blanks_end-place.ensures.after)

pub returns-clause-steps : goal.returns-clause-steps
returns-clause-steps c =
    let d = c.self.inside.text.now in
    let from = c.self.inside.place in
    let place = c.blanks_end-place.result in
    let same = c.as_bytes.ensures.value in
    let s = toml_text_of c.lexeme_at-lexeme.result in
    let left : (t : List (spec.SpacedToml)) → cond c.self.inside.ended [] t ≡ t = λ t. ap (λ b. cond b [] t) c.if-self.false in
    let next = next_spaced toml d from place c.blanks_end-place.ensures.bounds.0 s (rw (← same) c.blanks_end-place.ensures.bounds.1)
    (rw (← same) c.blanks_end-place.ensures.blanks) (rw (← same) c.blanks_end-place.ensures.cut) c.lexeme_at-lexeme.ensures.first in (
      sym c.self.view_is ∙ left _ ∙ next
          ∙ ap (λ g. spec.after_toml_gap g s ∷ spec.toml_spaced_lexemes (drop (place + length s) d)) (sym c.range.ensures.value)
          ∙ ap (λ k. spaced_of record { gap = c.range.result; lexeme = Some c.lexeme_at-lexeme.result }
          ∷ spec.toml_spaced_lexemes (drop (place + length k) d))
          (sym c.text.ensures)
          ∙ ap (λ t. spaced_of record { gap = c.range.result; lexeme = Some c.lexeme_at-lexeme.result } ∷ t) (sym (left _)),
      c.lexeme_at-lexeme.ensures.named,
    )
