use Rattle.std.proofs.Common.{◌+◌, ◌≤◌, length, sym, ◌∙◌, subst, ap}
use Rattle.toml_lexemes.specs.Bytes.{head}
use Rattle.text_lexemes.specs.FirstLexemes.{IsFirstLexeme}
use Rattle.toml_lexemes.specs.Lexemes.{toml}
use Rattle.toml_lexemes.specs.Modes.{inner_of}
use Rattle.text_lexemes.proofs.Firsts.{boundary_at, first_slice, slice_is}
use Rattle.toml_lexemes.proofs.cut.slice_at.Goals as goal

pub range-requires-clause-end_boundary : goal.range-requires-clause-end_boundary
range-requires-clause-end_boundary c =
    let same = c.as_bytes.ensures.value in
    boundary_at c.args.text.now (c.args.place + 1) c.lexeme_end.result c.utf8.text (rw (← same) c.lexeme_end.ensures.bounds.1)
    (rw (← same) c.lexeme_end.ensures.ended)

pub returns-clause-first : goal.returns-clause-first
returns-clause-first c =
    let d = c.args.text.now in
    let end = c.lexeme_end.result in
    let same = c.as_bytes.ensures.value in
    let within : end ≤ length d = rw (← same) c.lexeme_end.ensures.bounds.1 in
    let boundary = boundary_at d (c.args.place + 1) end c.utf8.text within (rw (← same) c.lexeme_end.ensures.ended) in
    subst (IsFirstLexeme toml d c.args.place) (sym c.range.ensures.value)
    (first_slice toml d c.args.place c.requires.within end c.lexeme_end.ensures.bounds.0 within (inner_of c.args.begun) c.requires.blank c.requires.begins
    (rw (← same) c.lexeme_end.ensures.cut) boundary)

pub returns-clause-head : goal.returns-clause-head
returns-clause-head c =
    let d = c.args.text.now in
    let end = c.lexeme_end.result in
    let same = c.as_bytes.ensures.value in
    let within : end ≤ length d = rw (← same) c.lexeme_end.ensures.bounds.1 in
    ap head c.range.ensures.value ∙ ap head (slice_is d c.args.place c.requires.within end c.lexeme_end.ensures.bounds.0 within)
