use Rattle.std.proofs.Common.{◌<◌, ℕ, List, length, get_or, sym, ◌∙◌, subst, ap, arith}
use Rattle.json_lexemes.specs.SpacedLexer.{IsFirstByte}
use Rattle.json_lexemes.proofs.Firsts.{cut-past}
use Rattle.json_lexemes.proofs.NextSpaced.{first_byte}
use Rattle.json_lexemes.proofs.SpacedLexemes.{none_spaced}
use Rattle.json_lexemes.proofs.spaced_lexer.SpacedLexer.first_byte.Goals as goal

pub returns-then-self-bytes : goal.returns-then-self-bytes
returns-then-self-bytes c =
    let a = c.self.inside in
    let i = c.self.invariant in
    let same = c.as_bytes-bytes.ensures.value in
    let lt : a.place < length a.text.now = omega (arith, ap length same, c.if-self-bytes.true) in
    subst (λ (bytes : List ℕ). IsFirstByte c.args.self.now (get_or bytes a.place 0)) (sym same)
    (subst (λ ps. IsFirstByte ps (get_or a.text.now a.place 0)) c.self.view_is
    (first_byte a.text.now a.from a.place lt i.passed (i.stops lt)))

pub returns-else-self-bytes : goal.returns-else-self-bytes
returns-else-self-bytes c =
    let a = c.self.inside in
    let i = c.self.invariant in
    sym c.self.view_is
    ∙ none_spaced a.text.now a.from a.place i.passed
    (cut-past a.text.now a.place (omega (arith, ap length c.as_bytes-bytes.ensures.value, c.if-self-bytes.false)))
