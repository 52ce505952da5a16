use Rattle.std.proofs.Common.{◌-◌, List, ℕ, take, drop, sym, subst}
use Rattle.json_lexemes.specs.SpacedLexer.{IsFirstGap}
use Rattle.json_lexemes.proofs.NextSpaced.{first_gap}
use Rattle.json_lexemes.proofs.spaced_lexer.SpacedLexer.gap.Goals as goal

pub returns : goal.returns
returns c =
    let a = c.self.inside in
    subst (λ (bytes : List ℕ). IsFirstGap c.args.self.now (take (a.place - a.from) (drop a.from bytes))) (sym c.as_bytes.ensures.value)
    (subst (λ ps. IsFirstGap ps (take (a.place - a.from) (drop a.from a.text.now))) c.self.view_is
    (first_gap a.text.now a.from a.place c.self.invariant.spaces))
