use Rattle.std.proofs.Common.{ap, ◌∙◌, sym, subst, refl, codes, false, Option, option_map}
use Rattle.std.specs.Prelude.{MatchOption}
use Rattle.clap.proofs.WalkLemmas.{first_value-rows}
use Rattle.clap.specs.Words.{Text, found_of}
use Rattle.jsonfmt.specs.Words.{AsksIndent, AsksNoIndent}
use Rattle.jsonfmt.proofs.words.indent.Goals as goal

pub returns-in-Some : goal.returns-in-Some
returns-in-Some c =
    let found = c.get_str.ensures ∙ first_value-rows (found_of c.args.matches.now) (codes "indent") in
    let word = ap (option_map (λ s. s.now)) (sym c.in-Some.is) ∙ found in
    subst (λ (o : Option Text). MatchOption c.indent_named.result (AsksNoIndent o) (λ indent. AsksIndent o indent.columns indent.tabs)) word
    c.indent_named.ensures

pub returns-in-None : goal.returns-in-None
returns-in-None c =
    let found = c.get_str.ensures ∙ first_value-rows (found_of c.args.matches.now) (codes "indent") in
    let word = ap (option_map (λ s. s.now)) (sym c.in-None.is) ∙ found in
    subst (λ (o : Option Text). AsksIndent o 2 false) word (refl, refl)
