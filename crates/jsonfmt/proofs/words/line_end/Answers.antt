use Rattle.std.proofs.Common.{ap, ◌∙◌, sym, codes, option_map}
use Rattle.clap.proofs.WalkLemmas.{first_value-rows}
use Rattle.clap.specs.Words.{found_of}
use Rattle.jsonfmt.specs.Words.{line_end_asked}
use Rattle.jsonfmt.proofs.words.line_end.Goals as goal

pub returns-in-Some : goal.returns-in-Some
returns-in-Some c =
    let found = c.get_str.ensures ∙ first_value-rows (found_of c.args.matches.now) (codes "line-ending") in
    let word = ap (option_map (λ s. s.now)) (sym c.in-Some.is) ∙ found in
    c.line_end_named.ensures ∙ ap line_end_asked word

pub returns-in-None : goal.returns-in-None
returns-in-None c =
    let found = c.get_str.ensures ∙ first_value-rows (found_of c.args.matches.now) (codes "line-ending") in
    let word = ap (option_map (λ s. s.now)) (sym c.in-None.is) ∙ found in
    ap line_end_asked word
