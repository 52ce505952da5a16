use Rattle.std.proofs.Common.{ap, ◌∙◌, sym, codes, Bool, false, Option, List, ℕ, option_map}
use Rattle.std.specs.Option.{option_map_or}
use Rattle.std.specs.Str.{bytes_eq}
use Rattle.clap.proofs.WalkLemmas.{first_value-rows}
use Rattle.clap.specs.Words.{found_of}
use Rattle.formatter_files.proofs.words.has_flag.Goals as goal

-- whether a text is the word of a flag that is given
abbrev is_given : Option (List ℕ) → Bool
is_given text = option_map_or (λ value. bytes_eq value (codes "true")) text false

pub returns-in-Some : goal.returns-in-Some
returns-in-Some c =
    let found = c.get_str.ensures ∙ first_value-rows (found_of c.args.matches.now) c.args.name.now in
    let text = ap (option_map (λ s. s.now)) (sym c.in-Some.is) ∙ found in
    c.eq.ensures ∙ ap is_given text

pub returns-in-None : goal.returns-in-None
returns-in-None c =
    let found = c.get_str.ensures ∙ first_value-rows (found_of c.args.matches.now) c.args.name.now in
    let text = ap (option_map (λ s. s.now)) (sym c.in-None.is) ∙ found in
    ap is_given text
