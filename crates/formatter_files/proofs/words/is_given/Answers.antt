use Rattle.std.proofs.Common.{◌≡◌, ◌∙◌, ap, refl, Bor, Option, Some, None, option_map}
use Rattle.std.specs.Prelude.{is_some}
use Rattle.clap.proofs.WalkLemmas.{first_value-rows}
use Rattle.clap.specs.Words.{Text, found_of}
use Rattle.formatter_files.proofs.words.is_given.Goals as goal

-- there is a value where there is a text
mapped : (got : Option (Bor Text)) → is_some got ≡ is_some (option_map (λ (s : Bor Text). s.now) got)
mapped None = refl
mapped (Some text) = refl

pub returns : goal.returns
returns c =
    c.is_some.ensures ∙ (mapped c.get_str.result
    ∙ ap is_some (c.get_str.ensures ∙ first_value-rows (found_of c.args.matches.now) c.args.name.now))
