-- A text that is laid out is TOML by the grammar.
use Rattle.std.proofs.Common.{◌≡◌, refl, sym, ◌∙◌, ℕ, true, List, Option, Some, None}
use Rattle.std.specs.Option.{is_some}
use Rattle.toml_syntax.specs.Tree.{Statement}
use Rattle.toml_syntax.specs.Settled.{Style}
use Rattle.toml_syntax.specs.Formatted.{parsed, laid_out_if}
use Rattle.toml_syntax.specs.Laws.{FormattedAreToml}
use Rattle.toml_syntax.proofs.FormattedAgain.{formatted_stay}
use Rattle.toml_syntax.proofs.SameTexts.{parsed_are_toml}

some_laid : (s : Style) (r : Option (List Statement)) (out : List ℕ) → laid_out_if s r ≡ Some out → is_some r ≡ true
some_laid s None out h = absurd (cc)
some_laid s (Some ss) out h = refl

pub formatted_are_toml : FormattedAreToml
formatted_are_toml s style text out h =
    sym (parsed_are_toml out) ∙ some_laid s (parsed out) out (formatted_stay s style text out h)
