-- Texts laid out.
use Rattle.std.specs.Prelude.{ℕ, List, map, Option, Some, None}
use Rattle.toml_lexemes.specs.SpacedLexemes.{toml_spaced_lexemes, toml_put_together}
use Rattle.toml_syntax.specs.TypedLexemes.{TypedAfterGap, typed_spaced, spaced_bytes}
use Rattle.toml_syntax.specs.Tree.{Statement}
use Rattle.toml_syntax.specs.Reading.{read_statements}
use Rattle.toml_syntax.specs.Spelled.{spelled_statements}
use Rattle.toml_syntax.specs.Settled.{Style, settled_statements}

-- the lexemes of a text by their sorts, with their gaps
abbrev pub typed_lexemes_in : List ℕ → List TypedAfterGap
typed_lexemes_in text = map typed_spaced (toml_spaced_lexemes text)

-- the bytes of lexemes and gaps
abbrev pub lexemes_text : List TypedAfterGap → List ℕ
lexemes_text ps = toml_put_together (map spaced_bytes ps)

-- the statements of a text; None where it is not TOML
abbrev pub parsed : List ℕ → Option (List Statement)
parsed text = read_statements (typed_lexemes_in text)

-- a text of these statements in a style
abbrev pub laid_out : Style → List Statement → List ℕ
laid_out s ss = lexemes_text (spelled_statements (settled_statements s ss))

abbrev pub laid_out_if : Style → Option (List Statement) → Option (List ℕ)
laid_out_if s None = None
laid_out_if s (Some ss) = Some (laid_out s ss)

-- a text laid out; None where it is not TOML
abbrev pub formatted : Style → List ℕ → Option (List ℕ)
formatted s text = laid_out_if s (parsed text)
