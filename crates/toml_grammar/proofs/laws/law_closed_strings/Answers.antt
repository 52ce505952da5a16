use Rattle.std.proofs.Common.{get_or}
use Rattle.toml_lexemes.specs.Lexemes.{toml_lexemes_of}
use Rattle.toml_grammar.proofs.Allowed.{lexemes_allowed, sort_string, sort_comment}
use Rattle.toml_grammar.proofs.laws.law_closed_strings.Goals as goal

pub returns-clause-strings : goal.returns-clause-strings
returns-clause-strings c =
    λ text h k d lt quoted.
    let s = get_or (toml_lexemes_of text) k d in
    c.law_closed.ensures.strings s ((lexemes_allowed text h k d lt).if_string (sort_string s quoted))

pub returns-clause-comments : goal.returns-clause-comments
returns-clause-comments c =
    λ text h k d lt begins.
    let s = get_or (toml_lexemes_of text) k d in
    c.law_closed.ensures.comments s ((lexemes_allowed text h k d lt).if_comment (sort_comment s begins))
