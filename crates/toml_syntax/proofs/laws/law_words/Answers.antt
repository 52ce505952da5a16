use Rattle.toml_syntax.proofs.FormattedKept.{formatted_keep_lexemes}
use Rattle.toml_syntax.proofs.ReadKept.{read_keep_lexemes, parsed_keep_lexemes}
use Rattle.toml_syntax.proofs.laws.law_words.Goals as goal

pub returns-clause-read : goal.returns-clause-read
returns-clause-read c = read_keep_lexemes

pub returns-clause-parsed : goal.returns-clause-parsed
returns-clause-parsed c = parsed_keep_lexemes

pub returns-clause-formatted : goal.returns-clause-formatted
returns-clause-formatted c = formatted_keep_lexemes
