use Rattle.toml_grammar.proofs.Closed.{key_strings_are_strings, strings_are_closed}
use Rattle.toml_grammar.proofs.Comments.{comments_hold_no_return, comments_end_with_no_return}
use Rattle.toml_grammar.proofs.laws.law_closed.Goals as goal

pub returns-clause-strings : goal.returns-clause-strings
returns-clause-strings c = strings_are_closed

pub returns-clause-comments : goal.returns-clause-comments
returns-clause-comments c = comments_hold_no_return

pub returns-clause-ends : goal.returns-clause-ends
returns-clause-ends c = comments_end_with_no_return

pub returns-clause-key_strings : goal.returns-clause-key_strings
returns-clause-key_strings c = key_strings_are_strings
