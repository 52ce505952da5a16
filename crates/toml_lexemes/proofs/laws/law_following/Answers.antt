use Rattle.toml_lexemes.proofs.Following.{end_may_follow, line_feed_may_follow, blank_may_follow, first_byte_decides, words_are_ended}
use Rattle.toml_lexemes.proofs.Following.{comments_are_ended, signs_are_ended}
use Rattle.toml_lexemes.proofs.laws.law_following.Goals as goal

pub returns-clause-end : goal.returns-clause-end
returns-clause-end c = end_may_follow

pub returns-clause-line_feed : goal.returns-clause-line_feed
returns-clause-line_feed c = λ s x xs rest n h. line_feed_may_follow x xs s rest n h

pub returns-clause-blank : goal.returns-clause-blank
returns-clause-blank c = λ s x xs y ys n w q h. blank_may_follow x xs s y ys n w q h

pub returns-clause-first : goal.returns-clause-first
returns-clause-first c = λ s x xs ys n h. first_byte_decides x xs s ys n h

pub returns-clause-words : goal.returns-clause-words
returns-clause-words c = words_are_ended

pub returns-clause-comments : goal.returns-clause-comments
returns-clause-comments c = comments_are_ended

pub returns-clause-signs : goal.returns-clause-signs
returns-clause-signs c = signs_are_ended
