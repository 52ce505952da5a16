use Rattle.std.proofs.Common.{rules}
use Rattle.prettyless_text.proofs.multiline.MultilineTextData.as_str.Goals as goal

pub returns-in-Borrowed-text : goal.returns-in-Borrowed-text
returns-in-Borrowed-text c = search rules depth 1

pub returns-in-Borrowed-clause-value : goal.returns-in-Borrowed-clause-value
returns-in-Borrowed-clause-value c = search rules depth 1

pub returns-in-Borrowed-clause-broken : goal.returns-in-Borrowed-clause-broken
returns-in-Borrowed-clause-broken c = search rules depth 1
