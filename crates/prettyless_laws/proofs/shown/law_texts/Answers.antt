use Rattle.std.proofs.Common.{[]}
use Rattle.prettyless_model.specs.Shows.{at_start}
use Rattle.prettyless_model.proofs.Implied.{implied_from}
use Rattle.prettyless_model.proofs.Showing.{layout_shows}
use Rattle.prettyless_model.proofs.SpacedTexts.{layout_texts}
use Rattle.prettyless_laws.proofs.shown.law_texts.Goals as goal

pub returns-clause-shown : goal.returns-clause-shown
returns-clause-shown c = layout_shows

pub returns-clause-texts : goal.returns-clause-texts
returns-clause-texts c = layout_texts

pub returns-clause-implied : goal.returns-clause-implied
returns-clause-implied c = λ b xs ys. implied_from at_start [] b xs ys
