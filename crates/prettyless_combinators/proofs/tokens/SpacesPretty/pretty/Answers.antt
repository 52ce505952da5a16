use Rattle.prettyless_combinators.proofs.tokens.SpacesPretty.pretty.Goals as goal

pub returns-clause-ok : goal.returns-clause-ok
returns-clause-ok g c = c.spaces.ensures.ok

pub returns-clause-err : goal.returns-clause-err
returns-clause-err g c = c.spaces.ensures.err
