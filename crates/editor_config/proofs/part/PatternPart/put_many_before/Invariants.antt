use Rattle.editor_config.specs.Patterns.{IsAtEach, Test, many_then, takes_character}
use Rattle.editor_config.proofs.Passing.{IsTurnedAt}
use Rattle.editor_config.proofs.part.PatternPart.put_many_before.Given as goal

-- done from this place on
abbrev pub invariant-loop-place : goal.invariant-loop-place
invariant-loop-place l =
    (rest : Test) → IsAtEach rest l.path l.initial.fits → IsTurnedAt rest (many_then (takes_character l.self) rest) l.path l.place l.fits
