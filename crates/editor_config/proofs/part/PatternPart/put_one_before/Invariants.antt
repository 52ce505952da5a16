use Rattle.editor_config.specs.Patterns.{IsAtEach, Test, one_then, takes_character}
use Rattle.editor_config.proofs.Passing.{IsTurnedAt}
use Rattle.editor_config.proofs.part.PatternPart.put_one_before.Given as goal

-- done below this place
abbrev pub invariant-loop-place : goal.invariant-loop-place
invariant-loop-place l =
    (rest : Test) → IsAtEach rest l.path l.initial.fits → IsTurnedAt (one_then (takes_character l.self) rest) rest l.path l.place l.fits
