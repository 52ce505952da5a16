use Rattle.std.proofs.Common.{drop}
use Rattle.editor_config.specs.Patterns.{IsAtEach, Test, parts_then}
use Rattle.editor_config.proofs.pattern.put_parts_before.Given as goal

-- done for the parts from here on
abbrev pub invariant-loop-place : goal.invariant-loop-place
invariant-loop-place l =
    (rest : Test) → IsAtEach rest l.path l.initial.fits → IsAtEach (parts_then (drop l.place l.parts) rest) l.path l.fits
