use Rattle.std.proofs.Common.{◌≡◌, ◌+◌, length, take}
use Rattle.editor_config.specs.Patterns.{IsAtEach, Test, choice_then}
use Rattle.editor_config.proofs.pattern.before_choice.Given as goal

-- done for the alternatives so far
abbrev pub invariant-loop-parts : goal.invariant-loop-parts
invariant-loop-parts l =
    (length l.before.items ≡ length l.path + 1)
    × ((rest : Test) → IsAtEach rest l.path l.fits
    → IsAtEach (choice_then (take l.parts-index l.alternatives) rest) l.path l.before.items)
