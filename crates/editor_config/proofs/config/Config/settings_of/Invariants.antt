use Rattle.std.proofs.Common.{◌≡◌, drop}
use Rattle.editor_config.specs.Said.{said_by_sections}
use Rattle.editor_config.proofs.config.Config.settings_of.Given as goal

-- what the sections from here on say
abbrev pub invariant-loop-place : goal.invariant-loop-place
invariant-loop-place l = l.settings ≡ said_by_sections l.path (drop l.place l.self.sections.items)
