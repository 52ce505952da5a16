use Rattle.std.proofs.Common.{◌≡◌, drop}
use Rattle.editor_config.specs.Said.{said_by_files}
use Rattle.editor_config.proofs.config.settings_of.Given as goal

-- what the files from here on say
abbrev pub invariant-loop-place : goal.invariant-loop-place
invariant-loop-place l = l.settings ≡ said_by_files l.path (drop l.place l.configs)
