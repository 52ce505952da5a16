-- The causes for which a document was not built.
use Rattle.prettyless_text.specs.declared.text.BuildError.{BuildError}
use Rattle.prettyless_text.specs.declared.text.BuildError.TheVariants.{Memory, Display}

-- no memory was had
abbrev pub IsMemory : BuildError → Type 0
IsMemory (Memory e) = Unit {0}
IsMemory Display = ⊥
