use Rattle.std.proofs.Common.{◌≡◌, map, take}
use Rattle.prettyless.specs.Trees.{box_tree}
use Rattle.example_formatters.specs.Values.{value_document}
use Rattle.example_formatters.proofs.values.+document.Given as goal

-- a document for each value so far, in order
abbrev pub invariant-loop-value : goal.invariant-loop-value
invariant-loop-value l = map box_tree l.docs.items ≡ map value_document (take l.value-index l.value-items)
