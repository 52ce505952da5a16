-- The tree of a document, given the trees of its pointers.
use Rattle.std.specs.Prelude.{Bool, false}
use Rattle.prettyless_model.specs.Tree as t
use Rattle.prettyless_model.specs.Tree.{Tree}
use Rattle.prettyless_doc.specs.Payload as payload
use Rattle.prettyless_doc.specs.Payload.{payload_bytes}
use Rattle.prettyless_doc.specs.TextBytes.{bytes_of_text, is_owned}
use Rattle.prettyless_doc.specs.declared.doc.Doc.{Doc}
use Rattle.prettyless_doc.specs.declared.doc.Doc.TheVariants.{Nil, Fail, Text, TextWithLen, MultilineText, WeakSpace, HardLine, WeakLine}
use Rattle.prettyless_doc.specs.declared.doc.Doc.TheVariants.{Append, LineSuffix, Nest, DedentToRoot, Align, ExpandParent, Flatten}
use Rattle.prettyless_doc.specs.declared.doc.Doc.TheVariants.{BreakOrFlat, Group, Union, PartialUnion, OnColumn, OnNesting}
use Rattle.prettyless_doc.specs.declared.doc.BuildDoc.{BuildDoc}
use Rattle.prettyless_doc.specs.declared.doc.BuildDoc.TheVariants.{DocPtr as Placed, Doc as Plain}

-- the tree of a node
abbrev pub tree_of : {T : Type 0} → (T → Tree) → Doc T → Tree
tree_of tree Nil = t.Nil
tree_of tree Fail = t.Fail
tree_of tree (Text s) = t.Text (bytes_of_text s)
tree_of tree (TextWithLen w s) = t.TextWithLen w (bytes_of_text s)
tree_of tree (MultilineText p) = t.MultilineText (payload_bytes p)
tree_of tree WeakSpace = t.WeakSpace
tree_of tree HardLine = t.HardLine
tree_of tree WeakLine = t.WeakLine
tree_of tree (Append l r) = t.Append (tree l) (tree r)
tree_of tree (LineSuffix d) = t.LineSuffix (tree d)
tree_of tree (Nest k d) = t.Nest k (tree d)
tree_of tree (DedentToRoot d) = t.DedentToRoot (tree d)
tree_of tree (Align d) = t.Align (tree d)
tree_of tree ExpandParent = t.ExpandParent
tree_of tree (Flatten d) = t.Flatten (tree d)
tree_of tree (BreakOrFlat b f) = t.BreakOrFlat (tree b) (tree f)
tree_of tree (Group d) = t.Group (tree d)
tree_of tree (Union l r) = t.Union (tree l) (tree r)
tree_of tree (PartialUnion l r) = t.PartialUnion (tree l) (tree r)
tree_of tree (OnColumn test y n) = t.OnColumn test (tree y) (tree n)
tree_of tree (OnNesting test y n) = t.OnNesting test (tree y) (tree n)

-- the tree of a document in the making
abbrev pub built : {T : Type 0} → (T → Tree) → BuildDoc T → Tree
built tree (Placed p) = tree p
built tree (Plain d) = tree_of tree d

-- the node holds memory of its own, beside what its pointers lead to
abbrev pub holds_memory : {T : Type 0} → Doc T → Bool
holds_memory (Text s) = is_owned s
holds_memory (TextWithLen w s) = is_owned s
holds_memory (MultilineText p) = payload.is_owned_payload p
holds_memory _ = false
