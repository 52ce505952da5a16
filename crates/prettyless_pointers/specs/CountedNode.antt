-- A document whose owners are counted.
use Rattle.prettyless_pointers.specs.Children.{children_of}
use Rattle.prettyless_pointers.specs.declared.children.Children.{Children}
use Rattle.prettyless_pointers.specs.declared.rc.RcDoc.{RcDoc, out-RcDoc}
use Rattle.prettyless_pointers.specs.declared.rc.RcNode.{out-RcNode}

-- the pointers of its node
abbrev pub rc_children : RcDoc → Children RcDoc
rc_children p = children_of (out-RcNode (out-RcDoc p).0.value).0
