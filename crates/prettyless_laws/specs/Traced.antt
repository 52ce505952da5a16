-- What holds of traces.
use Rattle.std.specs.Prelude.{◌≡◌}
use Rattle.prettyless_model.specs.declared.options.RenderOptions.{RenderOptions}
use Rattle.prettyless_model.specs.Tree.{Tree}
use Rattle.prettyless_model.specs.Layout.{layout}
use Rattle.prettyless_laws.specs.Trace.{trace, written_out}

-- of the options a trace depends on the width alone: not on how lines end, nor on when indents are written
abbrev pub TracesGoByWidth : Type 0
TracesGoByWidth = (o p : RenderOptions) (d : Tree) → o.width ≡ p.width → trace o d ≡ trace p d

-- a layout is its trace written out, and fails where the trace is partial
abbrev pub LayoutsAreTracesWrittenOut : Type 0
LayoutsAreTracesWrittenOut = (o : RenderOptions) (d : Tree) → layout o d ≡ written_out o (trace o d)
