-- What a render of a document leaves.
use Rattle.std.specs.Prelude.{◌≡◌, ◌+◌, ◌*◌, ◌-◌, ◌^◌, ◌≤◌, ℕ, false, List, Option, Result, min, IfOk, OnOk}
use Rattle.std.specs.Borrow.{GName}
use Rattle.prettyless_model.specs.Content.{AppendsContent, AppendsKnownContent, suffix_depth}
use Rattle.prettyless_model.specs.Counts.{laid_nodes, laid_probes}
use Rattle.prettyless_model.specs.Layout.{layout}
use Rattle.prettyless_model.specs.Tree.{Tree, size, probed}
use Rattle.prettyless_model.specs.declared.options.RenderOptions.{RenderOptions}
use Rattle.prettyless_printer.specs.CourseOf.{RenderCourse}
use Rattle.prettyless_printer.specs.Linear.{BoundedByTable, IsLinearBound, IsLinear}
use Rattle.prettyless_printer.specs.Suffixes.{IsLinearButSuffixes, most_visits, unions}
use Rattle.prettyless_printer.specs.ShiftPolicy.{probe_factor, probe_grace}
use Rattle.prettyless_printer.specs.Renders.{Rendered, RendersKnown}
use Rattle.prettyless_sink.specs.Sink.{IfKnown}
use Rattle.prettyless_sink.specs.declared.error.RenderError.{RenderError}
use Rattle.prettyless_sink.specs.declared.visits.Visits.{Visits}

-- A render of the tree d to a sink, and its result. The sink writes through `lender`, then through `lender_after`; its
-- bytes are `old`, then `new`, where they are known; its count of failures is n, then m. `fails` holds of the errors
-- that say that the document fails.
pub record RendersDoc {A E : Type 0} (o : RenderOptions) (d : Tree) (fails : E → Type 0) (lender lender_after : Option GName)
    (old new : Option (List ℕ)) (n m : ℕ) (result : Result A (RenderError E)) : Type 0 where
  -- The sink writes through the same reference as before, if it has one.
  pub same_lender : lender_after ≡ lender
  -- Known bytes stay known, and grow by bytes of the layout. `Ok`: the layout is whole, and by exactly its bytes.
  -- `Document`: the layout fails, by exactly the bytes before its failing node, and the error says that it fails.
  -- `Sink`: by a beginning of the layout's bytes, and the failures rose by one. `Memory`: by a beginning. Where the
  -- answer is not `Sink`, the failures stay.
  pub bytes : IfKnown old new (λ before after. Rendered fails (layout o d) before after n m result)
  -- `Ok`, where the bytes are known: what was appended has the document's content. Where the document spells a word,
  -- it is that word but for spaces, CR and LF: in order without line suffixes, else each byte as often. What it shows is
  -- there: each text whole, in order, with such gaps between them, and late ones at the end of their line.
  pub content : IfKnown old new (λ before after. IfOk result (λ _. AppendsContent d before after))

-- The same of a writer that is lent to the call: its bytes are `old`, then `new`, where they are known.
pub record RendersDocInto {A E : Type 0} (o : RenderOptions) (d : Tree) (fails : E → Type 0) (old new : Option (List ℕ))
    (result : Result A (RenderError E)) : Type 0 where
  -- Known bytes stay known, and grow by bytes of the layout. `Ok`: the layout is whole, and by exactly its bytes.
  -- `Document`: the layout fails, by exactly the bytes before its failing node, and the error says that it fails.
  -- `Sink` and `Memory`: by a beginning of the layout's bytes.
  pub bytes : RendersKnown fails (layout o d) old new result
  -- `Ok`, where the bytes are known: what was appended has the document's content.
  pub content : IfOk result (λ _. AppendsKnownContent d old new)

-- The visits of a render of the tree d, whose counts are v before and w after. So many tables were refused memory.
pub record CountsVisits {A E : Type 0} (o : RenderOptions) (d : Tree) (refused : ℕ) (v w : Visits) (result : Result A E) : Type 0 where
  -- No count falls.
  pub rise : (v.printer ≤ w.printer) × (v.probes ≤ w.probes)
  -- Without line suffixes the printer visits each node at most once, whatever the answer.
  pub printer : suffix_depth d ≡ 0 → w.printer ≤ v.printer + size d
  -- Without line suffixes each group and partial union starts one probe, which visits each node at most once.
  pub probes : suffix_depth d ≡ 0 → w.probes ≤ v.probes + size d * probed d
  -- Where a table bounds the probes of the document, and none was refused memory, probes visit at most sixteen nodes for
  -- each node, and a thousand, whatever the answer: so all visits are linear in the document.
  pub few : IsLinear d → refused ≡ 0 → IsLinearBound probe_factor probe_grace (size d) v w
  -- Without unions the printer visits each node once at most, and once more, for each line suffix, the break before which that
  -- is laid: fewer than two visits for each node, whatever the answer.
  pub with_suffixes : unions d ≡ 0 → w.printer ≤ v.printer + most_visits d
  -- Where a table bounds the probes of the document too, and none was refused memory, probes visit at most sixteen nodes for each
  -- of these visits of the printer, and a thousand, whatever the answer.
  pub few_with_suffixes : IsLinearButSuffixes d → refused ≡ 0 → IsLinearBound probe_factor probe_grace (most_visits d) v w
  -- `Ok`: the printer visits at least the nodes that the layout lays, up to the greatest count.
  pub laid : OnOk result (min (v.printer + laid_nodes o d) (2 ^ 64 - 1) ≤ w.printer)
  -- `Ok`: the probes visit at least one node for each probe that the layout needs, up to the greatest count.
  pub asked : OnOk result (min (v.probes + laid_probes o d) (2 ^ 64 - 1) ≤ w.probes)

-- The same of a render over a table of all nodes. It is so of the number of tables that were refused memory in this render.
pub record CountsVisitsOverTable {A E : Type 0} (o : RenderOptions) (d : Tree) (v w : Visits) (result : Result A (RenderError E))
    : Type 0 where
  -- So many tables were refused memory.
  pub refused : ℕ
  pub counts : CountsVisits o d refused v w result
  -- Where none was, probes visit at most two nodes for each node of a linear document of at most 1,048,576.
  pub twice : BoundedByTable d refused v w
  -- The count of probes is that of the course that the render takes from the document's first node on: it rose by exactly what all
  -- probes of the render read, up to the greatest count. After want of memory, the last probe counts at most what it reads.
  pub course : RenderCourse false o d (record { visits = v; refused = 0 }) (record { visits = w; refused = refused }) result
