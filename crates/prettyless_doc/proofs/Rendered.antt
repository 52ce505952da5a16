-- What the printer says of a render, as the render calls of documents say it.
use Rattle.std.proofs.Common.{Result}
use Rattle.std.proofs.lemmas.Result.{on_ok_weaker}
use Rattle.prettyless_model.specs.Tree.{Tree}
use Rattle.prettyless_model.specs.declared.options.RenderOptions.{RenderOptions}
use Rattle.prettyless_sink.specs.declared.error.RenderError.{RenderError}
use Rattle.prettyless_sink.specs.declared.visits.RenderCost.{RenderCost}
use Rattle.prettyless_printer.specs.Points.{Seen}
use Rattle.prettyless_printer.specs.Renders.{Renders}
use Rattle.prettyless_printer.proofs.Contents.{rendered_content}
use Rattle.prettyless_doc.specs.Rendering.{CountsVisits, RendersDoc}

module _ {A E : Type 0} {fails : E → Type 0} {o : RenderOptions} {d : Tree} {s t : Seen} {v w : RenderCost} {r : Result A (RenderError E)}
    (h : Renders fails o d s t v w r) where
  -- what was appended
  pub renders_doc : RendersDoc o d fails s.lender t.lender s.bytes t.bytes s.failures t.failures r
  renders_doc = record {
    same_lender = h.same_lender;
    bytes = h.bytes;
    content = λ is_known.
        let rendered = h.bytes is_known in
        (rendered.0, rendered_content _ _ _ _ _ _ _ _ rendered.1);
  }

  -- what was counted
  pub counts_visits : CountsVisits o d w.refused v.visits w.visits r
  counts_visits = record {
    rise = (h.rise.printer, h.rise.probes);
    printer = h.visited.printer;
    probes = h.visited.probes;
    few = h.few;
    with_suffixes = h.with_suffixes;
    few_with_suffixes = h.few_with_suffixes;
    laid = on_ok_weaker r (λ counted. counted.printer) h.at_least;
    asked = on_ok_weaker r (λ counted. counted.probes) h.at_least;
  }
