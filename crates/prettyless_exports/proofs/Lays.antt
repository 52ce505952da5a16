-- What a render into a new area leaves.
use Rattle.std.proofs.Common.{◌≡◌, refl, ℕ, List, [], ap, sym, ◌∙◌, subst, arith, Some, Result, Ok, Err, IfOk, OnOk}
use Rattle.std.proofs.lemmas.List.{append_cancel_left}
use Rattle.prettyless_exports.specs.Account.{account}
use Rattle.prettyless_exports.specs.declared.area.Area.{Area}
use Rattle.prettyless_exports.proofs.Areas.{account_of, puts_all, puts_to_limit}
use Rattle.prettyless_exports.proofs.Limits.{limit_of_all, limit_of_some}
use Rattle.prettyless_exports.specs.Overlay.{KeepsLimit}
use Rattle.prettyless_model.specs.Content.{AppendsContent, HasContent}
use Rattle.prettyless_model.specs.Layout.{Bytes, bytes_in, layout}
use Rattle.prettyless_model.specs.Tree.{Tree}
use Rattle.prettyless_model.specs.declared.options.RenderOptions.{RenderOptions}
use Rattle.prettyless_printer.specs.Renders.{Rendered}
use Rattle.prettyless_sink.specs.Sink.{IfKnown}
use Rattle.prettyless_sink.specs.declared.error.RenderError.{RenderError}
use Rattle.prettyless_sink.specs.declared.error.RenderError.TheVariants.{Document, Sink, Memory}
use Rattle.prettyless_exports.specs.Laid.{Laid, LaysInto}

-- what was rendered to a new area is laid into it
laid : {A E : Type 0} (fails : E → Type 0) (y : Bytes) (area : Area) (limit : ℕ) (old : List ℕ) (r : Result A (RenderError E))
    → Rendered fails y (account limit old []) (account_of area) 0 area.failures r → Laid y limit old area.out.now area.count r
laid fails y area limit old (Ok r) p = (p.0, p.1, puts_all area limit old p.0 p.2 p.3)
laid fails y area limit old (Err (Document e)) p = (p.0, p.1, puts_all area limit old p.0 p.2 p.3)
laid fails y area limit old (Err (Sink e)) p = puts_to_limit area limit old (bytes_in y) p.0 (omega (arith, p.1))
laid fails y area limit old (Err (Memory e)) p = (p.0.0, p.0.1, p.0.2, puts_all area limit old p.0.0 p.0.3 p.1)

-- what is laid stays within the limit
limited : {A E : Type 0} (y : Bytes) (limit : ℕ) (old new : List ℕ) (count : ℕ) (r : Result A (RenderError E))
    → Laid y limit old new count r → KeepsLimit limit old new count
limited y limit old new count (Ok r) p = limit_of_all limit p.0 old new count p.2
limited y limit old new count (Err (Document e)) p = limit_of_all limit p.0 old new count p.2
limited y limit old new count (Err (Sink e)) p = limit_of_some limit (bytes_in y) old new count p
limited y limit old new count (Err (Memory e)) p = limit_of_all limit p.0 old new count p.3

-- a whole layout has the content that was appended
with_content : {A E : Type 0} (fails : E → Type 0) (o : RenderOptions) (d : Tree) (old new : List ℕ) (n m : ℕ)
    (r : Result A (RenderError E))
    → Rendered fails (layout o d) old new n m r → IfOk r (λ _. AppendsContent d old new) → OnOk r (HasContent d (bytes_in (layout o d)))
with_content fails o d old new n m (Ok r) p q =
    let same : q.0 ≡ bytes_in (layout o d) = append_cancel_left old q.0 p.0 (sym q.1 ∙ p.2) ∙ sym (ap bytes_in p.1) in
    subst (λ (b : List ℕ). HasContent d b) same q.2
with_content fails o d old new n m (Err e) p q = tt

-- a document that was rendered to a new area is laid into it
pub lays_into : {A E : Type 0} (fails : E → Type 0) (o : RenderOptions) (d : Tree) (area : Area) (limit : ℕ) (old : List ℕ)
    (r : Result A (RenderError E))
    → IfKnown (Some (account limit old [])) (Some (account_of area))
    (λ before after. Rendered fails (layout o d) before after 0 area.failures r)
    → IfKnown (Some (account limit old [])) (Some (account_of area)) (λ before after. IfOk r (λ _. AppendsContent d before after))
    → LaysInto o d limit old area.out.now area.count r
lays_into fails o d area limit old r rendered content =
    let p = (rendered refl).1 in
    let put = laid fails (layout o d) area limit old r p in
    record {
      bytes = put;
      limited = limited (layout o d) limit old area.out.now area.count r put;
      content = with_content fails o d (account limit old []) (account_of area) 0 area.failures r p (content refl).1;
    }
