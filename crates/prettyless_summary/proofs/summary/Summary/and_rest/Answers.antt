use Rattle.std.proofs.Common.{Bool, ◌||◌, ap, ◌∙◌, sym}
use Rattle.std.proofs.lemmas.Bool.{not-false}
use Rattle.prettyless_model.specs.Look.{look_then}
use Rattle.prettyless_model.specs.declared.column.Column.{Column}
use Rattle.prettyless_summary.specs.Summary.{look_by, look_ink, look_out}
use Rattle.prettyless_summary.proofs.Chains.{continues}
use Rattle.prettyless_summary.proofs.summary.Summary.and_rest.Goals as goal

pub returns-clause-reads : goal.returns-clause-reads
returns-clause-reads c = λ width e p.
    let s = c.args.self in
    let n = c.args.next in
    continues s c.and_ink.result c.and_end-2.result _ _ c.and_ink.ensures.reads c.and_end-2.ensures.reads width e p
    ∙ ap (λ (b : Bool). look_then (look_by width s e p) (λ (f : Column) (q : Bool). look_then (look_ink width b n.inner n.trail f q)
    (λ (g : Column) (r : Bool). look_out width n.end g (n.has_suffix || r)))) (sym (not-false _ c.if-not-next.false))
