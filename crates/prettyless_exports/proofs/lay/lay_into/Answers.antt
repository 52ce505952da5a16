use Rattle.std.proofs.Common.{◌≡◌, subst, sym, rules}
use Rattle.prettyless_exports.specs.declared.area.Full.TheVariants.{Document}
use Rattle.prettyless_doc.specs.DocTree.{tree_of}
use Rattle.prettyless_exports.specs.Laid.{LaysInto}
use Rattle.prettyless_exports.proofs.Lays.{lays_into}
use Rattle.prettyless_exports.proofs.lay.lay_into.Goals as goal

pub returns : goal.returns
returns g c =
    let new = c.new-area.ensures in
    let rendered = c.render_raw_with-answer.ensures in
    let area = c.render_raw_with-answer.new.out in
    let tree = tree_of g.T.DocPtr.tree c.args.document.now in
    let answer = c.render_raw_with-answer.result in
    rw c.count.ensures
    (subst (λ x. LaysInto c.args.options tree c.args.limit c.args.out.now x area.count answer) (sym (search rules))
    (lays_into (λ e. e ≡ Document) c.args.options tree area c.args.limit c.args.out.now answer
    (rw (new.limit, new.before, new.given, new.failures) at rendered.bytes)
    (rw (new.limit, new.before, new.given) at rendered.content)))
