use Rattle.prettyless_doc.proofs.Rendered.{counts_visits, renders_doc}
use Rattle.prettyless_doc.proofs.doc.Doc.render_raw_observed_with.Goals as goal

pub returns-clause-rendered : goal.returns-clause-rendered
returns-clause-rendered g c = renders_doc c.render.ensures.renders

pub returns-clause-counts : goal.returns-clause-counts
returns-clause-counts g c = counts_visits c.render.ensures.renders

pub returns-clause-refused : goal.returns-clause-refused
returns-clause-refused g c = c.render.ensures.renders.refused
