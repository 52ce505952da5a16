use Rattle.prettyless_doc.proofs.Rendered.{counts_visits, renders_doc}
use Rattle.prettyless_doc.proofs.doc.Doc.render_raw_counted_with.Goals as goal

pub returns-clause-rendered : goal.returns-clause-rendered
returns-clause-rendered g c = renders_doc c.render_over_table-result.ensures.renders

pub returns-clause-counts : goal.returns-clause-counts
returns-clause-counts g c = record {
  refused = c.render_over_table-result.new.cost.refused;
  counts = counts_visits c.render_over_table-result.ensures.renders;
  twice = c.render_over_table-result.ensures.twice;
  course = c.render_over_table-result.ensures.course;
}
