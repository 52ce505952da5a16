-- Whole layouts have the content of their documents.
use Rattle.std.proofs.Common.{◌≡◌, List, ℕ}
use Rattle.prettyless_model.specs.declared.options.RenderOptions.{RenderOptions}
use Rattle.prettyless_model.specs.Tree.{Tree}
use Rattle.prettyless_model.specs.Layout.{layout, Whole}
use Rattle.prettyless_model.specs.Content.{HasContent}
use Rattle.prettyless_model.proofs.ContentCounted.{content_counted}
use Rattle.prettyless_model.proofs.ContentMerged.{content_in_order, content_merged}
use Rattle.prettyless_model.proofs.Showing.{layout_shows}

pub content_of : (o : RenderOptions) (d : Tree) (b : List ℕ) → layout o d ≡ Whole b → HasContent d b
content_of o d b e = record {
  in_order = λ w s n. content_in_order o d w b s n e;
  counted = λ w s. content_counted o d w b s e;
  merged = λ v u s n. content_merged o d v u b s n e;
  shown = λ items h. layout_shows o d b items h e;
}
