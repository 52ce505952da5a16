use Rattle.std.proofs.Common.{◌≡◌, subst, sym, ◌∙◌, ap, true, Bool, ◌∷◌, pos}
use Rattle.prettyless_trees.specs.Built.{append, group, nest}
use Rattle.prettyless_trees.specs.Counted.{text}
use Rattle.prettyless_pointers.specs.Trees.{ref_tree}
use Rattle.toml_lexemes.specs.View.{toml_text_of}
use Rattle.toml_documents.specs.Documents.{closed_end, indent_in, separated}
use Rattle.toml_formatter.specs.Drafts.{line_end}
use Rattle.toml_documents.specs.Gaps.{gap_before_close}
use Rattle.toml_documents.specs.declared.kind.Kind.{Kind}
use Rattle.toml_formatter.specs.Lines.{ShowsTaken, IsClosed}
use Rattle.toml_formatter.proofs.Values.{closing_role, closing_shows, list_closed, MakesList, opening_shows, ShowsClosing, ShowsOpening}
use Rattle.toml_formatter.proofs.list.closed.Goals as goal

pub returns-clause-made : goal.returns-clause-made
returns-clause-made c = λ left taken sound h.
    let x = toml_text_of c.args.close in
    let line = c.in_ok-line.line in
    let closed : IsClosed true line x taken =
    subst (λ (n : Bool). IsClosed n line x taken) c.requires.kind
    (c.in_ok-line.ensures.closed x left taken (closing_role c.args.close c.requires.closes)
    (subst (λ (n : Bool). ShowsTaken n true c.args.line (x ∷ left) taken) (sym c.requires.kind) h)) in
    let o = ref_tree c.in_ok-text.field-0 in
    let opener : ShowsOpening c.args.bracket o = record {
      opens = c.requires.opens;
      shown =
          opening_shows c.args.bracket o c.text.result.now c.requires.opens c.text.ensures c.in_ok-text.ensures.items;
    } in
    let close = ref_tree c.in_ok-text-2.field-0 in
    let closer : ShowsClosing c.args.close left close = record {
      closes = c.requires.closes;
      sound = sound;
      shown =
          closing_shows c.args.close close c.text-3.result.now c.requires.closes c.text-3.ensures
          c.in_ok-text-2.ensures.items;
    } in
    let whole = ref_tree c.in_ok-grouped.field-0 in
    let list : MakesList o (ref_tree line.doc) c.before_close-gap.result close whole = record {
      front = ref_tree c.in_ok-inner.inner;
      nested = ref_tree c.in_ok-nested.nested;
      all = ref_tree c.in_ok-doc.doc;
      front_shows = c.in_ok-inner.ensures.items;
      nested_shows = c.in_ok-nested.ensures.items;
      all_shows = c.in_ok-doc.ensures.items;
      whole_shows = c.in_ok-grouped.ensures.items;
    } in
    list_closed opener closer list c.before_close-gap.ensures.suits.enough closed

pub returns-clause-tree : goal.returns-clause-tree
returns-clause-tree c = λ lv kinds opening h.
    let style = c.args.setting.now.style in
    let line = c.in_ok-line.line in
    let end : line_end line ≡ closed_end lv = c.in_ok-line.ensures.end lv kinds h in
    let gap : c.before_close-gap.result ≡ gap_before_close lv.kind (closed_end lv).last =
    c.before_close-gap.ensures.gap ∙ (λ i. gap_before_close (sym kinds i) ((end i).last)) in
    let columns : c.indent_in.result ≡ indent_in style lv.kind = c.indent_in.ensures ∙ ap (λ (k : Kind). indent_in style k) (sym kinds) in
    let opener : ref_tree c.in_ok-text.field-0 ≡ text lv.opening = c.in_ok-text.ensures.ok ∙ ap text (c.text.ensures ∙ sym opening) in
    let inner : ref_tree c.in_ok-inner.inner ≡ append (text lv.opening) (closed_end lv).tree =
    c.in_ok-inner.ensures.ok ∙ (λ i. append (opener i) ((end i).tree)) in
    let nested : ref_tree c.in_ok-nested.nested ≡ nest (pos (indent_in style lv.kind)) (append (text lv.opening) (closed_end lv).tree) =
    c.in_ok-nested.ensures.ok ∙ (λ i. nest (pos (columns i)) (inner i)) in
    let close = c.in_ok-text-2.ensures.ok ∙ ap text c.text-3.ensures in
    c.in_ok-grouped.ensures.ok ∙ ap group (c.in_ok-doc.ensures.ok ∙ (λ i. separated (gap i) (nested i) (close i)))
