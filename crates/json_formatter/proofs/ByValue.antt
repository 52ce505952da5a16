-- A text is laid out by the value that its pieces spell.
use Rattle.std.proofs.Common.{◌≡◌, refl, sym, ◌∙◌, ap, ℕ, suc, ◌+◌, ◌≤◌, false, List, [], ◌∷◌, append-nil, arith}
use Rattle.std.specs.List.{fold}
use Rattle.json_validity.specs.Document.{max_depth}
use Rattle.prettyless_model.specs.declared.mode.Mode.TheVariants.{Break}
use Rattle.prettyless_model.specs.Layout.{Whole, bytes_in, breaks, initial, lay, layout}
use Rattle.prettyless_model.specs.Options.{options_at}
use Rattle.prettyless_model.specs.Tree.{size, Tree, Nil}
use Rattle.prettyless_laws.proofs.LineEnds.{layout_ends}
use Rattle.prettyless_trees.specs.Built.{append}
use Rattle.json_formatter.specs.declared.style.Style.{Style}
use Rattle.json_formatter.specs.BlankLines.{with_kept_lines}
use Rattle.json_formatter.specs.ByValue.{LayoutsGoByValues, TextsAreLaidByValues, laid_value}
use Rattle.json_formatter.specs.Pieces.{text_pieces}
use Rattle.json_formatter.specs.Spelling.{with_spelling}
use Rattle.json_formatter.specs.Values.{PiecedValue as Value, pieced as spelled, pieced_depth as depth, IsFormedPieced as IsFormed}
use Rattle.json_formatter.specs.Documents.{Read, bounded, laid, many, onto, read, until, lexemes_tree, value}
use Rattle.json_formatter.proofs.LaidParts.{Rested, end_follows}
use Rattle.json_formatter.proofs.LaidValues.{value_lays}
use Rattle.json_formatter.proofs.Pieces.{spell_pieces}
use Rattle.json_formatter.proofs.Readers.{until_more}
use Rattle.json_formatter.proofs.Shrinking.{value_shrinks}
use Rattle.json_formatter.proofs.ValueTrees.{begins, reads_value, tree}

-- the document of a value's pieces is that of the value
pub tree_is : (style : Style) (v : Value) → depth v ≤ max_depth → IsFormed v → lexemes_tree style (spelled v) ≡ tree style v
unfolding many
tree_is style v deep formed =
    let reader = value style max_depth in
    let begin = begins v formed [] in
    let is : spelled v ≡ begin.first ∷ begin.tail = sym (append-nil (spelled v)) ∙ begin.is in
    let one : reader (begin.first ∷ begin.tail) ≡ read (tree style v) [] = ap reader (sym begin.is)
    ∙ reads_value style max_depth v deep formed [] in
    let all : until (λ _. false) reader (spelled v) ≡ read (tree style v ∷ []) [] =
    ap (until (λ _. false) reader) is
    ∙ until_more (λ _. false) reader (value_shrinks style max_depth) begin.first begin.tail refl
    ∙ ap (λ (r : Read Tree). onto r.found (until (λ _. false) reader r.left)) one in
    ap (λ (r : Read (List Tree)). fold append Nil r.found) all

one-more : (n : ℕ) → n + 1 ≡ suc n
one-more n = omega arith

-- the layout of a value's document
value_layout : (style : Style) (v : Value) → IsFormed v → layout (options_at style.width) (tree style v) ≡ Whole (laid_value style 0 0 0 v)
value_layout style v formed =
    let o = options_at style.width in
    let d = tree style v in
    let rested : Rested initial = record { pending = refl; indent = refl; padding = refl; within = omega arith } in
    let written =
    value_lays style (size d) v formed 0 0 0 [] initial (omega arith)
    (record { at = (rested, refl); follows = end_follows style.width [] (λ c. refl) }) in
    layout_ends o d (laid_value style 0 0 0 v) written.after
    (ap (λ (k : ℕ). lay o (breaks o k) d 0 Break [] initial) (one-more (size d)) ∙ written.done)
    written.state.pending

pub laid_by_value : LayoutsGoByValues
laid_by_value style text v is deep formed =
    let narrow = bounded style in
    let bytes : laid narrow (lexemes_tree narrow (text_pieces style text)) ≡ laid_value narrow 0 0 0 v =
    ap (λ (ss : List (List ℕ)). laid narrow (lexemes_tree narrow ss)) is
    ∙ ap (laid narrow) (tree_is narrow v deep formed)
    ∙ ap bytes_in (value_layout narrow v formed) in
    ap (λ (l : List ℕ). with_spelling style text (with_kept_lines style text l)) bytes

pub texts_laid_by_value : TextsAreLaidByValues
texts_laid_by_value style text j is =
    let spell = spell_pieces style text j is in
    (spell.value, spell.spells, spell.lexemes, laid_by_value style text spell.value spell.spells spell.shallow spell.formed)
