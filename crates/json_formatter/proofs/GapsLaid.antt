-- A text whose pieces spell a value is laid out piece by piece as it is by that value.
use Rattle.std.proofs.Common.{◌≡◌, refl, sym, ◌∙◌, ap, ℕ, suc, ◌+◌, ◌≤◌, min, Bool, true, false, List, [], ◌∷◌, ◌++◌}
use Rattle.std.proofs.Common.{append-nil, Some, zero-mul, arith}
use Rattle.std.specs.Prelude.{if◌then◌else◌}
use Rattle.json.specs.Json.{Json}
use Rattle.json_validity.specs.Document.{document, max_depth}
use Rattle.json_formatter.specs.BlankLines.{layout_of, with_kept_lines}
use Rattle.json_formatter.specs.ByValue.{filled_lines, flat, flat_items, flat_members, item_lines, items_fill, kept_if, laid_value}
use Rattle.json_formatter.specs.ByValue.{value_width}
use Rattle.json_formatter.specs.Documents.{bounded, closes, stops}
use Rattle.json_formatter.specs.Flat.{flat_line}
use Rattle.json_formatter.specs.Gaps.{indent_at, start_state}
use Rattle.json_formatter.specs.Pieces.{text_pieces}
use Rattle.json_formatter.specs.Spelling.{with_spelling}
use Rattle.json_formatter.specs.Values.{PiecedValue as Value, alone, array, object, PiecedItems as Items, no_items, item}
use Rattle.json_formatter.specs.Values.{PiecedMembers as Members, no_members, member}
use Rattle.json_formatter.specs.Values.{pieced as spelled, pieced_items as spelled_items, more_pieced_items as more_items}
use Rattle.json_formatter.specs.Values.{pieced_members as spelled_members, more_pieced_members as more_members}
use Rattle.json_formatter.specs.Values.{pieced_depth as depth, pieced_items_depth as items_depth, pieced_members_depth as members_depth}
use Rattle.json_formatter.specs.Values.{IsFormedPieced as IsFormed, AreFormedPiecedItems as AreFormedItems}
use Rattle.json_formatter.specs.Values.{AreFormedPiecedMembers as AreFormedMembers}
use Rattle.json_formatter.specs.declared.gaps.Joint.TheVariants as joint
use Rattle.json_formatter.specs.declared.style.Style.{Style}
use Rattle.json_formatter.proofs.ByValue.{laid_by_value}
use Rattle.json_formatter.proofs.Closing.{all_items_width, all_width, blank, blank_all, brace_columns, bracket_columns}
use Rattle.json_formatter.proofs.GapsAhead.{items_ahead, items_all_fill, members_ahead}
use Rattle.json_formatter.proofs.GapsFilled.{numbers_lay}
use Rattle.json_formatter.proofs.GapsFlat.{items_on_line, members_on_line, most}
use Rattle.json_formatter.proofs.GapsFrom.{laid_from}
use Rattle.json_formatter.proofs.GapsLists.{IsList, curly, list_lays, square}
use Rattle.json_formatter.proofs.GapsMembers.{FirstLays, MoreItemsLay, MoreMembersLay, ValueLays, closed_items, closed_members}
use Rattle.json_formatter.proofs.GapsMembers.{comma_lays, item_lays, member_lays}
use Rattle.json_formatter.proofs.GapsSteps.{Lays, close_next, closing_line, inner_indent, outside, word_next}
use Rattle.json_formatter.proofs.GapsWords.{key_word, word_formed}
use Rattle.json_formatter.proofs.Pieces.{spell_pieces}

-- ---- lists

one_more : (d a : ℕ) → d + suc a ≤ most → d + 1 ≤ most
one_more d a l = omega (arith, l)

inside : (d a : ℕ) → d + suc a ≤ most → (d + 1) + a ≤ most
inside d a l = omega (arith, l)

alone_deep : (d a : ℕ) → d + suc a ≤ most → 1 + a ≤ most
alone_deep d a l = omega (arith, l)

something : (v : Value) (more ss : List (List ℕ)) → IsFormed v → stops closes ((spelled v ++ more) ++ ss) ≡ false
something (alone s) more ss h = (word_formed s h).closes
something (array keeps vs) more ss h = refl
something (object keeps ms) more ss h = refl

array_sum : (style : Style) (keeps : Bool) (vs : Items)
    → (1 + kept_if keeps) + all_items_width style vs ≡ value_width style (array keeps vs)
array_sum style keeps vs = omega arith

array_list : (style : Style) (d c : ℕ) (keeps : Bool) (v : Value) (vs : Items) → AreFormedItems (item v vs)
    → d + depth (array keeps (item v vs)) ≤ most → (ss : List (List ℕ))
    → IsList style d c 91 keeps (items_fill style.fill (item v vs)) (spelled_items (item v vs))
    (flat_line (flat style (array keeps (item v vs)))) (value_width style (array keeps (item v vs))) ss
array_list style d c keeps v vs h l ss =
    record {
      first = 1 + kept_if keeps;
      later = all_items_width style (item v vs);
      columns = bracket_columns style keeps (spelled_items (item v vs) ++ ss);
      ahead = items_ahead style (item v vs) h;
      sum = array_sum style keeps (item v vs);
      begins = something v (more_items vs) ss h.0;
      filled = items_all_fill style.fill (item v vs) h ss;
      tail = flat_line (flat_items style (item v vs));
      line = refl;
      on_line = items_on_line style d c (item v vs) h (alone_deep d (items_depth (item v vs)) l) ss;
      deep = one_more d (items_depth (item v vs)) l;
    }

object_list : (style : Style) (d c : ℕ) (keeps : Bool) (k : List ℕ) (v : Value) (ms : Members) → AreFormedMembers (member k v ms)
    → d + depth (object keeps (member k v ms)) ≤ most → (ss : List (List ℕ))
    → IsList style d c 123 keeps false (spelled_members (member k v ms)) (flat_line (flat style (object keeps (member k v ms))))
    (value_width style (object keeps (member k v ms))) ss
object_list style d c keeps k v ms h l ss =
    record {
      first = (1 + kept_if keeps) + (blank style + blank style);
      later = all_width style (member k v ms);
      columns = brace_columns style keeps k ((58 ∷ []) ∷ ((spelled v ++ more_members ms) ++ ss)) (key_word k h.0).closes;
      ahead = members_ahead style (member k v ms) h;
      sum = blank_all style keeps k v ms;
      begins = (key_word k h.0).closes;
      filled = refl;
      tail = flat_line (flat_members style (member k v ms));
      line = refl;
      on_line = members_on_line style d c (member k v ms) h (alone_deep d (members_depth (member k v ms)) l) ss;
      deep = one_more d (members_depth (member k v ms)) l;
    }

-- the lines of an array: its numbers fill them, or each item has one of its own
abbrev lines_of : Style → ℕ → Items → Bool → List ℕ
lines_of style j vs fills = if fills then filled_lines style j vs else item_lines style j vs

array_lines : (style : Style) (v : Value) (vs : Items) (fills : Bool) → AreFormedItems (item v vs)
    → items_fill style.fill (item v vs) ≡ fills
    → (d c : ℕ) (ss : List (List ℕ)) → FirstLays style d c (spelled_items (item v vs)) ss (closed_items style d (item v vs))
    → Lays style (outside (d + 1) c fills joint.Line) (spelled_items (item v vs) ++ ss)
    (lines_of style (indent_at style (d + 1)) (item v vs) fills ++ closing_line style d 93) d ss
array_lines style v vs false h e d c ss lines = lines
array_lines style v vs true h e d c ss lines = numbers_lay style d ss c v vs h e

-- ---- values

array_lays : (style : Style) (keeps : Bool) (v : Value) (vs : Items) → AreFormedItems (item v vs) → ValueLays style v
    → MoreItemsLay style vs → ValueLays style (array keeps (item v vs))
array_lays style keeps v vs h one more d c l ss =
    let items = item v vs in
    let whole = array keeps items in
    let fills = items_fill style.fill items in
    let own_lines : FirstLays style d c (spelled_items items) ss (closed_items style d items) =
    item_lays v vs h.0 one more c (inside d (items_depth items) l) in
    let bytes : List ℕ = lines_of style (indent_at style (d + 1)) items fills ++ closing_line style d 93 in
    rw (inner_indent style d)
    (list_lays 91 keeps (spelled_items items) (flat_line (flat style whole)) (value_width style whole) ss (square keeps)
    (array_list style d c keeps v vs h l ss) bytes (array_lines style v vs fills h refl d c ss own_lines))

object_lays : (style : Style) (keeps : Bool) (k : List ℕ) (v : Value) (ms : Members) → AreFormedMembers (member k v ms)
    → ValueLays style v → MoreMembersLay style ms → ValueLays style (object keeps (member k v ms))
object_lays style keeps k v ms h one more d c l ss =
    let members = member k v ms in
    let whole = object keeps members in
    let bytes : List ℕ = closed_members style d members in
    let own_lines : FirstLays style d c (spelled_members members) ss bytes =
    member_lays k v ms h.0 h.1 one more c (inside d (members_depth members) l) in
    rw (inner_indent style d)
    (list_lays 123 keeps (spelled_members members) (flat_line (flat style whole)) (value_width style whole) ss (curly keeps)
    (object_list style d c keeps k v ms h l ss) bytes own_lines)

mutual
  value_lays : (style : Style) (v : Value) → IsFormed v → ValueLays style v
  value_lays style (alone s) h d c l ss = record { column = _; is = word_next style d c false s ss (word_formed s h) }
  value_lays style (array keeps no_items) h d c l ss = record { column = c; is = refl }
  value_lays style (array keeps (item v vs)) h d c l ss =
      array_lays style keeps v vs h (value_lays style v h.0) (more_items_lay style vs h.1) d c l ss
  value_lays style (object keeps no_members) h d c l ss = record { column = c; is = refl }
  value_lays style (object keeps (member k v ms)) h d c l ss =
      object_lays style keeps k v ms h (value_lays style v h.1) (more_members_lay style ms h.2) d c l ss

  more_items_lay : (style : Style) (vs : Items) → AreFormedItems vs → MoreItemsLay style vs
  more_items_lay style no_items h d c l ss = close_next style d c false 93 ss refl refl refl refl
  more_items_lay style (item v vs) h d c l ss =
      comma_lays (closed_items style d (item v vs))
      (λ x. item_lays v vs h.0 (value_lays style v h.0) (more_items_lay style vs h.1) x l)

  more_members_lay : (style : Style) (ms : Members) → AreFormedMembers ms → MoreMembersLay style ms
  more_members_lay style no_members h d c l ss = close_next style d c false 125 ss refl refl refl refl
  more_members_lay style (member k v ms) h d c l ss =
      comma_lays (closed_members style d (member k v ms))
      (λ x. member_lays k v ms h.0 h.1 (value_lays style v h.1) (more_members_lay style ms h.2) x l)

-- ---- a text

no_indent : (style : Style) → indent_at style 0 ≡ 0
no_indent style = ap (λ (n : ℕ). min n most) (zero-mul style.indent)

shallow_enough : (n : ℕ) → n ≤ max_depth → 0 + n ≤ most
shallow_enough n l = omega (arith, l)

-- the pieces of a value are laid out as the value is
pub gaps_by_value : (style : Style) (v : Value) → IsFormed v → depth v ≤ max_depth
    → laid_from style start_state (spelled v) ≡ laid_value style 0 0 0 v
gaps_by_value style v h l =
    ap (laid_from style start_state) (sym (append-nil (spelled v)))
    ∙ (value_lays style v h 0 0 (shallow_enough (depth v) l) []).is
    ∙ append-nil (laid_value style (indent_at style 0) 0 0 v)
    ∙ ap (λ (i : ℕ). laid_value style i 0 0 v) (no_indent style)

-- the layout of a text that is JSON: its lexemes, each after its gap, with the blank lines that are kept, spelled out
pub json_by_gaps : (style : Style) (text : List ℕ) (j : Json) → document text ≡ Some j
    → layout_of style text
    ≡ with_spelling style text (with_kept_lines style text (laid_from (bounded style) start_state (text_pieces style text)))
json_by_gaps style text j is =
    let v = spell_pieces style text j is in
    let laid = ap (laid_from (bounded style) start_state) v.spells ∙ gaps_by_value (bounded style) v.value v.formed v.shallow in
    laid_by_value style text v.value v.spells v.shallow v.formed
    ∙ ap (λ (bs : List ℕ). with_spelling style text (with_kept_lines style text bs)) (sym laid)
