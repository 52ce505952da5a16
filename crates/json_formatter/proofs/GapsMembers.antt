-- Items and members in lines of their own are laid out as the definition by values says.
use Rattle.std.proofs.Common.{◌≡◌, refl, sym, ◌∙◌, ap, subst, ℕ, ◌+◌, ◌≤◌, max, false, List, [], ◌∷◌, ◌++◌, length, append_assoc, arith}
use Rattle.json.specs.Word.{head}
use Rattle.prettyless_model.specs.Column.{saturating_add}
use Rattle.prettyless_model.specs.Metrics.{text_width}
use Rattle.json_formatter.specs.ByValue.{after_key, item_comma, item_lines, laid_value, member_comma, member_lines, new_line}
use Rattle.json_formatter.specs.Gaps.{indent_at}
use Rattle.json_formatter.specs.Values.{PiecedValue as Value, PiecedItems as Items, item, PiecedMembers as Members, member}
use Rattle.json_formatter.specs.Values.{pieced as spelled, pieced_items as spelled_items, more_pieced_items as more_items}
use Rattle.json_formatter.specs.Values.{pieced_members as spelled_members, more_pieced_members as more_members}
use Rattle.json_formatter.specs.Values.{pieced_depth as depth, pieced_items_depth as items_depth, pieced_members_depth as members_depth}
use Rattle.json_formatter.specs.Values.{IsFormedPieced as IsFormed}
use Rattle.json_formatter.specs.declared.gaps.Joint.TheVariants as joint
use Rattle.json_formatter.specs.declared.style.Style.{Style}
use Rattle.json_formatter.proofs.GapsFlat.{most}
use Rattle.json_formatter.proofs.GapsFrom.{laid_from}
use Rattle.json_formatter.proofs.GapsSteps.{Lays, closing_line, comma_before, items_comma, lays_after, lays_same, lays_then, line_first}
use Rattle.json_formatter.proofs.GapsSteps.{members_comma, outside, rested, space_first, word_next}
use Rattle.json_formatter.proofs.GapsWords.{BeginsPlainly, IsWord, key_word, value_begins, word_begins}

-- ---- what is laid

-- a value, from its first lexeme on, at any column
abbrev pub ValueLays : Style → Value → Type 0
ValueLays style v =
    (d c : ℕ) → d + depth v ≤ most → (ss : List (List ℕ))
    → Lays style (rested d c) (spelled v ++ ss) (laid_value style (indent_at style d) c (comma_before ss) v) d ss

-- items in lines of their own, and what closes the list
abbrev pub closed_items : Style → ℕ → Items → List ℕ
closed_items style d vs = item_lines style (indent_at style (d + 1)) vs ++ closing_line style d 93

abbrev pub closed_members : Style → ℕ → Members → List ℕ
closed_members style d ms = member_lines style (indent_at style (d + 1)) ms ++ closing_line style d 125

-- the same after an item or a member
abbrev pub MoreItemsLay : Style → Items → Type 0
MoreItemsLay style vs =
    (d c : ℕ) → (d + 1) + items_depth vs ≤ most → (ss : List (List ℕ))
    → Lays style (rested (d + 1) c) (more_items vs ++ ss) (item_comma vs ++ closed_items style d vs) d ss

abbrev pub MoreMembersLay : Style → Members → Type 0
MoreMembersLay style ms =
    (d c : ℕ) → (d + 1) + members_depth ms ≤ most → (ss : List (List ℕ))
    → Lays style (rested (d + 1) c) (more_members ms ++ ss) (member_comma ms ++ closed_members style d ms) d ss

-- before the first item or member of a list that does not fill its lines
abbrev pub FirstLays : Style → ℕ → ℕ → List (List ℕ) → List (List ℕ) → List ℕ → Type 0
FirstLays style d c rest ss bytes = Lays style (outside (d + 1) c false joint.Line) (rest ++ ss) bytes d ss

first_depth : (n a b : ℕ) → n + max a b ≤ most → n + a ≤ most
first_depth n a b h = omega (arith, h)

later_depth : (n a b : ℕ) → n + max a b ≤ most → n + b ≤ most
later_depth n a b h = omega (arith, h)

-- a comma before a new line
pub comma_lays : {style : Style} {d c e : ℕ} {ss rest : List (List ℕ)} (bytes : List ℕ)
    → ((x : ℕ) → Lays style (outside d x false joint.Line) ss bytes e rest) → Lays style (rested d c) ((44 ∷ []) ∷ ss) (44 ∷ bytes) e rest
comma_lays {c = c} bytes h = lays_after (44 ∷ []) bytes refl (h (saturating_add c 1))

-- ---- items

item_parts : (a b c d e : List ℕ) → a ++ (b ++ (c ++ (d ++ e))) ≡ (a ++ (b ++ (c ++ d))) ++ e
item_parts a b c d e =
    sym (append_assoc a (b ++ (c ++ d)) e
    ∙ ap (λ (l : List ℕ). a ++ l) (append_assoc b (c ++ d) e)
    ∙ ap (λ (l : List ℕ). a ++ (b ++ l)) (append_assoc c d e))

-- an item in a line of its own, and those after it
pub item_lays : {style : Style} {d : ℕ} {ss : List (List ℕ)} (v : Value) (vs : Items) → IsFormed v → ValueLays style v
    → MoreItemsLay style vs → (c : ℕ) → (d + 1) + items_depth (item v vs) ≤ most
    → FirstLays style d c (spelled_items (item v vs)) ss (closed_items style d (item v vs))
item_lays {style} {d} {ss} v vs h one more c l =
    let j = indent_at style (d + 1) in
    let after = more_items vs ++ ss in
    let bytes : List ℕ = laid_value style j j (length (item_comma vs)) v in
    let later : List ℕ = item_comma vs ++ closed_items style d vs in
    let value =
    lays_same (laid_value style j j (comma_before after) v) bytes (ap (λ (k : ℕ). laid_value style j j k v) (items_comma vs ss))
    (one (d + 1) j (first_depth (d + 1) (depth v) (items_depth vs) l) after) in
    let all =
    lays_after (new_line j) (bytes ++ later) (line_first style (d + 1) c false (spelled v ++ after) (value_begins v h after))
    (lays_then bytes later value (λ x. more d x (later_depth (d + 1) (depth v) (items_depth vs) l) ss)) in
    subst (λ (xs : List (List ℕ)). Lays style (outside (d + 1) c false joint.Line) xs (closed_items style d (item v vs)) d ss)
    (sym (append_assoc (spelled v) (more_items vs) ss))
    (lays_same (new_line j ++ (bytes ++ later)) (closed_items style d (item v vs))
    (item_parts (new_line j) bytes (item_comma vs) (item_lines style j vs) (closing_line style d 93)) all)

-- ---- members

key_end : (k : List ℕ) (j : ℕ) → saturating_add (saturating_add (saturating_add j (text_width k)) 1) 1 ≡ after_key j k
key_end k j = omega arith

-- a key, its colon and a space
abbrev key_bytes : List ℕ → List ℕ
key_bytes k = k ++ 58 ∷ 32 ∷ []

key_next : (style : Style) (d j : ℕ) (k : List ℕ) (ss : List (List ℕ)) → IsWord k → BeginsPlainly ss
    → laid_from style (rested d j) (k ∷ (58 ∷ []) ∷ ss) ≡ key_bytes k ++ laid_from style (rested d (after_key j k)) ss
key_next style d j k ss w b =
    let x = saturating_add (saturating_add j (text_width k)) 1 in
    let value = laid_from style (rested d (after_key j k)) ss in
    let spaced = space_first style d x false ss b ∙ ap (λ (c : ℕ). 32 ∷ laid_from style (rested d c) ss) (key_end k j) in
    word_next style d j false k ((58 ∷ []) ∷ ss) w
    ∙ ap (λ (l : List ℕ). k ++ (58 ∷ l)) spaced
    ∙ sym (append_assoc k (58 ∷ 32 ∷ []) value)

-- the same in a new line
key_lays : (style : Style) (d c : ℕ) (k : List ℕ) (ss : List (List ℕ)) → IsWord k → BeginsPlainly ss
    → laid_from style (outside d c false joint.Line) (k ∷ (58 ∷ []) ∷ ss)
    ≡ (new_line (indent_at style d) ++ key_bytes k) ++ laid_from style (rested d (after_key (indent_at style d) k)) ss
key_lays style d c k ss w b =
    let j = indent_at style d in
    line_first style d c false (k ∷ (58 ∷ []) ∷ ss) (word_begins k ((58 ∷ []) ∷ ss) w)
    ∙ ap (λ (l : List ℕ). new_line j ++ l) (key_next style d j k ss w b)
    ∙ sym (append_assoc (new_line j) (key_bytes k) (laid_from style (rested d (after_key j k)) ss))

member_parts : (n k a b c e : List ℕ) → (n ++ key_bytes k) ++ (a ++ (b ++ (c ++ e))) ≡ (n ++ (k ++ 58 ∷ 32 ∷ (a ++ (b ++ c)))) ++ e
member_parts n k a b c e =
    append_assoc n (key_bytes k) (a ++ (b ++ (c ++ e)))
    ∙ ap (λ (l : List ℕ). n ++ l) (append_assoc k (58 ∷ 32 ∷ []) (a ++ (b ++ (c ++ e))))
    ∙ ap (λ (l : List ℕ). n ++ (k ++ 58 ∷ 32 ∷ (a ++ l))) (sym (append_assoc b c e))
    ∙ item_parts n k (58 ∷ 32 ∷ a) (b ++ c) e

-- a member in a line of its own, and those after it
pub member_lays : {style : Style} {d : ℕ} {ss : List (List ℕ)} (k : List ℕ) (v : Value) (ms : Members) → head k ≡ 34 → IsFormed v
    → ValueLays style v → MoreMembersLay style ms → (c : ℕ) → (d + 1) + members_depth (member k v ms) ≤ most
    → FirstLays style d c (spelled_members (member k v ms)) ss (closed_members style d (member k v ms))
member_lays {style} {d} {ss} k v ms quoted h one more c l =
    let j = indent_at style (d + 1) in
    let after = more_members ms ++ ss in
    let x = after_key j k in
    let bytes : List ℕ = laid_value style j x (length (member_comma ms)) v in
    let later : List ℕ = member_comma ms ++ closed_members style d ms in
    let value =
    lays_same (laid_value style j x (comma_before after) v) bytes (ap (λ (n : ℕ). laid_value style j x n v) (members_comma ms ss))
    (one (d + 1) x (first_depth (d + 1) (depth v) (members_depth ms) l) after) in
    let all =
    lays_after (new_line j ++ key_bytes k) (bytes ++ later)
    (key_lays style (d + 1) c k (spelled v ++ after) (key_word k quoted) (value_begins v h after))
    (lays_then bytes later value (λ y. more d y (later_depth (d + 1) (depth v) (members_depth ms) l) ss)) in
    let lines : List ℕ = closed_members style d (member k v ms) in
    subst (λ (xs : List (List ℕ)). Lays style (outside (d + 1) c false joint.Line) (k ∷ (58 ∷ []) ∷ xs) lines d ss)
    (sym (append_assoc (spelled v) (more_members ms) ss))
    (lays_same ((new_line j ++ key_bytes k) ++ (bytes ++ later)) lines
    (member_parts (new_line j) k bytes (member_comma ms) (member_lines style j ms) (closing_line style d 125)) all)
