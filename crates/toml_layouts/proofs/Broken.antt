-- Values in Break are laid out as values are: a group is broken just where the columns that are left say so.
use Rattle.std.proofs.Common.{◌≡◌, refl, sym, ◌∙◌, ap, ℕ, zero, suc, ◌+◌, ◌-◌, ◌≤◌, ◌<◌, Bool, true, false, ◌&&◌, ◌||◌, not, nat_le}
use Rattle.std.proofs.Common.{nat_lt, List, [], ◌∷◌, ◌++◌, inl, inr, ◌⊎◌, arith, append-nil}
use Rattle.std.specs.Prelude.{if◌then◌else◌, Option, Some, None}
use Rattle.std.proofs.lemmas.Bool.{cases_Bool, or_left, or_from, le-ltb, lt-ltb, leb-true, leb-false}
use Rattle.prettyless_model.specs.declared.mode.Mode.TheVariants.{Break}
use Rattle.prettyless_model.specs.Column.{commit}
use Rattle.prettyless_model.specs.Metrics.{text_width}
use Rattle.prettyless_model.specs.Layout.{State, Entry, entry, lay, next_indent, rest_fits, some_pending}
use Rattle.prettyless_model.specs.Tree.{Tree, Nil, Text, TextWithLen, HardLine, Flatten, Group}
use Rattle.prettyless_trees.specs.Built.{append, between}
use Rattle.prettyless_trees.specs.Counted.{text}
use Rattle.prettyless_trees.specs.Lines.{space}
use Rattle.prettyless_laws.specs.Parts.{flat_bytes, text_fits}
use Rattle.prettyless_laws.specs.Parts as parts
use Rattle.prettyless_laws.proofs.Inline.{group_is_text, lay_inline, unfit_is_broken}
use Rattle.toml_lexemes.specs.Bytes as byte
use Rattle.toml_syntax.specs.TypedLexemes.{one_blank}
use Rattle.toml_syntax.specs.Tree.{lead, Key, no_parts, with_word, with_string, Comments, no_comments, with_comment, TomlValue, plain}
use Rattle.toml_syntax.specs.Tree.{moment, quoted, array, table, ArrayItems, no_items, with_item, TableMembers, no_members, with_member}
use Rattle.toml_syntax.specs.Spelled.{spelled_line_ends, comma_if, comma_after_members, brace_gap}
use Rattle.toml_syntax.specs.Formatted.{lexemes_text}
use Rattle.toml_syntax.specs.Settled.{Style, key_columns, items_columns, has_comments, has_items, are_broken, is_past, array_breaks}
use Rattle.toml_syntax.specs.Settled.{one_if, settled_comments, is_first, item_lead, closing_lead, inner_indent, settled_value}
use Rattle.toml_syntax.specs.Settled.{settled_items, settled_members}
use Rattle.toml_layouts.specs.Documents.{text_style, hard_lines, lead_tree, blanks_and_comment, array_comments_tree, key_parts_tree}
use Rattle.toml_layouts.specs.Documents.{pair_tree, item_mark, item_edge, closing_edge, member_mark, array_as, value_tree, items_tree}
use Rattle.toml_layouts.specs.Documents.{members_tree}
use Rattle.toml_layouts.specs.Keyed.{IsKeyed, AreKeyedItems, AreKeyedMembers}
use Rattle.toml_layouts.proofs.Bytes.{key_bytes, word_bytes, string_bytes, value_bytes, lead_bytes, comments_bytes, comment_more}
use Rattle.toml_layouts.proofs.Bytes.{items_bytes, item_more, members_bytes, member_more, array_bytes, table_bytes}
use Rattle.toml_layouts.proofs.OneLine.{IsOneLine, grouped_is, flattened_is, settled_array, inside_tree, array_tree, array_flat}
use Rattle.toml_layouts.proofs.OneLine.{brace_gap_kept, never_breaks}
use Rattle.toml_layouts.proofs.Printed.{Printer, options_of, breaks_of, in_break, Idle, At, Prints, prints_same, prints_idle, prints_at}
use Rattle.toml_layouts.proofs.Printed.{commits, idle_at, uncounted_prints, text_at, line_at, append_prints, Always, always_append}
use Rattle.toml_layouts.proofs.Printed.{always_same, always_nothing, always_text, always_sign, always_counted, always_line, always_broken}
use Rattle.toml_layouts.proofs.Printed.{Follows, EndsNext, tests_same, end_follows, seen_follows, follows_same, append_fits, sign_follows}
use Rattle.toml_layouts.proofs.Printed.{Quiet, quiet_nothing, quiet_line, quiet_uncounted, quiet_append, sums_to, sums_from}

-- ---- line ends and comments

hard_lines_print : (p : Printer) (n : ℕ) → Always p (hard_lines n) (lexemes_text (spelled_line_ends n))
hard_lines_print p zero = always_nothing p
hard_lines_print p (suc n) = always_append p HardLine (hard_lines n) (always_line p) (hard_lines_print p n)

-- from the beginning of a line to one
pub hard_lines_at : (p : Printer) (n : ℕ) (rest : List Entry) (st : State) → next_indent 0 rest ≡ 0 → At 0 st
    → Prints (in_break p (hard_lines n) rest st) (lexemes_text (spelled_line_ends n)) (At 0)
unfolding lay
hard_lines_at p zero rest st e h = record { after = st; done = refl; state = h }
hard_lines_at p (suc n) rest st e h =
    append_prints p HardLine (hard_lines n) (10 ∷ []) (lexemes_text (spelled_line_ends n)) rest st e (λ front s. line_at p front st s.0 h.0)
    (λ u i. hard_lines_at p n rest u e i)

-- to the beginning of a line
some_lines_at : (p : Printer) (n : ℕ) (rest : List Entry) (st : State) → next_indent 0 rest ≡ 0 → Idle st
    → Prints (in_break p (hard_lines (suc n)) rest st) (lexemes_text (spelled_line_ends (suc n))) (At 0)
some_lines_at p n rest st e h =
    append_prints p HardLine (hard_lines n) (10 ∷ []) (lexemes_text (spelled_line_ends n)) rest st e (λ front s. line_at p front st s.0 h)
    (λ u i. hard_lines_at p n rest u e i)

none_first : (w : ℕ) → 0 + w ≡ w
none_first w = omega arith

lead_at : (p : Printer) (n : ℕ) (g : List ℕ) (rest : List Entry) (st : State) → next_indent 0 rest ≡ 0 → Idle st
    → Prints (in_break p (lead_tree (lead (suc n) g)) rest st) (lead_bytes (lead (suc n) g)) (At (text_width g))
lead_at p n g rest st e h =
    append_prints p (hard_lines (suc n)) (text g) (lexemes_text (spelled_line_ends (suc n))) g rest st e
    (λ front s. some_lines_at p n front st s.0 h)
    (λ u i. prints_at (none_first (text_width g)) (text_at p 0 g rest u i))

lead_ends : (p : Printer) (n : ℕ) (g : List ℕ) (rest : List Entry) → EndsNext p (entry 0 (lead_tree (lead (suc n) g)) ∷ rest)
lead_ends p n g rest = λ c.
    append_fits p (hard_lines (suc n)) (text g) rest c ∙ append_fits p HardLine (hard_lines n) (entry 0 (text g) ∷ rest) c

edge_at : (p : Printer) (f : Bool) (inner : List ℕ) (n : ℕ) (rest : List Entry) (st : State) → next_indent 0 rest ≡ 0 → Idle st
    → Prints (in_break p (item_edge f inner n) rest st) (lead_bytes (item_lead true f inner n)) (At (text_width inner))
unfolding lay
edge_at p true inner n rest st e h = lead_at p 0 inner rest st e h
edge_at p false inner n rest st e h = lead_at p (one_if (nat_lt 1 n)) inner rest st e h

edge_ends : (p : Printer) (f : Bool) (inner : List ℕ) (n : ℕ) (rest : List Entry) → EndsNext p (entry 0 (item_edge f inner n) ∷ rest)
edge_ends p true inner n rest = lead_ends p 0 inner rest
edge_ends p false inner n rest = lead_ends p (one_if (nat_lt 1 n)) inner rest

item_ends : (p : Printer) (f : Bool) (inner : List ℕ) (n : ℕ) (x : Tree) (rest : List Entry)
    → EndsNext p (entry 0 (append (item_edge f inner n) x) ∷ rest)
item_ends p f inner n x rest = λ c. append_fits p (item_edge f inner n) x rest c ∙ edge_ends p f inner n (entry 0 x ∷ rest) c

closing_print : (p : Printer) (indent : List ℕ) → Always p (closing_edge indent) (lead_bytes (closing_lead true indent))
closing_print p indent =
    always_broken p (lead_tree (lead 1 indent)) (lead_tree (lead 0 []))
    (always_append p (hard_lines 1) (text indent) (hard_lines_print p 1) (always_text p indent))

closing_ends : (p : Printer) (indent : List ℕ) (rest : List Entry) → EndsNext p (entry 0 (closing_edge indent) ∷ rest)
closing_ends p indent rest = lead_ends p 0 indent rest

pub noted_print : (p : Printer) (g s : List ℕ) → Always p (blanks_and_comment g s) (g ++ s)
noted_print p g s = always_append p (TextWithLen 0 g) (TextWithLen 0 s) (always_counted p 0 g) (always_counted p 0 s)

comments_print : (p : Printer) (cs : Comments) → Always p (array_comments_tree cs) (comments_bytes cs)
comments_print p no_comments = always_nothing p
comments_print p (with_comment cs l s) =
    always_same p (array_comments_tree (with_comment cs l s)) (comment_more cs l s)
    (always_append p (array_comments_tree cs) (append (hard_lines l.line_ends) (blanks_and_comment l.gap s)) (comments_print p cs)
    (always_append p (hard_lines l.line_ends) (blanks_and_comment l.gap s) (hard_lines_print p l.line_ends) (noted_print p l.gap s)))

hard_lines_quiet : (p : Printer) (n : ℕ) → Quiet p (hard_lines n)
hard_lines_quiet p zero = quiet_nothing p
hard_lines_quiet p (suc n) = quiet_append p HardLine (hard_lines n) (quiet_line p) (hard_lines_quiet p n)

pub noted_quiet : (p : Printer) (g s : List ℕ) → Quiet p (blanks_and_comment g s)
noted_quiet p g s = quiet_append p (TextWithLen 0 g) (TextWithLen 0 s) (quiet_uncounted p g) (quiet_uncounted p s)

comments_quiet : (p : Printer) (cs : Comments) → Quiet p (array_comments_tree cs)
comments_quiet p no_comments = quiet_nothing p
comments_quiet p (with_comment cs l s) =
    quiet_append p (array_comments_tree cs) (append (hard_lines l.line_ends) (blanks_and_comment l.gap s)) (comments_quiet p cs)
    (quiet_append p (hard_lines l.line_ends) (blanks_and_comment l.gap s) (hard_lines_quiet p l.line_ends) (noted_quiet p l.gap s))

mark_print : (p : Printer) (b : Bool) → Always p (item_mark b) (lexemes_text (comma_if true))
mark_print p true = always_sign p byte.comma []
mark_print p false = always_broken p (Text (byte.comma ∷ [])) Nil (always_sign p byte.comma [])

mark_follows : (p : Printer) (b : Bool) (rest : List Entry) → Follows p 0 rest → Follows p 1 (entry 0 (item_mark b) ∷ rest)
mark_follows p true rest h = sign_follows p byte.comma [] 0 rest h
mark_follows p false rest h = sign_follows p byte.comma [] 0 rest h

-- a comma, and the comments after it
mark_and_comments : (p : Printer) (b : Bool) (cs : Comments) (rest : List Entry) → EndsNext p rest
    → Follows p 1 (entry 0 (append (item_mark b) (array_comments_tree cs)) ∷ rest)
mark_and_comments p b cs rest h =
    follows_same p 1 (entry 0 (append (item_mark b) (array_comments_tree cs)) ∷ rest)
    (entry 0 (item_mark b) ∷ entry 0 (array_comments_tree cs) ∷ rest)
    (append_fits p (item_mark b) (array_comments_tree cs) rest)
    (mark_follows p b (entry 0 (array_comments_tree cs) ∷ rest) (comments_quiet p cs rest (end_follows p rest h)))

-- ---- keys

sum_after : (c a b : ℕ) → (c + a) + b ≡ c + (a + b)
sum_after c a b = omega arith

none_after : (c : ℕ) → c ≡ c + 0
none_after c = omega arith

pub parts_at : (p : Printer) (ind : List ℕ) (k : Key) (c : ℕ) (rest : List Entry) (st : State) → next_indent 0 rest ≡ 0 → At c st
    → Prints (in_break p (key_parts_tree k) rest st) (key_bytes k) (At (c + key_columns (text_style p.width ind) k))
unfolding lay
parts_at p ind no_parts c rest st e h = prints_at (none_after c) (record { after = st; done = refl; state = h })
parts_at p ind (with_word k w) c rest st e h =
    let s = text_style p.width ind in
    prints_same refl (word_bytes k w)
    (prints_at (sum_after c (key_columns s k) (text_width w))
    (append_prints p (key_parts_tree k) (text w) (key_bytes k) w rest st e (λ front seen. parts_at p ind k c front st seen.0 h)
    (λ u i. text_at p (c + key_columns s k) w rest u i)))
parts_at p ind (with_string k w) c rest st e h =
    let s = text_style p.width ind in
    prints_same refl (string_bytes k w)
    (prints_at (sum_after c (key_columns s k) (text_width w))
    (append_prints p (key_parts_tree k) (text w) (key_bytes k) w rest st e (λ front seen. parts_at p ind k c front st seen.0 h)
    (λ u i. text_at p (c + key_columns s k) w rest u i)))

pub parts_print : (p : Printer) (k : Key) → Always p (key_parts_tree k) (key_bytes k)
parts_print p k = λ rest st e h.
    prints_idle (st.column.position + key_columns (text_style p.width []) k)
    (parts_at p [] k st.column.position rest st e (idle_at st h))

pub pair_print : (p : Printer) (g : List ℕ) (k : Key) (b : List ℕ) (d : Tree) {s : List ℕ} → Always p d s
    → Always p (pair_tree g k b d) (g ++ (key_bytes k ++ (b ++ ((byte.equals ∷ byte.blank_space ∷ []) ++ s))))
pair_print p g k b d h =
    let signs = Text (byte.equals ∷ byte.blank_space ∷ []) in
    always_append p (text g) (append (key_parts_tree k) (append (text b) (append signs d))) (always_text p g)
    (always_append p (key_parts_tree k) (append (text b) (append signs d)) (parts_print p k)
    (always_append p (text b) (append signs d) (always_text p b)
    (always_append p signs d (always_sign p byte.equals (byte.blank_space ∷ [])) h)))

pub between_print : (p : Printer) (a z : ℕ) (x : Tree) {s : List ℕ} → Always p x s → Always p (between a z x) ((a ∷ s) ++ (z ∷ []))
between_print p a z x h =
    always_append p (append (Text (a ∷ [])) x) (Text (z ∷ [])) (always_append p (Text (a ∷ [])) x (always_sign p a []) h)
    (always_sign p z [])

-- ---- groups

-- what is flat stays on its line
flat_prints : (p : Printer) (d : Tree) {s : List ℕ} {w : ℕ} → IsOneLine d s w → Always p (Flatten d) s
unfolding lay
flat_prints p d h = λ rest st e i.
    prints_same (lay_inline (options_of p) (breaks_of p) d 0 rest st h.inline) (sym h.bytes)
    (uncounted_prints (options_of p) (parts.flat_columns d) (flat_bytes d) st i)

-- some bytes fit where they stay within the width with what follows
fits_as : (p : Printer) (w b : ℕ) (bs : List ℕ) (c k : ℕ) (rest : List Entry) (st : State) → At c st → Follows p k rest
    → text_fits (options_of p) w (b ∷ bs) rest st ≡ nat_le (c + (w + k)) p.width
fits_as p w b bs c k rest st h f =
    let d = commit w st.column in
    ap (λ ps. nat_le d.position p.width && rest_fits p.width rest d (some_pending ps)) h.0.pending
    ∙ f d refl refl
    ∙ ap (λ (n : ℕ). nat_le (n + k) p.width) (commits c w st.column h.0.indent h.0.padding h.1)
    ∙ tests_same _ (c + (w + k)) p.width (λ l. sums_to c w k p.width p.narrow l) (λ l. sums_from c w k p.width p.narrow l)

group_print : (p : Printer) (d : Tree) (s broken : List ℕ) (w c k b : ℕ) (bs : List ℕ) (rest : List Entry) (st : State) → IsOneLine d s w
    → s ≡ b ∷ bs → At c st → Follows p k rest → Prints (in_break p d rest st) broken Idle
    → Prints (in_break p (Group d) rest st) (if nat_le (c + (w + k)) p.width then s else broken) Idle
group_print p d s broken w c k b bs rest st flat some h f written = by (cases_Bool (nat_le (c + (w + k)) p.width))
  where
    answers : text_fits (options_of p) (parts.flat_columns d) (flat_bytes d) rest st ≡ nat_le (c + (w + k)) p.width
    answers =
        ap (λ (x : List ℕ). text_fits (options_of p) (parts.flat_columns d) x rest st) (flat.bytes ∙ some)
        ∙ fits_as p (parts.flat_columns d) b bs c k rest st h f
        ∙ ap (λ (n : ℕ). nat_le (c + (n + k)) p.width) flat.columns

    by : (nat_le (c + (w + k)) p.width ≡ true) ⊎ (nat_le (c + (w + k)) p.width ≡ false)
        → Prints (in_break p (Group d) rest st) (if nat_le (c + (w + k)) p.width then s else broken) Idle
    by (inl e) =
        prints_same (group_is_text (options_of p) (breaks_of p) d 0 Break rest st flat.inline (answers ∙ e)) (rw e (sym flat.bytes))
        (uncounted_prints (options_of p) (parts.flat_columns d) (flat_bytes d) st h.0)
    by (inr e) =
        prints_same (unfit_is_broken (options_of p) (breaks_of p) d 0 rest st flat.inline (answers ∙ e)) (rw e refl) written

-- ---- arrays

room_for : (c k w m : ℕ) → c + ((2 + w) + k) ≤ m → 2 + w ≤ m - (c + k)
room_for c k w m h = omega (arith, h)

no_room : (c k w m : ℕ) → m < c + ((2 + w) + k) → m - (c + k) < 2 + w
no_room c k w m h = omega (arith, h)

-- what is left of a line is less than the columns just where these go past the width
past_is : (c k w m : ℕ) → nat_lt (m - (c + k)) (2 + w) ≡ not (nat_le (c + ((2 + w) + k)) m)
past_is c k w m = by (cases_Bool (nat_le (c + ((2 + w) + k)) m))
  where
    by : (nat_le (c + ((2 + w) + k)) m ≡ true) ⊎ (nat_le (c + ((2 + w) + k)) m ≡ false)
        → nat_lt (m - (c + k)) (2 + w) ≡ not (nat_le (c + ((2 + w) + k)) m)
    by (inl e) = le-ltb (m - (c + k)) (2 + w) (room_for c k w m (leb-true _ m e)) ∙ sym (ap not e)
    by (inr e) = lt-ltb (m - (c + k)) (2 + w) (no_room c k w m (leb-false _ m e)) ∙ sym (ap not e)

broken_unless : (s : Style) (indent : List ℕ) (cs : Comments) (is : ArrayItems) (fits : Bool)
    → value_bytes (settled_array s indent (not fits) cs is)
    ≡ (if fits then value_bytes (settled_array s indent false cs is) else value_bytes (settled_array s indent true cs is))
broken_unless s indent cs is true = refl
broken_unless s indent cs is false = refl

-- the document of an array that may be broken or not
abbrev array_document : Printer → List ℕ → List ℕ → Bool → Comments → ArrayItems → Tree
array_document p ind indent may cs is = array_as (has_comments cs || are_broken is) may (array_tree (text_style p.width ind) indent cs is)

-- what it is laid to where so many columns are left
abbrev array_text : Printer → List ℕ → List ℕ → Option ℕ → Comments → ArrayItems → List ℕ
array_text p ind indent room cs is =
    value_bytes (settled_array (text_style p.width ind) indent (array_breaks (text_style p.width ind) room cs is) cs is)

-- in Break its lines are those of a broken array
abbrev IsBrokenAs : Printer → List ℕ → List ℕ → Comments → ArrayItems → Type 0
IsBrokenAs p ind indent cs is =
    Always p (array_tree (text_style p.width ind) indent cs is) (value_bytes (settled_array (text_style p.width ind) indent true cs is))

-- an array that is broken anyway
broken_anyway : (p : Printer) (ind : List ℕ) (cs : Comments) (is : ArrayItems) (indent : List ℕ) (may : Bool) (room : Option ℕ)
    → has_comments cs || are_broken is ≡ true → IsBrokenAs p ind indent cs is
    → Always p (array_document p ind indent may cs is) (array_text p ind indent room cs is)
broken_anyway p ind cs is indent may room e broken = λ rest st level h.
    let s = text_style p.width ind in
    prints_same (ap (λ (t : Bool). in_break p (array_as t may (array_tree s indent cs is)) rest st) e)
    (ap (λ (t : Bool). value_bytes (settled_array s indent t cs is))
    (or_left (has_comments cs || are_broken is) (has_items is && is_past room (2 + items_columns s is)) e))
    (broken rest st level h)

-- an array that stays on its line
stays_on_line : (p : Printer) (ind : List ℕ) (cs : Comments) (is : ArrayItems) (indent : List ℕ) (room : Option ℕ)
    → has_comments cs || are_broken is ≡ false → AreKeyedItems is → array_breaks (text_style p.width ind) room cs is ≡ false
    → Always p (array_document p ind indent false cs is) (array_text p ind indent room cs is)
stays_on_line p ind cs is indent room e k never = λ rest st level h.
    let s = text_style p.width ind in
    prints_same
    (ap (λ (t : Bool). in_break p (array_as t false (array_tree s indent cs is)) rest st) e
    ∙ ap (λ (d : Tree). in_break p d rest st) (flattened_is byte.open_bracket byte.close_bracket (inside_tree s indent cs is)))
    (ap (λ (t : Bool). value_bytes (settled_array s indent t cs is)) never)
    (flat_prints p (array_tree s indent cs is) (array_flat p.width ind cs is e k indent) rest st level h)

-- an array in an inline table
array_apart : (p : Printer) (ind : List ℕ) (cs : Comments) (is : ArrayItems) (indent : List ℕ) → AreKeyedItems is
    → IsBrokenAs p ind indent cs is
    → Always p (array_document p ind indent false cs is) (array_text p ind indent None cs is)
array_apart p ind cs is indent k broken = by (cases_Bool (has_comments cs || are_broken is))
  where
    by : (has_comments cs || are_broken is ≡ true) ⊎ (has_comments cs || are_broken is ≡ false)
        → Always p (array_document p ind indent false cs is) (array_text p ind indent None cs is)
    by (inl e) = broken_anyway p ind cs is indent false None e broken
    by (inr e) = stays_on_line p ind cs is indent None e k (never_breaks (text_style p.width ind) cs is e)

-- an array that may be broken, at column c and before k columns
array_may : (p : Printer) (ind : List ℕ) (cs : Comments) (is : ArrayItems) (indent : List ℕ) → AreKeyedItems is
    → IsBrokenAs p ind indent cs is → has_comments cs || are_broken is ≡ false
    → (c k : ℕ) (rest : List Entry) (st : State) (room : Option ℕ) → next_indent 0 rest ≡ 0 → room ≡ Some (p.width - (c + k)) → At c st
    → Follows p k rest
    → Prints (in_break p (array_document p ind indent (has_items is) cs is) rest st) (array_text p ind indent room cs is) Idle
array_may p ind cs no_items indent keyed broken e c k rest st room level left h f =
    stays_on_line p ind cs no_items indent room e keyed (or_from (has_comments cs || are_broken no_items) false e refl) rest st level h.0
array_may p ind cs (with_item is l v ds) indent keyed broken e c k rest st room level left h f =
    let s = text_style p.width ind in
    let items = with_item is l v ds in
    let w = items_columns s items in
    prints_same
    (ap (λ (t : Bool). in_break p (array_as t true (array_tree s indent cs items)) rest st) e
    ∙ ap (λ (d : Tree). in_break p d rest st) (grouped_is byte.open_bracket byte.close_bracket (inside_tree s indent cs items)))
    (ap (λ (t : Bool). value_bytes (settled_array s indent t cs items))
    (ap (λ (t : Bool). t || is_past room (2 + w)) e ∙ ap (λ (r : Option ℕ). is_past r (2 + w)) left ∙ past_is c k w p.width)
    ∙ broken_unless s indent cs items (nat_le (c + ((2 + w) + k)) p.width))
    (group_print p (array_tree s indent cs items) (value_bytes (settled_array s indent false cs items))
    (value_bytes (settled_array s indent true cs items)) (2 + w) c k byte.open_bracket _ rest st
    (array_flat p.width ind cs items e keyed indent) refl h f (broken rest st level h.0))

array_at : (p : Printer) (ind : List ℕ) (cs : Comments) (is : ArrayItems) (indent : List ℕ) → AreKeyedItems is
    → IsBrokenAs p ind indent cs is
    → (c k : ℕ) (rest : List Entry) (st : State) (room : Option ℕ) → next_indent 0 rest ≡ 0 → room ≡ Some (p.width - (c + k)) → At c st
    → Follows p k rest
    → Prints (in_break p (array_document p ind indent (has_items is) cs is) rest st) (array_text p ind indent room cs is) Idle
array_at p ind cs is indent keyed broken c k rest st room level left h f = by (cases_Bool (has_comments cs || are_broken is))
  where
    by : (has_comments cs || are_broken is ≡ true) ⊎ (has_comments cs || are_broken is ≡ false)
        → Prints (in_break p (array_document p ind indent (has_items is) cs is) rest st) (array_text p ind indent room cs is) Idle
    by (inl e) = broken_anyway p ind cs is indent (has_items is) room e broken rest st level h.0
    by (inr e) = array_may p ind cs is indent keyed broken e c k rest st room level left h f

-- documents that are laid so before a line end
abbrev BeforeEnd : Printer → Tree → List ℕ → Type 0
BeforeEnd p d s =
    (rest : List Entry) (st : State) → next_indent 0 rest ≡ 0 → EndsNext p rest → Idle st → Prints (in_break p d rest st) s Idle

all_marked : (s : Style) (inner : List ℕ) (head : Comments) (is : ArrayItems)
    → items_bytes (has_items is && true) (settled_items s inner true head is) ≡ items_bytes true (settled_items s inner true head is)
all_marked s inner head no_items = refl
all_marked s inner head (with_item is l v cs) = refl

-- the lines of an array that is broken
array_print : (p : Printer) (ind : List ℕ) (cs : Comments) (is : ArrayItems) (indent : List ℕ)
    → BeforeEnd p (items_tree (text_style p.width ind) (inner_indent (text_style p.width ind) indent) cs false is)
    (items_bytes true (settled_items (text_style p.width ind) (inner_indent (text_style p.width ind) indent) true cs is))
    → IsBrokenAs p ind indent cs is
array_print p ind cs is indent items =
    let s = text_style p.width ind in
    let inner = inner_indent s indent in
    let head = settled_comments inner true cs in
    let lines = settled_items s inner true cs is in
    let end = closing_lead true indent in
    let tree = items_tree s inner cs false is in
    always_same p (array_tree s indent cs is)
    (array_bytes head lines (has_items is && true) end
    ∙ ap (λ (b : List ℕ). (byte.open_bracket ∷ (comments_bytes head ++ (b ++ lead_bytes end))) ++ (byte.close_bracket ∷ []))
    (all_marked s inner cs is))
    (between_print p byte.open_bracket byte.close_bracket (inside_tree s indent cs is)
    (always_append p (array_comments_tree head) (append tree (closing_edge indent)) (comments_print p head)
    (λ rest st e h. append_prints p tree (closing_edge indent) (items_bytes true lines) (lead_bytes end) rest st e
    (λ front seen. items front st seen.0 (λ c. seen.1 c ∙ closing_ends p indent rest c) h)
    (λ u i. closing_print p indent rest u e i))))

-- ---- inline tables

member_mark_print : (p : Printer) (s : Style) (indent : List ℕ) (ms : TableMembers)
    → Always p (member_mark ms) (lexemes_text (comma_after_members (settled_members s indent ms)))
member_mark_print p s indent no_members = always_nothing p
member_mark_print p s indent (with_member ms k v) = always_sign p byte.comma []

table_print : (p : Printer) (ind : List ℕ) (ms : TableMembers) (indent : List ℕ)
    → Always p (members_tree (text_style p.width ind) indent ms) (members_bytes (settled_members (text_style p.width ind) indent ms))
    → Always p (between byte.open_brace byte.close_brace (append (members_tree (text_style p.width ind) indent ms) (text (brace_gap ms))))
    (value_bytes (table (settled_members (text_style p.width ind) indent ms)))
table_print p ind ms indent h =
    let s = text_style p.width ind in
    let tree = append (members_tree s indent ms) (text (brace_gap ms)) in
    always_same p (between byte.open_brace byte.close_brace tree)
    (table_bytes (settled_members s indent ms)
    ∙ ap (λ (g : List ℕ). (byte.open_brace ∷ (members_bytes (settled_members s indent ms) ++ g)) ++ (byte.close_brace ∷ []))
    (brace_gap_kept s indent ms))
    (between_print p byte.open_brace byte.close_brace tree
    (always_append p (members_tree s indent ms) (text (brace_gap ms)) h (always_text p (brace_gap ms))))

-- ---- values

text_print : (p : Printer) (w : List ℕ) → Always p (text w) (w ++ [])
text_print p w = always_same p (text w) (append-nil w) (always_text p w)

moment_print : (p : Printer) (d t : List ℕ) → Always p (append (text d) (append space (text t))) (d ++ (one_blank ++ (t ++ [])))
moment_print p d t =
    always_append p (text d) (append space (text t)) (always_text p d)
    (always_append p space (text t) (always_sign p byte.blank_space []) (text_print p t))

mutual
  -- in an inline table
  pub value_print : (p : Printer) (ind : List ℕ) (v : TomlValue) → IsKeyed v → (indent : List ℕ)
      → Always p (value_tree (text_style p.width ind) indent false v) (value_bytes (settled_value (text_style p.width ind) indent None v))
  value_print p ind (plain w) h indent = text_print p w
  value_print p ind (moment d t) h indent = moment_print p d t
  value_print p ind (quoted t) h indent = text_print p t
  value_print p ind (array cs is b l) h indent =
      array_apart p ind cs is indent h
      (array_print p ind cs is indent (items_print p ind is h (inner_indent (text_style p.width ind) indent) cs false))
  value_print p ind (table ms) h indent = table_print p ind ms indent (members_print p ind ms h indent)

  -- at column c, before k columns
  pub value_at : (p : Printer) (ind : List ℕ) (v : TomlValue) → IsKeyed v → (indent : List ℕ) (c k : ℕ) (rest : List Entry) (st : State)
      (room : Option ℕ) → next_indent 0 rest ≡ 0 → room ≡ Some (p.width - (c + k)) → At c st → Follows p k rest
      → Prints (in_break p (value_tree (text_style p.width ind) indent true v) rest st)
      (value_bytes (settled_value (text_style p.width ind) indent room v)) Idle
  value_at p ind (plain w) h indent c k rest st room level left at f = text_print p w rest st level at.0
  value_at p ind (moment d t) h indent c k rest st room level left at f = moment_print p d t rest st level at.0
  value_at p ind (quoted t) h indent c k rest st room level left at f = text_print p t rest st level at.0
  value_at p ind (array cs is b l) h indent c k rest st room level left at f =
      array_at p ind cs is indent h
      (array_print p ind cs is indent (items_print p ind is h (inner_indent (text_style p.width ind) indent) cs false))
      c k rest st room level left at f
  value_at p ind (table ms) h indent c k rest st room level left at f =
      table_print p ind ms indent (members_print p ind ms h indent) rest st level at.0

  items_print : (p : Printer) (ind : List ℕ) (is : ArrayItems) → AreKeyedItems is → (inner : List ℕ) (head : Comments) (b : Bool)
      → BeforeEnd p (items_tree (text_style p.width ind) inner head b is)
      (items_bytes true (settled_items (text_style p.width ind) inner true head is))
  items_print p ind no_items k inner head b = λ rest st e n h. always_nothing p rest st e h
  items_print p ind (with_item is l v cs) k inner head b = λ rest st e n h.
      let s = text_style p.width ind in
      let first = is_first head is in
      let noted = settled_comments inner false cs in
      let end = append (item_mark b) (array_comments_tree noted) in
      let value = append (value_tree s inner true v) end in
      let before = settled_items s inner true head is in
      let here = item_lead true first inner l.line_ends in
      let room = Some (p.width - (text_width inner + 1)) in
      let laid = settled_value s inner room v in
      let last = lexemes_text (comma_if true) ++ comments_bytes noted in
      prints_same refl (item_more true before here laid noted)
      (append_prints p (items_tree s inner head true is) (append (item_edge first inner l.line_ends) value) (items_bytes true before)
      (lead_bytes here ++ (value_bytes laid ++ last)) rest st e
      (λ front seen. items_print p ind is k.0 inner head true front st seen.0
      (λ c. seen.1 c ∙ item_ends p first inner l.line_ends value rest c) h)
      (λ u i. append_prints p (item_edge first inner l.line_ends) value (lead_bytes here) (value_bytes laid ++ last) rest u e
      (λ front seen. edge_at p first inner l.line_ends front u seen.0 i)
      (λ w at. append_prints p (value_tree s inner true v) end (value_bytes laid) last rest w e
      (λ front seen. value_at p ind v k.1 inner (text_width inner) 1 front w room seen.0 refl at
      (seen_follows p 1 front (entry 0 end ∷ rest) seen (mark_and_comments p b noted rest n)))
      (λ x j. always_append p (item_mark b) (array_comments_tree noted) (mark_print p b) (comments_print p noted) rest x e j))))

  members_print : (p : Printer) (ind : List ℕ) (ms : TableMembers) → AreKeyedMembers ms → (indent : List ℕ)
      → Always p (members_tree (text_style p.width ind) indent ms) (members_bytes (settled_members (text_style p.width ind) indent ms))
  members_print p ind no_members k indent = always_nothing p
  members_print p ind (with_member ms key v) k indent =
      let s = text_style p.width ind in
      let value = value_tree s indent false v in
      always_same p (members_tree s indent (with_member ms key v))
      (member_more (settled_members s indent ms) key (settled_value s indent None v) k.1)
      (always_append p (members_tree s indent ms) (append (member_mark ms) (pair_tree one_blank key one_blank value))
      (members_print p ind ms k.0 indent)
      (always_append p (member_mark ms) (pair_tree one_blank key one_blank value) (member_mark_print p s indent ms)
      (pair_print p one_blank key one_blank value (value_print p ind v k.2 indent))))
