-- Lists are laid out as their flat lines, or as their members between brackets, each in a line of its own.
use Rattle.std.proofs.Common.{◌≡◌, refl, sym, ◌∙◌, ap, subst, ℕ, suc, ◌+◌, ◌≤◌, Bool, true, false, List, [], ◌∷◌, ◌++◌, length}
use Rattle.std.proofs.Common.{append_assoc, append-nil, arith}
use Rattle.std.specs.Prelude.{if◌then◌else◌, pos}
use Rattle.json.specs.Word.{ends_word}
use Rattle.prettyless_model.specs.declared.options.RenderOptions.{RenderOptions}
use Rattle.prettyless_model.specs.declared.mode.Mode.TheVariants.{Break}
use Rattle.prettyless_model.specs.Column.{saturating_add}
use Rattle.prettyless_model.specs.Metrics.{text_width}
use Rattle.prettyless_model.specs.Layout.{State, Entry, Breaks, breaks, entry, lay}
use Rattle.prettyless_model.specs.Options.{options_at}
use Rattle.prettyless_trees.specs.Built.{IsNotNil, append, nest}
use Rattle.prettyless_trees.specs.Counted.{text}
use Rattle.prettyless_trees.specs.Lines.{line, space}
use Rattle.prettyless_model.specs.Tree.{Tree, Nil, Text, Append, Group, HardLine, BreakOrFlat}
use Rattle.json_formatter.specs.declared.style.Style.{Style}
use Rattle.json_formatter.specs.ByValue.{fits_width, after_key, item_comma, member_comma, inner, new_line}
use Rattle.json_formatter.specs.Documents.{margin, gap_in, listed}
use Rattle.json_formatter.specs.Flat.{flat_width}
use Rattle.json_formatter.specs.Values.{PiecedItems as Items, no_items, item, PiecedMembers as Members, no_members}
use Rattle.json_formatter.specs.Values as g
use Rattle.json_formatter.proofs.Chains.{append_is, chain, within, AreSome, listed_is, text_some, key_some}
use Rattle.json_formatter.proofs.LaidParts.{At, Rested, in_break, Writes, Follows, greatest, then_writes, writes_same, writes_rested}
use Rattle.json_formatter.proofs.LaidParts.{text_writes, line_writes, nest_writes, end_follows, comma_follows, sum_within, lexeme_writes}
use Rattle.json_formatter.proofs.LaidParts.{group_writes, opening_writes, IsFlat, StandsAt}
use Rattle.json_formatter.proofs.ValueTrees.{item_marked, member_marked, key_tree, opening}

-- ---- lines

-- a document is laid so before a line end
pub record Lays (style : Style) (n : ℕ) (t : Tree) (j : ℕ) (st : State) (bytes : List ℕ) : Type 0 where
  pub written : (rest : List Entry) → Follows style.width rest 0 → Writes (in_break style n t j rest st) bytes Rested

-- a document is laid so where a line with its indent begins
abbrev pub LaysAtIndent : Style → ℕ → Tree → ℕ → List ℕ → Type 0
LaysAtIndent style n t j bytes = (st : State) → At j st → Lays style n t j st bytes

-- a line is next
pub line_next : (width i : ℕ) (f : Tree) (rest : List Entry) → Follows width (entry i (BreakOrFlat HardLine f) ∷ rest) 0
line_next width i f rest = end_follows width (entry i (BreakOrFlat HardLine f) ∷ rest) (λ c. refl)

-- a document, a line and another document
pub line_between : {style : Style} {n j : ℕ} {z t : Tree} {b s : List ℕ} {st : State} → j ≤ greatest → Lays style n z j st b
    → LaysAtIndent style n t j s → Lays style n (Append (Append z line) t) j st (b ++ (new_line j ++ s))
unfolding lay
line_between {style} {n} {j} {t = t} {b = b} {s = s} l h k = record {
  written = λ rest f.
      let both =
      then_writes
      (h.written (entry j line ∷ entry j t ∷ rest) (line_next style.width j space (entry j t ∷ rest)))
      (λ u r. line_writes style n j j space t rest u r l) in
      writes_same refl (sym (append_assoc b (new_line j) s)) (then_writes both (λ u r. (k u r).written rest f));
}

-- a comma after it
pub comma_marks : {style : Style} {n j : ℕ} {b : List ℕ} {st : State} (t : Tree) → IsNotNil t
    → ((rest : List Entry) → Follows style.width rest 1 → Writes (in_break style n t j rest st) b Rested)
    → Lays style n (append t (Text (44 ∷ []))) j st (b ++ 44 ∷ [])
unfolding lay
comma_marks {style} {j = j} t some h = record {
  written = λ rest f.
      rw (append_is t (Text (44 ∷ [])) some tt)
      (then_writes
      (h (entry j (Text (44 ∷ [])) ∷ rest) (comma_follows style.width j rest f))
      (λ u r. writes_rested (text_writes (options_at style.width) 1 u.column.position 44 [] u (r, refl))));
}

-- brackets around lines, which have this inside them where they are flat
pub brackets_around : {style : Style} {n a : ℕ} {items : Tree} {s : List ℕ} {st : State} (f : Tree) (keeps : Bool) (i z : ℕ)
    → i ≤ greatest → Rested st → LaysAtIndent style n items (inner style i) s → (rest : List Entry)
    → Writes (in_break style n (within (BreakOrFlat HardLine f) (opening a keeps) items (Text (z ∷ [])) style.indent) i rest st)
    (a ∷ ((new_line (inner style i) ++ s) ++ (new_line i ++ z ∷ []))) Rested
unfolding lay
brackets_around {style} {n} {a} {items} {s} {st} f keeps i z l h k = λ rest.
    let inside = BreakOrFlat HardLine f in
    let o = options_at style.width in
    let brk = breaks o (suc n) in
    let j = inner style i in
    let close = Text (z ∷ []) in
    let lines = nest (pos style.indent) (Append inside items) in
    let further : (u : State) → Rested u
    → Writes (in_break style n lines i (entry i inside ∷ entry i close ∷ rest) u) (new_line j ++ s) Rested =
    λ u r. nest_writes o brk style.indent i inside items (entry i inside ∷ entry i close ∷ rest) u (new_line j ++ s) l
    (then_writes
    (line_writes style n j j f items (entry i inside ∷ entry i close ∷ rest) u r (sum_within i style.indent))
    (λ v q. (k v q).written (entry i inside ∷ entry i close ∷ rest) (line_next style.width i f (entry i close ∷ rest)))) in
    let front =
    then_writes
    (opening_writes o brk a keeps i (entry i (Append lines inside) ∷ entry i close ∷ rest) st h)
    (λ u r. then_writes (further u r) (λ v q. line_writes style n i i f close rest v q l)) in
    writes_same refl (ap (λ (bs : List ℕ). a ∷ bs) (sym (append_assoc (new_line j ++ s) (new_line i) (z ∷ []))))
    (then_writes front (λ u r. writes_rested (text_writes o 1 u.column.position z [] u (r.0, refl))))

-- the same where the gap inside them is that of a list
edges_around : {style : Style} {n a : ℕ} {items : Tree} {s : List ℕ} {st : State} (blanks keeps : Bool) (i z : ℕ) → i ≤ greatest
    → Rested st → LaysAtIndent style n items (inner style i) s → (rest : List Entry)
    → Writes (in_break style n (within (margin blanks) (opening a keeps) items (Text (z ∷ [])) style.indent) i rest st)
    (a ∷ ((new_line (inner style i) ++ s) ++ (new_line i ++ z ∷ []))) Rested
edges_around true keeps i z l h k = brackets_around space keeps i z l h k
edges_around false keeps i z l h k = brackets_around Nil keeps i z l h k

-- ---- items

-- an item and its comma
pub marked_lays : {style : Style} {n j : ℕ} {b : List ℕ} {st : State} (t : Tree) (vs : Items) → IsNotNil t
    → ((rest : List Entry) → Follows style.width rest (length (item_comma vs)) → Writes (in_break style n t j rest st) b Rested)
    → Lays style n (item_marked t vs) j st (b ++ item_comma vs)
marked_lays {b = b} t no_items some h = record { written = λ rest f. writes_same refl (append-nil b) (h rest f) }
marked_lays t (item v vs) some h = comma_marks t some h

pub member_marked_lays : {style : Style} {n j : ℕ} {b : List ℕ} {st : State} (t : Tree) (ms : Members) → IsNotNil t
    → ((rest : List Entry) → Follows style.width rest (length (member_comma ms)) → Writes (in_break style n t j rest st) b Rested)
    → Lays style n (member_marked t ms) j st (b ++ member_comma ms)
member_marked_lays {b = b} t no_members some h = record { written = λ rest f. writes_same refl (append-nil b) (h rest f) }
member_marked_lays t (g.member k v ms) some h = comma_marks t some h

-- ---- chains

-- documents after another, each in a line of its own
abbrev pub LaysAfter : Style → ℕ → List Tree → ℕ → List ℕ → Type 0
LaysAfter style n xs j s = (z : Tree) (b : List ℕ) (st : State) → Lays style n z j st b → Lays style n (chain line z xs) j st (b ++ s)

-- none, and one more
pub lays_none : (style : Style) (n j : ℕ) → LaysAfter style n [] j []
lays_none style n j = λ z b st h. record { written = λ rest f. writes_same refl (append-nil b) (h.written rest f) }

pub lays_more : {style : Style} {n j : ℕ} {t : Tree} {b : List ℕ} (xs : List Tree) (s : List ℕ) → j ≤ greatest
    → LaysAtIndent style n t j b → LaysAfter style n xs j s
    → LaysAfter style n (t ∷ xs) j (new_line j ++ (b ++ s))
lays_more {j = j} {t = t} {b = b} xs s l one later = λ z a st h. record {
  written = λ rest f.
      writes_same refl
      (sym (append_assoc a (new_line j ++ b) s ∙ ap (λ (x : List ℕ). a ++ x) (append_assoc (new_line j) b s)))
      ((later (Append (Append z line) t) (a ++ (new_line j ++ b)) st (line_between l h one)).written rest f);
}

-- ---- lists

-- members that are laid as these lines, from the beginning of the first on
pub record LaysLines (style : Style) (n j : ℕ) (fills : Bool) (t : Tree) (xs : List Tree) (lines : List ℕ) : Type 0 where
  pub bytes : List ℕ
  pub is : new_line j ++ bytes ≡ lines
  pub lays : LaysAtIndent style n (chain (gap_in fills) t xs) j bytes

-- the first member, and those after it
pub first_and_later : {style : Style} {n j : ℕ} {t : Tree} {xs : List Tree} {b lines : List ℕ} (s : List ℕ)
    → LaysAtIndent style n t j b → LaysAfter style n xs j s
    → new_line j ++ (b ++ s) ≡ lines → LaysLines style n j false t xs lines
first_and_later {t = t} {b = b} s one later is = record { bytes = b ++ s; is = is; lays = λ u r. later t b u (one u r) }

-- a list is its flat line where that fits, and else these lines between its brackets
pub list_lays : {style : Style} {n c k a : ℕ} {fills : Bool} {t : Tree} {xs : List Tree} {bs lines : List ℕ} {rest : List Entry}
    {st : State} (blanks keeps : Bool) (i z : ℕ) (line : List ℕ) (columns : ℕ)
    → AreSome (t ∷ xs)
    → IsFlat (listed blanks fills (opening a keeps) (t ∷ xs) (Text (z ∷ [])) (pos style.indent)) line columns
    → line ≡ a ∷ bs
    → i ≤ greatest → StandsAt style.width c k rest st → LaysLines style n (inner style i) fills t xs lines
    → Writes (in_break style n (listed blanks fills (opening a keeps) (t ∷ xs) (Text (z ∷ [])) (pos style.indent)) i rest st)
    (if fits_width style c k columns then line else a ∷ (lines ++ (new_line i ++ z ∷ []))) Rested
list_lays {style} {n} {c} {k} {a} {fills} {t} {xs} {bs} {lines} {rest} {st} blanks keeps i z line columns some flat begins l place inside =
    let is = listed_is blanks fills a keeps z style.indent t xs some.0 some.1 in
    let items = chain (gap_in fills) t xs in
    let inner_lines = within (margin blanks) (opening a keeps) items (Text (z ∷ [])) style.indent in
    let grouped : IsFlat (Group inner_lines) line columns = subst (λ (d : Tree). IsFlat d line columns) is flat in
    let plain : IsFlat inner_lines line columns =
    record { inline = grouped.inline; bytes = grouped.bytes; columns = grouped.columns } in
    let broken = edges_around blanks keeps i z l place.at.0 inside.lays rest in
    writes_same
    (ap (λ (d : Tree). in_break style n d i rest st) is)
    (ap (λ (x : List ℕ). if fits_width style c k columns then line else a ∷ (x ++ (new_line i ++ z ∷ []))) (sym inside.is))
    (group_writes style n i line columns plain begins place broken)

-- two brackets
pub empty_lays : (style : Style) (n i : ℕ) (blanks fills : Bool) (a : ℕ) (keeps : Bool) (z : ℕ) (rest : List Entry) (st : State)
    → Rested st
    → Writes (in_break style n (listed blanks fills (opening a keeps) [] (Text (z ∷ [])) (pos style.indent)) i rest st) (a ∷ z ∷ []) Rested
unfolding lay
empty_lays style n i blanks fills a true z rest st h =
    let o = options_at style.width in
    then_writes
    (opening_writes o (breaks o (suc n)) a true i (entry i (Text (z ∷ [])) ∷ rest) st h)
    (λ u r. writes_rested (text_writes o 1 u.column.position z [] u (r, refl)))
empty_lays style n i blanks fills a false z rest st h =
    let o = options_at style.width in
    then_writes
    (opening_writes o (breaks o (suc n)) a false i (entry i (Text (z ∷ [])) ∷ rest) st h)
    (λ u r. writes_rested (text_writes o 1 u.column.position z [] u (r, refl)))

-- ---- words

-- a lexeme that begins with no sign
pub word_lays : (o : RenderOptions) (brk : Breaks) (s : List ℕ) (i c : ℕ) (rest : List Entry) (st : State) → ends_word s ≡ false → At c st
    → Writes (lay o brk (text s) i Break rest st) s (At (saturating_add c (text_width s)))
word_lays o brk [] i c rest st e h = absurd (cc)
word_lays o brk (b ∷ bs) i c rest st e h = lexeme_writes o brk b bs i c rest st h

-- a key, its colon and a space
pub key_lays : (o : RenderOptions) (brk : Breaks) (k : List ℕ) (i c : ℕ) (rest : List Entry) (st : State) → ends_word k ≡ false → At c st
    → Writes (lay o brk (key_tree k) i Break rest st) (k ++ 58 ∷ 32 ∷ []) (At (after_key c k))
unfolding lay
key_lays o brk k i c rest st e h =
    let w = text_width k in
    let width : flat_width (k ∷ (58 ∷ []) ∷ (32 ∷ []) ∷ []) ≡ w + 2 = refl in
    let same : saturating_add (saturating_add (saturating_add c w) 1) 1 ≡ after_key c k = omega (arith, width) in
    let is : key_tree k ≡ Append (Append (text k) (Text (58 ∷ []))) space =
    ap (λ (t : Tree). append t space) (append_is (text k) (Text (58 ∷ [])) (text_some k e) tt) in
    let all =
    then_writes
    (then_writes
    (word_lays o brk k i c (entry i (Text (58 ∷ [])) ∷ entry i space ∷ rest) st e h)
    (λ u r. text_writes o 1 (saturating_add c w) 58 [] u r))
    (λ u r. text_writes o 1 (saturating_add (saturating_add c w) 1) 32 [] u r) in
    rw (is, ← same) (writes_same refl (sym (append_assoc k (58 ∷ []) (32 ∷ []))) all)

-- a key and its value
pub pair_lays : {j : ℕ} {s : List ℕ} {st : State} (style : Style) (n : ℕ) (k : List ℕ) (t : Tree) (rest : List Entry) → ends_word k ≡ false
    → IsNotNil t → At j st
    → ((u : State) → At (after_key j k) u → Writes (in_break style n t j rest u) s Rested)
    → Writes (in_break style n (append (key_tree k) t) j rest st) (k ++ 58 ∷ 32 ∷ s) Rested
unfolding lay
pair_lays {j} {s} {st} style n k t rest e some h value =
    rw (append_is (key_tree k) t (key_some k e) some)
    (writes_same refl (sym (append_assoc k (58 ∷ 32 ∷ []) s))
    (then_writes
    (key_lays (options_at style.width) (breaks (options_at style.width) (suc n)) k j j (entry j t ∷ rest) st e h)
    value))
