-- Statements, and texts of them, are laid out as they are settled.
use Rattle.std.proofs.Common.{◌≡◌, refl, sym, ◌∙◌, ap, ℕ, suc, ◌+◌, ◌-◌, Bool, true, false, List, [], ◌∷◌, ◌++◌, arith, append_assoc}
use Rattle.std.proofs.Common.{append-nil}
use Rattle.std.specs.Prelude.{Option, Some, None}
use Rattle.prettyless_model.specs.declared.mode.Mode.TheVariants.{Break}
use Rattle.prettyless_model.specs.Metrics.{text_width}
use Rattle.prettyless_model.specs.Layout.{State, Entry, breaks, entry, initial, lay, next_indent}
use Rattle.prettyless_model.specs.Tree.{Tree, Nil, Text, HardLine, size}
use Rattle.prettyless_trees.specs.Built.{append, between}
use Rattle.prettyless_trees.specs.Counted.{text}
use Rattle.prettyless_laws.proofs.LineEnds.{layout_ends}
use Rattle.toml_lexemes.specs.Bytes as byte
use Rattle.toml_lexemes.specs.Statements.{trimmed}
use Rattle.toml_syntax.specs.Tree.{Key, TomlValue, Body, note, header, pair, Remark, Statement}
use Rattle.toml_syntax.specs.Spelled.{spelled_line_ends, spelled_key, spelled_body, spelled_remark, spelled_statement, spelled_statements}
use Rattle.toml_syntax.specs.Formatted.{lexemes_text, laid_out}
use Rattle.toml_syntax.specs.Settled.{key_columns, pair_room, gap_if, settled_value, settled_body, settled_remark, settled_statement}
use Rattle.toml_syntax.specs.Settled.{settled_from, comment_gap, blank_lines_kept, is_none, first_of, keeps_equals}
use Rattle.toml_layouts.specs.Documents.{text_style, hard_lines, key_parts_tree, pair_tree, value_tree, body_tree, remark_tree}
use Rattle.toml_layouts.specs.Documents.{statement_tree, tree_with, statements_tree}
use Rattle.toml_layouts.specs.Keyed.{IsKeyed, IsKeyedBody, AreKeyed}
use Rattle.toml_layouts.specs.Laws.{LayoutsAreSettled, options_with}
use Rattle.toml_layouts.proofs.Bytes.{bytes_append, key_bytes, value_bytes, pair_bytes}
use Rattle.toml_layouts.proofs.Broken.{hard_lines_at, noted_print, noted_quiet, parts_at, parts_print, between_print, value_at}
use Rattle.toml_layouts.proofs.Printed.{Printer, in_break, Idle, At, Prints, prints_same, text_at, sign_at, line_at, append_prints}
use Rattle.toml_layouts.proofs.Printed.{Always, always_append, always_same, always_nothing, always_text, Follows, seen_follows}
use Rattle.toml_layouts.proofs.Printed.{follows_same, append_fits, end_follows, line_next, Quiet, quiet_nothing}

-- ---- lines

room_after : (a b c : ℕ) → a + (b + (c + 2)) ≡ ((((0 + a) + b) + c) + 2) + 0
room_after a b c = omega arith

pair_at : (p : Printer) (ind g : List ℕ) (k : Key) (b : List ℕ) (v : TomlValue) (rest : List Entry) (st : State) → IsKeyed v
    → next_indent 0 rest ≡ 0 → Follows p 0 rest → At 0 st
    → Prints (in_break p (pair_tree g k b (value_tree (text_style p.width ind) g true v)) rest st)
    (g ++ (key_bytes k ++ (b ++ ((byte.equals ∷ byte.blank_space ∷ [])
    ++ value_bytes (settled_value (text_style p.width ind) g (pair_room (text_style p.width ind) g k b) v))))) Idle
pair_at p ind g k b v rest st keyed level f at =
    let s = text_style p.width ind in
    let value = value_tree s g true v in
    let signs = Text (byte.equals ∷ byte.blank_space ∷ []) in
    let room = pair_room s g k b in
    let laid = value_bytes (settled_value s g room v) in
    let after_key = b ++ ((byte.equals ∷ byte.blank_space ∷ []) ++ laid) in
    let one = 0 + text_width g in
    let two = one + key_columns s k in
    let three = two + text_width b in
    append_prints p (text g) (append (key_parts_tree k) (append (text b) (append signs value))) g (key_bytes k ++ after_key) rest st level
    (λ front seen. text_at p 0 g front st at)
    (λ u i. append_prints p (key_parts_tree k) (append (text b) (append signs value)) (key_bytes k) after_key rest u level
    (λ front seen. parts_at p ind k one front u seen.0 i)
    (λ w j. append_prints p (text b) (append signs value) b ((byte.equals ∷ byte.blank_space ∷ []) ++ laid) rest w level
    (λ front seen. text_at p two b front w j)
    (λ x l. append_prints p signs value (byte.equals ∷ byte.blank_space ∷ []) laid rest x level
    (λ front seen. sign_at p three byte.equals (byte.blank_space ∷ []) front x l)
    (λ y m. value_at p ind v keyed g (three + 2) 0 rest y room level
    (ap (λ (n : ℕ). Some (p.width - n)) (room_after (text_width g) (key_columns s k) (text_width b))) m f))))

header_bytes : (k : Key) → lexemes_text (spelled_body [] (header false k)) ≡ (byte.open_bracket ∷ key_bytes k) ++ (byte.close_bracket ∷ [])
header_bytes k = ap (λ (s : List ℕ). byte.open_bracket ∷ s) (bytes_append (spelled_key [] k) _)

tables_bytes : (k : Key)
    → lexemes_text (spelled_body [] (header true k))
    ≡ (byte.open_bracket ∷ ((byte.open_bracket ∷ key_bytes k) ++ (byte.close_bracket ∷ []))) ++ (byte.close_bracket ∷ [])
tables_bytes k =
    ap (λ (s : List ℕ). byte.open_bracket ∷ byte.open_bracket ∷ s)
    (bytes_append (spelled_key [] k) _
    ∙ sym (append_assoc (key_bytes k) (byte.close_bracket ∷ []) (byte.close_bracket ∷ [])))

header_print : (p : Printer) (k : Key) → Always p (between byte.open_bracket byte.close_bracket (key_parts_tree k))
    ((byte.open_bracket ∷ key_bytes k) ++ (byte.close_bracket ∷ []))
header_print p k = between_print p byte.open_bracket byte.close_bracket (key_parts_tree k) (parts_print p k)

body_print : (p : Printer) (ind g : List ℕ) (b : Bool) (d : Body) (rest : List Entry) (st : State) → IsKeyedBody d
    → next_indent 0 rest ≡ 0 → Follows p 0 rest → At 0 st
    → Prints (in_break p (body_tree (text_style p.width ind) g b d) rest st)
    (lexemes_text (spelled_body g (settled_body (text_style p.width ind) g b d))) Idle
body_print p ind g b (note t) rest st k level f at =
    prints_same refl (ap (λ (s : List ℕ). g ++ s) (append-nil (trimmed t)))
    (always_append p (text g) (text (trimmed t)) (always_text p g) (always_text p (trimmed t)) rest st level at.0)
body_print p ind g b (header false key) rest st k level f at =
    prints_same refl (ap (λ (s : List ℕ). g ++ s) (header_bytes key))
    (always_append p (text g) (between byte.open_bracket byte.close_bracket (key_parts_tree key)) (always_text p g) (header_print p key)
    rest st level at.0)
body_print p ind g b (header true key) rest st k level f at =
    let inside = between byte.open_bracket byte.close_bracket (key_parts_tree key) in
    prints_same refl (ap (λ (s : List ℕ). g ++ s) (tables_bytes key))
    (always_append p (text g) (between byte.open_bracket byte.close_bracket inside) (always_text p g)
    (between_print p byte.open_bracket byte.close_bracket inside (header_print p key)) rest st level at.0)
body_print p ind g b (pair key blanks v) rest st k level f at =
    let s = text_style p.width ind in
    let kept = gap_if b blanks in
    prints_same refl (pair_bytes g key kept (settled_value s g (pair_room s g key kept) v) k.0)
    (pair_at p ind g key kept v rest st k.1 level f at)

remark_print : (p : Printer) (r : Option Remark) → Always p (remark_tree r) (lexemes_text (spelled_remark (settled_remark r)))
remark_print p None = always_nothing p
remark_print p (Some r) =
    always_same p (remark_tree (Some r)) (ap (λ (s : List ℕ). comment_gap r.gap ++ s) (append-nil (trimmed r.text)))
    (noted_print p (comment_gap r.gap) (trimmed r.text))

remark_quiet : (p : Printer) (r : Option Remark) → Quiet p (remark_tree r)
remark_quiet p None = quiet_nothing p
remark_quiet p (Some r) = noted_quiet p (comment_gap r.gap) (trimmed r.text)

-- ---- statements

statement_bytes : (t : Statement)
    → lexemes_text (spelled_statement t)
    ≡ lexemes_text (spelled_line_ends t.before.line_ends)
    ++ (lexemes_text (spelled_body t.before.gap t.body) ++ (lexemes_text (spelled_remark t.remark) ++ (byte.line_feed ∷ [])))
statement_bytes t =
    let body = spelled_body t.before.gap t.body in
    bytes_append (spelled_line_ends t.before.line_ends) _
    ∙ ap (λ (s : List ℕ). lexemes_text (spelled_line_ends t.before.line_ends) ++ s)
    (bytes_append body _ ∙ ap (λ (s : List ℕ). lexemes_text body ++ s) (bytes_append (spelled_remark t.remark) _))

statement_at : (p : Printer) (ind : List ℕ) (first b : Bool) (t : Statement) (rest : List Entry) (st : State) → IsKeyedBody t.body
    → next_indent 0 rest ≡ 0 → At 0 st
    → Prints (in_break p (statement_tree (text_style p.width ind) first b t) rest st)
    (lexemes_text (spelled_statement (settled_statement (text_style p.width ind) first b t))) (At 0)
statement_at p ind first b t rest st k level at =
    let s = text_style p.width ind in
    let n = blank_lines_kept first t.before.line_ends in
    let g = t.before.gap in
    let body = body_tree s g b t.body in
    let end = append (remark_tree t.remark) HardLine in
    let remark = lexemes_text (spelled_remark (settled_remark t.remark)) in
    let said = lexemes_text (spelled_body g (settled_body s g b t.body)) in
    let last = remark ++ (byte.line_feed ∷ []) in
    prints_same refl (statement_bytes (settled_statement s first b t))
    (append_prints p (hard_lines n) (append body end) (lexemes_text (spelled_line_ends n)) (said ++ last) rest st level
    (λ front seen. hard_lines_at p n front st seen.0 at)
    (λ u i. append_prints p body end said last rest u level
    (λ front seen. body_print p ind g b t.body front u k seen.0
    (seen_follows p 0 front (entry 0 end ∷ rest) seen
    (follows_same p 0 (entry 0 end ∷ rest) (entry 0 (remark_tree t.remark) ∷ entry 0 HardLine ∷ rest)
    (append_fits p (remark_tree t.remark) HardLine rest)
    (remark_quiet p t.remark (entry 0 HardLine ∷ rest) (end_follows p (entry 0 HardLine ∷ rest) (line_next p rest)))))
    i)
    (λ w j. append_prints p (remark_tree t.remark) HardLine remark (byte.line_feed ∷ []) rest w level
    (λ front seen. remark_print p t.remark front w seen.0 j)
    (λ x l. line_at p rest x level l))))

-- a document is laid from the beginning of a line to one
abbrev IsLaidInLines : Printer → Tree → List ℕ → Type 0
IsLaidInLines p d s = (rest : List Entry) (st : State) → next_indent 0 rest ≡ 0 → At 0 st → Prints (in_break p d rest st) s (At 0)

no_lines : (p : Printer) → IsLaidInLines p Nil []
unfolding lay
no_lines p = λ rest st e h. record { after = st; done = refl; state = h }

lines_with : (p : Printer) (x y : Tree) (a b : List ℕ) → IsLaidInLines p x a → IsLaidInLines p y b → IsLaidInLines p (append x y) (a ++ b)
lines_with p x y a b f g = λ rest st e h.
    append_prints p x y a b rest st e (λ front seen. f front st seen.0 h) (λ u i. g rest u e i)

-- statements after a document
lines_after : (p : Printer) (ind : List ℕ) (done : Tree) (a : List ℕ) (before : Option Statement) (ts : List Statement) → AreKeyed ts
    → IsLaidInLines p done a
    → IsLaidInLines p (tree_with (text_style p.width ind) done before ts)
    (a ++ lexemes_text (spelled_statements (settled_from (text_style p.width ind) before ts)))
lines_after p ind done a before [] k h = λ rest st e at. prints_same refl (append-nil a) (h rest st e at)
lines_after p ind done a before (t ∷ ts) k h = λ rest st e at.
    let s = text_style p.width ind in
    let first = is_none before in
    let kept = keeps_equals s before t (first_of ts) in
    let one = lexemes_text (spelled_statement (settled_statement s first kept t)) in
    let others = settled_from s (Some t) ts in
    let tree = statement_tree s first kept t in
    prints_same refl
    (ap (λ (b : List ℕ). a ++ b) (bytes_append (spelled_statement (settled_statement s first kept t)) (spelled_statements others))
    ∙ sym (append_assoc a one (lexemes_text (spelled_statements others))))
    (lines_after p ind (append done tree) (a ++ one) (Some t) ts k.1
    (lines_with p done tree a one h (λ front u l i. statement_at p ind first kept t front u k.0 l i)) rest st e at)

-- ---- layouts

one_more : (n : ℕ) → n + 1 ≡ suc n
one_more n = omega arith

pub layouts_are_settled : LayoutsAreSettled
layouts_are_settled width ind policy ts narrow keyed =
    let d = statements_tree (text_style width ind) ts in
    let o = options_with width policy in
    let p : Printer = record { width = width; policy = policy; levels = size d; narrow = narrow } in
    let at : At 0 initial = (record { pending = refl; indent = refl; padding = refl; within = omega arith }, omega arith) in
    let laid = lines_after p ind Nil [] None ts keyed (no_lines p) [] initial refl at in
    layout_ends o d (laid_out (text_style width ind) ts) laid.after
    (ap (λ (n : ℕ). lay o (breaks o n) d 0 Break [] initial) (one_more (size d)) ∙ laid.done)
    laid.state.0.pending
