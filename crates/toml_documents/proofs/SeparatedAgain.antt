-- Texts and gaps of documents that are laid again.
use Rattle.std.proofs.Common.{◌≡◌, refl, sym, ◌∙◌, ap, subst, ℕ, Bool, true, false, List, [], ◌∷◌, ◌++◌, append-nil, append_assoc}
use Rattle.std.proofs.Common.{if◌then◌else◌}
use Rattle.std.specs.List.{list_any}
use Rattle.prettyless_model.specs.Metrics.{is_ascii}
use Rattle.prettyless_model.specs.Tree.{Tree, Nil, Text, TextWithLen, HardLine, ExpandParent, Group}
use Rattle.prettyless_model.specs.declared.mode.Mode.{Mode}
use Rattle.prettyless_model.specs.declared.mode.Mode.TheVariants.{Break, Flat}
use Rattle.prettyless_trees.specs.Built.{append}
use Rattle.toml_lexemes.specs.Bytes as byte
use Rattle.prettyless_trees.specs.Counted as counted
use Rattle.toml_documents.specs.Documents.{broken_if, is_line_feed_byte, lexeme_tree, separated}
use Rattle.prettyless_trees.specs.Lines.{line, line_, space}
use Rattle.prettyless_laws.specs.Bits.{Bit, end_of_line, text_of, word_bits}
use Rattle.prettyless_laws.proofs.Again.{Again, first_mode, later_modes, modes_after, spelled_in}
use Rattle.toml_documents.proofs.AgainLaws.{SeparatedDocumentsStay, after_gap, edge_bits, gap_bits, line_bits}
use Rattle.toml_documents.specs.declared.gaps.Gap.TheVariants as gap
use Rattle.prettyless_laws.proofs.NodesAgain.{again_append, again_flat_group, again_group, again_same}

-- ---- parts that are the same

-- a document that leaves these modes, and is spelled so
again_as : (x : Tree) (m : Mode) (ms left : List Mode) (bits : List Bit) → modes_after x m ms ≡ left → spelled_in x m ms ≡ bits
    → Again x x m ms left bits
again_as x m ms left bits e f =
    subst (λ (l : List Bit). Again x x m ms left l) f
    (subst (λ (n : List Mode). Again x x m ms n (spelled_in x m ms)) e (again_same x m ms))

string_after : (b : Bool) (w : ℕ) (s : List ℕ) (m : Mode) (ms : List Mode) → modes_after (if b then Text s else TextWithLen w s) m ms ≡ ms
string_after true w s m ms = refl
string_after false w s m ms = refl

string_spelled : (b : Bool) (w : ℕ) (s : List ℕ) (m : Mode) (ms : List Mode)
    → spelled_in (if b then Text s else TextWithLen w s) m ms ≡ word_bits s
string_spelled true w s m ms = refl
string_spelled false w s m ms = refl

pub again_text : (s : List ℕ) (m : Mode) (ms : List Mode) → Again (counted.text s) (counted.text s) m ms ms (word_bits s)
again_text [] m ms = again_same Nil m ms
again_text (x ∷ s) m ms =
    again_as (counted.text (x ∷ s)) m ms ms (word_bits (x ∷ s)) (string_after (is_ascii (x ∷ s)) _ (x ∷ s) m ms)
    (string_spelled (is_ascii (x ∷ s)) _ (x ∷ s) m ms)

-- with nothing more spelled
pub no_more_bits : (x y : Tree) (m : Mode) (ms left : List Mode) (bits : List Bit) → Again x y m ms left (bits ++ [])
    → Again x y m ms left bits
no_more_bits x y m ms left bits h = subst (Again x y m ms left) (append-nil bits) h

-- both keep the groups around them from being flat, or neither does
pub again_broken : (b : Bool) (x y : Tree) (m : Mode) (ms left : List Mode) (bits : List Bit) → Again x y m ms left bits
    → Again (broken_if b x) (broken_if b y) m ms left bits
again_broken false x y m ms left bits h = h
again_broken true x y m ms left bits h =
    no_more_bits (append x ExpandParent) (append y ExpandParent) m ms left bits
    (again_append x y ExpandParent ExpandParent m ms left left bits [] h (again_same ExpandParent m left))

pub again_lexeme : (s : List ℕ) (m : Mode) (ms : List Mode) → Again (lexeme_tree s) (lexeme_tree s) m ms ms (word_bits s)
again_lexeme s m ms =
    again_broken (list_any is_line_feed_byte s) (counted.text s) (counted.text s) m ms ms (word_bits s) (again_text s m ms)

-- ---- gaps

line_again : (m : Mode) (ms : List Mode) → Again line line m ms ms (line_bits m)
line_again Break ms = again_same line Break ms
line_again Flat ms = again_same line Flat ms

edge_again : (m : Mode) (ms : List Mode) → Again line_ line_ m ms ms (edge_bits m)
edge_again Break ms = again_same line_ Break ms
edge_again Flat ms = again_same line_ Flat ms

fill_again : (m : Mode) (ms : List Mode) → Again (Group line) (Group line) m ms (after_gap gap.Fill m ms) (gap_bits gap.Fill m ms)
fill_again Break ms = again_group line line ms (later_modes ms) (line_bits (first_mode ms)) (line_again (first_mode ms) (later_modes ms))
fill_again Flat ms = again_flat_group line line ms ms (line_bits Flat) (line_again Flat ms)

-- two documents with one between them
again_around : (x y q r u v : Tree) (m : Mode) (ms ns ks left : List Mode) (xs qs us : List Bit) → Again x y m ms ns xs
    → Again q r m ns ks qs → Again u v m ks left us → Again (append (append x q) u) (append (append y r) v) m ms left (xs ++ (qs ++ us))
again_around x y q r u v m ms ns ks left xs qs us h g k =
    subst (Again (append (append x q) u) (append (append y r) v) m ms left) (append_assoc xs qs us)
    (again_append (append x q) (append y r) u v m ms ks left (xs ++ qs) us (again_append x y q r m ms ns ks xs qs h g) k)

pub again_separated : SeparatedDocumentsStay
again_separated gap.Nothing x y u v m ms ns left xs us h k = again_append x y u v m ms ns left xs us h k
again_separated gap.Space x y u v m ms ns left xs us h k =
    again_around x y space space u v m ms ns ns left xs (text_of (byte.blank_space ∷ []) ∷ []) us h (again_same space m ns) k
again_separated gap.Beside x y u v m ms ns left xs us h k =
    let beside = TextWithLen 0 (byte.blank_space ∷ []) in
    again_around x y beside beside u v m ms ns ns left xs (text_of (byte.blank_space ∷ []) ∷ []) us h (again_same beside m ns) k
again_separated gap.Edge x y u v m ms ns left xs us h k =
    again_around x y line_ line_ u v m ms ns ns left xs (edge_bits m) us h (edge_again m ns) k
again_separated gap.Line x y u v m ms ns left xs us h k =
    again_around x y line line u v m ms ns ns left xs (line_bits m) us h (line_again m ns) k
again_separated gap.Fill x y u v m ms ns left xs us h k =
    again_around x y (Group line) (Group line) u v m ms ns (after_gap gap.Fill m ns) left xs (gap_bits gap.Fill m ns) us h
    (fill_again m ns) k
again_separated gap.BlankLine x y u v m ms ns left xs us h k =
    subst (λ (l : List Bit). Again (separated gap.BlankLine x u) (separated gap.BlankLine y v) m ms left l)
    (append_assoc xs (edge_bits m) (line_bits m ++ us)
    ∙ ap (λ (l : List Bit). xs ++ l) (sym (append_assoc (edge_bits m) (line_bits m) us)))
    (again_around (append x line_) (append y line_) line line u v m ms ns ns left (xs ++ edge_bits m) (line_bits m) us
    (again_append x y line_ line_ m ms ns ns xs (edge_bits m) h (edge_again m ns)) (line_again m ns) k)
again_separated gap.Break x y u v m ms ns left xs us h k =
    again_around x y HardLine HardLine u v m ms ns ns left xs (end_of_line ∷ []) us h (again_same HardLine m ns) k
again_separated gap.BlankBreak x y u v m ms ns left xs us h k =
    subst (λ (l : List Bit). Again (separated gap.BlankBreak x u) (separated gap.BlankBreak y v) m ms left l)
    (append_assoc xs (end_of_line ∷ []) (end_of_line ∷ us))
    (again_around (append x HardLine) (append y HardLine) HardLine HardLine u v m ms ns ns left (xs ++ end_of_line ∷ [])
    (end_of_line ∷ []) us
    (again_append x y HardLine HardLine m ms ns ns xs (end_of_line ∷ []) h (again_same HardLine m ns)) (again_same HardLine m ns) k)
