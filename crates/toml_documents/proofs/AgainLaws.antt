-- How documents that are laid again as others are put together.
use Rattle.std.specs.Prelude.{◌≡◌, ℕ, pos, Bool, true, false, List, [], ◌∷◌, ◌++◌}
use Rattle.prettyless_trees.specs.Built.{append, group, nest}
use Rattle.prettyless_trees.specs.Counted as counted
use Rattle.prettyless_model.specs.Tree.{Tree, Nil, BreakOrFlat}
use Rattle.prettyless_model.specs.Metrics.{is_ascii}
use Rattle.prettyless_model.specs.declared.mode.Mode.{Mode}
use Rattle.prettyless_model.specs.declared.mode.Mode.TheVariants.{Break, Flat}
use Rattle.toml_lexemes.specs.Bytes as byte
use Rattle.toml_documents.specs.Documents.{broken_if, lines_with, separated}
use Rattle.prettyless_laws.specs.Bits.{Bit, end_of_line, text_of, word_bits}
use Rattle.prettyless_laws.proofs.Again.{Again, first_mode, later_modes}
use Rattle.toml_documents.specs.declared.gaps.Gap.{Gap}
use Rattle.toml_documents.specs.declared.gaps.Gap.TheVariants as gap

-- ---- gaps

-- the modes after a gap, which may be a group of its own
abbrev pub after_gap : Gap → Mode → List Mode → List Mode
after_gap gap.Fill Break ms = later_modes ms
after_gap g m ms = ms

-- how a line that may be flat is spelled
abbrev pub line_bits : Mode → List Bit
line_bits Break = end_of_line ∷ []
line_bits Flat = text_of (byte.blank_space ∷ []) ∷ []

-- the same where it is nothing when it is flat
abbrev pub edge_bits : Mode → List Bit
edge_bits Break = end_of_line ∷ []
edge_bits Flat = []

-- how a gap is spelled
abbrev pub gap_bits : Gap → Mode → List Mode → List Bit
gap_bits gap.Nothing m ms = []
gap_bits gap.Space m ms = text_of (byte.blank_space ∷ []) ∷ []
gap_bits gap.Beside m ms = text_of (byte.blank_space ∷ []) ∷ []
gap_bits gap.Edge m ms = edge_bits m
gap_bits gap.Line m ms = line_bits m
gap_bits gap.Fill Break ms = line_bits (first_mode ms)
gap_bits gap.Fill Flat ms = line_bits Flat
gap_bits gap.BlankLine m ms = edge_bits m ++ line_bits m
gap_bits gap.Break m ms = end_of_line ∷ []
gap_bits gap.BlankBreak m ms = end_of_line ∷ end_of_line ∷ []

abbrev pub SeparatedDocumentsStay : Type 0
SeparatedDocumentsStay =
    (g : Gap) (x y u v : Tree) (m : Mode) (ms ns left : List Mode) (xs us : List Bit) → Again x y m ms ns xs
    → Again u v m (after_gap g m ns) left us
    → Again (separated g x u) (separated g y v) m ms left (xs ++ (gap_bits g m ns ++ us))

-- on a flat line a blank line goes
abbrev pub FlatBlankLinesGo : Gap → Type 0
FlatBlankLinesGo g =
    (x y u v : Tree) (ms ns left : List Mode) (xs us : List Bit) → Again x y Flat ms ns xs → Again u v Flat ns left us
    → Again (separated gap.BlankLine x u) (separated g y v) Flat ms left (xs ++ (line_bits Flat ++ us))

-- ---- lists

-- a comma where lines are broken
abbrev pub optional_comma : Tree
optional_comma = BreakOrFlat (counted.text (byte.comma ∷ [])) Nil

abbrev pub with_optional_comma : Tree → Tree
with_optional_comma x = append x optional_comma

-- a list that was broken has a comma after its last item when it is laid again, whether it had one or not
abbrev pub BrokenListsAreTrailed : Type 0
BrokenListsAreTrailed =
    (had : Bool) (x y : Tree) (ms left : List Mode) (bits : List Bit) → Again x y Break ms left bits
    → Again (broken_if had (with_optional_comma x)) (broken_if true (with_optional_comma y)) Break ms left
    (bits ++ text_of (byte.comma ∷ []) ∷ [])

-- one that was flat has none, and had none
abbrev pub FlatListsAreNot : Type 0
FlatListsAreNot =
    (had : Bool) (x y : Tree) (ms left : List Mode) (bits : List Bit) → Again x y Flat ms left bits
    → Again (broken_if had (with_optional_comma x)) (with_optional_comma y) Flat ms left bits

-- what is between brackets, with them, as a list is
abbrev pub bracketed : ℕ → Gap → List ℕ → Tree → List ℕ → Tree
bracketed n g opening x closing =
    group (separated g (nest (pos n) (append (counted.text opening) x)) (counted.text closing))

-- how it is spelled
abbrev pub bracketed_bits : Gap → Mode → List Mode → List ℕ → List Bit → List ℕ → List Bit
bracketed_bits g m ms opening bits closing = (word_bits opening ++ bits) ++ (gap_bits g m ms ++ word_bits closing)

-- a list where lines are broken is laid in the first of the modes
abbrev pub BracketedDocumentsStay : Type 0
BracketedDocumentsStay =
    (n : ℕ) (g : Gap) (a b : ℕ) (s t : List ℕ) (x y : Tree) (ms left : List Mode) (bits : List Bit)
    → Again x y (first_mode ms) (later_modes ms) left bits
    → Again (bracketed n g (a ∷ s) x (b ∷ t)) (bracketed n g (a ∷ s) y (b ∷ t)) Break ms (after_gap g (first_mode ms) left)
    (bracketed_bits g (first_mode ms) left (a ∷ s) bits (b ∷ t))

-- and on a flat line it is flat
abbrev pub FlatBracketsStay : Type 0
FlatBracketsStay =
    (n : ℕ) (g : Gap) (a b : ℕ) (s t : List ℕ) (x y : Tree) (ms left : List Mode) (bits : List Bit) → Again x y Flat ms left bits
    → Again (bracketed n g (a ∷ s) x (b ∷ t)) (bracketed n g (a ∷ s) y (b ∷ t)) Flat ms left
    (bracketed_bits g Flat left (a ∷ s) bits (b ∷ t))

-- ---- words and lines

-- where a word is laid again after a document, and one beside it follows, the two are laid again as one word
abbrev pub WordsAreJoined : Type 0
WordsAreJoined =
    (g : Gap) (x z : Tree) (m : Mode) (ms left : List Mode) (bits : List Bit) (a b : ℕ) (s t : List ℕ) → is_ascii (a ∷ s) ≡ true
    → is_ascii (b ∷ t) ≡ true → Again x (separated g z (counted.text (a ∷ s))) m ms left bits
    → Again (append x (counted.text (b ∷ t))) (separated g z (counted.text ((a ∷ s) ++ (b ∷ t)))) m ms left (bits ++ word_bits (b ∷ t))

-- a blank line, or none
abbrev pub blank_bits : Bool → List Bit
blank_bits false = []
blank_bits true = end_of_line ∷ []

abbrev pub LinesStay : Type 0
LinesStay =
    (blank : Bool) (x y u v : Tree) (ms ns left : List Mode) (xs us : List Bit) → Again x y Break ms ns xs → Again u v Break ns left us
    → Again (lines_with blank x u) (lines_with blank y v) Break ms left (xs ++ (blank_bits blank ++ (us ++ end_of_line ∷ [])))
