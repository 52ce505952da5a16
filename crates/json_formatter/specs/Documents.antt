-- The document of a JSON text, and its layout: what stands on a line is read off the pieces of the text.
use Rattle.std.specs.Prelude.{ℕ, zero, suc, ◌-◌, ◌^◌, ℤ, pos, Bool, true, false, not, ◌&&◌, ◌||◌, ◌==◌, nat_le, min, List, [], ◌∷◌, length}
use Rattle.std.specs.Prelude.{drop, map}
use Rattle.std.specs.Prelude.{if◌then◌else◌}
use Rattle.std.specs.Char.{is_ascii_digit}
use Rattle.std.specs.List.{fold, list_all}
use Rattle.json.specs.Ascii as ascii
use Rattle.json_validity.specs.Document.{max_depth}
use Rattle.json.specs.Word.{head}
use Rattle.prettyless_trees.specs.Built.{append, enclose, group, nest, softline}
use Rattle.prettyless_trees.specs.Counted.{text}
use Rattle.prettyless_model.specs.Layout.{bytes_in, layout}
use Rattle.prettyless_trees.specs.Lines.{line, line_, space}
use Rattle.prettyless_model.specs.Options.{options_at}
use Rattle.prettyless_model.specs.Tree.{Tree, Nil, TextWithLen}
use Rattle.prettyless_trees.specs.Words.{intersperse}
use Rattle.json_formatter.specs.declared.style.Fill.{Fill}
use Rattle.json_formatter.specs.declared.style.Fill.TheVariants as fill
use Rattle.json_formatter.specs.declared.style.Style.{Style}

-- ---- widths

-- the greatest number of columns that is counted
abbrev pub greatest_width : ℕ
greatest_width = 2 ^ 64 - 1

-- the style whose lines are narrower than that
abbrev pub bounded : Style → Style
bounded style = record style { width = min style.width (greatest_width - 1) }

-- ---- which piece it is: a lexeme, or a bracket and the line end after it

-- it begins with this sign, as no lexeme does but the sign
abbrev pub is_json_sign : ℕ → List ℕ → Bool
is_json_sign sign s = head s == sign

-- it opens a list, which is an object or an array
abbrev pub opens : List ℕ → Bool
opens s = is_json_sign ascii.open_brace s || is_json_sign ascii.open_bracket s

-- it is a bracket with a line end, which keeps its list broken
abbrev pub keeps_broken : List ℕ → Bool
keeps_broken s = opens s && nat_le 2 (length s)

-- the lexeme without that line end
abbrev pub lexeme_of : List ℕ → List ℕ
lexeme_of s = if opens s then head s ∷ [] else s

-- it closes one
abbrev pub closes : List ℕ → Bool
closes s = is_json_sign ascii.close_brace s || is_json_sign ascii.close_bracket s

-- a number, where it is a lexeme of a JSON text
abbrev pub is_number : List ℕ → Bool
is_number s = (head s == ascii.minus) || is_ascii_digit (head s)

-- it may be an item of an array that fills its lines, where it is a lexeme of a JSON text
abbrev pub may_fill : Fill → List ℕ → Bool
may_fill fill.Numbers s = is_number s
may_fill fill.All s = not (opens s)
may_fill fill.Nothing s = false

-- a lexeme is next of which `test` holds
abbrev pub next_is : (List ℕ → Bool) → List (List ℕ) → Bool
next_is test [] = false
next_is test (s ∷ ss) = test s

-- ---- reading lexemes from the left

-- what was found, and the lexemes that are left
pub record Read (A : Type 0) : Type 0 where
  pub found : A
  pub left : List (List ℕ)

-- what is found at the beginning of lexemes
abbrev pub Reader : Type 0 → Type 0
Reader A = List (List ℕ) → Read A

abbrev pub read : {A : Type 0} → A → Reader A
read found left = record { found = found; left = left }

-- one after the other; the second knows what the first found
abbrev pub then_read : {A B : Type 0} → Read A → (A → Reader B) → Read B
then_read first next = next first.found first.left

-- found in front of what is found later
abbrev pub onto : {A : Type 0} → A → Read (List A) → Read (List A)
onto x later = read (x ∷ later.found) later.left

-- nothing more is read: none is left, or one of which `ends` holds
abbrev pub stops : (List ℕ → Bool) → List (List ℕ) → Bool
stops ends [] = true
stops ends (s ∷ ss) = ends s

-- again and again until that, and at most so many times
unfoldable pub many : {A : Type 0} → (List ℕ → Bool) → Reader A → ℕ → Reader (List A)
many ends reader zero ss = read [] ss
many ends reader (suc n) ss =
    if stops ends ss then read [] ss else then_read (reader ss) (λ x left. onto x (many ends reader n left))

-- again and again until that; each takes a lexeme at least
abbrev pub until : {A : Type 0} → (List ℕ → Bool) → Reader A → Reader (List A)
until ends reader ss = many ends reader (length ss) ss

-- ---- the document of a value

-- a member of a list: its document, and whether its first lexeme may fill lines
pub record Member : Type 0 where
  pub tree : Tree
  pub fills : Bool

-- a lexeme alone, or nothing where none is left
abbrev pub lexeme_alone : Reader Tree
lexeme_alone [] = read Nil []
lexeme_alone (s ∷ ss) = read (text (lexeme_of s)) ss

-- a key, and if a colon is next: it, a space, and the value
abbrev pub with_value : Reader Tree → Tree → Reader Tree
with_value value key ss =
    if next_is (is_json_sign ascii.colon) ss
    then then_read (value (drop 1 ss)) (λ v. read (append (append (append key (text (ascii.colon ∷ []))) space) v))
    else read key ss

-- a document, and the comma, if it is next
abbrev pub with_comma : Tree → Reader Tree
with_comma tree ss =
    if next_is (is_json_sign ascii.comma) ss then read (append tree (text (ascii.comma ∷ []))) (drop 1 ss) else read tree ss

-- a value, or a key with its value; with the comma after it
abbrev pub member : Reader Tree → Reader Tree
member value ss = then_read (then_read (value ss) (with_value value)) with_comma

-- the same, as a member of a list
abbrev pub list_member : Style → Reader Tree → Reader Member
list_member style value ss = then_read (member value ss) (λ tree. read (record { tree = tree; fills = next_is (may_fill style.fill) ss }))

-- the documents of members
abbrev pub trees_of : List Member → List Tree
trees_of ms = map (λ m. m.tree) ms

-- whether each may fill lines
abbrev pub all_may_fill : List Member → Bool
all_may_fill ms = list_all (λ m. m.fills) ms

-- the members of a list, up to what closes it
abbrev pub list_members : Style → Reader Tree → Reader (List Member)
list_members style value = until closes (list_member style value)

-- the gap between two members where they aren't flat: they fill lines, or each has a line of its own
abbrev pub gap_in : Bool → Tree
gap_in true = softline
gap_in false = line

-- the gap inside brackets, which on a flat line is a blank, or nothing
abbrev pub margin : Bool → Tree
margin true = line
margin false = line_

-- documents between two others, with blanks inside or not, in lines that are filled or not: flat, or indented by k columns
abbrev pub listed : Bool → Bool → Tree → List Tree → Tree → ℤ → Tree
listed blanks fills before [] after k = append before after
listed blanks fills before (x ∷ xs) after k =
    group (enclose before (append (nest k (append (margin blanks) (intersperse (gap_in fills) (x ∷ xs)))) (margin blanks)) after)

-- braces have blanks inside them on a flat line, unless the style is compact
abbrev pub has_blanks : Style → List ℕ → Bool
has_blanks style opening = is_json_sign ascii.open_brace opening && not style.compact

-- a bracket; with a line end it takes as many columns as are counted, so that neither its list nor one around it fits
abbrev pub opening_text : List ℕ → Tree
opening_text s = if keeps_broken s then TextWithLen greatest_width (lexeme_of s) else text (lexeme_of s)

-- a list between its brackets; an array fills its lines where all of its items may
abbrev pub list_document : Style → List ℕ → List Member → Tree → Tree
list_document style opening ms close =
    listed (has_blanks style opening) (is_json_sign ascii.open_bracket opening && all_may_fill ms) (opening_text opening) (trees_of ms)
    close (pos style.indent)

-- a list, whose values are read by `value`, or a lexeme alone
abbrev pub list_or_lexeme : Style → Reader Tree → Reader Tree
list_or_lexeme style value [] = read Nil []
list_or_lexeme style value (s ∷ ss) =
    if opens s
    then then_read (list_members style value ss) (λ ms left. then_read (lexeme_alone left) (λ close. read (list_document style s ms close)))
    else read (text s) ss

-- the value that comes next; past so many lists inside one another a bracket stands alone
unfoldable pub value : Style → ℕ → Reader Tree
value style zero = lexeme_alone
value style (suc depth) = list_or_lexeme style (value style depth)

-- ---- the document of a text

-- the values of the pieces, one after the other; those of a JSON text are one value
abbrev pub lexemes_tree : Style → List (List ℕ) → Tree
lexemes_tree style ss = fold append Nil (until (λ _. false) (value style max_depth) ss).found

-- the layout of a document in a style
abbrev pub laid : Style → Tree → List ℕ
laid style tree = bytes_in (layout (options_at style.width) tree)
