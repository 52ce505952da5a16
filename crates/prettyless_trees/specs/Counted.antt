-- The trees of texts, with the columns that they count as.
use Rattle.std.specs.Prelude.{◌≡◌, ℕ, List, [], ◌∷◌, Option, IfSome, if◌then◌else◌}
use Rattle.prettyless_model.specs.Metrics.{is_ascii, text_width}
use Rattle.prettyless_model.specs.Tree.{Tree, Nil, Text, TextWithLen, MultilineText}
use Rattle.prettyless_trees.specs.Breaks.{holds_break}

-- `as_string`: counted by its bytes if it is ASCII, also if it is empty, and else by its display width
abbrev pub as_string : List ℕ → Tree
as_string s = if is_ascii s then Text s else TextWithLen (text_width s) s

-- the tree of what a value prints: of its output, where that is known, and else of some text
abbrev pub IsStringOf : Option (List ℕ) → Tree → Type 0
IsStringOf output d = (s : List ℕ) × (d ≡ as_string s) × IfSome output (λ o. s ≡ o)

-- `text`: the same, but nothing if it is empty
abbrev pub text : List ℕ → Tree
text [] = Nil
text (b ∷ s) = as_string (b ∷ s)

-- `multiline_text`: a payload if it holds LF or CR, and else `text`
abbrev pub multiline_text : List ℕ → Tree
multiline_text s = if holds_break s then MultilineText s else text s
