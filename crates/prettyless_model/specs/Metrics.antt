-- What is measured of a payload, a text that holds line breaks of its own.
use Rattle.std.specs.Prelude.{ℕ, Bool, true, false, not, ◌||◌, ◌==◌, nat_lt, List, [], ◌∷◌, length, max, chars, if◌then◌else◌}
use Rattle.std.specs.List.{list_all, slice_split}
use Rattle.unicode_width.specs.Width.{str_width}
use Rattle.prettyless_model.specs.declared.metrics.Metrics.{Metrics}

-- LF and CR
abbrev pub is_break : ℕ → Bool
is_break b = (b == 10) || (b == 13)

-- what is between the breaks: the text cut at every LF and at every CR
abbrev pub parts : List ℕ → List (List ℕ)
parts s = slice_split is_break s

-- each byte is below 128
abbrev pub is_ascii : List ℕ → Bool
is_ascii s = list_all (λ b. nat_lt b 128) s

-- the columns that a text takes: its bytes if ASCII, else its display width
abbrev pub text_width : List ℕ → ℕ
text_width s = if is_ascii s then length s else str_width false (chars s)

-- no byte
abbrev pub is_empty : List ℕ → Bool
is_empty [] = true
is_empty (b ∷ bs) = false

-- the greatest width of parts, 0 for none
abbrev pub widest : List (List ℕ) → ℕ
widest [] = 0
widest (p ∷ ps) = max (text_width p) (widest ps)

-- the first part
abbrev pub first_of_parts : List (List ℕ) → List ℕ
first_of_parts [] = []
first_of_parts (p ∷ ps) = p

-- all parts but the first
abbrev pub later_parts : List (List ℕ) → List (List ℕ)
later_parts [] = []
later_parts (p ∷ ps) = ps

-- the last of a part and those after it
abbrev pub last_of_parts : List ℕ → List (List ℕ) → List ℕ
last_of_parts p [] = p
last_of_parts p (q ∷ qs) = last_of_parts q qs

-- the metrics of a payload
abbrev pub metrics : List ℕ → Metrics
metrics s =
    let ps = parts s in
    let first = first_of_parts ps in
    let final = last_of_parts [] ps in
    record {
      first_width = text_width first;
      first_nonempty = not (is_empty first);
      rest_width = widest (later_parts ps);
      last_width = text_width final;
      last_nonempty = not (is_empty final);
    }
