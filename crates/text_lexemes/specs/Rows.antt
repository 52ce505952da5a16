-- A small language and its lexemes: names, the sign `;`, and notes, which go from `#` to the blanks at the end of their line.
use Rattle.std.specs.Prelude.{◌≡◌, ℕ, List, [], ◌∷◌, Bool, true, cond, ◌||◌, ◌&&◌, ◌==◌, map, codes}
use Prim.Native.String.{String}
use Rattle.text_lexemes.specs.Languages.{First, alone, begins, Turn, goes_on, stops, Language, lexemes_in}
use Rattle.text_lexemes.specs.SpacedTexts.{MayFollow}

pub data InSmall : Type 0 where
  in_name : InSmall
  in_note : InSmall

-- a space, CR or LF
abbrev pub is_small_blank : ℕ → Bool
is_small_blank x = (x == 32) || (x == 13) || (x == 10)

abbrev pub first_small : ℕ → First InSmall
first_small x = cond (x == 59) alone (cond (x == 35) (begins in_note) (begins in_name))

-- blanks alone come before the line end, or before the end of the text
abbrev pub ends_note : List ℕ → Bool
ends_note [] = true
ends_note (x ∷ xs) = (x == 10) || (is_small_blank x && ends_note xs)

-- where a note ends is for all bytes up to the line end to say
abbrev pub turn_small : InSmall → ℕ → List ℕ → Turn InSmall
turn_small in_name x rest = cond (is_small_blank x || (x == 59) || (x == 35)) stops (goes_on in_name)
turn_small in_note x rest = cond (ends_note (x ∷ rest)) stops (goes_on in_note)

abbrev pub small_language : Language InSmall
small_language = record { is_blank = is_small_blank; first = first_small; turn = turn_small }

-- the text has these lexemes
abbrev pub HasLexemes : String → List String → Type 0
HasLexemes text ss = lexemes_in small_language (codes text) ≡ map codes ss

-- the second text may follow the first, or it may not
abbrev pub FollowsSmall : String → String → Type 0
FollowsSmall s rest = MayFollow small_language (codes s) (codes rest)

abbrev pub FollowsSmallNot : String → String → Type 0
FollowsSmallNot s rest = FollowsSmall s rest → ⊥
