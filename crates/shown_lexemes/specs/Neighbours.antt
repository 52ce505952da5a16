-- Texts that a document shows, where they are lexemes: what the gaps between them must have.
use Rattle.std.specs.Prelude.{◌≡◌, ℕ, Bool, true, List, [], ◌∷◌, ◌++◌, ◌⊎◌, Option, Some, None, ⊤}
use Rattle.prettyless_model.specs.Spelling.{is_blank_byte}
use Rattle.prettyless_model.specs.Shows.{Least, Nothing, LineEnd, more, EndsLine, IsBlank, Has, Item, Shown, Gap, Mark, Late, Place}
use Rattle.prettyless_model.specs.Shows.{Before, After, with_gap, after_text}
use Rattle.text_lexemes.specs.Languages.{Language}
use Rattle.text_lexemes.specs.SpacedTexts.{MayFollow}

-- what the gap before the next text has at least
abbrev pub least_next : Place → Least
least_next (Before r) = Nothing
least_next (After r l) = l

-- what the gap after the last text has at least: a line end, or nothing
abbrev pub EndHas : Least → List ℕ → Type 0
EndHas LineEnd g = EndsLine g
EndHas l g = ⊤

-- the texts that items have in their order, each optional text or not
abbrev pub AreTextsOf : List Item → List (List ℕ) → Type 0
AreTextsOf [] ss = ss ≡ []
AreTextsOf (Shown s ∷ items) ss = (rest : List (List ℕ)) × (ss ≡ s ∷ rest) × AreTextsOf items rest
AreTextsOf (Gap r l ∷ items) ss = AreTextsOf items ss
AreTextsOf (Mark s ∷ items) ss = AreTextsOf items ss ⊎ ((rest : List (List ℕ)) × (ss ≡ s ∷ rest) × AreTextsOf items rest)
AreTextsOf (Late i ∷ items) ss = ⊥

module _ {Inner : Type 0} (L : Language Inner) where
  -- the bytes of gaps, which are space, CR and LF, are blanks, and so in no lexeme but those that go on with them
  abbrev pub PassesGaps : Type 0
  PassesGaps = (x : ℕ) → is_blank_byte x ≡ true → L.is_blank x ≡ true

  -- the second text may come after the first and a gap that has at least this, where it is a lexeme before what comes after it
  abbrev pub LetsFollow : List ℕ → Least → List ℕ → Type 0
  LetsFollow s l t = (g rest : List ℕ) → IsBlank g → Has l g → MayFollow L t rest → MayFollow L s (g ++ (t ++ rest))

  -- no text has to come after the text and a gap that has at least this
  abbrev pub LetsEnd : List ℕ → Least → Type 0
  LetsEnd s l = (g : List ℕ) → IsBlank g → EndHas l g → MayFollow L s g

  -- the same after the last text so far, or before any
  abbrev pub LetsFollowLast : Option (List ℕ) → Least → List ℕ → Type 0
  LetsFollowLast None l t = ⊤
  LetsFollowLast (Some s) l t = LetsFollow s l t

  abbrev pub LetsEndLast : Option (List ℕ) → Least → Type 0
  LetsEndLast None l = ⊤
  LetsEndLast (Some s) l = LetsEnd s l

  -- After this text, at this place, each text of the items may come after the text before it and the gaps between them, by every
  -- choice of optional texts; and none is late.
  abbrev pub AreApart : Option (List ℕ) → Place → List Item → Type 0
  AreApart last p [] = LetsEndLast last (least_next p)
  AreApart last p (Shown t ∷ items) = LetsFollowLast last (least_next p) t × AreApart (Some t) after_text items
  AreApart last p (Gap r l ∷ items) = AreApart last (with_gap r l p) items
  AreApart last p (Mark t ∷ items) =
      AreApart last p items × LetsFollowLast last (least_next p) t × AreApart (Some t) after_text items
  AreApart last p (Late i ∷ items) = ⊥

-- ---- by a table

-- A table of neighbours: what the gap between two texts has at least, so that the second may follow the first.
pub record Neighbours {Inner : Type 0} (L : Language Inner) : Type 0 where
  -- the texts that the table is of, as closed strings and comments that end with no blank
  pub is_whole : List ℕ → Bool
  -- what the gap between them has at least
  pub least : List ℕ → List ℕ → Least
  -- what the gap after the last text has at least: a line end, or nothing
  pub least_end : List ℕ → Least
  pub follow : (s t : List ℕ) → is_whole s ≡ true → is_whole t ≡ true → LetsFollow L s (least s t) t
  pub end : (s : List ℕ) → is_whole s ≡ true → LetsEnd L s (least_end s)

module _ {Inner : Type 0} {L : Language Inner} (table : Neighbours L) where
  -- the gap has what the table asks for between the last text and this one
  abbrev pub HasLeast : Option (List ℕ) → Least → List ℕ → Type 0
  HasLeast None l t = ⊤
  HasLeast (Some s) l t = more (table.least s t) l ≡ l

  abbrev pub HasLeastEnd : Option (List ℕ) → Least → Type 0
  HasLeastEnd None l = ⊤
  HasLeastEnd (Some s) l = more (table.least_end s) l ≡ l

  -- each text is one of the table, and each gap between two has what the table asks for, by every choice of optional texts; and none
  -- is late
  abbrev pub AreAsAsked : Option (List ℕ) → Place → List Item → Type 0
  AreAsAsked last p [] = HasLeastEnd last (least_next p)
  AreAsAsked last p (Shown t ∷ items) =
      (table.is_whole t ≡ true) × HasLeast last (least_next p) t × AreAsAsked (Some t) after_text items
  AreAsAsked last p (Gap r l ∷ items) = AreAsAsked last (with_gap r l p) items
  AreAsAsked last p (Mark t ∷ items) =
      AreAsAsked last p items × (table.is_whole t ≡ true) × HasLeast last (least_next p) t × AreAsAsked (Some t) after_text items
  AreAsAsked last p (Late i ∷ items) = ⊥
