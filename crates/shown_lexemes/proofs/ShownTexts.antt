-- Bytes that show items whose texts may follow each other are well spaced, so these texts are their lexemes.
use Rattle.std.proofs.Common.{◌≡◌, ℕ, Bool, true, false, List, [], ◌∷◌, ◌++◌, Option, Some, None, refl, sym, ap, ◌∙◌, subst, inl, inr}
use Rattle.std.specs.Prelude.{⊤}
use Rattle.prettyless_model.specs.Spelling.{is_blank_byte}
use Rattle.prettyless_model.specs.Shows.{Least, Nothing, Spacing, LineEnd, more, IsBlank, Has, Item}
use Rattle.prettyless_model.specs.Shows.{Shown, Gap, Mark, Late, Place, Before, After, with_gap, at_start, after_text, IsGapAt, IsEndAt}
use Rattle.prettyless_model.specs.Shows.{ShowsText, ShowsFrom, AreShown, AreFixed, texts}
use Rattle.prettyless_model.proofs.Gaps.{some_in}
use Rattle.prettyless_model.proofs.Implied.{end_blank}
use Rattle.text_lexemes.specs.Languages.{Language, lexemes_in}
use Rattle.text_lexemes.specs.SpacedTexts.{IsGap, MayFollow, IsWellSpaced}
use Rattle.text_lexemes.proofs.WellSpaced.{same_lexemes}
use Rattle.shown_lexemes.specs.Neighbours.{least_next, EndHas, AreTextsOf, PassesGaps, LetsFollowLast, LetsEndLast}
use Rattle.shown_lexemes.specs.Neighbours.{AreApart, Neighbours, HasLeast, HasLeastEnd, AreAsAsked}

-- ---- gaps

gap_blank : (p : Place) (g : List ℕ) → IsGapAt p g → IsBlank g
gap_blank (Before r) g h = h.0
gap_blank (After r l) g h = h.0

gap_has : (p : Place) (g : List ℕ) → IsGapAt p g → Has (least_next p) g
gap_has (Before r) g h = tt
gap_has (After r l) g h = h.2

end_has : (p : Place) (g : List ℕ) → IsEndAt p g → EndHas (least_next p) g
end_has (Before r) g h = tt
end_has (After r Nothing) g h = tt
end_has (After r Spacing) g h = tt
end_has (After r LineEnd) g h = h.2

pub first_blank : (t : Bool) (x : ℕ) (g : List ℕ) → is_blank_byte x ≡ t → IsBlank (x ∷ g) → (is_blank_byte x ≡ true) × IsBlank g
first_blank true x g e h = (e, rw e at h)
first_blank false x g e h = absurd (cc (rw e at h))

-- what is more has what is less
has_more : (n l : Least) (g : List ℕ) → more n l ≡ l → Has l g → Has n g
has_more Nothing l g e h = tt
has_more Spacing Nothing g e h = absurd (cc)
has_more Spacing Spacing g e h = h
has_more Spacing LineEnd g e h = some_in g h
has_more LineEnd l g e h = subst (λ m. Has m g) (sym e) h

end_has_more : (n l : Least) (g : List ℕ) → more n l ≡ l → EndHas l g → EndHas n g
end_has_more Nothing l g e h = tt
end_has_more Spacing l g e h = tt
end_has_more LineEnd l g e h = subst (λ m. EndHas m g) (sym e) h

module _ {Inner : Type 0} (L : Language Inner) where
  gap_passed : PassesGaps L → (g : List ℕ) → IsBlank g → IsGap L g
  gap_passed passes [] h = tt
  gap_passed passes (x ∷ g) h =
      let parts = first_blank (is_blank_byte x) x g refl h in
      (passes x parts.0, gap_passed passes g parts.1)

  -- ---- what comes after the last text

  abbrev FollowsLast : Option (List ℕ) → List ℕ → Type 0
  FollowsLast None bytes = ⊤
  FollowsLast (Some s) bytes = MayFollow L s bytes

  last_followed : (last : Option (List ℕ)) (p : Place) (t g rest bytes : List ℕ) → LetsFollowLast L last (least_next p) t → IsGapAt p g
      → MayFollow L t rest → bytes ≡ g ++ (t ++ rest) → FollowsLast last bytes
  last_followed None p t g rest bytes lets gap follows is = tt
  last_followed (Some s) p t g rest bytes lets gap follows is =
      subst (MayFollow L s) (sym is) (lets g rest (gap_blank p g gap) (gap_has p g gap) follows)

  last_ended : (last : Option (List ℕ)) (p : Place) (bytes : List ℕ) → LetsEndLast L last (least_next p) → IsEndAt p bytes
      → FollowsLast last bytes
  last_ended None p bytes lets end = tt
  last_ended (Some s) p bytes lets end = lets bytes (end_blank p bytes end) (end_has p bytes end)

  -- ---- items

  -- the bytes after the last text, where they are texts of the items with gaps around them
  abbrev AreWell : Option (List ℕ) → List ℕ → List Item → Type 0
  AreWell last bytes items =
      (ss : List (List ℕ)) × AreTextsOf items ss × IsWellSpaced L bytes ss × FollowsLast last bytes

  abbrev ShowsWell : List Item → Type 0
  ShowsWell items =
      (last : Option (List ℕ)) (p : Place) (bytes : List ℕ) → AreApart L last p items → ShowsFrom p [] bytes items
      → AreWell last bytes items

  text_shown : (items : List Item) → ShowsWell items → (last : Option (List ℕ)) (p : Place) (t bytes : List ℕ)
      → LetsFollowLast L last (least_next p) t → AreApart L (Some t) after_text items → PassesGaps L
      → ShowsText (IsGapAt p) t bytes (λ rest. ShowsFrom after_text [] rest items)
      → AreWell last bytes (Shown t ∷ items)
  text_shown items later last p t bytes lets apart passes (g, rest, gap, is, shown) =
      by (later (Some t) after_text rest apart shown)
    where
      by : AreWell (Some t) rest items → AreWell last bytes (Shown t ∷ items)
      by (ss, chosen, well, follows) = (
        t ∷ ss,
        (ss, refl, chosen),
        (g, rest, gap_passed passes g (gap_blank p g gap), is, follows, well),
        last_followed last p t g rest bytes lets gap follows is,
      )

  marked : (t : List ℕ) (items : List Item) (last : Option (List ℕ)) (bytes : List ℕ) → AreWell last bytes (Shown t ∷ items)
      → AreWell last bytes (Mark t ∷ items)
  marked t items last bytes (ss, chosen, well, follows) = (ss, inr chosen, well, follows)

  not_marked : (t : List ℕ) (items : List Item) (last : Option (List ℕ)) (bytes : List ℕ) → AreWell last bytes items
      → AreWell last bytes (Mark t ∷ items)
  not_marked t items last bytes (ss, chosen, well, follows) = (ss, inl chosen, well, follows)

  shows_well : PassesGaps L → (items : List Item) → ShowsWell items
  shows_well passes [] last p bytes apart end =
      ([], refl, gap_passed passes bytes (end_blank p bytes end), last_ended last p bytes apart end)
  shows_well passes (Shown t ∷ items) last p bytes apart shown =
      text_shown items (shows_well passes items) last p t bytes apart.0 apart.1 passes shown
  shows_well passes (Gap r l ∷ items) last p bytes apart shown = shows_well passes items last (with_gap r l p) bytes apart shown
  shows_well passes (Mark t ∷ items) last p bytes apart (inl shown) =
      not_marked t items last bytes (shows_well passes items last p bytes apart.0 shown)
  shows_well passes (Mark t ∷ items) last p bytes apart (inr shown) =
      marked t items last bytes (text_shown items (shows_well passes items) last p t bytes apart.1 apart.2 passes shown)
  shows_well passes (Late i ∷ items) last p bytes apart shown = absurd apart

  pub shown_are_lexemes : (bytes : List ℕ) (items : List Item) → PassesGaps L → AreApart L None at_start items → AreShown bytes items
      → AreTextsOf items (lexemes_in L bytes)
  shown_are_lexemes bytes items passes apart shown = by (shows_well passes items None at_start bytes apart shown)
    where
      by : AreWell None bytes items → AreTextsOf items (lexemes_in L bytes)
      by (ss, chosen, well, follows) = subst (AreTextsOf items) (sym (same_lexemes L bytes ss well)) chosen

  -- ---- by a table

  module _ (table : Neighbours L) where
    -- a last text that the table is of
    abbrev IsOfTable : Option (List ℕ) → Type 0
    IsOfTable None = ⊤
    IsOfTable (Some s) = table.is_whole s ≡ true

    lets_follow : (last : Option (List ℕ)) (l : Least) (t : List ℕ) → IsOfTable last → table.is_whole t ≡ true → HasLeast table last l t
        → LetsFollowLast L last l t
    lets_follow None l t of whole least = tt
    lets_follow (Some s) l t of whole least =
        λ g rest blank has follows. table.follow s t of whole g rest blank (has_more (table.least s t) l g least has) follows

    lets_end : (last : Option (List ℕ)) (l : Least) → IsOfTable last → HasLeastEnd table last l → LetsEndLast L last l
    lets_end None l of least = tt
    lets_end (Some s) l of least = λ g blank has. table.end s of g blank (end_has_more (table.least_end s) l g least has)

    pub set_apart : (items : List Item) (last : Option (List ℕ)) (p : Place) → IsOfTable last → AreAsAsked table last p items
        → AreApart L last p items
    set_apart [] last p of asked = lets_end last (least_next p) of asked
    set_apart (Shown t ∷ items) last p of asked =
        (lets_follow last (least_next p) t of asked.0 asked.1, set_apart items (Some t) after_text asked.0 asked.2)
    set_apart (Gap r l ∷ items) last p of asked = set_apart items last (with_gap r l p) of asked
    set_apart (Mark t ∷ items) last p of asked = (
      set_apart items last p of asked.0,
      lets_follow last (least_next p) t of asked.1 asked.2,
      set_apart items (Some t) after_text asked.1 asked.3,
    )
    set_apart (Late i ∷ items) last p of asked = absurd asked

-- ---- items with no optional text

pub fixed_texts : (items : List Item) (ss : List (List ℕ)) → AreFixed items → AreTextsOf items ss → ss ≡ texts items
fixed_texts [] ss fixed are = are
fixed_texts (Shown s ∷ items) ss fixed (rest, is, are) = is ∙ ap (λ l. s ∷ l) (fixed_texts items rest fixed are)
fixed_texts (Gap r l ∷ items) ss fixed are = fixed_texts items ss fixed are
fixed_texts (Mark s ∷ items) ss fixed are = absurd fixed
fixed_texts (Late i ∷ items) ss fixed are = absurd fixed
