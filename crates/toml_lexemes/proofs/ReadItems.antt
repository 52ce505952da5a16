-- Bytes that show items have the statements that the items are read as.
use Rattle.std.proofs.Common.{◌≡◌, ℕ, zero, suc, Bool, true, false, List, [], ◌∷◌, ◌++◌, refl, sym, ap, ◌∙◌, subst, ◌⊎◌, inl, inr}
use Rattle.std.proofs.Common.{append-nil}
use Rattle.std.proofs.lemmas.Bool.{true≢false}
use Rattle.prettyless_model.specs.Shows.{NoGap, SameLine, AnyLine, Least, Nothing, Spacing, LineEnd, more, EndsLine, IsBlank, Has, Item}
use Rattle.prettyless_model.specs.Shows.{Shown, Gap, Mark, Late, Place, Before, After, with_gap, after_text, IsGapAt, ShowsText, ShowsFrom}
use Rattle.prettyless_model.specs.Shows.{AreShown}
use Rattle.prettyless_model.proofs.Gaps.{some_in, ends_or_not}
use Rattle.prettyless_model.proofs.Implied.{end_blank}
use Rattle.text_lexemes.specs.Languages.{between, cut}
use Rattle.toml_lexemes.specs.Lexemes.{cut_toml}
use Rattle.toml_lexemes.specs.Statements.{a_closing, role, Collected, none_collected, line_ended_at, line_ended, with_held_comma}
use Rattle.toml_lexemes.specs.Statements.{with_role, with_lexeme, with_lexemes, statements_of, statements}
use Rattle.toml_lexemes.specs.Shown.{IsWholeLexeme, least_between, Stage, first_stage, least_at, LinesAgree, AgreesWithMark, MayStand}
use Rattle.toml_lexemes.specs.Shown.{IsInside, MayMark, collected_at, after_shown, AreRead}
use Rattle.toml_lexemes.proofs.LineEnds.{cut-nil, line_ends, cut_gap, none_ends, statements_ended, line_ends_keep, line_ends_end}
use Rattle.toml_lexemes.proofs.LineEnds.{with_both}
use Rattle.toml_lexemes.proofs.WholeLexemes.{sign_is_whole}
use Rattle.toml_lexemes.proofs.TextsApart.{LeavesRoom, read_apart, some_bytes}

-- ---- gaps

-- a line end in brackets changes nothing
pub inside_keeps : (c : Collected) → IsInside c.depth → line_ended c ≡ c
inside_keeps c h = at c.depth h
  where
    at : (n : ℕ) → IsInside n → line_ended_at n c ≡ c
    at zero h = absurd h
    at (suc n) h = refl

-- what is more has what is less
has_more : (n l : Least) (g : List ℕ) → more n l ≡ l → Has l g → Has n g
has_more Nothing l g e h = tt
has_more Spacing Nothing g e h = absurd (cc)
has_more Spacing Spacing g e h = h
has_more Spacing LineEnd g e h = some_in g h
has_more LineEnd l g e h = subst (λ m. Has m g) (sym e) h

gap_blank : (p : Place) (g : List ℕ) → IsGapAt p g → IsBlank g
gap_blank (Before r) g h = h.0
gap_blank (After r l) g h = h.0

gap_has : (p : Place) (g : List ℕ) → IsGapAt p g → Has (least_at p) g
gap_has (Before r) g h = tt
gap_has (After r l) g h = h.2

module _ (c : Collected) (g : List ℕ) where
  no_gap : g ≡ [] → with_lexemes c (line_ends g) ≡ c
  no_gap e = ap (λ l. with_lexemes c (line_ends l)) e

  on_line : (EndsLine g → ⊥) → with_lexemes c (line_ends g) ≡ c
  on_line n = ap (λ l. with_lexemes c l) (none_ends g n)

  -- the line ends of a gap, where it is known what they change
  gap_read : (p : Place) → IsGapAt p g → LinesAgree p c → with_lexemes c (line_ends g) ≡ collected_at p c
  gap_read (After r LineEnd) h agree = line_ends_end c g h.2
  gap_read (After NoGap Nothing) h agree = no_gap h.1
  gap_read (After NoGap Spacing) h agree = no_gap h.1
  gap_read (After SameLine Nothing) h agree = on_line h.1
  gap_read (After SameLine Spacing) h agree = on_line h.1
  gap_read (After AnyLine Nothing) h agree = line_ends_keep c agree g
  gap_read (After AnyLine Spacing) h agree = line_ends_keep c agree g
  gap_read (Before NoGap) h agree = no_gap h.1
  gap_read (Before SameLine) h agree = on_line h.1
  gap_read (Before AnyLine) h agree = line_ends_keep c agree g

  -- at the end line ends change nothing
  end_read : statements_of (with_lexemes c (line_ends g)) ≡ statements_of c
  end_read = by (ends_or_not g)
    where
      by : EndsLine g ⊎ (EndsLine g → ⊥) → statements_of (with_lexemes c (line_ends g)) ≡ statements_of c
      by (inl h) = ap statements_of (line_ends_end c g h) ∙ statements_ended c
      by (inr n) = ap statements_of (on_line n)

-- ---- the last text and what is after it

-- what is collected before the last text of a stage
abbrev IsBefore : Collected → List ℕ → Collected → Type 0
IsBefore c [] d = c ≡ d
IsBefore c (x ∷ s) d = IsWholeLexeme (x ∷ s) × (with_lexeme c (x ∷ s) ≡ d)

-- the last text is read, and then the gap, and then the rest
last_read : (c d : Collected) (s g w : List ℕ) → IsBefore c s d → IsBlank g → LeavesRoom s g w
    → with_lexemes c (cut_toml between (s ++ (g ++ w))) ≡ with_lexemes (with_lexemes d (line_ends g)) (cut_toml between w)
last_read c d [] g w before blank room =
    ap (λ l. with_lexemes c l) (cut_gap g w blank) ∙ ap (λ e. with_lexemes e (line_ends g ++ cut_toml between w)) before
    ∙ with_both d (line_ends g) (cut_toml between w)
last_read c d (x ∷ s) g w (whole, is) blank room =
    read_apart (x ∷ s) g w blank whole room c ∙ ap (λ b. with_lexemes b (line_ends g ++ cut_toml between w)) is
    ∙ with_both d (line_ends g) (cut_toml between w)

cut_comma : (w : List ℕ) → cut_toml between (44 ∷ w) ≡ (44 ∷ []) ∷ cut_toml between w
unfolding cut
cut_comma w = refl

-- ---- items

-- what bytes after the last text are read as, where they show these items
abbrev ReadsOn : List Item → Type 0
ReadsOn items =
    (a b : Stage) (c : Collected) (bytes : List ℕ) → IsBefore c a.last a.collected → AreRead a items b → b.marked ≡ false
    → ShowsFrom a.place [] bytes items → statements_of (with_lexemes c (cut_toml between (a.last ++ bytes))) ≡ statements_of b.collected

-- the same after an optional text that is there, from any place on
abbrev ReadsOnAfterMark : List Item → Type 0
ReadsOnAfterMark items =
    (a b : Stage) (p : Place) (bytes : List ℕ) → a.marked ≡ true → IsInside a.collected.depth → a.collected.comma ≡ false
    → AreRead a items b → b.marked ≡ false → ShowsFrom p [] bytes items
    → statements_of (with_lexemes a.collected (cut_toml between (44 ∷ bytes))) ≡ statements_of b.collected

no_items : ReadsOn []
no_items a b c bytes before same unmarked end =
    let blank = end_blank a.place bytes end in
    ap (λ l. statements_of (with_lexemes c (cut_toml between (a.last ++ l)))) (sym (append-nil bytes))
    ∙ ap statements_of (last_read c a.collected a.last bytes [] before blank (inl refl))
    ∙ ap (λ l. statements_of (with_lexemes (with_lexemes a.collected (line_ends bytes)) l)) cut-nil
    ∙ end_read a.collected bytes ∙ ap (λ s. statements_of s.collected) same

no_items_after_mark : ReadsOnAfterMark []
no_items_after_mark a b p bytes marked inside comma same unmarked end =
    absurd (true≢false (sym marked ∙ ap (λ (s : Stage). s.marked) same ∙ unmarked))

before_last : (c d : Collected) (s : List ℕ) → IsWholeLexeme s → with_lexeme c s ≡ d → IsBefore c s d
before_last c d s whole e = by s (some_bytes s whole) whole e
  where
    by : (t : List ℕ) → (y : ℕ) × (ys : List ℕ) × (t ≡ y ∷ ys) → IsWholeLexeme t → with_lexeme c t ≡ d → IsBefore c t d
    by [] (y, ys, n) h k = absurd (cc)
    by (y ∷ ys) some h k = (h, k)

-- the gap before a text leaves room for it
room_before : (p : Place) (s t g rest : List ℕ) → IsWholeLexeme t → IsGapAt p g → more (least_between s t) (least_at p) ≡ least_at p
    → LeavesRoom s g (t ++ rest)
room_before p s t g rest whole gap apart = by t (some_bytes t whole) (has_more (least_between s t) (least_at p) g apart (gap_has p g gap))
  where
    first : (s : List ℕ) (y : ℕ) (ys zs : List ℕ) → Has (least_between s (y ∷ ys)) g → Has (least_between s (y ∷ zs)) g
    first [] y ys zs h = h
    first (x ∷ xs) y ys zs h = h

    by : (t : List ℕ) → (y : ℕ) × (ys : List ℕ) × (t ≡ y ∷ ys) → Has (least_between s t) g → LeavesRoom s g (t ++ rest)
    by [] (y, ys, n) h = absurd (cc)
    by (y ∷ ys) some h = inr (first s y ys (ys ++ rest) h)

module _ (items : List Item) (later : ReadsOn items) where
  -- a text, after the gap that stands before it
  text_read : (s : List ℕ) (a b : Stage) (c : Collected) (bytes : List ℕ) → IsBefore c a.last a.collected → IsWholeLexeme s → MayStand a s
      → AreRead (after_shown a s) items b → b.marked ≡ false
      → ShowsText (IsGapAt a.place) s bytes (λ rest. ShowsFrom after_text [] rest items)
      → statements_of (with_lexemes c (cut_toml between (a.last ++ bytes))) ≡ statements_of b.collected
  text_read s a b c bytes before whole stand read unmarked (g, rest, gap, is, shown) =
      let here = collected_at a.place a.collected in
      ap (λ l. statements_of (with_lexemes c (cut_toml between (a.last ++ l)))) is
      ∙ ap statements_of (last_read c a.collected a.last g (s ++ rest) before (gap_blank a.place g gap)
      (room_before a.place a.last s g rest whole gap stand.apart))
      ∙ ap (λ d. statements_of (with_lexemes d (cut_toml between (s ++ rest)))) (gap_read a.collected g a.place gap stand.lines)
      ∙ later (after_shown a s) b here rest (before_last here (with_lexeme here s) s whole refl) read unmarked shown

  -- a closing bracket after an optional text that is there
  closing_read : (s : List ℕ) (a b : Stage) (p : Place) (bytes : List ℕ) → IsInside a.collected.depth → a.collected.comma ≡ false
      → IsWholeLexeme s → role s ≡ a_closing → AreRead (after_shown a s) items b → b.marked ≡ false
      → ShowsText (IsGapAt p) s bytes (λ rest. ShowsFrom after_text [] rest items)
      → statements_of (with_lexemes a.collected (cut_toml between (44 ∷ bytes))) ≡ statements_of b.collected
  closing_read s a b p bytes inside comma whole closes read unmarked (g, rest, gap, is, shown) =
      let held = record a.collected { comma = true } in
      let here = collected_at a.place a.collected in
      let same : here ≡ a.collected = keeps a.place in
      let dropped : with_lexeme held s ≡ with_lexeme here s =
      ap (λ r. with_role r held s) closes ∙ ap (λ d. with_role a_closing d s) (sym same) ∙ ap (λ r. with_role r here s) (sym closes) in
      ap (λ l. statements_of (with_lexemes a.collected (cut_toml between (44 ∷ l)))) is
      ∙ ap (λ l. statements_of (with_lexemes a.collected l)) (cut_comma (g ++ (s ++ rest)))
      ∙ ap (λ d. statements_of (with_lexemes d (cut_toml between (g ++ (s ++ rest))))) (ap (λ t. with_held_comma t a.collected) comma)
      ∙ ap (λ l. statements_of (with_lexemes held l)) (cut_gap g (s ++ rest) (gap_blank p g gap))
      ∙ ap statements_of (with_both held (line_ends g) (cut_toml between (s ++ rest)))
      ∙ ap (λ d. statements_of (with_lexemes d (cut_toml between (s ++ rest)))) (line_ends_keep held (inside_keeps held inside) g)
      ∙ later (after_shown a s) b held rest (before_last held (with_lexeme here s) s whole dropped) read unmarked shown
    where
      keeps : (q : Place) → collected_at q a.collected ≡ a.collected
      keeps (After r LineEnd) = inside_keeps a.collected inside
      keeps (After r Nothing) = refl
      keeps (After r Spacing) = refl
      keeps (Before r) = refl

-- a comma that an optional text left there
comma_read : (items : List Item) → ReadsOnAfterMark items → (a b : Stage) (c : Collected) (bytes : List ℕ)
    → IsBefore c a.last a.collected → MayMark a (44 ∷ []) → AreRead (record a { marked = true }) items b → b.marked ≡ false
    → ShowsText (IsGapAt a.place) (44 ∷ []) bytes (λ rest. ShowsFrom after_text [] rest items)
    → statements_of (with_lexemes c (cut_toml between (a.last ++ bytes))) ≡ statements_of b.collected
comma_read items later a b c bytes before mark read unmarked (g, rest, gap, is, shown) =
    ap (λ l. statements_of (with_lexemes c (cut_toml between (a.last ++ l)))) is
    ∙ ap statements_of (last_read c a.collected a.last g (44 ∷ rest) before (gap_blank a.place g gap)
    (room_before a.place a.last (44 ∷ []) g rest (sign_is_whole 44 refl) gap mark.apart))
    ∙ ap (λ d. statements_of (with_lexemes d (cut_toml between (44 ∷ rest))))
    (line_ends_keep a.collected (inside_keeps a.collected mark.inside) g)
    ∙ later (record a { marked = true }) b after_text rest refl mark.inside mark.no_comma read unmarked shown

closes_after_mark : (m : Bool) (s : List ℕ) → m ≡ true → AgreesWithMark m s → role s ≡ a_closing
closes_after_mark true s e h = h
closes_after_mark false s e h = absurd (cc)

reads_on : (items : List Item) → ReadsOn items × ReadsOnAfterMark items
reads_on [] = (no_items, no_items_after_mark)
reads_on (Shown s ∷ items) = (
  λ a b c bytes before (whole, stand, read) unmarked shown.
      text_read items (reads_on items).0 s a b c bytes before whole stand read unmarked shown,
  λ a b p bytes marked inside comma (whole, stand, read) unmarked shown.
      closing_read items (reads_on items).0 s a b p bytes inside comma whole (closes_after_mark a.marked s marked stand.mark) read
      unmarked shown,
)
reads_on (Gap r l ∷ items) = (
  λ a b c bytes before read unmarked shown.
      (reads_on items).0 (record a { place = with_gap r l a.place }) b c bytes before read unmarked shown,
  λ a b p bytes marked inside comma read unmarked shown.
      (reads_on items).1 (record a { place = with_gap r l a.place }) b (with_gap r l p) bytes marked inside comma read unmarked shown,
)
reads_on (Mark s ∷ items) = (
  λ a b c bytes before (mark, read) unmarked shown. mark_read (reads_on items) a b c bytes before mark read unmarked shown,
  λ a b p bytes marked inside comma (mark, read) unmarked shown. absurd (true≢false (sym marked ∙ mark.no_mark)),
)
  where
    mark_read : ReadsOn items × ReadsOnAfterMark items → (a b : Stage) (c : Collected) (bytes : List ℕ) → IsBefore c a.last a.collected
        → MayMark a s → AreRead (record a { marked = true }) items b → b.marked ≡ false → ShowsFrom a.place [] bytes (Mark s ∷ items)
        → statements_of (with_lexemes c (cut_toml between (a.last ++ bytes))) ≡ statements_of b.collected
    mark_read later a b c bytes before mark read unmarked (inl shown) =
        later.0 (record a { marked = true }) b c bytes before read unmarked shown
    mark_read later a b c bytes before mark read unmarked (inr shown) =
        comma_read items later.1 a b c bytes before (subst (MayMark a) mark.comma mark) read unmarked
        (subst (λ t. ShowsText (IsGapAt a.place) t bytes (λ rest. ShowsFrom after_text [] rest items)) mark.comma shown)
reads_on (Late i ∷ items) = (
  λ a b c bytes before read unmarked shown. absurd read,
  λ a b p bytes marked inside comma read unmarked shown. absurd read,
)

-- the law
pub shown_as_read : (bytes : List ℕ) (items : List Item) (b : Stage) → AreRead first_stage items b → b.marked ≡ false
    → AreShown bytes items → statements bytes ≡ statements_of b.collected
unfolding statements
shown_as_read bytes items b read unmarked shown =
    (reads_on items).0 first_stage b none_collected bytes refl read unmarked shown
