-- Bytes that show items have the texts among them, with gaps around them.
use Rattle.std.proofs.Common.{◌≡◌, ℕ, List, [], ◌∷◌, ◌++◌, subst, refl, false}
use Rattle.prettyless_model.specs.declared.options.RenderOptions.{RenderOptions}
use Rattle.prettyless_model.specs.Spelling.{is_blank_byte}
use Rattle.prettyless_model.specs.Tree.{Tree}
use Rattle.prettyless_model.specs.Layout.{layout, Whole}
use Rattle.prettyless_model.specs.Content.{HasContent}
use Rattle.prettyless_model.specs.Shows.{Item, Shown, Gap, Mark, Late, texts, AreFixed, HasTexts, IsBlank, IsSpaced, Place, Before, After}
use Rattle.prettyless_model.specs.Shows.{with_gap, after_text, at_start, IsGapAt, ShowsFrom, AreShown}
use Rattle.prettyless_model.proofs.Implied.{end_blank}
use Rattle.prettyless_model.proofs.Showing.{layout_shows}

gap_blank : (p : Place) (g : List ℕ) → IsGapAt p g → IsBlank g
gap_blank (Before r) g h = h.0
gap_blank (After r l) g h = h.0

spaced_from : (p : Place) (b : List ℕ) (items : List Item) → AreFixed items → ShowsFrom p [] b items → IsSpaced b (texts items)
spaced_from p b [] f h = end_blank p b h
spaced_from p b (Shown s ∷ items) f h = (h.0, h.1, gap_blank p h.0 h.2, h.3, spaced_from after_text h.1 items f h.4)
spaced_from p b (Gap r l ∷ items) f h = spaced_from (with_gap r l p) b items f h
spaced_from p b (Mark s ∷ items) f h = absurd f
spaced_from p b (Late i ∷ items) f h = absurd f

-- bytes that show items of which each is there, in its place
pub shown_spaced : (b : List ℕ) (items : List Item) → AreFixed items → AreShown b items → IsSpaced b (texts items)
shown_spaced b items f h = spaced_from at_start b items f h

-- bytes with the content of a document are its texts, with gaps around them
pub texts_shown : (d : Tree) (b : List ℕ) (ss : List (List ℕ)) → HasContent d b → HasTexts d ss → IsSpaced b ss
texts_shown d b ss h s = subst (IsSpaced b) s.3 (shown_spaced b s.0 s.2 (h.shown s.0 s.1))

-- a whole layout is the texts of its document, with gaps around them
pub layout_texts : (o : RenderOptions) (d : Tree) (b : List ℕ) (ss : List (List ℕ)) → HasTexts d ss → layout o d ≡ Whole b → IsSpaced b ss
layout_texts o d b ss s e = subst (IsSpaced b) s.3 (shown_spaced b s.0 s.2 (layout_shows o d b s.0 s.1 e))

-- bytes that begin with ink begin with no gap
pub text_begins : (b : ℕ) (bs g rest : List ℕ) → is_blank_byte b ≡ false → b ∷ bs ≡ g ++ rest → IsBlank g → g ≡ []
text_begins b bs [] rest n e h = refl
text_begins b bs (c ∷ cs) rest n e h =
    let same : b ≡ c = cc in
    let inked : is_blank_byte c ≡ false = rw (← same) n in
    absurd (cc (rw inked at h))
