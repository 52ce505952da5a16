-- Bytes that show items show what these imply.
use Rattle.std.proofs.Common.{◌≡◌, ℕ, ◌<◌, length, arith, List, [], ◌∷◌, ◌++◌, refl, sym, subst, ap, ◌⊎◌, inl, inr}
use Rattle.prettyless_model.specs.Shows.{Reach, NoGap, SameLine, AnyLine, Least, Nothing, Spacing, LineEnd, further, more, EndsLine}
use Rattle.prettyless_model.specs.Shows.{IsBlank, StaysWithin, Has, Item, Shown, Gap, Mark, Late, IsWeaker, Implies, Place, Before, After}
use Rattle.prettyless_model.specs.Shows.{with_gap, after_text, on_line, after_line, line_start, same_line, late_place, MayEnd, MayStay}
use Rattle.prettyless_model.specs.Shows.{IsGapAt, IsEndAt, ShowsText, ShowsLineEnd, ShowsThen, ShowsNext, ShowsFrom}

-- ---- reaches and what gaps have at least: each has an order, in which `further` and `more` are the greater

further_same : (r : Reach) → further r r ≡ r
further_same NoGap = refl
further_same SameLine = refl
further_same AnyLine = refl

further_both : (a b c : Reach) → further a c ≡ c → further b c ≡ c → further (further a b) c ≡ c
further_both NoGap b c h k = k
further_both SameLine NoGap c h k = h
further_both SameLine SameLine c h k = h
further_both SameLine AnyLine c h k = k
further_both AnyLine b c h k = h

further_left : (a c d : Reach) → further a c ≡ c → further a (further c d) ≡ further c d
further_left NoGap c d h = refl
further_left SameLine NoGap d h = absurd (cc)
further_left SameLine SameLine NoGap h = refl
further_left SameLine SameLine SameLine h = refl
further_left SameLine SameLine AnyLine h = refl
further_left SameLine AnyLine d h = refl
further_left AnyLine NoGap d h = absurd (cc)
further_left AnyLine SameLine d h = absurd (cc)
further_left AnyLine AnyLine d h = refl

further_right : (b c d : Reach) → further b d ≡ d → further b (further c d) ≡ further c d
further_right b NoGap d h = h
further_right NoGap c d h = refl
further_right SameLine SameLine NoGap h = refl
further_right SameLine SameLine SameLine h = refl
further_right SameLine SameLine AnyLine h = refl
further_right AnyLine SameLine NoGap h = absurd (cc)
further_right AnyLine SameLine SameLine h = absurd (cc)
further_right AnyLine SameLine AnyLine h = refl
further_right SameLine AnyLine d h = refl
further_right AnyLine AnyLine d h = refl

further_mono : (a b c d : Reach) → further a c ≡ c → further b d ≡ d → further (further a b) (further c d) ≡ further c d
further_mono a b c d h k = further_both a b (further c d) (further_left a c d h) (further_right b c d k)

more_same : (l : Least) → more l l ≡ l
more_same Nothing = refl
more_same Spacing = refl
more_same LineEnd = refl

more_both : (a b c : Least) → more a c ≡ c → more b c ≡ c → more (more a b) c ≡ c
more_both Nothing b c h k = k
more_both Spacing Nothing c h k = h
more_both Spacing Spacing c h k = h
more_both Spacing LineEnd c h k = k
more_both LineEnd b c h k = h

more_left : (a c d : Least) → more a c ≡ c → more a (more c d) ≡ more c d
more_left Nothing c d h = refl
more_left Spacing Nothing d h = absurd (cc)
more_left Spacing Spacing Nothing h = refl
more_left Spacing Spacing Spacing h = refl
more_left Spacing Spacing LineEnd h = refl
more_left Spacing LineEnd d h = refl
more_left LineEnd Nothing d h = absurd (cc)
more_left LineEnd Spacing d h = absurd (cc)
more_left LineEnd LineEnd d h = refl

more_right : (b c d : Least) → more b d ≡ d → more b (more c d) ≡ more c d
more_right b Nothing d h = h
more_right Nothing c d h = refl
more_right Spacing Spacing Nothing h = refl
more_right Spacing Spacing Spacing h = refl
more_right Spacing Spacing LineEnd h = refl
more_right LineEnd Spacing Nothing h = absurd (cc)
more_right LineEnd Spacing Spacing h = absurd (cc)
more_right LineEnd Spacing LineEnd h = refl
more_right Spacing LineEnd d h = refl
more_right LineEnd LineEnd d h = refl

more_mono : (a b c d : Least) → more a c ≡ c → more b d ≡ d → more (more a b) (more c d) ≡ more c d
more_mono a b c d h k = more_both a b (more c d) (more_left a c d h) (more_right b c d k)

stays_mono : (r s : Reach) (g : List ℕ) → further r s ≡ s → StaysWithin r g → StaysWithin s g
stays_mono NoGap NoGap g e h = h
stays_mono NoGap SameLine g e h = λ ends. subst EndsLine h ends
stays_mono r AnyLine g e h = tt
stays_mono SameLine NoGap g e h = absurd (cc)
stays_mono SameLine SameLine g e h = h
stays_mono AnyLine NoGap g e h = absurd (cc)
stays_mono AnyLine SameLine g e h = absurd (cc)

some_in : (g : List ℕ) → EndsLine g → 0 < length g
some_in [] h = absurd h
some_in (b ∷ bs) h = omega arith

has_mono : (l m : Least) (g : List ℕ) → more m l ≡ l → Has l g → Has m g
has_mono l Nothing g e h = tt
has_mono Nothing Spacing g e h = absurd (cc)
has_mono Spacing Spacing g e h = h
has_mono LineEnd Spacing g e h = some_in g h
has_mono Nothing LineEnd g e h = absurd (cc)
has_mono Spacing LineEnd g e h = absurd (cc)
has_mono LineEnd LineEnd g e h = h

-- ---- places

-- the second place asks no more of the gap after it
abbrev IsLooser : Place → Place → Type 0
IsLooser (Before r) (Before s) = further r s ≡ s
IsLooser (After r l) (After s m) = (further r s ≡ s) × (more m l ≡ l)
IsLooser p q = ⊥

same_looser : (p : Place) → IsLooser p p
same_looser (Before r) = further_same r
same_looser (After r l) = (further_same r, more_same l)

weaker_same : (r : Reach) (l : Least) → IsWeaker r l r l
weaker_same r l = (further_same r, more_same l, λ e. inl e)

-- so it does after gaps of which the second is weaker
gap_looser : (p q : Place) (r s : Reach) (l m : Least) → IsLooser p q → IsWeaker r l s m → IsLooser (with_gap r l p) (with_gap s m q)
gap_looser (Before a) (Before b) r s l m h k = further_mono a r b s h k.0
gap_looser (Before a) (After b c) r s l m h k = h
gap_looser (After a c) (Before b) r s l m h k = h
gap_looser (After a c) (After b d) r s l m h k = (further_mono a r b s h.0 k.0, more_mono d m c l h.1 k.1)

further_none : (r : Reach) → further r NoGap ≡ r
further_none NoGap = refl
further_none SameLine = refl
further_none AnyLine = refl

more_none : (l : Least) → more l Nothing ≡ l
more_none Nothing = refl
more_none Spacing = refl
more_none LineEnd = refl

-- and after one that may be nothing
none_looser : (p q : Place) (s : Reach) (m : Least) → IsLooser p q → IsWeaker NoGap Nothing s m → IsLooser p (with_gap s m q)
none_looser (Before a) (Before b) s m h k = rw (further_none a) at (further_mono a NoGap b s h k.0)
none_looser (Before a) (After b c) s m h k = h
none_looser (After a c) (Before b) s m h k = h
none_looser (After a c) (After b d) s m h k =
    (rw (further_none a) at (further_mono a NoGap b s h.0 k.0), rw (more_none c) at (more_mono d m c Nothing h.1 k.1))

may_end : (p q : Place) → IsLooser p q → MayEnd p → MayEnd q
may_end (Before AnyLine) (Before NoGap) e h = absurd (cc)
may_end (Before AnyLine) (Before SameLine) e h = absurd (cc)
may_end (Before AnyLine) (Before AnyLine) e h = tt
may_end (Before AnyLine) (After s m) e h = absurd e
may_end (After AnyLine l) (Before s) e h = absurd e
may_end (After AnyLine l) (After NoGap m) e h = absurd (let f = e.0 in cc)
may_end (After AnyLine l) (After SameLine m) e h = absurd (let f = e.0 in cc)
may_end (After AnyLine l) (After AnyLine m) e h = tt
may_end (Before NoGap) q e h = absurd h
may_end (Before SameLine) q e h = absurd h
may_end (After NoGap l) q e h = absurd h
may_end (After SameLine l) q e h = absurd h

may_stay : (p q : Place) → IsLooser p q → MayStay p → MayStay q
may_stay (Before r) (Before s) e h = tt
may_stay (Before r) (After s m) e h = absurd e
may_stay (After r l) (Before s) e h = tt
may_stay (After r l) (After s Nothing) e h = tt
may_stay (After r l) (After s Spacing) e h = tt
may_stay (After r Nothing) (After s LineEnd) e h = absurd (let f = e.1 in cc)
may_stay (After r Spacing) (After s LineEnd) e h = absurd (let f = e.1 in cc)
may_stay (After r LineEnd) (After s LineEnd) e h = h

gap_at : (p q : Place) (g : List ℕ) → IsLooser p q → IsGapAt p g → IsGapAt q g
gap_at (Before r) (Before s) g e h = (h.0, stays_mono r s g e h.1)
gap_at (Before r) (After s m) g e h = absurd e
gap_at (After r l) (Before s) g e h = absurd e
gap_at (After r l) (After s m) g e h = (h.0, stays_mono r s g e.0 h.1, has_mono l m g e.1 h.2)

pub end_blank : (p : Place) (g : List ℕ) → IsEndAt p g → IsBlank g
end_blank (Before r) g h = h.0
end_blank (After r Nothing) g h = h.0
end_blank (After r Spacing) g h = h.0
end_blank (After r LineEnd) g h = h.0

end_within : (r : Reach) (l : Least) (g : List ℕ) → IsEndAt (After r l) g → StaysWithin r g
end_within r Nothing g h = h.1
end_within r Spacing g h = h.1
end_within r LineEnd g h = h.1

end_at : (p q : Place) (g : List ℕ) → IsLooser p q → IsEndAt p g → IsEndAt q g
end_at (Before r) (Before s) g e h = (h.0, stays_mono r s g e h.1)
end_at (Before r) (After s m) g e h = absurd e
end_at (After r l) (Before s) g e h = absurd e
end_at (After r l) (After s Nothing) g e h = (end_blank (After r l) g h, stays_mono r s g e.0 (end_within r l g h))
end_at (After r l) (After s Spacing) g e h = (end_blank (After r l) g h, stays_mono r s g e.0 (end_within r l g h))
end_at (After r Nothing) (After s LineEnd) g e h = absurd (let f = e.1 in cc)
end_at (After r Spacing) (After s LineEnd) g e h = absurd (let f = e.1 in cc)
end_at (After r LineEnd) (After s LineEnd) g e h = (h.0, stays_mono r s g e.0 h.1, h.2)

-- where no line has ended, and before the items that wait
same_line_looser : (p q : Place) → IsLooser p q → IsLooser (same_line p) (same_line q)
same_line_looser (Before NoGap) (Before NoGap) e = e
same_line_looser (Before NoGap) (Before SameLine) e = refl
same_line_looser (Before NoGap) (Before AnyLine) e = refl
same_line_looser (Before SameLine) (Before NoGap) e = absurd (cc)
same_line_looser (Before SameLine) (Before SameLine) e = e
same_line_looser (Before SameLine) (Before AnyLine) e = refl
same_line_looser (Before AnyLine) (Before NoGap) e = absurd (cc)
same_line_looser (Before AnyLine) (Before SameLine) e = absurd (cc)
same_line_looser (Before AnyLine) (Before AnyLine) e = refl
same_line_looser (Before r) (After s m) e = absurd e
same_line_looser (After r l) (Before s) e = absurd e
same_line_looser (After NoGap l) (After NoGap m) e = e
same_line_looser (After NoGap l) (After SameLine m) e = e
same_line_looser (After NoGap l) (After AnyLine m) e = (refl, e.1)
same_line_looser (After SameLine l) (After NoGap m) e = absurd (let f = e.0 in cc)
same_line_looser (After SameLine l) (After SameLine m) e = e
same_line_looser (After SameLine l) (After AnyLine m) e = (refl, e.1)
same_line_looser (After AnyLine l) (After NoGap m) e = absurd (let f = e.0 in cc)
same_line_looser (After AnyLine l) (After SameLine m) e = absurd (let f = e.0 in cc)
same_line_looser (After AnyLine l) (After AnyLine m) e = (refl, e.1)

late_looser : (p q : Place) → IsLooser p q → IsLooser (late_place p) (late_place q)
late_looser (Before r) (Before s) e = same_looser on_line
late_looser (Before r) (After s m) e = absurd e
late_looser (After r l) (Before s) e = absurd e
late_looser (After NoGap l) (After NoGap m) e = e
late_looser (After NoGap l) (After SameLine m) e = e
late_looser (After NoGap l) (After AnyLine m) e = (refl, refl)
late_looser (After SameLine l) (After NoGap m) e = absurd (let f = e.0 in cc)
late_looser (After SameLine l) (After SameLine m) e = e
late_looser (After SameLine l) (After AnyLine m) e = (refl, refl)
late_looser (After AnyLine l) (After NoGap m) e = absurd (let f = e.0 in cc)
late_looser (After AnyLine l) (After SameLine m) e = absurd (let f = e.0 in cc)
late_looser (After AnyLine l) (After AnyLine m) e = same_looser on_line

late_on_line : (p : Place) → IsLooser (late_place p) on_line
late_on_line (Before r) = same_looser on_line
late_on_line (After NoGap l) = (refl, refl)
late_on_line (After SameLine l) = (refl, refl)
late_on_line (After AnyLine l) = same_looser on_line

-- where a line may end, that is all that is known
late_may_end : (p : Place) → MayEnd p → late_place p ≡ on_line
late_may_end (Before r) h = refl
late_may_end (After NoGap l) h = absurd h
late_may_end (After SameLine l) h = absurd h
late_may_end (After AnyLine l) h = refl

-- ---- bytes

pub then_mono : (A B : List ℕ → Type 0) → ((rest : List ℕ) → A rest → B rest) → (items : List Item) (p : Place) (bytes : List ℕ)
    → ShowsThen p bytes items A → ShowsThen p bytes items B
then_mono A B k [] p bytes h = k bytes h
then_mono A B k (Shown s ∷ items) p bytes h = (h.0, h.1, h.2, h.3, then_mono A B k items after_text h.1 h.4)
then_mono A B k (Gap r l ∷ items) p bytes h = then_mono A B k items (with_gap r l p) bytes h
then_mono A B k (Mark s ∷ items) p bytes (inl h) = inl (then_mono A B k items p bytes h)
then_mono A B k (Mark s ∷ items) p bytes (inr h) = inr (h.0, h.1, h.2, h.3, then_mono A B k items after_text h.1 h.4)
then_mono A B k (Late i ∷ items) p bytes h = absurd h

-- and from a looser place
then_looser : (A : List ℕ → Type 0) (items : List Item) (p q : Place) (bytes : List ℕ) → IsLooser p q → ShowsThen p bytes items A
    → ShowsThen q bytes items A
then_looser A [] p q bytes e h = h
then_looser A (Shown s ∷ items) p q bytes e h = (h.0, h.1, gap_at p q h.0 e h.2, h.3, h.4)
then_looser A (Gap r l ∷ items) p q bytes e h = then_looser A items (with_gap r l p) (with_gap r l q) bytes
    (gap_looser p q r r l l e (weaker_same r l)) h
then_looser A (Mark s ∷ items) p q bytes e (inl h) = inl (then_looser A items p q bytes e h)
then_looser A (Mark s ∷ items) p q bytes e (inr h) = inr (h.0, h.1, gap_at p q h.0 e h.2, h.3, h.4)
then_looser A (Late i ∷ items) p q bytes e h = absurd h

-- what comes later is one of two
then_either : (A B C : List ℕ → Type 0) → ((rest : List ℕ) → C rest → A rest ⊎ B rest) → (items : List Item) (p : Place) (bytes : List ℕ)
    → ShowsThen p bytes items C → ShowsThen p bytes items A ⊎ ShowsThen p bytes items B
then_either A B C k [] p bytes h = k bytes h
then_either A B C k (Shown s ∷ items) p bytes h =
    elim (then_either A B C k items after_text h.1 h.4) [ inl a ↦ inl (h.0, h.1, h.2, h.3, a) | inr b ↦ inr (h.0, h.1, h.2, h.3, b) ]
then_either A B C k (Gap r l ∷ items) p bytes h = then_either A B C k items (with_gap r l p) bytes h
then_either A B C k (Mark s ∷ items) p bytes (inl h) =
    elim (then_either A B C k items p bytes h) [ inl a ↦ inl (inl a) | inr b ↦ inr (inl b) ]
then_either A B C k (Mark s ∷ items) p bytes (inr h) =
    elim (then_either A B C k items after_text h.1 h.4)
    [ inl a ↦ inl (inr (h.0, h.1, h.2, h.3, a)) | inr b ↦ inr (inr (h.0, h.1, h.2, h.3, b)) ]
then_either A B C k (Late i ∷ items) p bytes h = absurd h

still_may_end : (p : Place) (r : Reach) (l : Least) → MayEnd p → MayEnd (with_gap r l p)
still_may_end (Before AnyLine) r l h = tt
still_may_end (After AnyLine m) r l h = tt
still_may_end (Before NoGap) r l h = absurd h
still_may_end (Before SameLine) r l h = absurd h
still_may_end (After NoGap m) r l h = absurd h
still_may_end (After SameLine m) r l h = absurd h

-- where a line may end, what waits may be shown before what comes next
pub flushed : (items : List Item) (p : Place) (w : Item) (ws : List Item) (b : List ℕ) → MayEnd p
    → ShowsThen on_line b (w ∷ ws) (λ rest. ShowsFrom after_line [] rest items) → ShowsFrom p (w ∷ ws) b items
flushed [] p w ws b may h = rw (late_may_end p may)
    (then_mono (λ rest. ShowsFrom after_line [] rest []) IsBlank (λ rest k. k.0) (w ∷ ws) on_line b h)
flushed (Shown s ∷ items) p w ws b may h = inr (may, h)
flushed (Gap r Nothing ∷ items) p w ws b may h = flushed items (with_gap r Nothing p) w ws b (still_may_end p r Nothing may) h
flushed (Gap r Spacing ∷ items) p w ws b may h = flushed items (with_gap r Spacing p) w ws b (still_may_end p r Spacing may) h
flushed (Gap r LineEnd ∷ items) p w ws b may h = rw (late_may_end p may) h
flushed (Mark s ∷ items) p w ws b may h =
    elim (then_either (λ rest. ShowsFrom after_line [] rest items)
    (λ rest. ShowsNext after_line [] s rest (λ vs last. ShowsFrom after_text vs last items))
    (λ rest. ShowsFrom after_line [] rest (Mark s ∷ items)) (λ rest k. k) (w ∷ ws) on_line b h)
    [ inl k ↦ inl (flushed items p w ws b may k) | inr k ↦ inr (inr (may, k)) ]
flushed (Late i ∷ items) p w ws b may h =
    inr (
      may,
      then_mono (λ rest. ShowsFrom after_line [] rest (Late i ∷ items))
          (λ rest. ShowsLineEnd rest (λ last. ShowsFrom line_start (i ∷ []) last items))
          (λ rest k. elim k [ inl stays ↦ absurd stays.0 | inr ends ↦ ends.1 ]) (w ∷ ws) on_line b h,
    )

reach_any : (p : Place) (m : Least) → MayEnd (with_gap AnyLine m p)
reach_any (Before NoGap) m = tt
reach_any (Before SameLine) m = tt
reach_any (Before AnyLine) m = tt
reach_any (After NoGap l) m = tt
reach_any (After SameLine l) m = tt
reach_any (After AnyLine l) m = tt

-- a gap that is weaker than a line end, and asks for none, may have one
may_end_there : (p : Place) (r s : Reach) (m : Least) → (m ≡ LineEnd → ⊥) → IsWeaker r LineEnd s m → MayEnd (with_gap s m p)
may_end_there p r s m none weak =
    elim (weak.2 refl) [ inl e ↦ absurd (none e) | inr e ↦ subst (λ (t : Reach). MayEnd (with_gap t m p)) (sym e) (reach_any p m) ]

-- bytes show items from a place on, and so others from a looser one
abbrev ShowsImplied : List Item → List Item → Type 0
ShowsImplied xs ys = (p q : Place) (ws : List Item) (b : List ℕ) → IsLooser p q → ShowsFrom p ws b xs → ShowsFrom q ws b ys

end_implied : ShowsImplied [] []
end_implied p q [] b e h = end_at p q b e h
end_implied p q (w ∷ ws) b e h = then_looser IsBlank (w ∷ ws) (late_place p) (late_place q) b (late_looser p q e) h

text_on : (p q : Place) (s b : List ℕ) (A B : List ℕ → Type 0) → IsLooser p q → ((rest : List ℕ) → A rest → B rest)
    → ShowsText (IsGapAt p) s b A → ShowsText (IsGapAt q) s b B
text_on p q s b A B e k h = (h.0, h.1, gap_at p q h.0 e h.2, h.3, k h.1 h.4)

next_implied : (s : List ℕ) (xs ys : List Item) → ShowsImplied xs ys → (p q : Place) (ws : List Item) (b : List ℕ) → IsLooser p q
    → ShowsNext p ws s b (λ vs rest. ShowsFrom after_text vs rest xs) → ShowsNext q ws s b (λ vs rest. ShowsFrom after_text vs rest ys)
next_implied s xs ys k p q [] b e h =
    text_on p q s b (λ rest. ShowsFrom after_text [] rest xs) (λ rest. ShowsFrom after_text [] rest ys) e
    (λ rest. k after_text after_text [] rest (same_looser after_text)) h
next_implied s xs ys k p q (w ∷ ws) b e (inl h) =
    inl (h.0, h.1, (gap_at p q h.0 e h.2.0, h.2.1), h.3, k after_text after_text (w ∷ ws) h.1 (same_looser after_text) h.4)
next_implied s xs ys k p q (w ∷ ws) b e (inr h) =
    inr (
      may_end p q e h.0,
      then_mono (λ rest. ShowsText (IsGapAt after_line) s rest (λ last. ShowsFrom after_text [] last xs))
          (λ rest. ShowsText (IsGapAt after_line) s rest (λ last. ShowsFrom after_text [] last ys))
          (λ rest. text_on after_line after_line s rest (λ last. ShowsFrom after_text [] last xs) (λ last. ShowsFrom after_text [] last ys)
          (same_looser after_line) (λ last. k after_text after_text [] last (same_looser after_text)))
          (w ∷ ws) on_line b h.1,
    )

-- a weaker gap in place of one
gap_implied : (xs ys : List Item) → ShowsImplied xs ys → (r s : Reach) (l m : Least) → IsWeaker r l s m
    → ShowsImplied (Gap r l ∷ xs) (Gap s m ∷ ys)
gap_implied xs ys k r s l m weak p q [] b e h = k (with_gap r l p) (with_gap s m q) [] b (gap_looser p q r s l m e weak) h
gap_implied xs ys k r s Nothing Nothing weak p q (w ∷ ws) b e h = k (with_gap r Nothing p) (with_gap s Nothing q) (w ∷ ws) b
    (gap_looser p q r s Nothing Nothing e weak) h
gap_implied xs ys k r s Nothing Spacing weak p q (w ∷ ws) b e h = absurd (let f = weak.1 in cc)
gap_implied xs ys k r s Nothing LineEnd weak p q (w ∷ ws) b e h = absurd (let f = weak.1 in cc)
gap_implied xs ys k r s Spacing Nothing weak p q (w ∷ ws) b e h = k (with_gap r Spacing p) (with_gap s Nothing q) (w ∷ ws) b
    (gap_looser p q r s Spacing Nothing e weak) h
gap_implied xs ys k r s Spacing Spacing weak p q (w ∷ ws) b e h = k (with_gap r Spacing p) (with_gap s Spacing q) (w ∷ ws) b
    (gap_looser p q r s Spacing Spacing e weak) h
gap_implied xs ys k r s Spacing LineEnd weak p q (w ∷ ws) b e h = absurd (let f = weak.1 in cc)
gap_implied xs ys k r s LineEnd Nothing weak p q (w ∷ ws) b e h =
    flushed ys (with_gap s Nothing q) w ws b (may_end_there q r s Nothing (λ none. cc) weak)
    (then_mono (λ rest. ShowsFrom after_line [] rest xs) (λ rest. ShowsFrom after_line [] rest ys)
    (λ rest. k after_line after_line [] rest (same_looser after_line)) (w ∷ ws) on_line b
    (then_looser (λ rest. ShowsFrom after_line [] rest xs) (w ∷ ws) (late_place p) on_line b (late_on_line p) h))
gap_implied xs ys k r s LineEnd Spacing weak p q (w ∷ ws) b e h =
    flushed ys (with_gap s Spacing q) w ws b (may_end_there q r s Spacing (λ none. cc) weak)
    (then_mono (λ rest. ShowsFrom after_line [] rest xs) (λ rest. ShowsFrom after_line [] rest ys)
    (λ rest. k after_line after_line [] rest (same_looser after_line)) (w ∷ ws) on_line b
    (then_looser (λ rest. ShowsFrom after_line [] rest xs) (w ∷ ws) (late_place p) on_line b (late_on_line p) h))
gap_implied xs ys k r s LineEnd LineEnd weak p q (w ∷ ws) b e h =
    then_mono (λ rest. ShowsFrom after_line [] rest xs) (λ rest. ShowsFrom after_line [] rest ys)
    (λ rest. k after_line after_line [] rest (same_looser after_line)) (w ∷ ws) (late_place q) b
    (then_looser (λ rest. ShowsFrom after_line [] rest xs) (w ∷ ws) (late_place p) (late_place q) b (late_looser p q e) h)

-- a gap that may be nothing
none_implied : (xs ys : List Item) → ShowsImplied xs ys → (s : Reach) (m : Least) → IsWeaker NoGap Nothing s m
    → ShowsImplied xs (Gap s m ∷ ys)
none_implied xs ys k s m weak p q [] b e h = k p (with_gap s m q) [] b (none_looser p q s m e weak) h
none_implied xs ys k s Nothing weak p q (w ∷ ws) b e h = k p (with_gap s Nothing q) (w ∷ ws) b (none_looser p q s Nothing e weak) h
none_implied xs ys k s Spacing weak p q (w ∷ ws) b e h = absurd (let f = weak.1 in cc)
none_implied xs ys k s LineEnd weak p q (w ∷ ws) b e h = absurd (let f = weak.1 in cc)

mark_implied : (s : List ℕ) (xs ys : List Item) → ShowsImplied xs ys → ShowsImplied (Mark s ∷ xs) (Mark s ∷ ys)
mark_implied s xs ys k p q ws b e (inl h) = inl (k p q ws b e h)
mark_implied s xs ys k p q ws b e (inr h) = inr (next_implied s xs ys k p q ws b e h)

line_end_mono : (A B : List ℕ → Type 0) → ((rest : List ℕ) → A rest → B rest) → (b : List ℕ) → ShowsLineEnd b A → ShowsLineEnd b B
line_end_mono A B k b h = (h.0, h.1, h.2, h.3, h.4, k h.1 h.5)

late_implied : (i : Item) (xs ys : List Item) → ShowsImplied xs ys → ShowsImplied (Late i ∷ xs) (Late i ∷ ys)
late_implied i xs ys k p q [] b e (inl h) = inl (may_stay p q e h.0, k (same_line p) (same_line q) (i ∷ []) b (same_line_looser p q e) h.1)
late_implied i xs ys k p q [] b e (inr h) =
    inr (
      may_end p q e h.0,
      line_end_mono (λ rest. ShowsFrom line_start (i ∷ []) rest xs) (λ rest. ShowsFrom line_start (i ∷ []) rest ys)
          (λ rest. k line_start line_start (i ∷ []) rest refl) b h.1,
    )
late_implied i xs ys k p q (w ∷ ws) b e (inl h) = inl (k (same_line p) (same_line q) (w ∷ (ws ++ i ∷ [])) b (same_line_looser p q e) h)
late_implied i xs ys k p q (w ∷ ws) b e (inr h) =
    inr (
      may_end p q e h.0,
      then_mono (λ rest. ShowsLineEnd rest (λ last. ShowsFrom line_start (i ∷ []) last xs))
          (λ rest. ShowsLineEnd rest (λ last. ShowsFrom line_start (i ∷ []) last ys))
          (λ rest. line_end_mono (λ last. ShowsFrom line_start (i ∷ []) last xs) (λ last. ShowsFrom line_start (i ∷ []) last ys)
          (λ last. k line_start line_start (i ∷ []) last refl) rest)
          (w ∷ ws) on_line b h.1,
    )

-- the same items, by an equation
shows_implied_from : (xs zs ys : List Item) → xs ≡ zs → ShowsImplied zs ys → ShowsImplied xs ys
shows_implied_from xs zs ys e k p q ws b f h = k p q ws b f (subst (λ (items : List Item). ShowsFrom p ws b items) e h)

-- bytes that show items show what these imply, from a looser place too
implied : (ys xs : List Item) → Implies xs ys → ShowsImplied xs ys
implied [] xs h = shows_implied_from xs [] [] h end_implied
implied (Shown s ∷ ys) xs h =
    shows_implied_from xs (Shown s ∷ h.0) (Shown s ∷ ys) h.1 (λ p q ws b e k. next_implied s h.0 ys (implied ys h.0 h.2) p q ws b e k)
implied (Gap s m ∷ ys) xs (inl h) = none_implied xs ys (implied ys xs h.1) s m h.0
implied (Gap s m ∷ ys) xs (inr h) =
    shows_implied_from xs (Gap h.0 h.1 ∷ h.2) (Gap s m ∷ ys) h.3 (gap_implied h.2 ys (implied ys h.2 h.5) h.0 s h.1 m h.4)
implied (Mark s ∷ ys) xs (inl h) = λ p q ws b e k. inl (implied ys xs h p q ws b e k)
implied (Mark s ∷ ys) xs (inr (rest, inl e, h)) =
    shows_implied_from xs (Shown s ∷ rest) (Mark s ∷ ys) e (λ p q ws b f k. inr (next_implied s rest ys (implied ys rest h) p q ws b f k))
implied (Mark s ∷ ys) xs (inr (rest, inr e, h)) = shows_implied_from xs (Mark s ∷ rest) (Mark s ∷ ys) e
    (mark_implied s rest ys (implied ys rest h))
implied (Late i ∷ ys) xs h = shows_implied_from xs (Late i ∷ h.0) (Late i ∷ ys) h.1 (late_implied i h.0 ys (implied ys h.0 h.2))

pub implied_from : (p : Place) (ws : List Item) (b : List ℕ) (xs ys : List Item) → Implies xs ys → ShowsFrom p ws b xs → ShowsFrom p ws b ys
implied_from p ws b xs ys h k = implied ys xs h p p ws b (same_looser p) k

-- ---- implications

pub implies_same : (xs : List Item) → Implies xs xs
implies_same [] = refl
implies_same (Shown s ∷ xs) = (xs, refl, implies_same xs)
implies_same (Gap r l ∷ xs) = inr (r, l, xs, refl, weaker_same r l, implies_same xs)
implies_same (Mark s ∷ xs) = inr (xs, inr refl, implies_same xs)
implies_same (Late i ∷ xs) = (xs, refl, implies_same xs)

-- items imply others, and so with others after both
pub implies_before : (zs ys xs : List Item) → Implies xs ys → Implies (xs ++ zs) (ys ++ zs)
implies_before zs [] xs h = subst (λ (items : List Item). Implies (items ++ zs) zs) (sym h) (implies_same zs)
implies_before zs (Shown s ∷ ys) xs h = (h.0 ++ zs, ap (λ (items : List Item). items ++ zs) h.1, implies_before zs ys h.0 h.2)
implies_before zs (Gap s m ∷ ys) xs (inl h) = inl (h.0, implies_before zs ys xs h.1)
implies_before zs (Gap s m ∷ ys) xs (inr h) =
    inr (h.0, h.1, h.2 ++ zs, ap (λ (items : List Item). items ++ zs) h.3, h.4, implies_before zs ys h.2 h.5)
implies_before zs (Mark s ∷ ys) xs (inl h) = inl (implies_before zs ys xs h)
implies_before zs (Mark s ∷ ys) xs (inr (rest, inl e, h)) =
    inr (rest ++ zs, inl (ap (λ (items : List Item). items ++ zs) e), implies_before zs ys rest h)
implies_before zs (Mark s ∷ ys) xs (inr (rest, inr e, h)) =
    inr (rest ++ zs, inr (ap (λ (items : List Item). items ++ zs) e), implies_before zs ys rest h)
implies_before zs (Late i ∷ ys) xs h = (h.0 ++ zs, ap (λ (items : List Item). items ++ zs) h.1, implies_before zs ys h.0 h.2)
