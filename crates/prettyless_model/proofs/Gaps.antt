-- The gap before the next text while a document is laid: what of it is written, and what waits to be written.
use Rattle.std.proofs.Common.{◌≡◌, ℕ, zero, suc, ◌+◌, ◌<◌, List, [], ◌∷◌, ◌++◌, length, length-append, refl, subst, ap, ◌∙◌, append-nil}
use Rattle.std.proofs.Common.{arith, inl, inr, ◌⊎◌, Bool, true, false, ◌==◌}
use Rattle.std.specs.Prelude.{⊤}
use Rattle.std.proofs.lemmas.Bool.{cases_Bool, eqb-true}
use Rattle.std.proofs.lemmas.List.{length-replicate}
use Rattle.prettyless_model.specs.Column.{gap, blank, saturating_add, commit}
use Rattle.prettyless_model.specs.Spaces.{spaces}
use Rattle.prettyless_model.specs.declared.column.Column.{Column}
use Rattle.prettyless_model.specs.Shows.{Reach, NoGap, SameLine, AnyLine, Least, Nothing, Spacing, LineEnd, further, more, EndsLine}
use Rattle.prettyless_model.specs.Shows.{IsBlank, StaysWithin, Has, Item, Place, Before, After, with_gap, same_line, late_place, IsGapAt}
use Rattle.prettyless_model.specs.Shows.{IsGapOnLine, IsEndAt}
use Rattle.prettyless_model.proofs.Ink.{ink-spaces, ink-after}

-- ---- bytes

pub some_in : (g : List ℕ) → EndsLine g → 0 < length g
some_in [] h = absurd h
some_in (b ∷ bs) h = omega arith

pub end_before : (g n : List ℕ) → EndsLine g → EndsLine (g ++ n)
end_before [] n h = absurd h
end_before (b ∷ bs) n (inl e) = inl e
end_before (b ∷ bs) n (inr h) = inr (end_before bs n h)

pub end_after : (g n : List ℕ) → EndsLine n → EndsLine (g ++ n)
end_after [] n h = h
end_after (b ∷ bs) n h = inr (end_after bs n h)

end_in : (g n : List ℕ) → EndsLine (g ++ n) → EndsLine g ⊎ EndsLine n
end_in [] n h = inr h
end_in (b ∷ bs) n (inl e) = inl (inl e)
end_in (b ∷ bs) n (inr h) = elim (end_in bs n h) [ inl k ↦ inl (inr k) | inr k ↦ inr k ]

pub no_end_in : (g n : List ℕ) → (EndsLine g → ⊥) → (EndsLine n → ⊥) → EndsLine (g ++ n) → ⊥
no_end_in g n h k e = elim (end_in g n e) [ inl a ↦ h a | inr b ↦ k b ]

pub spaces_end_none : (n : ℕ) → EndsLine (spaces n) → ⊥
spaces_end_none zero h = h
spaces_end_none (suc n) (inl e) = cc e
spaces_end_none (suc n) (inr h) = spaces_end_none n h

pub ends_or_not : (g : List ℕ) → EndsLine g ⊎ (EndsLine g → ⊥)
ends_or_not [] = inr (λ h. h)
ends_or_not (b ∷ bs) = by (cases_Bool (b == 10)) (ends_or_not bs)
  where
    by : ((b == 10) ≡ true) ⊎ ((b == 10) ≡ false) → EndsLine bs ⊎ (EndsLine bs → ⊥) → EndsLine (b ∷ bs) ⊎ (EndsLine (b ∷ bs) → ⊥)
    by (inl e) k = inl (inl (eqb-true b 10 e))
    by (inr e) (inl k) = inl (inr k)
    by (inr e) (inr k) = inr (λ h. elim h [ inl same ↦ absurd (cc (rw same at e)) | inr later ↦ k later ])

pub blank_both : (a b : List ℕ) → IsBlank a → IsBlank b → IsBlank (a ++ b)
blank_both a b h k = ink-after a b h ∙ k

-- ---- what stands before the next text

-- this much of a gap is written, and the spaces of a column wait: it reaches no further
abbrev pub StandsWithin : Reach → List ℕ → Column → Type 0
StandsWithin NoGap g c = (g ≡ []) × (c.indent ≡ 0) × (c.padding ≡ 0)
StandsWithin SameLine g c = EndsLine g → ⊥
StandsWithin AnyLine g c = ⊤

-- and has no less
abbrev pub StandsWith : Least → List ℕ → Column → Type 0
StandsWith Nothing g c = ⊤
StandsWith Spacing g c = 0 < length g + c.padding
StandsWith LineEnd g c = EndsLine g

-- while items wait no line has ended
abbrev pub OnLine : List Item → List ℕ → Type 0
OnLine [] g = ⊤
OnLine (w ∷ ws) g = EndsLine g → ⊥

-- after a text a line that is fresh has begun in the gap
abbrev pub Stands : Place → List Item → List ℕ → Column → Type 0
Stands (Before r) ws g c = IsBlank g × OnLine ws g × StandsWithin r g c
Stands (After r l) ws g c = IsBlank g × OnLine ws g × (c.fresh ≡ true → EndsLine g) × StandsWithin r g c × StandsWith l g c

pub stands_blank : (p : Place) (ws : List Item) (g : List ℕ) (c : Column) → Stands p ws g c → IsBlank g
stands_blank (Before r) ws g c h = h.0
stands_blank (After r l) ws g c h = h.0

pub stands_on_line : (p : Place) (ws : List Item) (g : List ℕ) (c : Column) → Stands p ws g c → OnLine ws g
stands_on_line (Before r) ws g c h = h.1
stands_on_line (After r l) ws g c h = h.1

-- no line ends in what is added
pub on_line_both : (ws : List Item) (g n : List ℕ) → OnLine ws g → (EndsLine n → ⊥) → OnLine ws (g ++ n)
on_line_both [] g n h k = tt
on_line_both (w ∷ ws) g n h k = no_end_in g n h k

-- ---- spaces

within_spaced : (r : Reach) (g n : List ℕ) (c e : Column) → StandsWithin r g c → (EndsLine n → ⊥)
    → StandsWithin (further r SameLine) (g ++ n) e
within_spaced NoGap g n c e h k = no_end_in g n (λ ends. subst EndsLine h.0 ends) k
within_spaced SameLine g n c e h k = no_end_in g n h k
within_spaced AnyLine g n c e h k = tt

with_spaced : (l : Least) (g n : List ℕ) (c e : Column) → StandsWith l g c → 0 < length (g ++ n) + e.padding
    → StandsWith (more l Spacing) (g ++ n) e
with_spaced Nothing g n c e h k = k
with_spaced Spacing g n c e h k = k
with_spaced LineEnd g n c e h k = end_before g n h

-- after spaces, written or waiting, the gap has some
pub spaced_stands : (p : Place) (ws : List Item) (g n : List ℕ) (c e : Column) → Stands p ws g c → IsBlank n → (EndsLine n → ⊥)
    → e.fresh ≡ false → 0 < length (g ++ n) + e.padding → Stands (with_gap SameLine Spacing p) ws (g ++ n) e
spaced_stands (Before r) ws g n c e h b k f some =
    (blank_both g n h.0 b, on_line_both ws g n h.1 k, within_spaced r g n c e h.2 k)
spaced_stands (After r l) ws g n c e h b k f some =
    (blank_both g n h.0 b, on_line_both ws g n h.1 k, λ fresh. absurd (cc), within_spaced r g n c e h.3 k, with_spaced l g n c e h.4 some)

within_fresh : (r : Reach) (g : List ℕ) (c : Column) → StandsWithin r g c → EndsLine g → StandsWithin (further r SameLine) g c
within_fresh NoGap g c h k = absurd (subst EndsLine h.0 k)
within_fresh SameLine g c h k = h
within_fresh AnyLine g c h k = tt

with_fresh : (l : Least) (g : List ℕ) (c : Column) → StandsWith l g c → EndsLine g → StandsWith (more l Spacing) g c
with_fresh Nothing g c h k = omega (arith, some_in g k)
with_fresh Spacing g c h k = h
with_fresh LineEnd g c h k = h

-- before the first text
within_spaced_before : (r : Reach) (g : List ℕ) (c : Column) → StandsWithin r g c → StandsWithin (further r SameLine) g c
within_spaced_before NoGap g c h = λ ends. subst EndsLine h.0 ends
within_spaced_before SameLine g c h = h
within_spaced_before AnyLine g c h = tt

-- so it has on a fresh line
fresh_stands : (p : Place) (ws : List Item) (g : List ℕ) (c : Column) → c.fresh ≡ true → Stands p ws g c
    → Stands (with_gap SameLine Spacing p) ws g c
fresh_stands (Before r) ws g c e h = (h.0, h.1, within_spaced_before r g c h.2)
fresh_stands (After r l) ws g c e h = (h.0, h.1, h.2, within_fresh r g c h.3 (h.2 e), with_fresh l g c h.4 (h.2 e))

some_padding : (n : ℕ) → 0 < saturating_add n 1
some_padding n = omega arith

-- and after a weak space
blank_fields : (p : Place) (ws : List Item) (g : List ℕ) (x i n : ℕ) (f : Bool)
    → Stands p ws g (record { position = x; indent = i; padding = n; fresh = f }) → Stands (with_gap SameLine Spacing p) ws g
    (blank (record { position = x; indent = i; padding = n; fresh = f }))
blank_fields p ws g x i n true h = fresh_stands p ws g (record { position = x; indent = i; padding = n; fresh = true }) refl h
blank_fields p ws g x i n false h =
    let c : Column = record { position = x; indent = i; padding = n; fresh = false } in
    rw (append-nil g) at (spaced_stands p ws g [] c (blank c) h refl (λ ends. ends) refl (omega (arith, some_padding n)))

pub blank_stands : (p : Place) (ws : List Item) (g : List ℕ) (c : Column) → Stands p ws g c
    → Stands (with_gap SameLine Spacing p) ws g (blank c)
blank_stands p ws g c h = blank_fields p ws g c.position c.indent c.padding c.fresh h

-- ---- line ends

any_further : (r : Reach) (g : List ℕ) (c : Column) → StandsWithin (further r AnyLine) g c
any_further NoGap g c = tt
any_further SameLine g c = tt
any_further AnyLine g c = tt

end_more : (l : Least) (g : List ℕ) (c : Column) → EndsLine g → StandsWith (more l LineEnd) g c
end_more Nothing g c h = h
end_more Spacing g c h = h
end_more LineEnd g c h = h

-- after a text the gap has a line end
abbrev pub HasEnded : Place → List ℕ → Type 0
HasEnded (Before r) g = ⊤
HasEnded (After r l) g = EndsLine g

pub ended_at : (p : Place) (g : List ℕ) → EndsLine g → HasEnded p g
ended_at (Before r) g h = tt
ended_at (After r l) g h = h

pub ended_stands : (p : Place) (g : List ℕ) (c : Column) → IsBlank g → HasEnded p g → Stands (with_gap AnyLine LineEnd p) [] g c
ended_stands (Before r) g c h k = (h, tt, any_further r g c)
ended_stands (After r l) g c h k = (h, tt, λ fresh. k, any_further r g c, end_more l g c k)

pub fresh_ended : (p : Place) (ws : List Item) (g : List ℕ) (c : Column) → c.fresh ≡ true → Stands p ws g c → HasEnded p g
fresh_ended (Before r) ws g c e h = tt
fresh_ended (After r l) ws g c e h = h.2 e

-- ---- the gap before content

length_spaces : (g : List ℕ) (n : ℕ) → length (g ++ spaces n) ≡ length g + n
length_spaces g n = length-append g (spaces n) ∙ ap (λ (x : ℕ). length g + x) (length-replicate {A = ℕ} n 32)

wide_sum : (l i n k : ℕ) → k ≡ l + saturating_add i n → 0 < l + n → 0 < k
wide_sum l i n k e h = omega arith

no_spaces : (c : Column) → c.indent ≡ 0 → c.padding ≡ 0 → spaces (gap c) ≡ []
no_spaces c i n = rw (i, n) refl

within_content : (r : Reach) (g : List ℕ) (c : Column) → StandsWithin r g c → StaysWithin r (g ++ spaces (gap c))
within_content NoGap g c h = rw (h.0, no_spaces c h.1 h.2) refl
within_content SameLine g c h = no_end_in g (spaces (gap c)) h (spaces_end_none (gap c))
within_content AnyLine g c h = tt

with_content : (l : Least) (g : List ℕ) (c : Column) → StandsWith l g c → Has l (g ++ spaces (gap c))
with_content Nothing g c h = tt
with_content Spacing g c h = wide_sum (length g) c.indent c.padding (length (g ++ spaces (gap c))) (length_spaces g (gap c)) h
with_content LineEnd g c h = end_before g (spaces (gap c)) h

pub gap_before : (p : Place) (ws : List Item) (g : List ℕ) (c : Column) → Stands p ws g c → IsGapAt p (g ++ spaces (gap c))
gap_before (Before r) ws g c h = (blank_both g (spaces (gap c)) h.0 (ink-spaces (gap c)), within_content r g c h.2)
gap_before (After r l) ws g c h =
    (blank_both g (spaces (gap c)) h.0 (ink-spaces (gap c)), within_content r g c h.3, with_content l g c h.4)

pub gap_on_line : (p : Place) (w : Item) (ws : List Item) (g : List ℕ) (c : Column) → Stands p (w ∷ ws) g c
    → IsGapOnLine p (g ++ spaces (gap c))
gap_on_line p w ws g c h =
    (gap_before p (w ∷ ws) g c h, no_end_in g (spaces (gap c)) (stands_on_line p (w ∷ ws) g c h) (spaces_end_none (gap c)))

-- where the gap is written and no text follows it, nothing waits
within_committed : (r : Reach) (g : List ℕ) (c e : Column) → StandsWithin r g c → e.indent ≡ 0 → e.padding ≡ 0
    → StandsWithin r (g ++ spaces (gap c)) e
within_committed NoGap g c e h i n = (rw (h.0, no_spaces c h.1 h.2) refl, i, n)
within_committed SameLine g c e h i n = no_end_in g (spaces (gap c)) h (spaces_end_none (gap c))
within_committed AnyLine g c e h i n = tt

with_committed : (l : Least) (g : List ℕ) (c e : Column) → StandsWith l g c → StandsWith l (g ++ spaces (gap c)) e
with_committed Nothing g c e h = tt
with_committed Spacing g c e h =
    let some = wide_sum (length g) c.indent c.padding (length (g ++ spaces (gap c))) (length_spaces g (gap c)) h in
    omega arith
with_committed LineEnd g c e h = end_before g (spaces (gap c)) h

-- a column right after content: no gap is before it
pub record IsCommitted (c : Column) : Type 0 where
  pub fresh : c.fresh ≡ false
  pub indent : c.indent ≡ 0
  pub padding : c.padding ≡ 0

pub commit_committed : (w : ℕ) (c : Column) → IsCommitted (commit w c)
commit_committed w c = record { fresh = refl; indent = refl; padding = refl }

pub not_fresh : {c : Column} {A : Type 0} → IsCommitted c → c.fresh ≡ true → A
not_fresh k fresh = let not = k.fresh in absurd (cc)

pub committed_stands : (p : Place) (g : List ℕ) (c e : Column) → Stands p [] g c → IsCommitted e → Stands p [] (g ++ spaces (gap c)) e
committed_stands (Before r) g c e h k =
    (blank_both g (spaces (gap c)) h.0 (ink-spaces (gap c)), tt, within_committed r g c e h.2 k.indent k.padding)
committed_stands (After r l) g c e h k = (
  blank_both g (spaces (gap c)) h.0 (ink-spaces (gap c)),
  tt,
  λ fresh. not_fresh k fresh,
  within_committed r g c e h.3 k.indent k.padding,
  with_committed l g c e h.4,
)

-- no line has ended in the gap
pub same_line_stands : (p : Place) (w v : Item) (ws vs : List Item) (g : List ℕ) (c : Column) → Stands p (w ∷ ws) g c
    → Stands (same_line p) (v ∷ vs) g c
same_line_stands (Before NoGap) w v ws vs g c h = h
same_line_stands (Before SameLine) w v ws vs g c h = h
same_line_stands (Before AnyLine) w v ws vs g c h = (h.0, h.1, h.1)
same_line_stands (After NoGap l) w v ws vs g c h = h
same_line_stands (After SameLine l) w v ws vs g c h = h
same_line_stands (After AnyLine l) w v ws vs g c h = (h.0, h.1, h.2, h.1, h.4)

-- the items that wait come on the line of the last text
pub late_stands : (p : Place) (w : Item) (ws : List Item) (g : List ℕ) (c e : Column) → Stands p (w ∷ ws) g c → IsCommitted e
    → Stands (late_place p) [] (g ++ spaces (gap c)) e
late_stands (Before r) w ws g c e h k = (
  blank_both g (spaces (gap c)) h.0 (ink-spaces (gap c)),
  tt,
  λ fresh. not_fresh k fresh,
  no_end_in g (spaces (gap c)) h.1 (spaces_end_none (gap c)),
  tt,
)
late_stands (After NoGap l) w ws g c e h k = committed_stands (After NoGap l) g c e (h.0, tt, h.2, h.3, h.4) k
late_stands (After SameLine l) w ws g c e h k = committed_stands (After SameLine l) g c e (h.0, tt, h.2, h.3, h.4) k
late_stands (After AnyLine l) w ws g c e h k = (
  blank_both g (spaces (gap c)) h.0 (ink-spaces (gap c)),
  tt,
  λ fresh. not_fresh k fresh,
  no_end_in g (spaces (gap c)) h.1 (spaces_end_none (gap c)),
  tt,
)

-- ---- the end

-- what is written reaches no further
within_end : (r : Reach) (g : List ℕ) (c : Column) → StandsWithin r g c → StaysWithin r g
within_end NoGap g c h = h.0
within_end SameLine g c h = h
within_end AnyLine g c h = tt

pub end_stands : (p : Place) (g : List ℕ) (c : Column) → Stands p [] g c → IsEndAt p g
end_stands (Before r) g c h = (h.0, within_end r g c h.2)
end_stands (After r Nothing) g c h = (h.0, within_end r g c h.3)
end_stands (After r Spacing) g c h = (h.0, within_end r g c h.3)
end_stands (After r LineEnd) g c h = (h.0, within_end r g c h.3, h.4)
