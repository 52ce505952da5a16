use Rattle.std.proofs.Common.{◌≡◌, ℕ, List, [], ◌∷◌, ◌++◌, ◌∙◌, length, arith, refl, sym, subst, ap, codes, ◌⊎◌, inl, inr, Bool, true}
use Rattle.std.proofs.Common.{false, ◌||◌, ◌==◌}
use Rattle.std.proofs.Math.Bool.{or-true}
use Rattle.std.proofs.lemmas.List.{append_cancel_left, append_cancel_right}
use Rattle.prettyless_model.specs.Spelling.{is_blank_byte, ink}
use Rattle.prettyless_model.specs.Tree.{Nil, BreakOrFlat, LineSuffix}
use Rattle.prettyless_model.specs.Layout.{lay, lay_each, breaks, finish, layout_by, layout}
use Rattle.prettyless_model.specs.Rows.{in_turn, row_line, numbers, pair, row_text}
use Rattle.prettyless_model.specs.Shows.{Reach, Least, Item, Shown, Gap, Mark, Late, apart, ended, loose, spaced, TextShows, shows}
use Rattle.prettyless_model.specs.Shows.{AreFixed, IsWeaker, Implies, EndsLine, ShowsFrom, ShowsText, after_text, IsGapAt, at_start}
use Rattle.prettyless_model.proofs.Gaps.{end_before, end_after}
use Rattle.prettyless_model.proofs.Ink.{ink-after}
use Rattle.prettyless_model.proofs.SpacedTexts.{text_begins}
use Rattle.prettyless_laws.specs.Rows.{DoesNotHave, DoesNotShow, HasNoTexts, NoneIsEmpty, either_number, late_item, late_comment, late_with}
use Rattle.prettyless_laws.specs.Rows.{lined, lined_items, numbers_items, numbers_with, one_number, one_number_items, comment_with}
use Rattle.prettyless_laws.specs.Rows.{text_item, tight_line, two_late, two_late_items}
use Rattle.prettyless_laws.proofs.rows.texts.Goals as goal

-- ---- line ends

-- whether an LF is among the bytes
abbrev has_lf : List ℕ → Bool
has_lf [] = false
has_lf (b ∷ bs) = has_lf bs || (b == 10)

end_is_lf : (bytes : List ℕ) → EndsLine bytes → has_lf bytes ≡ true
end_is_lf [] h = absurd h
end_is_lf (b ∷ bs) (inl e) = rw (e, or-true) refl
end_is_lf (b ∷ bs) (inr h) = rw (end_is_lf bs h) refl

no_end : (bytes : List ℕ) → has_lf bytes ≡ false → EndsLine bytes → ⊥
no_end bytes n h = let e = end_is_lf bytes h in cc (n, e)

-- ---- what documents show

-- a gap in place of another
weakened : (r s : Reach) (l m : Least) → IsWeaker r l s m → Implies (Gap r l ∷ []) (Gap s m ∷ [])
weakened r s l m h = inr (r, l, [], refl, h, refl)

line_shows : shows row_line (apart ∷ [])
line_shows =
    let flat : TextShows (codes " ") (spaced ∷ []) = inr (refl, no_end (codes " ") refl, refl) in
    (_, _, refl, flat, weakened _ _ _ _ (refl, refl, λ e. inr refl), weakened _ _ _ _ (refl, refl, λ e. inr refl))

tight_line_shows : shows tight_line (loose ∷ [])
tight_line_shows = (ended ∷ [], [], refl, refl, weakened _ _ _ _ (refl, refl, λ e. inr refl), inl ((refl, refl, λ e. inr refl), refl))

-- a comma, or nothing
comma_shows : shows (BreakOrFlat (row_text ",") Nil) (Mark (codes ",") ∷ [])
comma_shows = (_, [], inl refl, refl, inr (_, inl refl, refl), inl refl)

-- the numbers, without what is around them
inner_shows : shows (in_turn (row_text "1") (row_line ∷ row_text "2" ∷ row_line ∷ row_text "3" ∷ []))
    (numbers_with (apart ∷ []) ++ (apart ∷ text_item "3" ∷ []))
inner_shows = (_, _, (_, apart ∷ [], (_, _, (_, apart ∷ [], inl refl, line_shows, refl), inl refl, refl), line_shows, refl), inl refl, refl)

numbers_show : shows numbers numbers_items
numbers_show = (_, _, (_, _, inl refl, inner_shows, refl), inl refl, refl)

one_number_shows : shows one_number one_number_items
one_number_shows =
    let first : shows (in_turn (row_text "(") (tight_line ∷ row_text "1" ∷ [])) (text_item "(" ∷ loose ∷ text_item "1" ∷ []) =
    (_, _, (_, loose ∷ [], inl refl, tight_line_shows, refl), inl refl, refl) in
    (_, _, (_, loose ∷ [], (_, Mark (codes ",") ∷ [], first, comma_shows, refl), tight_line_shows, refl), inl refl, refl)

late_comment_shows : shows late_comment (late_with apart)
late_comment_shows = (_, _, (_, _, inl refl, (_, inl refl, tt, refl), refl), (apart ∷ [], _, line_shows, inl refl, refl), refl)

two_late_show : shows two_late two_late_items
two_late_show =
    let first : shows (in_turn (row_text "a") (LineSuffix (row_text " #1") ∷ row_text "b" ∷ []))
    (text_item "a" ∷ late_item " #1" ∷ text_item "b" ∷ []) =
    (_, _, (_, _, inl refl, (_, inl refl, tt, refl), refl), inl refl, refl) in
    (_, _, (_, _, (_, _, first, (_, inl refl, tt, refl), refl), refl, refl), inl refl, refl)

either_number_shows : shows either_number (Mark (codes "12") ∷ Mark (codes "1") ∷ [])
either_number_shows = (_, _, inl refl, inl refl, inr (_, inl refl, inl refl), inl (inr (_, inl refl, refl)))

-- the empty first text is refused by the premise, and each other text is shown before what follows it
lined_show : (s : List ℕ) (others : List (List ℕ)) → NoneIsEmpty (s ∷ others) → shows (lined s others) (lined_items s others)
lined_show [] others h = absurd h
lined_show (b ∷ bs) [] h = inl refl
lined_show (b ∷ bs) (next ∷ others) h =
    (Shown (b ∷ bs) ∷ apart ∷ [], lined_items next others, (_, apart ∷ [], inl refl, line_shows, refl), lined_show next others h, refl)

-- ---- what documents do not show

-- a flat line shows no line end
flat_has_no_end : (ys : List Item) → TextShows (codes " ") ys → Implies ys (ended ∷ []) → ⊥
flat_has_no_end ys h (inl k) = let none = k.0.1 in cc
flat_has_no_end ys (inl e) (inr k) = cc (e, k.3)
flat_has_no_end ys (inr h) (inr k) = let least = k.4.1 in cc (h.2, k.3, least)

-- the items between two texts, where a line is all that they are
between : (first mid last : List Item) → TextShows (codes "# c") first → TextShows (codes "x") last
    → comment_with (ended ∷ []) ≡ (first ++ mid) ++ last → ended ∷ [] ≡ mid
between first mid last (inl e) (inl f) h =
    let all : comment_with (ended ∷ []) ≡ text_item "# c" ∷ (mid ++ text_item "x" ∷ []) = rw (e, f) at h in
    append_cancel_right (ended ∷ []) mid (text_item "x" ∷ []) (cc)
between first mid last (inr h) f e = cc h.0
between first mid last (inl h) (inr f) e = cc f.0

line_is_no_end : DoesNotHave (pair "# c" "x") (comment_with (ended ∷ []))
line_is_no_end (before, last, (first, mid, h, (xs, ys, broken, flat, i, j), e), k, f) =
    flat_has_no_end ys flat (subst (Implies ys) (sym (between first mid last h k (rw e at f))) j)

-- two texts that differ imply no one text
differ : (items : List Item) → AreFixed items → Implies (text_item "12" ∷ []) items → Implies (text_item "1" ∷ []) items → ⊥
differ [] f h k = cc h
differ (Shown s ∷ items) f h k = cc (h.1, k.1)
differ (Gap r l ∷ items) f (inl h) (inl k) = differ items f h.1 k.1
differ (Gap r l ∷ items) f (inl h) (inr k) = cc k.3
differ (Gap r l ∷ items) f (inr h) k = cc h.3
differ (Mark s ∷ items) f h k = absurd f
differ (Late i ∷ items) f h k = absurd f

none_of_two : HasNoTexts either_number
none_of_two ss (items, (xs, ys, inl e, inl f, i, j), fixed, same) =
    differ items fixed (subst (λ (zs : List Item). Implies zs items) e i) (subst (λ (zs : List Item). Implies zs items) f j)
none_of_two ss (items, (xs, ys, inr h, k, i, j), fixed, same) = cc h.0
none_of_two ss (items, (xs, ys, inl e, inr h, i, j), fixed, same) = cc h.0

-- ---- what bytes do not show

-- a first text that begins with ink is at the beginning
starts : (b : ℕ) (bs cs : List ℕ) (later : List ℕ → Type 0) → is_blank_byte b ≡ false
    → ShowsText (IsGapAt at_start) (b ∷ bs) ((b ∷ bs) ++ cs) later → later cs
starts b bs cs later n h =
    let none : h.0 ≡ [] = h.2.1 in
    let same : (b ∷ bs) ++ cs ≡ (b ∷ bs) ++ h.1 = rw none at h.3 in
    subst later (sym (append_cancel_left (b ∷ bs) cs h.1 same)) h.4

-- the gap before another byte holds an LF that begins the bytes
ends_first : (g xs ys : List ℕ) (b : ℕ) → (b ≡ 10 → ⊥) → 10 ∷ xs ≡ g ++ (b ∷ ys) → EndsLine g
ends_first [] xs ys b n e = absurd (n (cc))
ends_first (c ∷ cs) xs ys b n e = inl (cc)

-- a gap with a line end leaves one in the bytes
has_end : (g s rest bytes : List ℕ) → bytes ≡ g ++ (s ++ rest) → EndsLine g ⊎ EndsLine rest → EndsLine bytes
has_end g s rest bytes e (inl h) = subst EndsLine (sym e) (end_before g (s ++ rest) h)
has_end g s rest bytes e (inr h) = subst EndsLine (sym e) (end_after g (s ++ rest) (end_after s rest h))

first_same : (x y : ℕ) (xs ys : List ℕ) → x ∷ xs ≡ y ∷ ys → x ≡ y
first_same x y xs ys e = cc

not_joined : DoesNotShow (codes "1 2") (numbers_with [])
not_joined h =
    let k = starts 49 [] (codes " 2") _ refl h in
    let none : k.0 ≡ [] = k.2.1 in
    let same : codes " 2" ≡ codes "2" ++ k.1 = rw none at k.3 in
    absurd (omega (arith, first_same 32 50 (codes "2") k.1 same))

not_apart : DoesNotShow (codes "12") (numbers_with (apart ∷ []))
not_apart h =
    let k = starts 49 [] (codes "2") _ refl h in
    let none = text_begins 50 [] k.0 (codes "2" ++ k.1) refl k.3 k.2.0 in
    absurd (omega (arith, k.2.2, ap (λ (x : List ℕ). length x) none))

not_on_one_line : DoesNotShow (codes "1\n2") (numbers_with (spaced ∷ []))
not_on_one_line h =
    let k = starts 49 [] (codes "\n2") _ refl h in
    k.2.1 (ends_first k.0 (codes "2") k.1 50 (λ e. cc e) k.3)

not_ended : DoesNotShow (codes "# c x") (comment_with (ended ∷ []))
not_ended h =
    let k = starts 35 (codes " c") (codes " x") _ refl h in
    no_end (codes " x") refl (has_end k.0 (codes "x") k.1 (codes " x") k.3 (inl k.2.2))

-- what comes after a late text, where no line ends: the next text comes first
next_first : (s t bytes : List ℕ) → (EndsLine bytes → ⊥) → ShowsFrom after_text [] bytes (Late (Shown s) ∷ apart ∷ Shown t ∷ [])
    → (rest : List ℕ) × (ink bytes ≡ ink (t ++ rest))
next_first s t bytes n (inr h) = absurd h.0
next_first s t bytes n (inl (stays, inl h)) = (h.1, ap ink h.3 ∙ ink-after h.0 (t ++ h.1) h.2.0.0)
next_first s t bytes n (inl (stays, inr h)) =
    let k = h.1 in
    absurd (n (has_end k.0 s k.1 bytes k.3 (inr (has_end k.4.0 t k.4.1 k.1 k.4.3 (inl k.4.2.2)))))

not_after_late : DoesNotShow (codes "a # c b") (late_with apart)
not_after_late h =
    let after = starts 97 [] (codes " # c b") _ refl h in
    let k = next_first (codes " # c") (codes "b") (codes " # c b") (no_end (codes " # c b") refl) after in
    absurd (omega (arith, first_same 35 98 (codes "cb") (ink k.0) k.1))

not_beside_late : DoesNotShow (codes "a # cb") (late_with apart)
not_beside_late h =
    let after = starts 97 [] (codes " # cb") _ refl h in
    let k = next_first (codes " # c") (codes "b") (codes " # cb") (no_end (codes " # cb") refl) after in
    absurd (omega (arith, first_same 35 98 (codes "cb") (ink k.0) k.1))

not_late_enough : DoesNotShow (codes "a\n # c\nb") (late_with ended)
not_late_enough h =
    elim (starts 97 [] (codes "\n # c\nb") _ refl h) [
      | inl k ↦ let late = k.1 in let none : late.0 ≡ [] = late.2.1 in
          let same : codes "\n # c\nb" ≡ codes " # c" ++ late.1 = rw none at late.3 in
          absurd (omega (arith, first_same 10 32 (codes " # c\nb") (codes "# c" ++ late.1) same))
      | inr k ↦ k.0
    ]

not_marked_twice : DoesNotShow (codes "1,,") (text_item "1" ∷ Mark (codes ",") ∷ [])
not_marked_twice h =
    elim (starts 49 [] (codes ",,") _ refl h)
    [ inl k ↦ cc k.0 | inr k ↦ let none = k.2.1 in let rest : codes "," ≡ k.1 = cc (none, k.3) in cc (rw (← rest) at k.4.0) ]

not_slipped : DoesNotShow (codes "1#\n2") (text_item "1" ∷ apart ∷ late_item "#" ∷ text_item "2" ∷ [])
not_slipped h = slipped (starts 49 [] (codes "#\n2") _ refl h)
  where
    slipped : ShowsFrom after_text [] (codes "#\n2") (apart ∷ late_item "#" ∷ text_item "2" ∷ []) → ⊥
    slipped (inl (stays, inl k)) =
        let none = text_begins 35 (codes "\n2") k.0 (codes "2" ++ k.1) refl k.3 k.2.0.0 in
        let same : codes "#\n2" ≡ codes "2" ++ k.1 = rw none at k.3 in
        absurd (omega (arith, first_same 35 50 (codes "\n2") k.1 same))
    slipped (inl (stays, inr k)) = absurd k.0
    slipped (inr (ends, k)) = let none = text_begins 35 (codes "\n2") k.0 k.1 refl k.4 k.2 in subst EndsLine none k.3

not_padded : DoesNotShow (codes "a #") (text_item "a" ∷ late_item "#" ∷ [])
not_padded h =
    elim (starts 97 [] (codes " #") _ refl h) [
      | inl k ↦ let late = k.1 in let none : late.0 ≡ [] = late.2.1 in
          let same : codes " #" ≡ codes "#" ++ late.1 = rw none at late.3 in
          absurd (omega (arith, first_same 32 35 (codes "#") late.1 same))
      | inr k ↦ k.0
    ]

not_begun : DoesNotShow (codes "\n1") (text_item "1" ∷ [])
not_begun h =
    let none : h.0 ≡ [] = h.2.1 in
    let same : codes "\n1" ≡ codes "1" ++ h.1 = rw none at h.3 in
    absurd (omega (arith, first_same 10 49 (codes "1") h.1 same))

not_gone_on : DoesNotShow (codes "1\n") (text_item "1" ∷ [])
not_gone_on h = let k = starts 49 [] (codes "\n") _ refl h in let none : codes "\n" ≡ [] = k.1 in cc none

pub returns-clause-fits : goal.returns-clause-fits
unfolding lay lay_each breaks finish layout_by layout
returns-clause-fits c = (numbers_show, refl)

pub returns-clause-breaks : goal.returns-clause-breaks
unfolding lay lay_each breaks finish layout_by layout
returns-clause-breaks c = (numbers_show, refl)

pub returns-clause-joined : goal.returns-clause-joined
unfolding lay lay_each breaks finish layout_by layout
returns-clause-joined c = ((_, _, (_, loose ∷ [], inl refl, tight_line_shows, refl), inl refl, refl), refl)

pub returns-clause-on_two_lines : goal.returns-clause-on_two_lines
unfolding lay lay_each breaks finish layout_by layout
returns-clause-on_two_lines c = ((_, _, (_, loose ∷ [], inl refl, tight_line_shows, refl), inl refl, refl), refl)

pub returns-clause-side_by_side : goal.returns-clause-side_by_side
unfolding lay lay_each breaks finish layout_by layout
returns-clause-side_by_side c = ((_, _, inl refl, inl refl, refl), refl)

pub returns-clause-weak_space : goal.returns-clause-weak_space
unfolding lay lay_each breaks finish layout_by layout
returns-clause-weak_space c = ((_, _, (_, _, inl refl, refl, refl), inl refl, refl), refl)

pub returns-clause-padding : goal.returns-clause-padding
unfolding lay lay_each breaks finish layout_by layout
returns-clause-padding c = ((_, _, (_, _, (_, _, (_, _, inl refl, refl, refl), refl, refl), refl, refl), inl refl, refl), refl)

pub returns-clause-spaces : goal.returns-clause-spaces
unfolding lay lay_each breaks finish layout_by layout
returns-clause-spaces c = ((_, _, (_, spaced ∷ [], inl refl, inr (refl, no_end (codes "  ") refl, refl), refl), inl refl, refl), refl)

pub returns-clause-spaces_as_text : goal.returns-clause-spaces_as_text
unfolding lay lay_each breaks finish layout_by layout
returns-clause-spaces_as_text c = ((_, _, (_, _, inl refl, inl refl, refl), inl refl, refl), refl)

pub returns-clause-spaces_within : goal.returns-clause-spaces_within
unfolding lay lay_each breaks finish layout_by layout
returns-clause-spaces_within c = (inl refl, refl)

pub returns-clause-payload : goal.returns-clause-payload
unfolding lay lay_each breaks finish layout_by layout
returns-clause-payload c = ((_, _, (_, _, inl refl, refl, refl), (refl, refl, refl), refl), refl)

pub returns-clause-failed_alternative : goal.returns-clause-failed_alternative
unfolding lay lay_each breaks finish layout_by layout
returns-clause-failed_alternative c = (([], _, ([], [], tt, refl, refl, refl), inl refl, refl), refl)

pub returns-clause-comment : goal.returns-clause-comment
unfolding lay lay_each breaks finish layout_by layout
returns-clause-comment c = ((_, _, (_, _, inl refl, refl, refl), inl refl, refl), refl)

pub returns-clause-comment_weakly_ended : goal.returns-clause-comment_weakly_ended
unfolding lay lay_each breaks finish layout_by layout
returns-clause-comment_weakly_ended c = ((_, _, (_, _, inl refl, refl, refl), inl refl, refl), refl)

pub returns-clause-comment_ended_twice : goal.returns-clause-comment_ended_twice
unfolding lay lay_each breaks finish layout_by layout
returns-clause-comment_ended_twice c = ((_, _, (_, _, (_, _, inl refl, refl, refl), refl, refl), inl refl, refl), refl)

pub returns-clause-late_before_end : goal.returns-clause-late_before_end
unfolding lay lay_each breaks finish layout_by layout
returns-clause-late_before_end c = (late_comment_shows, refl)

pub returns-clause-late_after_group : goal.returns-clause-late_after_group
unfolding lay lay_each breaks finish layout_by layout
returns-clause-late_after_group c = (late_comment_shows, refl)

pub returns-clause-late_in_turn : goal.returns-clause-late_in_turn
unfolding lay lay_each breaks finish layout_by layout
returns-clause-late_in_turn c = (two_late_show, refl)

pub returns-clause-late_at_the_end : goal.returns-clause-late_at_the_end
unfolding lay lay_each breaks finish layout_by layout
returns-clause-late_at_the_end c = ((_, _, inl refl, (_, inl refl, tt, refl), refl), refl)

pub returns-clause-late_after_space : goal.returns-clause-late_after_space
unfolding lay lay_each breaks finish layout_by layout
returns-clause-late_after_space c = ((_, _, (_, _, inl refl, refl, refl), (_, inl refl, tt, refl), refl), refl)

pub returns-clause-mark_left_out : goal.returns-clause-mark_left_out
unfolding lay lay_each breaks finish layout_by layout
returns-clause-mark_left_out c = (one_number_shows, refl)

pub returns-clause-mark_set : goal.returns-clause-mark_set
unfolding lay lay_each breaks finish layout_by layout
returns-clause-mark_set c = (one_number_shows, refl)

pub returns-clause-first_of_two : goal.returns-clause-first_of_two
unfolding lay lay_each breaks finish layout_by layout
returns-clause-first_of_two c = (either_number_shows, refl)

pub returns-clause-second_of_two : goal.returns-clause-second_of_two
unfolding lay lay_each breaks finish layout_by layout
returns-clause-second_of_two c = (either_number_shows, refl)

pub returns-clause-list : goal.returns-clause-list
returns-clause-list c = lined_show

pub returns-clause-line_is_no_end : goal.returns-clause-line_is_no_end
returns-clause-line_is_no_end c = line_is_no_end

pub returns-clause-none_of_two : goal.returns-clause-none_of_two
returns-clause-none_of_two c = none_of_two

pub returns-clause-shown_joined : goal.returns-clause-shown_joined
returns-clause-shown_joined c = ([], codes "2", (refl, refl), refl, ([], [], (refl, refl, tt), refl, (refl, refl)))

pub returns-clause-not_joined : goal.returns-clause-not_joined
returns-clause-not_joined c = not_joined

pub returns-clause-not_apart : goal.returns-clause-not_apart
returns-clause-not_apart c = not_apart

pub returns-clause-not_on_one_line : goal.returns-clause-not_on_one_line
returns-clause-not_on_one_line c = not_on_one_line

pub returns-clause-not_ended : goal.returns-clause-not_ended
returns-clause-not_ended c = not_ended

pub returns-clause-not_after_late : goal.returns-clause-not_after_late
returns-clause-not_after_late c = not_after_late

pub returns-clause-not_beside_late : goal.returns-clause-not_beside_late
returns-clause-not_beside_late c = not_beside_late

pub returns-clause-not_late_enough : goal.returns-clause-not_late_enough
returns-clause-not_late_enough c = not_late_enough

pub returns-clause-not_marked_twice : goal.returns-clause-not_marked_twice
returns-clause-not_marked_twice c = not_marked_twice

pub returns-clause-not_late_before_a_gap : goal.returns-clause-not_late_before_a_gap
returns-clause-not_late_before_a_gap c = not_slipped

pub returns-clause-not_late_after_a_space : goal.returns-clause-not_late_after_a_space
returns-clause-not_late_after_a_space c = not_padded

pub returns-clause-not_on_the_next_line : goal.returns-clause-not_on_the_next_line
returns-clause-not_on_the_next_line c = not_begun

pub returns-clause-not_before_a_line_end : goal.returns-clause-not_before_a_line_end
returns-clause-not_before_a_line_end c = not_gone_on
