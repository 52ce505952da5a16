-- Reading items from stage to stage.
use Rattle.std.proofs.Common.{◌≡◌, ℕ, Bool, true, false, cond, ◌==◌, ◌||◌, List, [], ◌∷◌, ◌++◌, map, refl, sym, ap, ◌∙◌, subst}
use Rattle.std.proofs.Common.{append_assoc, append-nil}
use Rattle.std.specs.Prelude.{⊤}
use Rattle.std.proofs.lemmas.Bool.{cond_both}
use Rattle.prettyless_model.specs.Shows.{Least, Nothing, Spacing, LineEnd, more, Item, Shown, Gap}
use Rattle.prettyless_model.specs.Shows.{Mark, Late, with_gap}
use Rattle.toml_lexemes.specs.Bytes.{is_sign, is_quote, ends_word, head, ends_with_dot}
use Rattle.toml_lexemes.specs.Statements.{a_comment, role, trimmed, Collected, with_role, with_lexemes}
use Rattle.toml_lexemes.specs.Shown.{least_after_word, least_between, Stage, IsApart, LinesAgree, AgreesWithMark, IsReady}
use Rattle.toml_lexemes.specs.Shown.{after_shown, AreRead}

-- ---- items after items

pub reads_append : (xs ys : List Item) (a b c : Stage) → AreRead a xs b → AreRead b ys c → AreRead a (xs ++ ys) c
reads_append [] ys a b c h k = subst (λ s. AreRead s ys c) (sym h) k
reads_append (Shown s ∷ xs) ys a b c h k = (h.0, h.1, reads_append xs ys (after_shown a s) b c h.2 k)
reads_append (Gap r l ∷ xs) ys a b c h k = reads_append xs ys (record a { place = with_gap r l a.place }) b c h k
reads_append (Mark s ∷ xs) ys a b c h k = (h.0, reads_append xs ys (record a { marked = true }) b c h.1 k)
reads_append (Late i ∷ xs) ys a b c h k = absurd h

-- ---- what may stand next

-- after a sign nothing has to stand
pub sign_least : (x : ℕ) (xs s : List ℕ) → is_sign x ≡ true → least_between (x ∷ xs) s ≡ Nothing
sign_least x xs s e =
    ap (λ b. cond b Nothing (cond (x == 35) LineEnd
    (cond (is_quote x) (cond (is_quote (head s)) Spacing Nothing) (least_after_word (ends_with_dot (x ∷ xs)) (head s))))) e

-- after what is no comment some byte is enough
pub spaced_least : (x : ℕ) (xs s : List ℕ) → (x == 35) ≡ false → more (least_between (x ∷ xs) s) Spacing ≡ Spacing
spaced_least x xs s e =
    cond_both (is_sign x) _ _ (λ l. more l Spacing ≡ Spacing) (λ h. refl)
    (λ h. subst (λ b. more (cond b LineEnd (cond (is_quote x) (cond (is_quote (head s)) Spacing Nothing)
    (least_after_word (ends_with_dot (x ∷ xs)) (head s)))) Spacing ≡ Spacing) (sym e)
    (cond_both (is_quote x) _ _ (λ l. more l Spacing ≡ Spacing)
    (λ k. cond_both (is_quote (head s)) _ _ (λ l. more l Spacing ≡ Spacing) (λ m. refl) (λ m. refl))
    (λ k. cond_both (ends_with_dot (x ∷ xs) || ((head s == 46) || ends_word (head s))) _ _ (λ l. more l Spacing ≡ Spacing)
    (λ m. refl) (λ m. refl))))

module _ (last s : List ℕ) where
  after_sign : (l : Least) → is_sign (head last) ≡ true → more (least_between last s) l ≡ l
  after_sign l e = by last e
    where
      by : (t : List ℕ) → is_sign (head t) ≡ true → more (least_between t s) l ≡ l
      by [] e = absurd (cc)
      by (x ∷ xs) e = ap (λ n. more n l) (sign_least x xs s e)

  after_space : (head last == 35) ≡ false → more (least_between last s) Spacing ≡ Spacing
  after_space e = by last e
    where
      by : (t : List ℕ) → (head t == 35) ≡ false → more (least_between t s) Spacing ≡ Spacing
      by [] e = refl
      by (x ∷ xs) e = spaced_least x xs s e

agrees : (m : Bool) (s : List ℕ) → m ≡ false → AgreesWithMark m s
agrees true s e = absurd (cc)
agrees false s e = tt

-- any text may stand next, where any has the gap that it needs, a line end changes nothing, and no optional text was last
pub ready : (a : Stage) → LinesAgree a.place a.collected → a.marked ≡ false → ((s : List ℕ) → IsApart a s) → IsReady a
ready a lines unmarked apart s = record { apart = apart s; lines = lines; mark = agrees a.marked s unmarked }

-- ---- comments

-- the lexemes are comments
abbrev pub AreComments : List (List ℕ) → Type 0
AreComments [] = ⊤
AreComments (s ∷ ss) = (role s ≡ a_comment) × AreComments ss

-- comments are collected, without the blanks at their ends
pub comments_read : (c : Collected) (ss : List (List ℕ)) → AreComments ss
    → with_lexemes c ss ≡ record c { comments = c.comments ++ map trimmed ss }
comments_read c [] h = ap (λ (rs : List (List ℕ)). record c { comments = rs }) (sym (append-nil c.comments))
comments_read c (s ∷ ss) h =
    ap (λ d. with_lexemes d ss) (ap (λ r. with_role r c s) h.0)
    ∙ comments_read (record c { comments = c.comments ++ trimmed s ∷ [] }) ss h.1
    ∙ ap (λ (rs : List (List ℕ)). record c { comments = rs }) (append_assoc c.comments (trimmed s ∷ []) (map trimmed ss))
