-- How items are read one after the other, and what becomes of lexemes that wait.
use Rattle.std.proofs.Common.{◌≡◌, refl, sym, ◌∙◌, ap, subst, ℕ, zero, suc, Bool, true, false, List, [], ◌∷◌, ◌++◌}
use Rattle.prettyless_model.specs.Shows as shown
use Rattle.prettyless_model.specs.Shows.{Item, Shown, Gap, Mark, Late, SameLine, AnyLine, Spacing, LineEnd, After, with_gap, more}
use Rattle.toml_lexemes.specs.Bytes.{comma, head}
use Rattle.toml_lexemes.specs.Statements.{Role, a_comment, a_closing, role, trimmed, Collected, line_ended, line_ended_at, with_held_comma}
use Rattle.toml_lexemes.specs.Statements.{with_role, with_lexeme, with_lexemes}
use Rattle.toml_lexemes.specs.Shown.{Stage, IsWholeLexeme, IsInside, MayStand, AreRead, after_shown, least_between}
use Rattle.toml_documents.specs.declared.gaps.Gap.{Gap as Between}
use Rattle.toml_documents.specs.declared.gaps.Gap.TheVariants.{Nothing, Space, Beside, Edge, Line, Fill, BlankLine, Break, BlankBreak}
use Rattle.toml_documents.specs.declared.kind.Last.{Last}
use Rattle.toml_documents.specs.Gaps.{gap_items, least_of, stays, Suits}
use Rattle.toml_formatter.specs.Lines.{directly_after, before_next, IsNested, EndsAs, Agrees, AreComments, WaitingComments, waiting}

-- ---- items

pub read_both : (a b c : Stage) (xs ys : List Item) → AreRead a xs b → AreRead b ys c → AreRead a (xs ++ ys) c
read_both a b c [] ys h k = subst (λ (x : Stage). AreRead x ys c) (sym h) k
read_both a b c (Shown s ∷ xs) ys h k = (h.0, h.1, read_both (after_shown a s) b c xs ys h.2 k)
read_both a b c (Gap r l ∷ xs) ys h k = read_both (record a { place = with_gap r l a.place }) b c xs ys h k
read_both a b c (Mark s ∷ xs) ys h k = (h.0, read_both (record a { marked = true }) b c xs ys h.1 k)
read_both a b c (Late i ∷ xs) ys h k = absurd h

pub with_both : (c : Collected) (ss ts : List (List ℕ)) → with_lexemes c (ss ++ ts) ≡ with_lexemes (with_lexemes c ss) ts
with_both c [] ts = refl
with_both c (s ∷ ss) ts = with_both (with_lexeme c s) ss ts

-- ---- gaps

-- a line end in brackets
inside_at : (n : ℕ) (c : Collected) → IsInside n → line_ended_at n c ≡ c
inside_at zero c h = absurd h
inside_at (suc n) c h = refl

pub inside_line : (c : Collected) → IsInside c.depth → line_ended c ≡ c
inside_line c h = inside_at c.depth c h

-- the stage after a text and a gap
abbrev pub at_gap : Collected → List ℕ → Between → Bool → Stage
at_gap c t Nothing m = record { collected = c; last = t; place = shown.after_text; marked = m }
at_gap c t Space m = record { collected = c; last = t; place = After SameLine Spacing; marked = m }
at_gap c t Beside m = record { collected = c; last = t; place = After SameLine Spacing; marked = m }
at_gap c t Edge m = record { collected = c; last = t; place = After AnyLine shown.Nothing; marked = m }
at_gap c t Line m = record { collected = c; last = t; place = After AnyLine Spacing; marked = m }
at_gap c t Fill m = record { collected = c; last = t; place = After AnyLine Spacing; marked = m }
at_gap c t BlankLine m = record { collected = c; last = t; place = After AnyLine Spacing; marked = m }
at_gap c t Break m = record { collected = c; last = t; place = After AnyLine LineEnd; marked = m }
at_gap c t BlankBreak m = record { collected = c; last = t; place = After AnyLine LineEnd; marked = m }

-- the same after an optional text
abbrev pub after_mark : Collected → List ℕ → Bool → Stage
after_mark c t m = record { collected = c; last = t; place = shown.after_text; marked = m }

pub gap_read : (c : Collected) (t : List ℕ) (m : Bool) (gap : Between) (items : List Item) (b : Stage)
    → AreRead (at_gap c t gap m) items b → AreRead (after_mark c t m) (gap_items gap ++ items) b
gap_read c t m Nothing items b h = h
gap_read c t m Space items b h = h
gap_read c t m Beside items b h = h
gap_read c t m Edge items b h = h
gap_read c t m Line items b h = h
gap_read c t m Fill items b h = h
gap_read c t m BlankLine items b h = h
gap_read c t m Break items b h = h
gap_read c t m BlankBreak items b h = h

-- after the gap any text may stand that it is enough for
pub stands : (c : Collected) (t : List ℕ) (gap : Between) (s : List ℕ) → more (least_between t s) (least_of gap) ≡ least_of gap
    → (stays gap ≡ false → IsInside c.depth) → (m : Bool) → (m ≡ true → role s ≡ a_closing) → MayStand (at_gap c t gap m) s
stands c t Nothing s e h true k = record { apart = e; lines = tt; mark = k refl }
stands c t Nothing s e h false k = record { apart = e; lines = tt; mark = tt }
stands c t Space s e h true k = record { apart = e; lines = tt; mark = k refl }
stands c t Space s e h false k = record { apart = e; lines = tt; mark = tt }
stands c t Beside s e h true k = record { apart = e; lines = tt; mark = k refl }
stands c t Beside s e h false k = record { apart = e; lines = tt; mark = tt }
stands c t Edge s e h true k = record { apart = e; lines = inside_line c (h refl); mark = k refl }
stands c t Edge s e h false k = record { apart = e; lines = inside_line c (h refl); mark = tt }
stands c t Line s e h true k = record { apart = e; lines = inside_line c (h refl); mark = k refl }
stands c t Fill s e h true k = record { apart = e; lines = inside_line c (h refl); mark = k refl }
stands c t Line s e h false k = record { apart = e; lines = inside_line c (h refl); mark = tt }
stands c t Fill s e h false k = record { apart = e; lines = inside_line c (h refl); mark = tt }
stands c t BlankLine s e h true k = record { apart = e; lines = inside_line c (h refl); mark = k refl }
stands c t BlankLine s e h false k = record { apart = e; lines = inside_line c (h refl); mark = tt }
stands c t Break s e h true k = record { apart = e; lines = tt; mark = k refl }
stands c t Break s e h false k = record { apart = e; lines = tt; mark = tt }
stands c t BlankBreak s e h true k = record { apart = e; lines = tt; mark = k refl }
stands c t BlankBreak s e h false k = record { apart = e; lines = tt; mark = tt }

-- the gap changes nothing of what is collected
pub gap_keeps : (c : Collected) (t : List ℕ) (gap : Between) (m : Bool) → (stays gap ≡ false → IsInside c.depth)
    → before_next (at_gap c t gap m) ≡ c
gap_keeps c t Nothing m h = refl
gap_keeps c t Space m h = refl
gap_keeps c t Beside m h = refl
gap_keeps c t Edge m h = refl
gap_keeps c t Line m h = refl
gap_keeps c t Fill m h = refl
gap_keeps c t BlankLine m h = refl
gap_keeps c t Break m h = inside_line c (h refl)
gap_keeps c t BlankBreak m h = inside_line c (h refl)

-- the text after the gap is the last one then
pub shown_after : (c : Collected) (t : List ℕ) (gap : Between) (s : List ℕ) (m : Bool)
    → after_shown (at_gap c t gap m) s ≡ directly_after (with_lexeme (before_next (at_gap c t gap m)) s) s
shown_after c t Nothing s m = refl
shown_after c t Space s m = refl
shown_after c t Beside s m = refl
shown_after c t Edge s m = refl
shown_after c t Line s m = refl
shown_after c t Fill s m = refl
shown_after c t BlankLine s m = refl
shown_after c t Break s m = refl
shown_after c t BlankBreak s m = refl

-- where brackets are open, or the gap stays on its line
pub ends_lines : (nested : Bool) (c : Collected) (gap : Between) → (nested ≡ false → stays gap ≡ true) → IsNested nested c
    → stays gap ≡ false → IsInside c.depth
ends_lines true c gap h k e = k
ends_lines false c gap h k e = absurd (clash (stays gap) (h refl) e)
  where
    clash : (b : Bool) → b ≡ true → b ≡ false → ⊥
    clash b p q = cc

-- after a text that ends so, and an optional one or none, this gap and this text may come
pub record MayFollow (nested : Bool) (last : Last) (c : Collected) (t : List ℕ) (m : Bool) (gap : Between)
    (s : List ℕ) : Type 0 where
  pub ends : EndsAs last t
  pub inside : IsNested nested c
  pub suits : Suits nested last (head s) gap
  pub whole : IsWholeLexeme s
  pub closing : m ≡ true → role s ≡ a_closing

-- a gap, a text and what comes after it
pub text_read : {nested : Bool} {last : Last} {c : Collected} {t : List ℕ} {m : Bool} {gap : Between} {s : List ℕ}
    (items : List Item) (b : Stage)
    → MayFollow nested last c t m gap s → AreRead (directly_after (with_lexeme c s) s) items b
    → AreRead (after_mark c t m) (gap_items gap ++ (Shown s ∷ items)) b
text_read {nested} {last} {c} {t} {m} {gap} {s} items b next h =
    let lines : stays gap ≡ false → IsInside c.depth = ends_lines nested c gap next.suits.stays next.inside in
    let apart =
    subst (λ (l : shown.Least). more l (least_of gap) ≡ least_of gap) (sym (next.ends s)) next.suits.enough in
    gap_read c t m gap (Shown s ∷ items) b (
      next.whole,
      stands c t gap s apart lines m next.closing,
      subst (λ (x : Stage). AreRead x items b)
          (sym (shown_after c t gap s m ∙ ap (λ (x : Collected). directly_after (with_lexeme x s) s) (gap_keeps c t gap m lines))) h,
    )

-- ---- lexemes that wait

-- a comment
pub with_comment : (c : Collected) (s : List ℕ) → role s ≡ a_comment
    → with_lexeme c s ≡ record c { comments = c.comments ++ trimmed s ∷ [] }
with_comment c s e = ap (λ (r : Role). with_role r c s) e

held_depth : (b : Bool) (c : Collected) → (with_held_comma b c).depth ≡ c.depth
held_depth true c = refl
held_depth false c = refl

pub comments_depth : (c : Collected) (rs : List (List ℕ)) → AreComments rs → (with_lexemes c rs).depth ≡ c.depth
comments_depth c [] h = refl
comments_depth c (s ∷ ss) h = comments_depth (with_lexeme c s) ss h.1 ∙ ap (λ (x : Collected). x.depth) (with_comment c s h.0)

pub waiting_depth : (comma : Bool) (c : Collected) (rs : List (List ℕ)) → AreComments rs
    → (with_lexemes c (waiting comma rs)).depth ≡ c.depth
waiting_depth false c rs h = comments_depth c rs h
waiting_depth true c rs h = comments_depth (with_held_comma c.comma c) rs h ∙ held_depth c.comma c

pub waiting_comments : (flag nested : Bool) (last : Last) (rs : List (List ℕ)) (items : List Item)
    → WaitingComments flag nested last rs items → AreComments rs
waiting_comments true nested last rs items h = h.0
waiting_comments false nested last rs items h = subst AreComments (sym h) tt

-- one more at the end of those that wait
pub waiting_more : (comma : Bool) (rs : List (List ℕ)) (s : List ℕ) → waiting comma rs ++ s ∷ [] ≡ waiting comma (rs ++ s ∷ [])
waiting_more true rs s = refl
waiting_more false rs s = refl

pub comments_more : (rs : List (List ℕ)) (s : List ℕ) → AreComments rs → role s ≡ a_comment → AreComments (rs ++ s ∷ [])
comments_more [] s h e = (e, tt)
comments_more (r ∷ rs) s h e = (h.0, comments_more rs s h.1 e)

pub nested_along : (nested : Bool) (c d : Collected) → d.depth ≡ c.depth → IsNested nested c → IsNested nested d
nested_along true c d e h = subst IsInside (sym e) h
nested_along false c d e h = tt

-- ---- before a closing bracket

abbrev without_comma : Collected → Collected
without_comma y = record y { comma = false }

-- a comma that waits, and comments after it
forgets : (c : Collected) (rs : List (List ℕ)) → AreComments rs → Agrees false (with_lexemes (record c { comma = true }) rs)
    (with_lexemes c rs)
forgets c [] h = refl
forgets c (s ∷ ss) h =
    let d : Collected = record c { comments = c.comments ++ trimmed s ∷ [] } in
    ap (λ (y : Collected). without_comma (with_lexemes y ss)) (with_comment (record c { comma = true }) s h.0)
    ∙ forgets d ss h.1
    ∙ sym (ap (λ (y : Collected). without_comma (with_lexemes y ss)) (with_comment c s h.0))

forgets_comma : (c : Collected) (rs : List (List ℕ)) → c.comma ≡ false → AreComments rs → Agrees false (with_lexemes c (waiting true rs))
    (with_lexemes c rs)
forgets_comma c rs n h = ap (λ (b : Bool). without_comma (with_lexemes (with_held_comma b c) rs)) n ∙ forgets c rs h

-- whether a comma waits makes no difference but for a comma
pub waiting_agrees : (p q : Bool) (c : Collected) (rs : List (List ℕ)) → c.comma ≡ false → AreComments rs
    → Agrees false (with_lexemes c (waiting p rs)) (with_lexemes c (waiting q rs))
waiting_agrees true true c rs n h = refl
waiting_agrees false false c rs n h = refl
waiting_agrees true false c rs n h = forgets_comma c rs n h
waiting_agrees false true c rs n h = sym (forgets_comma c rs n h)

pub agrees_then : (exact : Bool) (c d e : Collected) → Agrees exact c d → d ≡ e → Agrees exact c e
agrees_then exact c d e h k = subst (Agrees exact c) k h

-- a closing bracket forgets it
pub closing_same : (c d : Collected) (x : List ℕ) → role x ≡ a_closing → Agrees false c d → with_lexeme c x ≡ with_lexeme d x
closing_same c d x e h =
    ap (λ (r : Role). with_role r c x) e ∙ ap (λ (y : Collected). with_role a_closing y x) h ∙ sym (ap (λ (r : Role). with_role r d x) e)

-- a comma after comments is before them
pub comma_passes : (c : Collected) (rs : List (List ℕ)) → c.comma ≡ false → AreComments rs
    → with_lexeme (with_lexemes c rs) (comma ∷ []) ≡ with_lexemes c (waiting true rs)
comma_passes c [] n h = refl
comma_passes c (s ∷ ss) n h =
    let d : Collected = record c { comments = c.comments ++ trimmed s ∷ [] } in
    ap (λ (y : Collected). with_lexeme (with_lexemes y ss) (comma ∷ [])) (with_comment c s h.0)
    ∙ comma_passes d ss n h.1
    ∙ ap (λ (b : Bool). with_lexemes (with_held_comma b d) ss) n
    ∙ sym (ap (λ (y : Collected). with_lexemes y ss) (with_comment (record c { comma = true }) s h.0))
    ∙ sym (ap (λ (b : Bool). with_lexemes (with_held_comma b c) (s ∷ ss)) n)
