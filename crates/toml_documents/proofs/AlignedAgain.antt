-- Aligned comments stay where they are when they are aligned again, and an aligned text is TOML where the text is.
use Rattle.std.proofs.Common.{◌≡◌, refl, sym, ◌∙◌, ap, subst, ℕ, zero, suc, ◌-◌, ◌==◌, Bool, true, false, not, cond, ◌&&◌, max, List, []}
use Rattle.std.proofs.Common.{◌∷◌, ◌++◌}
use Rattle.std.proofs.Common.{append-nil}
use Rattle.std.specs.Prelude.{Option, Some, None, if◌then◌else◌, Result, Ok, Err, is_ok}
use Rattle.std.specs.List.{list_all}
use Rattle.std.proofs.Math.Seq.{take-length}
use Rattle.std.proofs.lemmas.Bool.{and_parts}
use Rattle.std.proofs.lemmas.List.Elements.{All-head, All-tail}
use Rattle.prettyless_model.specs.Spaces.{spaces}
use Rattle.text_lexemes.specs.Languages.{between}
use Rattle.toml_lexemes.specs.Lexemes.{cut_toml, toml_lexemes_of}
use Rattle.toml_lexemes.specs.Spaced.{IsWellSpaced}
use Rattle.toml_lexemes.specs.SpacedLexemes.{SpacedToml, after_toml_gap, toml_put_together, toml_spaced_as, toml_spaced_lexemes}
use Rattle.toml_lexemes.proofs.Gaps.{IsWellSpaced-lexemes, lexemes_alone}
use Rattle.toml_grammar.specs.Grammar.{Reading, first_reading, is_clear, is_toml, lexeme_step, reading_after, then_lexemes, turned}
use Rattle.toml_lexemes.specs.Bytes.{blank_space, carriage_return, hash}
use Rattle.toml_grammar.specs.Sorts.{sort_of}
use Rattle.toml_grammar.specs.declared.expected.Expected.{Expected}
use Rattle.toml_documents.specs.Alignment.{aligned_from, ends_the_line, first_standing, is_at_end, is_comment_lexeme, is_comment_sort}
use Rattle.toml_documents.specs.Alignment.{known_or, most_columns, most_here, moved_by, moved_gap, reach_past, reach_start}
use Rattle.toml_documents.specs.Alignment.{reach_with_comment, standing_past, with_aligned_comments, comments_as}
use Rattle.toml_documents.specs.Documents.{toml_document}
use Rattle.toml_documents.specs.AlignmentLaws.{AlignedCommentsStay, AlignedDocumentsStay, AlignedLexemesStay, AlignedTextsAreToml}
use Rattle.toml_documents.specs.declared.standing.Reach.{Reach}
use Rattle.toml_documents.specs.declared.standing.Standing.{Standing}
use Rattle.toml_documents.proofs.Aligning.{AreAlone, aligned_lexemes, comment_byte, gap_moved, moved_bytes, spaced_next}

-- ---- the lexemes of an aligned text, with their gaps

spaced_moved : (ss : List (List ℕ)) (bytes : List ℕ) (st : Standing) → IsWellSpaced bytes ss → AreAlone ss
    → toml_spaced_as (moved_bytes st bytes ss) ss ≡ aligned_from st (toml_spaced_as bytes ss)
spaced_moved [] bytes st gap each = ap (λ (b : List ℕ). after_toml_gap b [] ∷ []) (append-nil bytes)
spaced_moved (t ∷ ss) bytes st (g, rest, gap, is, follows, later) each =
    let alone = All-head (λ s. cut_toml between s ≡ s ∷ []) t ss each in
    let others = All-tail (λ s. cut_toml between s ≡ s ∷ []) t ss each in
    let p = after_toml_gap g t in
    let ps = toml_spaced_as rest ss in
    let next = standing_past st p ps in
    let moved = moved_gap (moved_by st p ps) g in
    let after = moved_bytes next rest ss in
    subst (λ (l : List SpacedToml). toml_spaced_as (toml_put_together (aligned_from st l)) (t ∷ ss) ≡ aligned_from st l)
    (sym (spaced_next bytes g t rest ss gap is alone))
    (spaced_next (moved ++ (t ++ after)) moved t after ss (gap_moved (moved_by st p ps) g gap) refl alone
    ∙ ap (λ (l : List SpacedToml). after_toml_gap moved t ∷ l) (spaced_moved ss rest next later others))

spaced_aligned : (bytes : List ℕ)
    → toml_spaced_lexemes (with_aligned_comments bytes) ≡ aligned_from first_standing (toml_spaced_lexemes bytes)
spaced_aligned bytes =
    ap (λ (ss : List (List ℕ)). toml_spaced_as (with_aligned_comments bytes) ss) (aligned_lexemes bytes)
    ∙ spaced_moved (toml_lexemes_of bytes) bytes first_standing (IsWellSpaced-lexemes bytes) (lexemes_alone bytes)

-- ---- gaps that are moved are not seen

-- a lexeme after its gap, moved
abbrev moved : Standing → SpacedToml → List SpacedToml → SpacedToml
moved st p ps = after_toml_gap (moved_gap (moved_by st p ps) p.gap) p.lexeme

-- one that is at no end of a line is not moved
not_moved : (st : Standing) (p : SpacedToml) (ps : List SpacedToml) → is_at_end st p ≡ false → moved st p ps ≡ p
not_moved st p ps e =
    ap (λ (b : Bool). after_toml_gap (moved_gap (if b then Some (most_here st ps - st.reach.columns) else None) p.gap) p.lexeme) e

no_comment : (st : Standing) (p : SpacedToml) → is_comment_lexeme p ≡ false → is_at_end st p ≡ false
no_comment st p e = ap (λ (b : Bool). b && st.reach.holds) e

-- a choice by a test, each side of which is as it was
cond_both : {A : Type 0} {x y z w : A} (b : Bool) → (b ≡ true → x ≡ y) → (b ≡ false → z ≡ w) → cond b x z ≡ cond b y w
cond_both true f g = f refl
cond_both false f g = g refl

if_both : {A : Type 0} {x y z w : A} (b : Bool) → (b ≡ true → x ≡ y) → (b ≡ false → z ≡ w)
    → (if b then x else z) ≡ (if b then y else w)
if_both true f g = f refl
if_both false f g = g refl

most_same : (ps : List SpacedToml) (w : ℕ) (r : Reach) (st : Standing) → most_columns w r (aligned_from st ps) ≡ most_columns w r ps
most_same [] w r st = refl
most_same (p ∷ ps) w r st =
    let next = standing_past st p ps in
    cond_both (is_comment_lexeme p)
    (λ e. ap (λ (n : ℕ). cond r.holds n w) (most_same ps (max w r.columns) (reach_with_comment r) next))
    (λ e. cond_both (ends_the_line p) (λ f. ap (λ (n : ℕ). cond r.ended n w) (most_same ps w reach_start next))
    (λ f. ap (λ (q : SpacedToml). most_columns w (reach_past r q) (aligned_from next ps)) (not_moved st p ps (no_comment st p e))
    ∙ most_same ps w (reach_past r p) next))

here_same : (st next : Standing) (ps : List SpacedToml) → most_here st (aligned_from next ps) ≡ most_here st ps
here_same st next ps = ap (known_or st.most) (most_same ps st.reach.columns (reach_with_comment st.reach) next)

moved_same : (st next : Standing) (p : SpacedToml) (ps : List SpacedToml)
    → moved_by st (moved st p ps) (aligned_from next ps) ≡ moved_by st p ps
moved_same st next p ps =
    if_both (is_at_end st p) (λ e. ap (λ (n : ℕ). Some (n - st.reach.columns)) (here_same st next ps)) (λ e. refl)

standing_same : (st next : Standing) (p : SpacedToml) (ps : List SpacedToml)
    → standing_past st (moved st p ps) (aligned_from next ps) ≡ standing_past st p ps
standing_same st next p ps =
    if_both (is_at_end st p)
    (λ e. ap (λ (n : ℕ). record { reach = reach_with_comment st.reach; most = Some n }) (here_same st next ps))
    (λ e. if_both (ends_the_line p) (λ f. refl)
    (λ f. ap (λ (q : SpacedToml). record st { reach = reach_past st.reach q }) (not_moved st p ps e)))

gap_twice : (by : Option ℕ) (g : List ℕ) → moved_gap by (moved_gap by g) ≡ moved_gap by g
gap_twice None g = refl
gap_twice (Some n) g = refl

aligned_twice : (ps : List SpacedToml) (st : Standing) → aligned_from st (aligned_from st ps) ≡ aligned_from st ps
aligned_twice [] st = refl
aligned_twice (p ∷ ps) st =
    let next = standing_past st p ps in
    let qs = aligned_from next ps in
    let by = moved_same st next p ps in
    let past = standing_same st next p ps in
    (λ i. after_toml_gap (moved_gap (by i) (moved_gap (moved_by st p ps) p.gap)) p.lexeme ∷ aligned_from (past i) qs)
    ∙ ap (λ (g : List ℕ). after_toml_gap g p.lexeme ∷ aligned_from next qs) (gap_twice (moved_by st p ps) p.gap)
    ∙ ap (λ (l : List SpacedToml). moved st p ps ∷ l) (aligned_twice ps next)

-- ---- the grammar

pub clear_spaces : (n : ℕ) → list_all (λ x. not (x == carriage_return)) (spaces n) ≡ true
clear_spaces zero = refl
clear_spaces (suc n) = clear_spaces n

clear_moved : (n : ℕ) → is_clear (blank_space ∷ spaces n) false ≡ true
clear_moved n = ap (list_all (λ x. not (x == carriage_return))) (take-length (blank_space ∷ spaces n)) ∙ clear_spaces n

comment_bytes : (s : List ℕ) → is_comment_sort (sort_of s) ≡ true → (xs : List ℕ) × (s ≡ hash ∷ xs)
comment_bytes [] e = absurd (cc)
comment_bytes (x ∷ xs) e = (xs, ap (λ (y : ℕ). y ∷ xs) (comment_byte x e))

-- what leads on is the first of two
leads_on : {T : Type 0} (x y : T) (f : T → Result Reading Expected) (b : Bool) (t : Reading) → (f y ≡ Ok t → ⊥) → f (cond b x y) ≡ Ok t
    → f x ≡ Ok t
leads_on x y f true t none h = h
leads_on x y f false t none h = absurd (none h)

is_first : {T : Type 0} (x y : T) (f : T → Result Reading Expected) (b : Bool) → b ≡ true → f (cond b x y) ≡ f x
is_first x y f true e = refl
is_first x y f false e = absurd (cc)

-- a comment that may stand there may so after any number of spaces
step_spaced : (r : Reading) (g xs : List ℕ) (n : ℕ) (t : Reading) → lexeme_step r (after_toml_gap g (hash ∷ xs)) ≡ Ok t
    → lexeme_step r (after_toml_gap (blank_space ∷ spaces n) (hash ∷ xs)) ≡ Ok t
step_spaced r g xs n t h =
    is_first _ _ (turned r.open_brackets) (is_clear (blank_space ∷ spaces n) false) (clear_moved n)
    ∙ leads_on _ _ (turned r.open_brackets) (is_clear g false) t (λ e. absurd (cc)) h

step_moved : (r : Reading) (st : Standing) (p : SpacedToml) (ps : List SpacedToml) (t : Reading) → lexeme_step r p ≡ Ok t
    → lexeme_step r (moved st p ps) ≡ Ok t
step_moved r st p ps t h = by (is_at_end st p) refl
  where
    columns : ℕ
    columns = most_here st ps - st.reach.columns

    by : (b : Bool) → is_at_end st p ≡ b → lexeme_step r (moved st p ps) ≡ Ok t
    by true e =
        let is = comment_bytes p.lexeme (and_parts (is_comment_lexeme p) st.reach.holds e).0 in
        ap (λ (b : Bool). lexeme_step r (after_toml_gap (moved_gap (if b then Some columns else None) p.gap) p.lexeme)) e
        ∙ ap (λ (s : List ℕ). lexeme_step r (after_toml_gap (blank_space ∷ spaces columns) s)) is.1
        ∙ step_spaced r p.gap is.0 columns t (ap (λ (s : List ℕ). lexeme_step r (after_toml_gap p.gap s)) (sym is.1) ∙ h)
    by false e = ap (lexeme_step r) (not_moved st p ps e) ∙ h

reading_moved : (ps : List SpacedToml) (r : Reading) (st : Standing) → is_ok (reading_after r ps) ≡ true
    → is_ok (reading_after r (aligned_from st ps)) ≡ true
reading_moved [] r st h = h
reading_moved (p ∷ ps) r st h = by (λ t. reading_moved ps t (standing_past st p ps)) (lexeme_step r p) refl h
  where
    next : Standing
    next = standing_past st p ps

    by : ((t : Reading) → is_ok (reading_after t ps) ≡ true → is_ok (reading_after t (aligned_from next ps)) ≡ true)
        → (x : Result Reading Expected) → lexeme_step r p ≡ x → is_ok (then_lexemes x (λ t. reading_after t ps)) ≡ true
        → is_ok (reading_after r (aligned_from st (p ∷ ps))) ≡ true
    by later (Ok t) e ok =
        ap (λ (x : Result Reading Expected). is_ok (then_lexemes x (λ u. reading_after u (aligned_from next ps))))
        (step_moved r st p ps t e)
        ∙ later t ok
    by later (Err x) e ok = absurd (cc)

-- ---- texts

pub lexemes_stay : AlignedLexemesStay
lexemes_stay bytes = aligned_lexemes bytes

lexemes_as : (align : Bool) (text : List ℕ) → toml_lexemes_of (comments_as align text) ≡ toml_lexemes_of text
lexemes_as true text = aligned_lexemes text
lexemes_as false text = refl

pub documents_stay : AlignedDocumentsStay
documents_stay style text = ap (toml_document style) (lexemes_as style.align text)

pub comments_stay : AlignedCommentsStay
comments_stay bytes =
    ap (λ (ps : List SpacedToml). toml_put_together (aligned_from first_standing ps)) (spaced_aligned bytes)
    ∙ ap toml_put_together (aligned_twice (toml_spaced_lexemes bytes) first_standing)

pub toml_stays : AlignedTextsAreToml
unfolding is_toml
toml_stays bytes toml =
    ap (λ (ps : List SpacedToml). is_ok (reading_after first_reading ps)) (spaced_aligned bytes)
    ∙ reading_moved (toml_spaced_lexemes bytes) first_reading first_standing toml
