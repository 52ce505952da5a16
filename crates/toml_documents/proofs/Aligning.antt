-- Aligned comments change no lexeme.
use Rattle.std.proofs.Common.{◌≡◌, ◌≢◌, ℕ, Bool, true, false, cond, ◌==◌, ◌||◌, ◌&&◌, List, [], ◌∷◌, ◌++◌, All, refl, sym, ap, subst, ◌∙◌}
use Rattle.std.proofs.Common.{append-nil, append_assoc}
use Rattle.std.proofs.lemmas.Bool.{eqb-true, and_parts}
use Rattle.std.proofs.lemmas.List.Elements.{All-head, All-tail}
use Rattle.prettyless_model.specs.Spaces.{spaces}
use Rattle.std.specs.Prelude.{Option, Some, None, ◌-◌, if◌then◌else◌, zero, suc}
use Rattle.toml_lexemes.specs.Bytes.{is_blank, is_quote}
use Rattle.text_lexemes.specs.Languages.{LexerMode, between, within, cut}
use Rattle.toml_lexemes.specs.Lexemes.{Inner, begins_line_feed, cut_toml, toml_lexemes_of}
use Rattle.toml_lexemes.specs.Spaced.{begins_line_end, EndsBefore, IsTomlGap, IsWellSpaced, MayFollow, mode_after}
use Rattle.toml_lexemes.specs.SpacedLexemes.{SpacedToml, after_toml_gap, toml_put_together, toml_spaced_as}
use Rattle.toml_lexemes.proofs.Following.{blank_may_follow, first_byte_decides}
use Rattle.toml_lexemes.proofs.Gaps.{IsWellSpaced-lexemes, lexemes_alone}
use Rattle.toml_lexemes.proofs.Joined.{first_spaced}
use Rattle.toml_lexemes.proofs.Kept.{same_lexemes}
use Rattle.toml_lexemes.specs.Statements.{none_collected, statements, statements_of, with_lexemes}
use Rattle.toml_grammar.specs.Sorts as sort
use Rattle.toml_grammar.specs.Sorts.{sort_by, sort_of}
use Rattle.toml_documents.specs.Alignment.{aligned_from, first_standing, is_at_end, is_comment_lexeme, is_comment_sort, most_here, moved_by}
use Rattle.toml_documents.specs.Alignment.{moved_gap, standing_past, with_aligned_comments}
use Rattle.toml_documents.specs.declared.standing.Standing.{Standing}

-- ---- what may follow a lexeme

-- two bytes decide what may follow
ends_at_two : (m : LexerMode Inner) (x y : ℕ) (xs ys : List ℕ) → EndsBefore m (x ∷ y ∷ xs) → EndsBefore m (x ∷ y ∷ ys)
ends_at_two between x y xs ys e = tt
ends_at_two (within i) x y xs ys e = e

two_bytes : (s : List ℕ) (x y : ℕ) (xs ys : List ℕ) → MayFollow s (x ∷ y ∷ xs) → MayFollow s (x ∷ y ∷ ys)
two_bytes s x y xs ys h = record { ended = ends_at_two (mode_after between s) x y xs ys h.ended; apart = h.apart }

-- no lexeme is a CR
no_return : (x : ℕ) → cut_toml between (x ∷ []) ≡ (x ∷ []) ∷ [] → x ≢ 13
unfolding cut
no_return x alone e = let same : cut_toml between (13 ∷ []) ≡ (13 ∷ []) ∷ [] = subst (λ (y : ℕ). cut_toml between (y ∷ []) ≡ (y ∷ []) ∷ []) e alone in cc

-- what follows a gap and a lexeme does not matter
pub follows_gap : (s g t rest other : List ℕ) → cut_toml between t ≡ t ∷ [] → MayFollow s (g ++ (t ++ rest)) → MayFollow s (g ++ (t ++ other))
unfolding cut
follows_gap s (x ∷ y ∷ g) t rest other alone h = two_bytes s x y (g ++ (t ++ rest)) (g ++ (t ++ other)) h
follows_gap s (x ∷ []) [] rest other alone h = absurd (cc)
follows_gap s (x ∷ []) (y ∷ t) rest other alone h = two_bytes s x y (t ++ rest) (t ++ other) h
follows_gap s [] [] rest other alone h = absurd (cc)
follows_gap s [] (x ∷ []) rest other alone h = first_byte_decides x rest s other (no_return x alone) h
follows_gap s [] (x ∷ y ∷ t) rest other alone h = two_bytes s x y (t ++ rest) (t ++ other) h

-- a blank is no line feed
blank_byte : (x : ℕ) → is_blank x ≡ true → (x == 10) ≡ false
blank_byte x h = cases (x == 10) refl
  where
    cases : (b : Bool) → (x == 10) ≡ b → b ≡ false
    cases false e = refl
    cases true e = let clash : false ≡ true = ap is_blank (sym (eqb-true x 10 e)) ∙ h in cc

-- a comment begins with `#`
hash_alone : (a b c d e f g h q : Bool) → is_comment_sort
    (cond a sort.open_array (cond b sort.close_array (cond c sort.open_table (cond d sort.close_table (cond e sort.comma
    (cond f sort.equals (cond g sort.line_end (cond h sort.comment (cond q sort.string sort.word))))))))) ≡ true → h ≡ true
hash_alone true b c d e f g h q p = absurd (cc)
hash_alone false true c d e f g h q p = absurd (cc)
hash_alone false false true d e f g h q p = absurd (cc)
hash_alone false false false true e f g h q p = absurd (cc)
hash_alone false false false false true f g h q p = absurd (cc)
hash_alone false false false false false true g h q p = absurd (cc)
hash_alone false false false false false false true h q p = absurd (cc)
hash_alone false false false false false false false true q p = refl
hash_alone false false false false false false false false true p = absurd (cc)
hash_alone false false false false false false false false false p = absurd (cc)

pub comment_byte : (x : ℕ) → is_comment_sort (sort_by x) ≡ true → x ≡ 35
comment_byte x p =
    eqb-true x 35 (hash_alone (x == 91) (x == 93) (x == 123) (x == 125) (x == 44) (x == 61) (x == 10) (x == 35) (is_quote x) p)

-- before a comment and its gap no line ends
no_line_end : (g : List ℕ) (x : ℕ) (xs : List ℕ) → IsTomlGap g → x ≡ 35
    → (y : ℕ) (ys : List ℕ) → g ++ (x ∷ xs) ≡ y ∷ ys → begins_line_end (y ∷ ys) ≡ false
no_line_end [] x xs gap is y ys e =
    let first : y ≡ 35 = cc in
    ap (λ (z : ℕ). (z == 10) || ((z == 13) && begins_line_feed ys)) first
no_line_end (z ∷ []) x xs gap is y ys e =
    let first : z ≡ y = cc in
    let others : x ∷ xs ≡ ys = cc in
    let second : begins_line_feed ys ≡ false = ap begins_line_feed (sym others) ∙ ap (λ (b : ℕ). b == 10) is in
    ap (λ (b : ℕ). (b == 10) || ((b == 13) && begins_line_feed ys)) (sym first)
    ∙ (λ i. blank_byte z gap.0 i || ((z == 13) && second i)) ∙ no_return_here (z == 13)
  where
    no_return_here : (b : Bool) → (false || (b && false)) ≡ false
    no_return_here true = refl
    no_return_here false = refl
no_line_end (z ∷ w ∷ g) x xs gap is y ys e =
    let first : z ≡ y = cc in
    let others : w ∷ (g ++ (x ∷ xs)) ≡ ys = cc in
    let second : begins_line_feed ys ≡ false = ap begins_line_feed (sym others) ∙ blank_byte w gap.1.0 in
    ap (λ (b : ℕ). (b == 10) || ((b == 13) && begins_line_feed ys)) (sym first)
    ∙ (λ i. blank_byte z gap.0 i || ((z == 13) && second i)) ∙ no_return_here (z == 13)
  where
    no_return_here : (b : Bool) → (false || (b && false)) ≡ false
    no_return_here true = refl
    no_return_here false = refl

-- a blank may come where a comment may
follows_moved : (s g t rest other : List ℕ) → is_comment_sort (sort_of t) ≡ true → IsTomlGap g → MayFollow s (g ++ (t ++ rest))
    → MayFollow s (32 ∷ other)
follows_moved s g [] rest other comment gap h = absurd (cc)
follows_moved s [] (x ∷ t) rest other comment gap h =
    blank_may_follow x (t ++ rest) s 32 other (no_line_end [] x (t ++ rest) tt (comment_byte x comment) x (t ++ rest) refl) refl refl h
follows_moved s (z ∷ g) (x ∷ t) rest other comment gap h =
    blank_may_follow z (g ++ ((x ∷ t) ++ rest)) s 32 other
    (no_line_end (z ∷ g) x (t ++ rest) gap (comment_byte x comment) z (g ++ ((x ∷ t) ++ rest)) refl) refl refl h

-- ---- one lexeme

-- the gap before a lexeme that is moved or not
pub spaces_gap : (n : ℕ) → IsTomlGap (spaces n)
spaces_gap zero = tt
spaces_gap (suc n) = (refl, spaces_gap n)

pub gap_moved : (moved : Option ℕ) (g : List ℕ) → IsTomlGap g → IsTomlGap (moved_gap moved g)
gap_moved None g h = h
gap_moved (Some n) g h = (refl, spaces_gap n)

-- what may follow a lexeme may so where the next one is moved
follows_next : (st : Standing) (p : SpacedToml) (ps : List SpacedToml) (s rest other : List ℕ) → cut_toml between p.lexeme ≡ p.lexeme ∷ []
    → IsTomlGap p.gap → MayFollow s (p.gap ++ (p.lexeme ++ rest)) → MayFollow s (moved_gap (moved_by st p ps) p.gap ++ (p.lexeme ++ other))
follows_next st p ps s rest other alone gap h = go (is_at_end st p) refl
  where
    go : (b : Bool) → is_at_end st p ≡ b
        → MayFollow s (moved_gap (if b then Some (most_here st ps - st.reach.columns) else None) p.gap ++ (p.lexeme ++ other))
    go true e =
        follows_moved s p.gap p.lexeme rest _ (and_parts (is_comment_lexeme p) st.reach.holds e).0 gap h
    go false e = follows_gap s p.gap p.lexeme rest other alone h

-- ---- all lexemes

abbrev pub AreAlone : List (List ℕ) → Type 0
AreAlone ss = All (λ s. cut_toml between s ≡ s ∷ []) ss

-- the bytes of the lexemes that are left, with comments moved
abbrev pub moved_bytes : Standing → List ℕ → List (List ℕ) → List ℕ
moved_bytes st bytes ss = toml_put_together (aligned_from st (toml_spaced_as bytes ss))

module _ (bytes g t rest : List ℕ) (ss : List (List ℕ)) (gap : IsTomlGap g) (is : bytes ≡ g ++ (t ++ rest))
    (alone : cut_toml between t ≡ t ∷ []) where
  -- the first of them after its gap
  pub spaced_next : toml_spaced_as bytes (t ∷ ss) ≡ after_toml_gap g t ∷ toml_spaced_as rest ss
  spaced_next = ap (λ (b : List ℕ). toml_spaced_as b (t ∷ ss)) is ∙ first_spaced g t rest ss gap alone

-- what may follow a lexeme may so where comments are moved
follows_all : (ss : List (List ℕ)) (bytes s : List ℕ) (st : Standing) → IsWellSpaced bytes ss → AreAlone ss → MayFollow s bytes
    → MayFollow s (moved_bytes st bytes ss)
follows_all [] bytes s st gap each h = subst (λ (b : List ℕ). MayFollow s b) (sym (append-nil bytes)) h
follows_all (t ∷ ss) bytes s st (g, rest, gap, is, follows, later) each h =
    let alone = All-head (λ s. cut_toml between s ≡ s ∷ []) t ss each in
    let p = after_toml_gap g t in
    let ps = toml_spaced_as rest ss in
    subst (λ (l : List SpacedToml). MayFollow s (toml_put_together (aligned_from st l))) (sym (spaced_next bytes g t rest ss gap is alone))
    (follows_next st p ps s rest (moved_bytes (standing_past st p ps) rest ss) alone gap (subst (λ (b : List ℕ). MayFollow s b) is h))

well_spaced : (ss : List (List ℕ)) (bytes : List ℕ) (st : Standing) → IsWellSpaced bytes ss → AreAlone ss
    → IsWellSpaced (moved_bytes st bytes ss) ss
well_spaced [] bytes st gap each = subst IsTomlGap (sym (append-nil bytes)) gap
well_spaced (t ∷ ss) bytes st (g, rest, gap, is, follows, later) each =
    let alone = All-head (λ s. cut_toml between s ≡ s ∷ []) t ss each in
    let others = All-tail (λ s. cut_toml between s ≡ s ∷ []) t ss each in
    let p = after_toml_gap g t in
    let ps = toml_spaced_as rest ss in
    let next = standing_past st p ps in
    subst (λ (l : List SpacedToml). IsWellSpaced (toml_put_together (aligned_from st l)) (t ∷ ss))
    (sym (spaced_next bytes g t rest ss gap is alone)) (
      moved_gap (moved_by st p ps) g,
      moved_bytes next rest ss,
      gap_moved (moved_by st p ps) g gap,
      refl,
      follows_all ss rest t next later others follows,
      well_spaced ss rest next later others,
    )

-- the lexemes stay
pub aligned_lexemes : (bytes : List ℕ) → toml_lexemes_of (with_aligned_comments bytes) ≡ toml_lexemes_of bytes
aligned_lexemes bytes =
    same_lexemes (with_aligned_comments bytes) (toml_lexemes_of bytes) (lexemes_alone bytes)
    (well_spaced (toml_lexemes_of bytes) bytes first_standing (IsWellSpaced-lexemes bytes) (lexemes_alone bytes))

-- and so do the statements
pub aligned_statements : (bytes : List ℕ) → statements (with_aligned_comments bytes) ≡ statements bytes
unfolding statements
aligned_statements bytes = ap (λ (ss : List (List ℕ)). statements_of (with_lexemes none_collected ss)) (aligned_lexemes bytes)

-- one lexeme with its gap more
pub one_more : (text mid new g s rest whole : List ℕ) → mid ≡ text ++ g → new ≡ mid ++ s → text ++ (g ++ (s ++ rest)) ≡ whole
    → new ++ rest ≡ whole
one_more text mid new g s rest whole e f h =
    ap (λ (l : List ℕ). l ++ rest) (f ∙ ap (λ (l : List ℕ). l ++ s) e) ∙ append_assoc (text ++ g) s rest ∙ append_assoc text g (s ++ rest) ∙ h
