-- Lines of a layout that are settled have their comments aligned before any others as alone.
use Rattle.std.proofs.Common.{◌≡◌, ℕ, ◌-◌, Bool, true, false, not, cond, ◌==◌, ◌&&◌, max, List, [], ◌∷◌, ◌++◌, length, All, refl, sym, ap}
use Rattle.std.proofs.Common.{subst, ◌∙◌, append-nil, append_assoc, arith, if◌then◌else◌}
use Rattle.std.specs.Prelude.{Some, None}
use Rattle.std.proofs.lemmas.Bool.{eqb-true, and_parts}
use Rattle.std.proofs.lemmas.List.Elements.{All-cons, All-head, All-tail}
use Rattle.toml_lexemes.specs.Bytes.{is_quote}
use Rattle.text_lexemes.specs.Languages.{between, cut}
use Rattle.toml_lexemes.specs.Lexemes.{cut_toml, toml_lexemes_of}
use Rattle.toml_lexemes.specs.Spaced.{IsTomlGap, IsWellSpaced, MayFollow}
use Rattle.toml_lexemes.specs.SpacedLexemes.{SpacedToml, after_toml_gap, toml_put_together, toml_spaced_as, toml_spaced_lexemes}
use Rattle.toml_lexemes.proofs.Gaps.{IsWellSpaced-lexemes, follows_one, lexemes_alone}
use Rattle.toml_lexemes.proofs.Joined.{first_spaced, joined_spaced}
use Rattle.toml_lexemes.proofs.Kept.{same_lexemes}
use Rattle.toml_lexemes.proofs.LineEnds.{cut-nil, cut_line_feed}
use Rattle.toml_grammar.specs.Sorts as sort
use Rattle.toml_grammar.specs.Sorts.{Sort, sort_of}
use Rattle.toml_documents.specs.Alignment.{aligned_from, ends_the_line, first_standing, is_at_end, is_comment_lexeme, is_comment_sort}
use Rattle.toml_documents.specs.Alignment.{is_line_end_sort, known_or, most_columns, most_here, moved_by, moved_gap, reach_past}
use Rattle.toml_documents.specs.Alignment.{reach_start, reach_with_comment, standing_past, with_aligned_comments}
use Rattle.toml_documents.specs.Sheets.{AreLexemes, AreWalked, settled_lines}
use Rattle.toml_documents.specs.Walks.{first_walk, is_text_end, past_comment, past_end, past_lexeme, past_line, past_text, walk_past}
use Rattle.toml_documents.specs.Walks.{walked}
use Rattle.toml_documents.specs.declared.standing.Reach.{Reach}
use Rattle.toml_documents.specs.declared.standing.Standing.{Standing}
use Rattle.toml_documents.specs.declared.walk.LinesRead.{LinesRead}
use Rattle.toml_documents.proofs.Aligning.{follows_gap, spaced_next}

clash : {b : Bool} → b ≡ true → b ≡ false → ⊥
clash p q = cc

-- ---- lexemes in front of others

abbrev AreAlone : List (List ℕ) → Type 0
AreAlone ss = All (λ s. cut_toml between s ≡ s ∷ []) ss

-- the first lexeme of a text, with the gap before it
pub one_spaced : (g s rest : List ℕ) → IsTomlGap g → cut_toml between s ≡ s ∷ [] → MayFollow s rest
    → toml_spaced_lexemes (g ++ (s ++ rest)) ≡ after_toml_gap g s ∷ toml_spaced_lexemes rest
one_spaced g s rest gap alone follows =
    let each = All-cons (λ t. cut_toml between t ≡ t ∷ []) s (toml_lexemes_of rest) alone (lexemes_alone rest) in
    let same : toml_lexemes_of (g ++ (s ++ rest)) ≡ s ∷ toml_lexemes_of rest =
    same_lexemes (g ++ (s ++ rest)) (s ∷ toml_lexemes_of rest) each (g, rest, gap, refl, follows, IsWellSpaced-lexemes rest) in
    ap (toml_spaced_as (g ++ (s ++ rest))) same ∙ first_spaced g s rest (toml_lexemes_of rest) gap alone

three : (g s rest later : List ℕ) → (g ++ (s ++ rest)) ++ later ≡ g ++ (s ++ (rest ++ later))
three g s rest later = append_assoc g (s ++ rest) later ∙ ap (λ (l : List ℕ). g ++ l) (append_assoc s rest later)

some_text : (s : List ℕ) → cut_toml between s ≡ s ∷ [] → is_text_end s ≡ false
unfolding cut
some_text [] alone = absurd (cc)
some_text (x ∷ s) alone = refl

empty_text : (g : List ℕ) → (length g == 0) ≡ true → g ≡ []
empty_text [] e = refl
empty_text (x ∷ g) e = absurd (omega (arith, eqb-true (length (x ∷ g)) 0 e))

-- a line end is LF
line_alone : (a b c d e f g h q : Bool) → is_line_end_sort
    (cond a sort.open_array (cond b sort.close_array (cond c sort.open_table (cond d sort.close_table (cond e sort.comma
    (cond f sort.equals (cond g sort.line_end (cond h sort.comment (cond q sort.string sort.word))))))))) ≡ true → g ≡ true
line_alone true b c d e f g h q p = absurd (cc)
line_alone false true c d e f g h q p = absurd (cc)
line_alone false false true d e f g h q p = absurd (cc)
line_alone false false false true e f g h q p = absurd (cc)
line_alone false false false false true f g h q p = absurd (cc)
line_alone false false false false false true g h q p = absurd (cc)
line_alone false false false false false false true h q p = refl
line_alone false false false false false false false true q p = absurd (cc)
line_alone false false false false false false false false true p = absurd (cc)
line_alone false false false false false false false false false p = absurd (cc)

line_end_is : (s : List ℕ) → is_line_end_sort (sort_of s) ≡ true → cut_toml between s ≡ s ∷ [] → s ≡ 10 ∷ []
line_end_is [] p alone = absurd (cc)
line_end_is (x ∷ t) p alone =
    let byte : x ≡ 10 =
    eqb-true x 10 (line_alone (x == 91) (x == 93) (x == 123) (x == 125) (x == 44) (x == 61) (x == 10) (x == 35) (is_quote x) p) in
    let cut : (10 ∷ []) ∷ cut_toml between t ≡ (x ∷ t) ∷ [] = sym (cut_line_feed x t byte) ∙ alone in
    let same : 10 ∷ [] ≡ x ∷ t = cc in
    sym same

line_follows : (s later : List ℕ) → s ≡ 10 ∷ [] → MayFollow s later
line_follows s later e = subst (λ (t : List ℕ). MayFollow t later) (sym e) (follows_one 10 later refl)

-- ---- the walk

walked_both : (w : LinesRead) (ps qs : List SpacedToml) → walked w (ps ++ qs) ≡ walked (walked w ps) qs
walked_both w [] qs = refl
walked_both w (p ∷ ps) qs = walked_both (walk_past w p) ps qs

lexeme_whole : (a d h : Bool) (w : LinesRead) (s : List ℕ) → (past_lexeme a d h w s).whole ≡ w.whole
lexeme_whole true d true w s = refl
lexeme_whole true d false w s = refl
lexeme_whole false true h w s = refl
lexeme_whole false false h w s = refl

end_whole : (b : Bool) (w v : LinesRead) (g : List ℕ) → v.whole ≡ w.whole → (cond b (past_end w g) v).whole ≡ true → w.whole ≡ true
end_whole true w v g same e = (and_parts w.whole w.fresh (and_parts (w.whole && w.fresh) (length g == 0) e).0).0
end_whole false w v g same e = sym same ∙ e

-- the walk is whole only where it was
past_whole : (w : LinesRead) (p : SpacedToml) → (walk_past w p).whole ≡ true → w.whole ≡ true
past_whole w p e =
    end_whole (is_text_end p.lexeme) w (past_lexeme (is_comment_lexeme p) (ends_the_line p) w.holds w p.lexeme) p.gap
    (lexeme_whole (is_comment_lexeme p) (ends_the_line p) w.holds w p.lexeme) e

walk_whole : (ps : List SpacedToml) (w : LinesRead) → (walked w ps).whole ≡ true → w.whole ≡ true
walk_whole [] w e = e
walk_whole (p ∷ ps) w e = past_whole w p (walk_whole ps (walk_past w p) e)

lexeme_fresh : (a d h : Bool) (w : LinesRead) (s : List ℕ) → (past_lexeme a d h w s).fresh ≡ true → d ≡ true
lexeme_fresh true d true w s e = absurd (cc)
lexeme_fresh true d false w s e = absurd (cc)
lexeme_fresh false true h w s e = refl
lexeme_fresh false false h w s e = absurd (cc)

past_fresh : (w : LinesRead) (p : SpacedToml) → is_text_end p.lexeme ≡ false → (walk_past w p).fresh ≡ true → ends_the_line p ≡ true
past_fresh w p some e =
    lexeme_fresh (is_comment_lexeme p) (ends_the_line p) w.holds w p.lexeme
    (subst (λ (b : Bool). (cond b (past_end w p.gap)
    (past_lexeme (is_comment_lexeme p) (ends_the_line p) w.holds w p.lexeme)).fresh ≡ true) some e)

-- ---- a text that ends with a line, in front of others

follows_later : (ss : List (List ℕ)) (rest later : List ℕ) (w : LinesRead) (p : SpacedToml) → IsWellSpaced rest ss → AreAlone ss
    → cut_toml between p.lexeme ≡ p.lexeme ∷ [] → MayFollow p.lexeme rest → (walked (walk_past w p) (toml_spaced_as rest ss)).whole ≡ true
    → MayFollow p.lexeme (rest ++ later)
follows_later [] rest later w p gap each alone follows e =
    let v = walk_past w p in
    let fresh = (and_parts v.whole v.fresh (and_parts (v.whole && v.fresh) (length rest == 0) e).0).1 in
    line_follows p.lexeme (rest ++ later)
    (line_end_is p.lexeme (past_fresh w p (some_text p.lexeme alone) fresh) alone)
follows_later (t ∷ ts) rest later w p (g, after, gap, is, next, spaced) each alone follows e =
    subst (λ (b : List ℕ). MayFollow p.lexeme (b ++ later)) (sym is)
    (subst (λ (b : List ℕ). MayFollow p.lexeme b) (sym (three g t after later))
    (follows_gap p.lexeme g t after (after ++ later) (All-head (λ s. cut_toml between s ≡ s ∷ []) t ts each)
    (subst (λ (b : List ℕ). MayFollow p.lexeme b) is follows)))

-- the lexemes of a text, which it has in front of any others, and the walk over it
record Front (w : LinesRead) (bytes : List ℕ) (all : List SpacedToml) : Type 0 where
  spaced : List SpacedToml
  lexemes : AreLexemes spaced
  same : walked w all ≡ walked w spaced
  before : (later : List ℕ) → toml_spaced_lexemes (bytes ++ later) ≡ spaced ++ toml_spaced_lexemes later

front_of : (ss : List (List ℕ)) (bytes : List ℕ) (w : LinesRead) → IsWellSpaced bytes ss → AreAlone ss
    → (walked w (toml_spaced_as bytes ss)).whole ≡ true → Front w bytes (toml_spaced_as bytes ss)
front_of [] bytes w gap each e =
    let parts = and_parts (w.whole && w.fresh) (length bytes == 0) e in
    let whole = (and_parts w.whole w.fresh parts.0).0 in
    record {
      spaced = [];
      lexemes = tt;
      same = λ i. record w { whole = (e ∙ sym whole) i };
      before = λ later. ap (λ (b : List ℕ). toml_spaced_lexemes (b ++ later)) (empty_text bytes parts.1);
    }
front_of (s ∷ ss) bytes w (g, rest, gap, is, follows, spaced) each e =
    let alone = All-head (λ t. cut_toml between t ≡ t ∷ []) s ss each in
    let others = All-tail (λ t. cut_toml between t ≡ t ∷ []) s ss each in
    let p = after_toml_gap g s in
    let next : toml_spaced_as bytes (s ∷ ss) ≡ p ∷ toml_spaced_as rest ss = spaced_next bytes g s rest ss gap is alone in
    let whole = subst (λ (l : List SpacedToml). (walked w l).whole ≡ true) next e in
    let more = front_of ss rest (walk_past w p) spaced others whole in
    record {
      spaced = p ∷ more.spaced;
      lexemes = (some_text s alone, more.lexemes);
      same = ap (walked w) next ∙ more.same;
      before = λ later.
          ap (λ (b : List ℕ). toml_spaced_lexemes (b ++ later)) is ∙ ap toml_spaced_lexemes (three g s rest later)
          ∙ one_spaced g s (rest ++ later) gap alone (follows_later ss rest later w p spaced others alone follows whole)
          ∙ ap (λ (l : List SpacedToml). p ∷ l) (more.before later);
    }

-- ---- where alignment stands

-- a walk and a standing that are on the same line
record Follows (st : Standing) (w : LinesRead) : Type 0 where
  holds : w.holds ≡ st.reach.holds
  ended : w.ended ≡ st.reach.ended
  free : w.free ≡ true → st ≡ first_standing

first_follows : Follows first_standing first_walk
first_follows = record { holds = refl; ended = refl; free = λ e. refl }

-- after a lexeme, which is a comment, or ends the line; a comment that comes now is one at the end of a line, or not
abbrev stand_by : Bool → Bool → Bool → Standing → SpacedToml → ℕ → Standing
stand_by a d h st p m =
    if a && h then record { reach = reach_with_comment st.reach; most = Some m }
    else (if d then record { reach = reach_start; most = if st.reach.ended then st.most else None }
    else record st { reach = reach_past st.reach p })

is_not : (b : Bool) → not b ≡ true → b ≡ false
is_not true e = absurd (cc)
is_not false e = refl

follows_by : (a d h : Bool) (st : Standing) (w : LinesRead) (p : SpacedToml) (m : ℕ) → (a ≡ true → d ≡ false) → Follows st w
    → Follows (stand_by a d h st p m) (past_lexeme a d h w p.lexeme)
follows_by true d true st w p m apart f = record { holds = f.holds; ended = refl; free = λ e. absurd (cc) }
follows_by true true false st w p m apart f = let no : true ≡ false = apart refl in absurd (cc)
follows_by true false false st w p m apart f = record { holds = refl; ended = f.ended; free = λ e. absurd (cc) }
follows_by false true h st w p m apart f =
    record { holds = refl; ended = refl; free = started }
  where
    started : not w.ended ≡ true
        → stand_by false true h st p m ≡ first_standing
    started e =
        let none : st.reach.ended ≡ false = sym f.ended ∙ is_not w.ended e in
        λ i. record { reach = reach_start; most = if none i then st.most else None }
follows_by false false h st w p m apart f = record { holds = refl; ended = f.ended; free = λ e. absurd (cc) }

not_both : (k : Sort) → is_comment_sort k ≡ true → is_line_end_sort k ≡ false
not_both sort.line_end e = absurd (cc)
not_both k e = refl

follows_next : (st : Standing) (w : LinesRead) (p : SpacedToml) (ps : List SpacedToml) → is_text_end p.lexeme ≡ false → Follows st w
    → Follows (standing_past st p ps) (walk_past w p)
follows_next st w p ps some f =
    let a = is_comment_lexeme p in
    let d = ends_the_line p in
    let past : walk_past w p ≡ past_lexeme a d st.reach.holds w p.lexeme =
    λ i. cond (some i) (past_end w p.gap) (past_lexeme a d (f.holds i) w p.lexeme) in
    subst (λ (v : LinesRead). Follows (standing_past st p ps) v) (sym past)
    (follows_by a d st.reach.holds st w p (most_here st ps) (not_both (sort_of p.lexeme)) f)

-- ---- how far alignment reads ahead

as_lexeme : (w : LinesRead) (p : SpacedToml) (ps : List SpacedToml) → is_text_end p.lexeme ≡ false → (walked (walk_past w p) ps).free ≡ true
    → (walked (past_lexeme (is_comment_lexeme p) (ends_the_line p) w.holds w p.lexeme) ps).free ≡ true
as_lexeme w p ps some e =
    subst (λ (b : Bool). (walked (cond b (past_end w p.gap)
    (past_lexeme (is_comment_lexeme p) (ends_the_line p) w.holds w p.lexeme)) ps).free ≡ true) some e

-- no further than these, if others follow
abbrev StopsIn : List SpacedToml → List SpacedToml → Type 0
StopsIn ps qs = (w : LinesRead) (r : Reach) (n : ℕ) → w.holds ≡ r.holds → w.ended ≡ r.ended → w.free ≡ false → (walked w ps).free ≡ true
    → most_columns n r (ps ++ qs) ≡ most_columns n r ps

stops_by : (a d h e : Bool) (p : SpacedToml) (ps qs : List SpacedToml) (w : LinesRead) (r : Reach) (n : ℕ) → StopsIn ps qs
    → w.holds ≡ r.holds → w.ended ≡ r.ended → w.ended ≡ e → (walked (past_lexeme a d h w p.lexeme) ps).free ≡ true
    → cond a (cond h (most_columns (max n r.columns) (reach_with_comment r) (ps ++ qs)) n)
    (cond d (cond e (most_columns n reach_start (ps ++ qs)) n) (most_columns n (reach_past r p) (ps ++ qs)))
    ≡ cond a (cond h (most_columns (max n r.columns) (reach_with_comment r) ps) n)
    (cond d (cond e (most_columns n reach_start ps) n) (most_columns n (reach_past r p) ps))
stops_by true d true e p ps qs w r n more holds ended is free =
    more (past_comment w) (reach_with_comment r) (max n r.columns) holds refl refl free
stops_by true d false e p ps qs w r n more holds ended is free = refl
stops_by false true h true p ps qs w r n more holds ended is free = more (past_line w) reach_start n refl refl (ap not is) free
stops_by false true h false p ps qs w r n more holds ended is free = refl
stops_by false false h e p ps qs w r n more holds ended is free =
    more (past_text w p.lexeme) (reach_past r p) n refl ended refl free

stops_in : (ps qs : List SpacedToml) → AreLexemes ps → StopsIn ps qs
stops_in [] qs some = λ w r n holds ended free e. absurd (clash e free)
stops_in (p ∷ ps) qs some = λ w r n holds ended free e.
    stops_by (is_comment_lexeme p) (ends_the_line p) r.holds r.ended p ps qs w r n (stops_in ps qs some.1) holds ended ended
    (subst (λ (h : Bool). (walked (past_lexeme (is_comment_lexeme p) (ends_the_line p) h w p.lexeme) ps).free ≡ true) holds
    (as_lexeme w p ps some.0 e))

-- ---- alignment in two parts

-- a comment at the end of a line
past_at_end : (st : Standing) (w : LinesRead) (p : SpacedToml) → is_text_end p.lexeme ≡ false → Follows st w → is_at_end st p ≡ true
    → walk_past w p ≡ past_comment w
past_at_end st w p some f at_end =
    let parts = and_parts (is_comment_lexeme p) st.reach.holds at_end in
    let holds : w.holds ≡ true = f.holds ∙ parts.1 in
    λ i. cond (some i) (past_end w p.gap) (past_lexeme (parts.0 i) (ends_the_line p) (holds i) w p.lexeme)

most_same : (st : Standing) (w : LinesRead) (p : SpacedToml) (ps qs : List SpacedToml) → AreLexemes (p ∷ ps) → Follows st w
    → (walked (walk_past w p) ps).free ≡ true → is_at_end st p ≡ true → most_here st (ps ++ qs) ≡ most_here st ps
most_same st w p ps qs some f e at_end =
    ap (known_or st.most)
    (stops_in ps qs some.1 (past_comment w) (reach_with_comment st.reach) st.reach.columns f.holds refl refl
    (subst (λ (v : LinesRead). (walked v ps).free ≡ true) (past_at_end st w p some.0 f at_end) e))

moved_same : (b : Bool) (m n c : ℕ) → (b ≡ true → m ≡ n) → (if b then Some (m - c) else None) ≡ (if b then Some (n - c) else None)
moved_same true m n c h = ap (λ (k : ℕ). Some (k - c)) (h refl)
moved_same false m n c h = refl

standing_same : (b : Bool) (st : Standing) (r : Reach) (m n : ℕ) → (b ≡ true → m ≡ n)
    → (if b then record { reach = r; most = Some m } else st) ≡ (if b then record { reach = r; most = Some n } else st)
standing_same true st r m n h = λ i. record { reach = r; most = Some (h refl i) }
standing_same false st r m n h = refl

-- after any other lexeme
abbrev standing_else : Standing → SpacedToml → Standing
standing_else st p =
    if ends_the_line p then record { reach = reach_start; most = if st.reach.ended then st.most else None }
    else record st { reach = reach_past st.reach p }

splits : (ps : List SpacedToml) (st : Standing) (w : LinesRead) (qs : List SpacedToml) → AreLexemes ps → Follows st w
    → (walked w ps).free ≡ true → aligned_from st (ps ++ qs) ≡ aligned_from st ps ++ aligned_from first_standing qs
splits [] st w qs some f e = ap (λ (s : Standing). aligned_from s qs) (f.free e)
splits (p ∷ ps) st w qs some f e =
    let most : is_at_end st p ≡ true → most_here st (ps ++ qs) ≡ most_here st ps = most_same st w p ps qs some f e in
    let moved : moved_by st p (ps ++ qs) ≡ moved_by st p ps =
    moved_same (is_at_end st p) (most_here st (ps ++ qs)) (most_here st ps) st.reach.columns most in
    let past : standing_past st p (ps ++ qs) ≡ standing_past st p ps =
    standing_same (is_at_end st p) (standing_else st p) (reach_with_comment st.reach) (most_here st (ps ++ qs)) (most_here st ps) most in
    (λ i. after_toml_gap (moved_gap (moved i) p.gap) p.lexeme ∷ aligned_from (past i) (ps ++ qs))
    ∙ ap (λ (l : List SpacedToml). after_toml_gap (moved_gap (moved_by st p ps) p.gap) p.lexeme ∷ l)
    (splits ps (standing_past st p ps) (walk_past w p) qs some.1 (follows_next st w p ps some.0 f) e)

-- ---- lines with no comment at their ends

lexeme_plain : (a d h : Bool) (w : LinesRead) (s : List ℕ) → w.plain ≡ false → (past_lexeme a d h w s).plain ≡ false
lexeme_plain true d true w s e = refl
lexeme_plain true d false w s e = e
lexeme_plain false true h w s e = e
lexeme_plain false false h w s e = e

end_plain : (b : Bool) (w v : LinesRead) (g : List ℕ) → w.plain ≡ false → v.plain ≡ false → (cond b (past_end w g) v).plain ≡ false
end_plain true w v g e h = e
end_plain false w v g e h = h

plain_walked : (ps : List SpacedToml) (w : LinesRead) → w.plain ≡ false → (walked w ps).plain ≡ false
plain_walked [] w e = e
plain_walked (p ∷ ps) w e =
    plain_walked ps (walk_past w p)
    (end_plain (is_text_end p.lexeme) w (past_lexeme (is_comment_lexeme p) (ends_the_line p) w.holds w p.lexeme) p.gap e
    (lexeme_plain (is_comment_lexeme p) (ends_the_line p) w.holds w p.lexeme e))

clear_next : (p : SpacedToml) (ps : List SpacedToml) (st : Standing) (w : LinesRead) → is_text_end p.lexeme ≡ false → Follows st w
    → (walked (walk_past w p) ps).plain ≡ true → aligned_from (standing_past st p ps) ps ≡ ps → aligned_from st (p ∷ ps) ≡ p ∷ ps
clear_next p ps st w some f e others = go (is_at_end st p) refl
  where
    go : (b : Bool) → is_at_end st p ≡ b → aligned_from st (p ∷ ps) ≡ p ∷ ps
    go true at_end =
        let past = past_at_end st w p some f at_end in
        absurd (clash e (ap (λ (v : LinesRead). (walked v ps).plain) past ∙ plain_walked ps (past_comment w) refl))
    go false at_end =
        let none : moved_by st p ps ≡ None =
        ap (λ (b : Bool). if b then Some (most_here st ps - st.reach.columns) else None) at_end in
        (λ i. after_toml_gap (moved_gap (none i) p.gap) p.lexeme ∷ aligned_from (standing_past st p ps) ps)
        ∙ ap (λ (l : List SpacedToml). p ∷ l) others

clear : (ps : List SpacedToml) (st : Standing) (w : LinesRead) → AreLexemes ps → Follows st w → (walked w ps).plain ≡ true
    → aligned_from st ps ≡ ps
clear [] st w some f e = refl
clear (p ∷ ps) st w some f e =
    clear_next p ps st w some.0 f e
    (clear ps (standing_past st p ps) (walk_past w p) some.1 (follows_next st w p ps some.0 f) e)

-- ---- lines

put_both : (ps qs : List SpacedToml) → toml_put_together (ps ++ qs) ≡ toml_put_together ps ++ toml_put_together qs
put_both [] qs = refl
put_both (p ∷ ps) qs =
    ap (λ (l : List ℕ). p.gap ++ (p.lexeme ++ l)) (put_both ps qs)
    ∙ sym (three p.gap p.lexeme (toml_put_together ps) (toml_put_together qs))

-- the end of a text
abbrev text_end : SpacedToml
text_end = after_toml_gap [] []

module _ (w : LinesRead) (bytes : List ℕ) (h : AreWalked w bytes) (free : w.free ≡ true) where
  settled : (walked first_walk h.spaced).free ≡ true
  settled = sym (ap (λ (v : LinesRead). v.free) h.walk) ∙ free

  spaced_alone : toml_spaced_lexemes bytes ≡ h.spaced ++ text_end ∷ []
  spaced_alone =
      ap toml_spaced_lexemes (sym (append-nil bytes)) ∙ h.before []
      ∙ ap (λ (ss : List (List ℕ)). h.spaced ++ toml_spaced_as [] ss) cut-nil

  aligned_parts : (qs : List SpacedToml) → toml_put_together (aligned_from first_standing (h.spaced ++ qs))
      ≡ toml_put_together (aligned_from first_standing h.spaced) ++ toml_put_together (aligned_from first_standing qs)
  aligned_parts qs =
      ap toml_put_together (splits h.spaced first_standing first_walk qs h.lexemes first_follows settled)
      ∙ put_both (aligned_from first_standing h.spaced) (aligned_from first_standing qs)

  aligned_alone : with_aligned_comments bytes ≡ toml_put_together (aligned_from first_standing h.spaced)
  aligned_alone =
      ap (λ (l : List SpacedToml). toml_put_together (aligned_from first_standing l)) spaced_alone
      ∙ aligned_parts (text_end ∷ []) ∙ append-nil (toml_put_together (aligned_from first_standing h.spaced))

  -- before others they are aligned as alone
  pub aligned_before : (later : List ℕ)
      → with_aligned_comments (bytes ++ later) ≡ with_aligned_comments bytes ++ with_aligned_comments later
  aligned_before later =
      ap (λ (l : List SpacedToml). toml_put_together (aligned_from first_standing l)) (h.before later)
      ∙ aligned_parts (toml_spaced_lexemes later)
      ∙ ap (λ (l : List ℕ). l ++ with_aligned_comments later) (sym aligned_alone)

  aligned_plain : w.plain ≡ true → with_aligned_comments bytes ≡ bytes
  aligned_plain plain =
      aligned_alone
      ∙ ap toml_put_together (clear h.spaced first_standing first_walk h.lexemes first_follows
      (sym (ap (λ (v : LinesRead). v.plain) h.walk) ∙ plain))
      ∙ sym (append-nil (toml_put_together h.spaced)) ∙ sym (put_both h.spaced (text_end ∷ []))
      ∙ sym (ap toml_put_together spaced_alone) ∙ joined_spaced bytes

  -- with no comments at their ends they are as they were
  pub settled_is : settled_lines w.plain bytes ≡ with_aligned_comments bytes
  settled_is = go w.plain refl
    where
      go : (b : Bool) → w.plain ≡ b → settled_lines b bytes ≡ with_aligned_comments bytes
      go true e = sym (aligned_plain e)
      go false e = refl

lexemes_both : (ps qs : List SpacedToml) → AreLexemes ps → AreLexemes qs → AreLexemes (ps ++ qs)
lexemes_both [] qs h k = k
lexemes_both (p ∷ ps) qs h k = (h.0, lexemes_both ps qs h.1 k)

-- lines, and more
pub walked_more : (w : LinesRead) (bytes lines : List ℕ) → (w.whole ≡ true → AreWalked w bytes)
    → (walked w (toml_spaced_lexemes lines)).whole ≡ true → AreWalked (walked w (toml_spaced_lexemes lines)) (bytes ++ lines)
walked_more w bytes lines h e =
    let first = h (walk_whole (toml_spaced_lexemes lines) w e) in
    let more = front_of (toml_lexemes_of lines) lines w (IsWellSpaced-lexemes lines) (lexemes_alone lines) e in
    record {
      spaced = first.spaced ++ more.spaced;
      lexemes = lexemes_both first.spaced more.spaced first.lexemes more.lexemes;
      walk = more.same ∙ ap (λ (v : LinesRead). walked v more.spaced) first.walk ∙ sym (walked_both first_walk first.spaced more.spaced);
      before = λ later.
          ap toml_spaced_lexemes (append_assoc bytes lines later) ∙ first.before (lines ++ later)
          ∙ ap (λ (l : List SpacedToml). first.spaced ++ l) (more.before later)
          ∙ sym (append_assoc first.spaced more.spaced (toml_spaced_lexemes later));
    }
