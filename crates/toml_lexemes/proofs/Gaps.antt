-- A text is its lexemes, with gaps around them, and after each stands what may follow it. Each lexeme, alone, is itself.
use Rattle.std.proofs.Common.{◌≡◌, ℕ, false, List, [], ◌∷◌, ◌++◌, All, refl, sym, ap, ap₂, ◌∙◌, subst}
use Rattle.std.specs.Prelude.{⊤, ◌≢◌}
use Rattle.text_lexemes.specs.Languages.{First, alone, begins, Turn, goes_on, ends, stops, between, within}
use Rattle.text_lexemes.specs.SpacedTexts as text
use Rattle.text_lexemes.specs.SpacedTexts.{OnTurn, OnFirst, StopsBefore, EndsWithin, IsLocal}
use Rattle.text_lexemes.proofs.WellSpaced as law
use Rattle.toml_lexemes.specs.Lexemes.{Inner, in_comment, first, turn, begins_line_feed, cut_toml, toml}
use Rattle.toml_lexemes.specs.Spaced.{IsSpacedToml, mode_first, mode_turn, mode_after, EndsBefore, EndsWithReturn, MayFollow, IsWellSpaced}
use Rattle.toml_lexemes.proofs.CommentTurns.{From, From-turn, last_turn, more_turn, no_line_feed}

any_bytes : (xs : List ℕ) → EndsBefore between xs
any_bytes [] = tt
any_bytes (x ∷ xs) = tt

ends_so : (i : Inner) (rest : List ℕ) → StopsBefore toml i rest → EndsBefore (within i) rest
ends_so i [] h = tt
ends_so i (x ∷ xs) h = h

stops_so : (i : Inner) (rest : List ℕ) → EndsBefore (within i) rest → StopsBefore toml i rest
stops_so i [] h = tt
stops_so i (x ∷ xs) h = h

-- ---- what may follow a lexeme, by the mode that it leaves

-- what is left of a lexeme that is read in the mode i ends before the rest of the text
pub record IsPart (i : Inner) (s rest : List ℕ) : Type 0 where
  pub ended : EndsBefore (mode_after (within i) s) rest
  pub apart : mode_after (within i) s ≡ within in_comment → EndsWithReturn s → begins_line_feed rest ≡ false

module _ (i : Inner) (x : ℕ) (rest : List ℕ) where
  -- the last byte
  last_part : (t : Turn Inner) → turn i x (begins_line_feed rest) ≡ t → OnTurn t [] (λ n. StopsBefore toml n rest) → IsPart i (x ∷ []) rest
  last_part (goes_on n) e h =
      let here = last_turn i x (begins_line_feed rest) (goes_on n) e (λ f. cc) in
      record {
        ended = subst (λ m. EndsBefore m rest) (sym (ap mode_turn here)) (ends_so n rest h);
        apart = λ m is.
            let same : within n ≡ within in_comment = sym (ap mode_turn here) ∙ m in
            let comment : n ≡ in_comment = cc in
            let begun = subst (From i) e (From-turn i x (begins_line_feed rest)) comment in
            no_line_feed x (begins_line_feed rest) (goes_on n) (subst (λ j. turn j x (begins_line_feed rest) ≡ goes_on n) begun e)
            (λ f. cc) is;
      }
  last_part ends e h =
      let here = last_turn i x (begins_line_feed rest) ends e (λ f. cc) in
      record {
        ended = subst (λ m. EndsBefore m rest) (sym (ap mode_turn here)) (any_bytes rest);
        apart = λ m is. let clash : between ≡ within in_comment = sym (ap mode_turn here) ∙ m in cc;
      }
  last_part stops e h = absurd h

  last_within : (t : Turn Inner) → turn i x false ≡ t → OnTurn t [] (λ n. ⊤) → IsPart i (x ∷ []) rest
      → OnTurn (turn i x (begins_line_feed rest)) [] (λ n. StopsBefore toml n rest)
  last_within t e h part = subst (λ u. OnTurn u [] (λ n. StopsBefore toml n rest)) (sym same) (by t e h)
    where
      same : turn i x (begins_line_feed rest) ≡ t
      same =
          more_turn i x (begins_line_feed rest) t e (λ comment is. part.apart (ap₂ (λ j y. mode_turn (turn j y false)) comment is) is)

      by : (t : Turn Inner) → turn i x false ≡ t → OnTurn t [] (λ n. ⊤) → OnTurn t [] (λ n. StopsBefore toml n rest)
      by (goes_on n) e h = stops_so n rest (subst (λ m. EndsBefore m rest) (ap mode_turn e) part.ended)
      by ends e h = refl
      by stops e h = h

-- by the mode
part_within : (s : List ℕ) (i : Inner) (rest : List ℕ) → EndsWithin toml i s rest → IsPart i s rest
part_within [] i rest h = record { ended = ends_so i rest h; apart = λ m is. absurd is }
part_within (x ∷ []) i rest h = last_part i x rest (turn i x (begins_line_feed rest)) refl h
part_within (x ∷ (y ∷ ys)) i rest h = by (λ n. part_within (y ∷ ys) n rest) (turn i x (begins_line_feed (y ∷ ys))) refl h
  where
    by : ((n : Inner) → EndsWithin toml n (y ∷ ys) rest → IsPart n (y ∷ ys) rest) → (t : Turn Inner)
        → turn i x (begins_line_feed (y ∷ ys)) ≡ t → OnTurn t (y ∷ ys) (λ n. EndsWithin toml n (y ∷ ys) rest)
        → IsPart i (x ∷ (y ∷ ys)) rest
    by more (goes_on n) e h =
        let part = more n h in
        record {
          ended = subst (λ m. EndsBefore (mode_after m (y ∷ ys)) rest) (sym (ap mode_turn e)) part.ended;
          apart = λ m is. part.apart (ap (λ n. mode_after n (y ∷ ys)) (sym (ap mode_turn e)) ∙ m) is;
        }
    by more ends e h = absurd (cc)
    by more stops e h = absurd h

-- and back, of a lexeme
within_part : (s : List ℕ) (i : Inner) (rest : List ℕ) → EndsWithin toml i s [] → IsPart i s rest → EndsWithin toml i s rest
within_part [] i rest h part = stops_so i rest part.ended
within_part (x ∷ []) i rest h part = last_within i x rest (turn i x false) refl (any h) part
  where
    any : OnTurn (turn i x false) [] (λ n. StopsBefore toml n []) → OnTurn (turn i x false) [] (λ n. ⊤)
    any h = h
within_part (x ∷ (y ∷ ys)) i rest h part =
    by (λ n. within_part (y ∷ ys) n rest) (turn i x (begins_line_feed (y ∷ ys))) refl h
  where
    by : ((n : Inner) → EndsWithin toml n (y ∷ ys) [] → IsPart n (y ∷ ys) rest → EndsWithin toml n (y ∷ ys) rest) → (t : Turn Inner)
        → turn i x (begins_line_feed (y ∷ ys)) ≡ t → OnTurn t (y ∷ ys) (λ n. EndsWithin toml n (y ∷ ys) [])
        → OnTurn t (y ∷ ys) (λ n. EndsWithin toml n (y ∷ ys) rest)
    by more (goes_on n) e h =
        more n h
        (record {
          ended = subst (λ m. EndsBefore (mode_after m (y ∷ ys)) rest) (ap mode_turn e) part.ended;
          apart = λ m is. part.apart (ap (λ n. mode_after n (y ∷ ys)) (ap mode_turn e) ∙ m) is;
        })
    by more ends e h = h
    by more stops e h = h

pub follows_one : (x : ℕ) (xs : List ℕ) → first x ≡ alone → MayFollow (x ∷ []) xs
follows_one x xs e =
    record {
      ended = subst (λ m. EndsBefore m xs) (sym (ap mode_first e)) (any_bytes xs);
      apart = λ m is. let clash : between ≡ within in_comment = sym (ap mode_first e) ∙ m in cc;
    }

follows_begun : (x : ℕ) (i : Inner) (s rest : List ℕ) → first x ≡ begins i → (s ≡ [] → x ≡ 13 → ⊥) → IsPart i s rest
    → MayFollow (x ∷ s) rest
follows_begun x i [] rest e differs part =
    record {
      ended = subst (λ m. EndsBefore m rest) (sym (ap mode_first e)) part.ended;
      apart = λ m is. absurd (differs refl is);
    }
follows_begun x i (y ∷ ys) rest e differs part =
    record {
      ended = subst (λ m. EndsBefore (mode_after m (y ∷ ys)) rest) (sym (ap mode_first e)) part.ended;
      apart = λ m is. part.apart (ap (λ n. mode_after n (y ∷ ys)) (sym (ap mode_first e)) ∙ m) is;
    }

-- what leaves a text the first lexeme may follow it
pub follows_by_mode : (s rest : List ℕ) → text.MayFollow toml s rest → MayFollow s rest
follows_by_mode [] rest h = absurd h
follows_by_mode (x ∷ s) rest h = by (first x) refl h.1
  where
    no_return : x ≡ 13 → ⊥
    no_return e = let clash : toml.is_blank 13 ≡ false = subst (λ y. toml.is_blank y ≡ false) e h.0 in cc

    by : (f : First Inner) → first x ≡ f → OnFirst f s (λ i. EndsWithin toml i s rest) → MayFollow (x ∷ s) rest
    by alone e f = subst (λ t. MayFollow (x ∷ t) rest) (sym f) (follows_one x rest e)
    by (begins i) e f = follows_begun x i s rest e (λ n is. no_return is) (part_within s i rest f)

begun_part : (x : ℕ) (i : Inner) (s rest : List ℕ) → first x ≡ begins i → MayFollow (x ∷ s) rest → IsPart i s rest
begun_part x i s rest e follows =
    record { ended = subst (λ m. EndsBefore (mode_after m s) rest) (ap mode_first e) follows.ended; apart = left s follows.apart }
  where
    left : (s : List ℕ) → (mode_after between (x ∷ s) ≡ within in_comment → EndsWithReturn (x ∷ s) → begins_line_feed rest ≡ false)
        → mode_after (within i) s ≡ within in_comment → EndsWithReturn s → begins_line_feed rest ≡ false
    left [] h m is = absurd is
    left (y ∷ ys) h m is = h (ap (λ n. mode_after n (y ∷ ys)) (ap mode_first e) ∙ m) is

-- what may follow a lexeme leaves it the first one
pub follows_lexeme : (s rest : List ℕ) → cut_toml between s ≡ s ∷ [] → MayFollow s rest → text.MayFollow toml s rest
follows_lexeme s rest lexeme follows = by s (law.ends_alone toml s lexeme) follows
  where
    by : (s : List ℕ) → text.MayFollow toml s [] → MayFollow s rest → text.MayFollow toml s rest
    by [] h follows = h
    by (x ∷ s) h follows = (h.0, by_first (first x) refl h.1)
      where
        by_first : (f : First Inner) → first x ≡ f → OnFirst f s (λ i. EndsWithin toml i s []) → OnFirst f s (λ i. EndsWithin toml i s rest)
        by_first alone e f = f
        by_first (begins i) e f = within_part s i rest f (begun_part x i s rest e follows)

-- ---- the whole text

by_modes : (ss : List (List ℕ)) (bytes : List ℕ) → text.IsWellSpaced toml bytes ss → IsWellSpaced bytes ss
by_modes [] bytes h = h
by_modes (s ∷ ss) bytes (g, rest, gap, is, follows, h) = (g, rest, gap, is, follows_by_mode s rest follows, by_modes ss rest h)

pub IsWellSpaced-lexemes : (text : List ℕ) → IsWellSpaced text (cut_toml between text)
IsWellSpaced-lexemes text = by_modes (cut_toml between text) text (law.well_spaced toml text)

pub IsSpaced-lexemes : (text : List ℕ) → IsSpacedToml text (cut_toml between text)
IsSpaced-lexemes text = law.spaced toml text

-- a byte that is one of a lexeme is so too where the text ends after it
toml_local : IsLocal toml
toml_local = law.local_by_turns toml same
  where
    same : (i : Inner) (x : ℕ) (s rest : List ℕ) (t : Turn Inner) → turn i x (begins_line_feed (s ++ rest)) ≡ t → (t ≡ stops → ⊥)
        → turn i x (begins_line_feed (s ++ [])) ≡ t
    same i x [] rest t e differs = last_turn i x (begins_line_feed rest) t e differs
    same i x (y ∷ ys) rest t e differs = e

pub lexemes_alone : (text : List ℕ) → All (λ s. cut_toml between s ≡ s ∷ []) (cut_toml between text)
lexemes_alone text = law.lexemes_alone toml toml_local text

pub lexemes_some : (text : List ℕ) → All (λ s. s ≢ []) (cut_toml between text)
lexemes_some text = law.lexemes_some toml text
