-- The lexemes of a text with their gaps.
use Rattle.std.proofs.Common.{◌≡◌, ℕ, ◌+◌, ◌-◌, List, [], ◌∷◌, ◌++◌, length, drop, take, refl, sym, ap, ◌∙◌, subst, append_assoc, inl, inr}
use Rattle.std.proofs.Common.{◌⊎◌, true, false, arith}
use Rattle.std.proofs.lemmas.Bool.{cases_Bool}
use Rattle.std.proofs.lemmas.List.{drop-drop}
use Rattle.json.specs.Lex.{between}
use Rattle.json.specs.Word.{is_space}
use Rattle.std.proofs.Math.Seq.{drop-append-add, drop-append_seam}
use Rattle.json_lexemes.specs.Laws.{GapsAreSpaces, SpacedAreLexemes, TextsAreJoined}
use Rattle.json_lexemes.specs.Lexemes.{cut, lexemes}
use Rattle.json_lexemes.specs.Spaced.{IsGap, IsSpacedJson}
use Rattle.json_lexemes.specs.SpacedLexemes.{AreGaps, Spaced, after_gap, after_lexeme, first_spaces, lexemes_of, put_together, spaced_as}
use Rattle.json_lexemes.specs.SpacedLexemes.{spaced_lexemes}
use Rattle.json_lexemes.proofs.Gaps.{IsSpaced-lexemes}
use Rattle.json_lexemes.proofs.NotEmpty.{AreBegun, IsBegun, lexemes_begun}

-- ---- a gap and a lexeme

no_spaces : (s r : List ℕ) → IsBegun s → first_spaces (s ++ r) ≡ []
no_spaces [] r h = absurd h
no_spaces (x ∷ s) r h = rw h refl

spaces_first : (g s r : List ℕ) → IsGap g → IsBegun s → first_spaces (g ++ (s ++ r)) ≡ g
spaces_first [] s r gap h = no_spaces s r h
spaces_first (x ∷ g) s r gap h = rw (gap.0) (ap (λ (l : List ℕ). x ∷ l) (spaces_first g s r gap.1 h))

lexeme_passed : (g s r : List ℕ) → IsGap g → IsBegun s → after_lexeme (g ++ (s ++ r)) s ≡ r
lexeme_passed g s r gap h =
    ap (λ (l : List ℕ). drop (length l + length s) (g ++ (s ++ r))) (spaces_first g s r gap h)
    ∙ drop-append-add g (s ++ r) (length s)
    ∙ drop-append_seam s r

-- the first lexeme of bytes, after its gap, and then those of the rest
pub first_spaced : (bytes g s r : List ℕ) (ss : List (List ℕ)) → IsGap g → IsBegun s → bytes ≡ g ++ (s ++ r)
    → spaced_as bytes (s ∷ ss) ≡ after_gap g s ∷ spaced_as r ss
first_spaced bytes g s r ss gap h e =
    ap (λ (l : List ℕ). spaced_as l (s ∷ ss)) e
    ∙ ap (λ (l : List ℕ). after_gap l s ∷ spaced_as (after_lexeme (g ++ (s ++ r)) s) ss) (spaces_first g s r gap h)
    ∙ ap (λ (l : List ℕ). after_gap g s ∷ spaced_as l ss) (lexeme_passed g s r gap h)

-- ---- lexemes

-- the bytes of lexemes after gaps are these lexemes after these gaps
pub spaced_together : (ps : List Spaced) (last : List ℕ) → AreGaps ps → AreBegun (lexemes_of ps)
    → spaced_as (put_together ps ++ last) (lexemes_of ps) ≡ ps
spaced_together [] last gaps h = refl
spaced_together (p ∷ ps) last gaps h =
    let bytes : put_together (p ∷ ps) ++ last ≡ p.gap ++ (p.lexeme ++ (put_together ps ++ last)) =
    append_assoc p.gap (p.lexeme ++ put_together ps) last
    ∙ ap (λ (l : List ℕ). p.gap ++ l) (append_assoc p.lexeme (put_together ps) last) in
    first_spaced _ p.gap p.lexeme (put_together ps ++ last) (lexemes_of ps) gaps.0 h.0 bytes
    ∙ ap (λ (l : List Spaced). p ∷ l) (spaced_together ps last gaps.1 h.1)

-- and they are spaced
pub together_spaced : (ps : List Spaced) (last : List ℕ) → AreGaps ps → IsGap last → IsSpacedJson (put_together ps ++ last) (lexemes_of ps)
together_spaced [] last gaps h = h
together_spaced (p ∷ ps) last gaps h = (
  p.gap,
  put_together ps ++ last,
  gaps.0,
  append_assoc p.gap (p.lexeme ++ put_together ps) last
      ∙ ap (λ (l : List ℕ). p.gap ++ l) (append_assoc p.lexeme (put_together ps) last),
  together_spaced ps last gaps.1 h,
)

pub spaced_lexemes_of : (bytes : List ℕ) (ss : List (List ℕ)) → lexemes_of (spaced_as bytes ss) ≡ ss
spaced_lexemes_of bytes [] = refl
spaced_lexemes_of bytes (s ∷ ss) = ap (λ (l : List (List ℕ)). s ∷ l) (spaced_lexemes_of (after_lexeme bytes s) ss)

-- ---- a text

-- bytes are these lexemes after these gaps, and then a gap
record AreJoined (bytes : List ℕ) (ps : List Spaced) : Type 0 where
  last : List ℕ
  gap : IsGap last
  joined : bytes ≡ put_together ps ++ last
  gaps : AreGaps ps

one_more : (bytes g s r : List ℕ) (ps : List Spaced) → IsGap g → bytes ≡ g ++ (s ++ r) → AreJoined r ps
    → AreJoined bytes (after_gap g s ∷ ps)
one_more bytes g s r ps gap e h =
    record {
      last = h.last;
      gap = h.gap;
      joined =
          e
          ∙ ap (λ (l : List ℕ). g ++ (s ++ l)) h.joined
          ∙ sym (append_assoc g (s ++ put_together ps) h.last ∙ ap (λ (l : List ℕ). g ++ l) (append_assoc s (put_together ps) h.last));
      gaps = (gap, h.gaps);
    }

are_joined : (bytes : List ℕ) (ss : List (List ℕ)) → AreBegun ss → IsSpacedJson bytes ss → AreJoined bytes (spaced_as bytes ss)
are_joined bytes [] h is = record { last = bytes; gap = is; joined = refl; gaps = tt }
are_joined bytes (s ∷ ss) h (g, r, gap, e, is) =
    subst (AreJoined bytes) (sym (first_spaced bytes g s r ss gap h.0 e))
    (one_more bytes g s r (spaced_as r ss) gap e (are_joined r ss h.1 is))

text_joined : (text : List ℕ) → AreJoined text (spaced_as text (lexemes text))
text_joined text = are_joined text (lexemes text) (lexemes_begun text) (IsSpaced-lexemes text)

pub texts_joined : TextsAreJoined
texts_joined text = let h = text_joined text in (h.last, h.gap, h.joined)

pub gaps_spaces : GapsAreSpaces
gaps_spaces text = (text_joined text).gaps

pub spaced_are_lexemes : SpacedAreLexemes
spaced_are_lexemes text = spaced_lexemes_of text (lexemes text)

-- ---- the next lexeme

-- so many bytes are the spaces that come first
pub spaces_taken : (xs : List ℕ) → take (length (first_spaces xs)) xs ≡ first_spaces xs
spaces_taken [] = refl
spaces_taken (x ∷ xs) = by (spaces_taken xs) (cases_Bool (is_space x))
  where
    by : take (length (first_spaces xs)) xs ≡ first_spaces xs → (is_space x ≡ true) ⊎ (is_space x ≡ false)
        → take (length (first_spaces (x ∷ xs))) (x ∷ xs) ≡ first_spaces (x ∷ xs)
    by below (inl e) = rw e (ap (λ (l : List ℕ). x ∷ l) below)
    by below (inr e) = rw e refl

-- none is left
pub none_spaced : (d : List ℕ) (from place : ℕ) → cut between (drop place d) ≡ cut between (drop from d) → cut between (drop place d) ≡ []
    → spaced_lexemes (drop from d) ≡ []
none_spaced d from place passed none = ap (λ (ss : List (List ℕ)). spaced_as (drop from d) ss) (sym passed ∙ none)

-- after the spaces from one place to another comes this one
pub next_spaced : (d : List ℕ) (from place : ℕ) (s : List ℕ) → place ≡ from + length (first_spaces (drop from d))
    → cut between (drop place d) ≡ cut between (drop from d)
    → cut between (drop place d) ≡ s ∷ cut between (drop (place + length s) d)
    → spaced_lexemes (drop from d) ≡ after_gap (take (place - from) (drop from d)) s ∷ spaced_lexemes (drop (place + length s) d)
next_spaced d from place s spaces passed cuts =
    let bytes = drop from d in
    let after = cut between (drop (place + length s) d) in
    let count : place - from ≡ length (first_spaces bytes) = omega (arith, spaces) in
    let gap : first_spaces bytes ≡ take (place - from) bytes =
    sym (ap (λ (n : ℕ). take n bytes) count ∙ spaces_taken bytes) in
    let sum : from + (length (first_spaces bytes) + length s) ≡ place + length s = omega (arith, spaces) in
    let rest : after_lexeme bytes s ≡ drop (place + length s) d =
    drop-drop (length (first_spaces bytes) + length s) from d ∙ ap (λ (n : ℕ). drop n d) sum in
    ap (λ (ss : List (List ℕ)). spaced_as bytes ss) (sym passed ∙ cuts)
    ∙ ap (λ (g : List ℕ). after_gap g s ∷ spaced_as (after_lexeme bytes s) after) gap
    ∙ ap (λ (l : List ℕ). after_gap (take (place - from) bytes) s ∷ spaced_as l after) rest
