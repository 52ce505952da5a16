-- A layout that keeps blank lines and is spelled out: its lexemes have gaps between them, and laid out again it stays.
use Rattle.std.proofs.Common.{◌≡◌, refl, sym, ◌∙◌, ap, subst, ℕ, zero, suc, ◌+◌, Bool, true, false, ◌&&◌, nat_le, List, [], ◌∷◌, ◌++◌}
use Rattle.std.proofs.Common.{append-nil, arith, drop, not, ◌<◌, Some}
use Rattle.std.proofs.lemmas.Bool.{eqb-true}
use Rattle.std.specs.Prelude.{None, if◌then◌else◌}
use Rattle.json.specs.Json.{Json}
use Rattle.json_validity.specs.Document.{document}
use Rattle.json_lexemes.specs.Lexemes.{lexemes}
use Rattle.json_lexemes.specs.Spaced.{IsGap, IsSpacedJson}
use Rattle.json_lexemes.specs.SpacedLexemes.{AreGaps, Spaced, after_gap, has_blank_line, lexemes_of, line_feeds, put_together, spaced_as}
use Rattle.json_lexemes.specs.SpacedLexemes.{spaced_lexemes}
use Rattle.json_lexemes.proofs.LineEnds.{AreInline, lexemes_inline}
use Rattle.json_lexemes.proofs.NotEmpty.{AreBegun, lexemes_begun}
use Rattle.json_lexemes.proofs.Reading.{same_reading}
use Rattle.json_lexemes.proofs.SpacedLexemes.{spaced_are_lexemes, spaced_together, together_spaced}
use Rattle.prettyless_model.specs.Spaces.{spaces}
use Rattle.json_formatter.specs.BlankLines.{ends_line, first_gap, kept_from, kept_gap, with_blank_lines, with_kept_lines}
use Rattle.json_formatter.specs.ByValue.{new_line}
use Rattle.json_formatter.specs.Documents.{bounded, closes, greatest_width, is_json_sign, lexeme_of, opens}
use Rattle.json_formatter.specs.Gaps.{gap_before, gap_bytes, spaced_from, start_state, state_after}
use Rattle.json_formatter.specs.Kept.{kept_of, laid_left}
use Rattle.json_formatter.specs.Pieces.{begins_line, lexemes_of_pieces, text_pieces, pieces_of}
use Rattle.json_formatter.specs.Values.{line_end_if}
use Rattle.json_formatter.specs.Spelling.{line_end_bytes, respelled_all, spelled_out, spelling_of, with_spelling}
use Rattle.json_formatter.specs.declared.gaps.Gap.{Gap}
use Rattle.json_formatter.specs.declared.gaps.Gap.TheVariants as gap
use Rattle.json_formatter.specs.declared.gaps.State.{State}
use Rattle.json_formatter.specs.declared.spelling.Spelling.{Spelling}
use Rattle.json_formatter.specs.declared.style.Style.{Style}
use Rattle.json_formatter.proofs.GapsFrom.{laid_from}
use Rattle.json_formatter.proofs.LaidAgain.{laid_again}
use Rattle.json_formatter.proofs.Pieces.{compact_pieces, pieces_lexemes, pieces_ordered}
use Rattle.json_formatter.proofs.Respelled.{HaveNoReturns, end_gap, feeds_respelled, first_line_end, gap_no_return, kept_no_returns}
use Rattle.json_formatter.proofs.Respelled.{respelled_are}
use Rattle.json_formatter.proofs.Respelled.{respelled_gaps, respelled_kept, same_line_end}

-- ---- a gap

spaces_gap : (n : ℕ) → IsGap (spaces n)
spaces_gap zero = tt
spaces_gap (suc n) = (refl, spaces_gap n)

is_gap : (g : Gap) → IsGap (gap_bytes g)
is_gap gap.Nothing = tt
is_gap gap.Space = (refl, tt)
is_gap (gap.Line i) = (refl, spaces_gap i)
is_gap (gap.BlankLine i) = (refl, (refl, spaces_gap i))

no_feeds : (n : ℕ) → line_feeds (spaces n) ≡ 0
no_feeds zero = refl
no_feeds (suc n) = no_feeds n

-- an empty line before a line
pub line_kept : (i : ℕ) (after_comma : Bool) (source : List ℕ) → after_comma ≡ true → has_blank_line source ≡ true
    → 10 ∷ new_line i ≡ kept_gap after_comma source (new_line i)
line_kept i after_comma source e f = rw (e, no_feeds i, f) refl

-- ---- a gap that is kept

pub kept_is_gap : (c : Bool) (source g : List ℕ) → IsGap g → IsGap (kept_gap c source g)
kept_is_gap false source g h = h
kept_is_gap true source g h = by (ends_line g) (has_blank_line source)
  where
    by : (e b : Bool) → IsGap (if e && b then 10 ∷ g else g)
    by false b = h
    by true false = h
    by true true = (refl, h)

-- with the same gap before it in the text, it is kept again
kept_twice : (c : Bool) (source g : List ℕ) → kept_gap c (kept_gap c source g) g ≡ kept_gap c source g
kept_twice false source g = refl
kept_twice true source g = by (ends_line g) (has_blank_line source) refl refl
  where
    none : ends_line g ≡ true → has_blank_line g ≡ false
    none e = ap (λ (n : ℕ). nat_le 2 n) (eqb-true (line_feeds g) 1 e)

    some : ends_line g ≡ true → has_blank_line (10 ∷ g) ≡ true
    some e = ap (λ (n : ℕ). nat_le 2 (1 + n)) (eqb-true (line_feeds g) 1 e)

    by : (e b : Bool) → ends_line g ≡ e → has_blank_line source ≡ b → kept_gap true (kept_gap true source g) g ≡ kept_gap true source g
    by false b e f = rw e refl
    by true false e f = rw (e, f, none e) refl
    by true true e f = rw (e, f, some e) refl

-- ---- lexemes

pub spaced_gaps : (style : Style) (st : State) (ss : List (List ℕ)) → AreGaps (spaced_from style st ss)
spaced_gaps style st [] = tt
spaced_gaps style st (s ∷ ss) = (is_gap (gap_before style st s ss), spaced_gaps style (state_after style st s ss) ss)

pub spaced_are : (style : Style) (st : State) (ss : List (List ℕ)) → lexemes_of (spaced_from style st ss) ≡ lexemes_of_pieces ss
spaced_are style st [] = refl
spaced_are style st (s ∷ ss) = ap (λ (l : List (List ℕ)). lexeme_of s ∷ l) (spaced_are style (state_after style st s ss) ss)

kept_gaps : (c : Bool) (sources ps : List Spaced) → AreGaps ps → AreGaps (kept_from c sources ps)
kept_gaps c sources [] h = tt
kept_gaps c sources (p ∷ ps) h =
    (kept_is_gap c (first_gap sources) p.gap h.0, kept_gaps (is_json_sign 44 p.lexeme) (drop 1 sources) ps h.1)

kept_are : (c : Bool) (sources ps : List Spaced) → lexemes_of (kept_from c sources ps) ≡ lexemes_of ps
kept_are c sources [] = refl
kept_are c sources (p ∷ ps) = ap (λ (l : List (List ℕ)). p.lexeme ∷ l) (kept_are (is_json_sign 44 p.lexeme) (drop 1 sources) ps)

kept_again : (c : Bool) (sources ps : List Spaced) → kept_from c (kept_from c sources ps) ps ≡ kept_from c sources ps
kept_again c sources [] = refl
kept_again c sources (p ∷ ps) =
    let later = drop 1 sources in
    let comma = is_json_sign 44 p.lexeme in
    ap (λ (g : List ℕ). after_gap g p.lexeme ∷ kept_from comma (kept_from comma later ps) ps) (kept_twice c (first_gap sources) p.gap)
    ∙ ap (λ (l : List Spaced). after_gap (kept_gap c (first_gap sources) p.gap) p.lexeme ∷ l) (kept_again comma later ps)

-- ---- the lexemes of a layout, where blank lines are kept or not

abbrev pub chosen : Bool → List Spaced → List Spaced → List Spaced
chosen false sources ps = ps
chosen true sources ps = kept_from false sources ps

chosen_gaps : (b : Bool) (sources ps : List Spaced) → AreGaps ps → AreGaps (chosen b sources ps)
chosen_gaps false sources ps h = h
chosen_gaps true sources ps h = kept_gaps false sources ps h

chosen_are : (b : Bool) (sources ps : List Spaced) → lexemes_of (chosen b sources ps) ≡ lexemes_of ps
chosen_are false sources ps = refl
chosen_are true sources ps = kept_are false sources ps

chosen_no_returns : (b : Bool) (sources ps : List Spaced) → HaveNoReturns ps → HaveNoReturns (chosen b sources ps)
chosen_no_returns false sources ps h = h
chosen_no_returns true sources ps h = kept_no_returns false sources ps h

chosen_again : (b : Bool) (sources ps : List Spaced) → chosen b (chosen b sources ps) ps ≡ chosen b sources ps
chosen_again false sources ps = refl
chosen_again true sources ps = kept_again false sources ps

-- also after they are spelled anew
chosen_respelled : (sp : Spelling) (b : Bool) (sources ps : List Spaced)
    → chosen b (respelled_all sp (chosen b sources ps)) ps ≡ chosen b sources ps
chosen_respelled sp false sources ps = refl
chosen_respelled sp true sources ps = respelled_kept sp false (kept_from false sources ps) ps ∙ chosen_again true sources ps

spaced_no_returns : (style : Style) (st : State) (ss : List (List ℕ)) → HaveNoReturns (spaced_from style st ss)
spaced_no_returns style st [] = tt
spaced_no_returns style st (s ∷ ss) = (gap_no_return (gap_before style st s ss), spaced_no_returns style (state_after style st s ss) ss)

-- ---- their pieces

-- a line begins where it did
kept_begins : (c : Bool) (source g : List ℕ) → nat_le 1 (line_feeds (kept_gap c source g)) ≡ nat_le 1 (line_feeds g)
kept_begins false source g = refl
kept_begins true source g = by (ends_line g) (has_blank_line source) refl
  where
    one : ends_line g ≡ true → nat_le 1 (line_feeds (10 ∷ g)) ≡ nat_le 1 (line_feeds g)
    one e =
        let is = eqb-true (line_feeds g) 1 e in
        ap (λ (n : ℕ). nat_le 1 (1 + n)) is ∙ ap (λ (n : ℕ). nat_le 1 n) (sym is)

    by : (e b : Bool) → ends_line g ≡ e → nat_le 1 (line_feeds (if e && b then 10 ∷ g else g)) ≡ nat_le 1 (line_feeds g)
    by false b e = refl
    by true false e = refl
    by true true e = one e

kept_pieces : (compact c : Bool) (sources ps : List Spaced) → pieces_of compact (kept_from c sources ps) ≡ pieces_of compact ps
kept_pieces compact c sources [] = refl
kept_pieces compact c sources (p ∷ ps) =
    let first = begins_kept (is_json_sign 44 p.lexeme) (drop 1 sources) ps in
    let later = kept_pieces compact (is_json_sign 44 p.lexeme) (drop 1 sources) ps in
    λ i. (if opens p.lexeme then p.lexeme ++ line_end_if (not compact && first i) else p.lexeme) ∷ later i
  where
    begins_kept : (c : Bool) (sources ps : List Spaced) → begins_line (kept_from c sources ps) ≡ begins_line ps
    begins_kept c sources [] = refl
    begins_kept c sources (p ∷ ps) = ap (λ (b : Bool). b && not (closes p.lexeme)) (kept_begins c (first_gap sources) p.gap)

chosen_pieces : (compact b : Bool) (sources ps : List Spaced) → pieces_of compact (chosen b sources ps) ≡ pieces_of compact ps
chosen_pieces compact false sources ps = refl
chosen_pieces compact true sources ps = kept_pieces compact false sources ps

respelled_pieces : (compact : Bool) (sp : Spelling) (ps : List Spaced) → pieces_of compact (respelled_all sp ps) ≡ pieces_of compact ps
respelled_pieces compact sp [] = refl
respelled_pieces compact sp (p ∷ ps) =
    let first = begins_respelled ps in
    let later = respelled_pieces compact sp ps in
    λ i. (if opens p.lexeme then p.lexeme ++ line_end_if (not compact && first i) else p.lexeme) ∷ later i
  where
    begins_respelled : (ps : List Spaced) → begins_line (respelled_all sp ps) ≡ begins_line ps
    begins_respelled [] = refl
    begins_respelled (p ∷ ps) = ap (λ (n : ℕ). nat_le 1 n && not (closes p.lexeme)) (feeds_respelled sp p.gap)

-- ---- widths

-- a bounded style has no line that is as wide as is counted
narrow : (style : Style) → (bounded style).width < greatest_width
narrow style = omega arith

-- ---- a text

module _ (style : Style) (text : List ℕ) where
  -- its lexemes in the layout of the style
  abbrev pub laid : List Spaced
  laid = spaced_from (bounded style) start_state (text_pieces style text)

  abbrev pub kept : List Spaced
  kept = chosen style.blank_lines (spaced_lexemes text) laid

  pub kept_gaps_of : AreGaps kept
  kept_gaps_of = chosen_gaps style.blank_lines (spaced_lexemes text) laid (spaced_gaps (bounded style) start_state (text_pieces style text))

  kept_no_returns_of : HaveNoReturns kept
  kept_no_returns_of =
      chosen_no_returns style.blank_lines (spaced_lexemes text) laid
      (spaced_no_returns (bounded style) start_state (text_pieces style text))

  -- spelled out
  abbrev pub spelling : Spelling
  spelling = spelling_of style text

  abbrev pub spelled : List Spaced
  spelled = respelled_all spelling kept

  spelled_gaps : AreGaps spelled
  spelled_gaps = respelled_gaps spelling kept kept_gaps_of

-- ---- a text that is JSON

module _ (style : Style) (text : List ℕ) (j : Json) (is : document text ≡ Some j) where
  -- its layout has its lexemes
  laid_lexemes : lexemes_of (laid style text) ≡ lexemes text
  laid_lexemes = spaced_are (bounded style) start_state (text_pieces style text) ∙ pieces_lexemes style text j is

  pub kept_lexemes : lexemes_of (kept style text) ≡ lexemes text
  kept_lexemes = chosen_are style.blank_lines (spaced_lexemes text) (laid style text) ∙ laid_lexemes

  spelled_lexemes : lexemes_of (spelled style text) ≡ lexemes text
  spelled_lexemes = respelled_are (spelling style text) (kept style text) ∙ kept_lexemes

  -- the code's layout
  left_is : (b : Bool)
      → laid_left (bounded style) start_state (if b then Some (record { blank_lines = text; after_comma = false }) else None)
      (spelling style text)
      (text_pieces style text)
      ≡ put_together (respelled_all (spelling style text) (chosen b (spaced_lexemes text) (laid style text)))
  left_is false = refl
  left_is true =
      ap
      (λ (ss : List (List ℕ)).
      put_together (respelled_all (spelling style text) (kept_from false (spaced_as text ss) (laid style text))))
      (pieces_lexemes style text j is)

  pub laid_is : laid_left (bounded style) start_state (kept_of style text) (spelling style text) (text_pieces style text)
      ≡ put_together (spelled style text)
  laid_is = left_is style.blank_lines

  -- its lexemes after other gaps are the same value and the same lexemes
  reads : (ps : List Spaced) (last : List ℕ) → AreGaps ps → IsGap last → lexemes_of ps ≡ lexemes text
      → (document (put_together ps ++ last) ≡ Some j) × (lexemes (put_together ps ++ last) ≡ lexemes text)
  reads ps last gaps gap e =
      same_reading text (put_together ps ++ last) j is
      (subst (λ (ss : List (List ℕ)). IsSpacedJson (put_together ps ++ last) ss) e (together_spaced ps last gaps gap))

  -- and have these gaps
  gaps_again : (ps : List Spaced) (last : List ℕ) → AreGaps ps → IsGap last → lexemes_of ps ≡ lexemes text
      → spaced_lexemes (put_together ps ++ last) ≡ ps
  gaps_again ps last gaps gap e =
      ap (λ (ss : List (List ℕ)). spaced_as (put_together ps ++ last) ss) ((reads ps last gaps gap e).1 ∙ sym e)
      ∙ spaced_together ps last gaps (subst AreBegun (sym e) (lexemes_begun text))

  apart : (ps : List Spaced) → AreGaps ps → lexemes_of ps ≡ lexemes text → spaced_lexemes (put_together ps) ≡ ps
  apart ps gaps e = ap spaced_lexemes (sym (append-nil (put_together ps))) ∙ gaps_again ps [] gaps tt e

  -- the layout that the style has for it, with a line end
  abbrev pub ended : List ℕ
  ended = spelled_out (spelling style text) (kept style text)

  pub reads_ended : (document ended ≡ Some j) × (lexemes ended ≡ lexemes text)
  reads_ended =
      reads (spelled style text) (line_end_bytes (spelling style text).crlf) (spelled_gaps style text) (end_gap (spelling style text).crlf)
      spelled_lexemes

  laid_apart : spaced_lexemes (laid_from (bounded style) start_state (text_pieces style text)) ≡ laid style text
  laid_apart = apart (laid style text) (spaced_gaps (bounded style) start_state (text_pieces style text)) laid_lexemes

  -- it is the layout without blank lines, with those that are kept
  pub kept_is : with_kept_lines style text (laid_from (bounded style) start_state (text_pieces style text)) ≡ put_together (kept style text)
  kept_is = by style.blank_lines
    where
      by : (b : Bool)
          → (if b
          then with_blank_lines text (laid_from (bounded style) start_state (text_pieces style text))
          else laid_from (bounded style) start_state (text_pieces style text))
          ≡ put_together (chosen b (spaced_lexemes text) (laid style text))
      by false = refl
      by true = ap (λ (ps : List Spaced). put_together (kept_from false (spaced_lexemes text) ps)) laid_apart

  -- and spelled out
  pub spelled_is : with_spelling style text (put_together (kept style text)) ≡ ended
  spelled_is = ap (spelled_out (spelling style text)) (apart (kept style text) (kept_gaps_of style text) kept_lexemes)

  -- ---- laid out again

  -- it has these lexemes with their gaps
  spaced_again : spaced_lexemes ended ≡ spelled style text
  spaced_again =
      gaps_again (spelled style text) (line_end_bytes (spelling style text).crlf) (spelled_gaps style text)
      (end_gap (spelling style text).crlf) spelled_lexemes

  -- its pieces are those of the layout before its blank lines and spelling
  pieces_again : text_pieces style ended ≡ pieces_of style.compact (laid style text)
  pieces_again =
      ap (pieces_of style.compact) spaced_again
      ∙ respelled_pieces style.compact (spelling style text) (kept style text)
      ∙ chosen_pieces style.compact style.blank_lines (spaced_lexemes text) (laid style text)

  -- which are laid out as it is
  laid_stays : spaced_from (bounded style) start_state (pieces_of style.compact (laid style text)) ≡ laid style text
  laid_stays = by style.compact refl
    where
      by : (b : Bool) → style.compact ≡ b → spaced_from (bounded style) start_state (pieces_of b (laid style text)) ≡ laid style text
      by false e = laid_again (bounded style) (narrow style) (text_pieces style text) (pieces_ordered style text j is) start_state
      by true e =
          let same : text_pieces style text ≡ lexemes text =
          ap (λ (c : Bool). pieces_of c (spaced_lexemes text)) e ∙ compact_pieces (spaced_lexemes text) ∙ spaced_are_lexemes text in
          ap (spaced_from (bounded style) start_state) (compact_pieces (laid style text) ∙ laid_lexemes ∙ sym same)

  pub kept_stays : kept style ended ≡ kept style text
  kept_stays =
      let laid_same : laid style ended ≡ laid style text = ap (spaced_from (bounded style) start_state) pieces_again ∙ laid_stays in
      (λ i. chosen style.blank_lines (spaced_again i) (laid_same i))
      ∙ chosen_respelled (spelling style text) style.blank_lines (spaced_lexemes text) (laid style text)

  -- and is spelled the same
  pub spelling_stays : spelling style ended ≡ spelling style text
  spelling_stays =
      let inline = subst AreInline (sym kept_lexemes) (lexemes_inline text j is) in
      let first = first_line_end (spelling style text) (kept style text) inline (kept_no_returns_of style text) in
      λ i. record { crlf = same_line_end style.line_end text ended first i; tab = (spelling style text).tab }
