-- A layout is the text's lexemes with gaps around them, so it is the same value.
use Rattle.std.proofs.Common.{◌≡◌, ◌<◌, ◌≤◌, ◌⊎◌, inl, inr, refl, sym, ◌∙◌, ap, subst, false, true, ℕ, List, ◌++◌, Option, Some}
use Rattle.std.proofs.Common.{None}
use Rattle.std.proofs.Common.{arith}
use Rattle.std.proofs.lemmas.Bool.{cases_lt}
use Rattle.std.specs.Prelude.{IsSome, Result, Ok, Err, OnOk, OnErr, IfErr}
use Rattle.std.specs.Io.KnownBytes.{Appends}
use Rattle.json.specs.Json.{Json}
use Rattle.json.specs.Tree.{depth}
use Rattle.json_validity.specs.Document.{document, IsJsonWithin}
use Rattle.json_validity.proofs.Documents.{document_depth}
use Rattle.json_lexemes.specs.SpacedLexemes.{put_together}
use Rattle.json_formatter.specs.declared.style.Style.{Style}
use Rattle.json_formatter.specs.BlankLines.{layout_of}
use Rattle.json_formatter.specs.Documents.{bounded}
use Rattle.json_formatter.specs.Formats.{depth_of, Formats, IsFormatted, IsTooDeep, IsWriting}
use Rattle.prettyless_sink.specs.Sink.{AppendsProperBeginning}
use Rattle.json_formatter.specs.Gaps.{start_state}
use Rattle.json_formatter.specs.Kept.{kept_of, laid_left}
use Rattle.json_formatter.specs.Pieces.{text_pieces}
use Rattle.json_formatter.specs.Spelling.{line_end_bytes, spelled_out, spelling_of, with_spelling}
use Rattle.json_formatter.specs.declared.spelling.Spelling.{Spelling}
use Rattle.json_formatter.specs.declared.error.FormatError.{FormatError}
use Rattle.json_formatter.specs.declared.error.FormatError.TheVariants.{NotJson, TooDeep, Memory, Write}
use Rattle.json_formatter.proofs.GapsKept.{ended, kept_is, kept_stays, laid_is, reads_ended, spelled, spelled_is, spelling_stays}
use Rattle.json_formatter.proofs.GapsLaid.{json_by_gaps}

-- the layout of a text that is JSON: its lexemes, each after its gap, and a line end
layout_is : (style : Style) (text : List ℕ) (j : Json) (is : document text ≡ Some j) → layout_of style text ≡ ended style text j is
layout_is style text j is =
    json_by_gaps style text j is ∙ ap (with_spelling style text) (kept_is style text j is) ∙ spelled_is style text j is

-- laid out again it stays
stays : (style : Style) (text : List ℕ) (j : Json) (is : document text ≡ Some j)
    → layout_of style (ended style text j is) ≡ ended style text j is
stays style text j is =
    layout_is style (ended style text j is) j (reads_ended style text j is).0
    ∙ (λ i. spelled_out (spelling_stays style text j is i) (kept_stays style text j is i))

ended_formatted : (style : Style) (text : List ℕ) (j : Json) (is : document text ≡ Some j) → IsJsonWithin (depth_of style) text
    → IsFormatted style text (ended style text j is)
ended_formatted style text j is shallow =
    record {
      is_json = rw is refl;
      shallow = shallow;
      value = (reads_ended style text j is).0 ∙ sym is;
      lexemes = (reads_ended style text j is).1;
      layout = sym (layout_is style text j is);
      again = stays style text j is;
      ended = (put_together (spelled style text), refl);
    }

-- bytes that are laid out lexeme by lexeme, spelled so, and what ends them
pub record AreLaid (style : Style) (text laid end : List ℕ) : Type 0 where
  pub spelling : Spelling
  pub spells : spelling ≡ spelling_of style text
  pub lays : laid ≡ laid_left (bounded style) start_state (kept_of style text) spelling (text_pieces style text)
  pub ends : end ≡ line_end_bytes spelling.crlf

-- they are in the bounded style
pub lays_bounded : {laid : List ℕ} {narrow : Style} (style : Style) (text : List ℕ) (sp : Spelling) → narrow ≡ bounded style
    → laid ≡ laid_left narrow start_state (kept_of narrow text) sp (text_pieces narrow text)
    → laid ≡ laid_left (bounded style) start_state (kept_of style text) sp (text_pieces style text)
lays_bounded style text sp is lays =
    lays ∙ ap (λ (s : Style). laid_left s start_state (kept_of s text) sp (text_pieces s text)) is

module _ (style : Style) (text laid end : List ℕ) (json : IsJsonWithin (depth_of style) text) (h : AreLaid style text laid end) where
  -- they are the text laid out
  pub laid_formatted : IsFormatted style text (laid ++ end)
  laid_formatted =
      let is : laid ++ end ≡ ended style text json.json json.is =
      (λ i. h.lays i ++ h.ends i)
      ∙ (λ i.
      laid_left (bounded style) start_state (kept_of style text) (h.spells i) (text_pieces style text)
      ++ line_end_bytes (h.spells i).crlf)
      ∙ ap (λ (bs : List ℕ). bs ++ line_end_bytes (spelling_of style text).crlf) (laid_is style text json.json json.is) in
      subst (IsFormatted style text) (sym is) (ended_formatted style text json.json json.is json)

  -- and the layout by its name
  pub layout_whole : laid ++ end ≡ layout_of style text
  layout_whole = laid_formatted.layout

  pub layout_formatted : IsFormatted style text (layout_of style text)
  layout_formatted = subst (IsFormatted style text) layout_whole laid_formatted

-- what is JSON and not within the levels that the style allows is deeper
pub deeper : (style : Style) (text : List ℕ) → IsSome (document text) → ¬ (IsJsonWithin (depth_of style) text) → IsTooDeep style text
deeper style text some not = by (document text) refl
  where
    by : (o : Option Json) → document text ≡ o → IsTooDeep style text
    by None e = let none : false ≡ true = rw e at some in absurd (cc)
    by (Some j) e = deep (cases_lt style.depth (depth j))
      where
        deep : (style.depth < depth j) ⊎ (depth j ≤ style.depth) → IsTooDeep style text
        deep (inl more) = record { json = j; is = e; deeper = more }
        deep (inr le) = absurd (not (record { json = j; is = e; shallow = omega (arith, le, document_depth text j e) }))

-- ---- a layout that is written

-- a writer that took it, or a beginning of it, was given the text laid out
pub written : {A : Type 0} (style : Style) (text bytes : List ℕ) (old new : Option (List ℕ)) (result : Result A FormatError) →
    IsFormatted style text bytes
    → OnOk result (Appends old new bytes) → OnErr result (AppendsProperBeginning old new bytes) → IfErr result IsWriting →
    Formats style text old new result
written style text bytes old new (Ok done) is all beginning err = (bytes, is, all)
written style text bytes old new (Err NotJson) is all beginning err = absurd err
written style text bytes old new (Err TooDeep) is all beginning err = absurd err
written style text bytes old new (Err (Memory e)) is all beginning err = absurd err
written style text bytes old new (Err (Write e)) is all beginning err = (bytes, is, beginning)
