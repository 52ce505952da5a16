-- A text that is laid out stays when it is laid out again, and says what it said.
use Rattle.std.proofs.Common.{◌≡◌, refl, sym, ◌∙◌, ap, ℕ, ◌+◌, length, drop, List, [], ◌∷◌, map, All, Option, Some}
use Rattle.std.proofs.Common.{None, subst}
use Rattle.std.proofs.lemmas.List.Elements.{All-head, All-tail}
use Rattle.toml_lexemes.specs.Lexemes.{toml_lexemes_of}
use Rattle.toml_lexemes.specs.Spaced.{IsTomlGap}
use Rattle.toml_lexemes.specs.SpacedLexemes.{SpacedToml, after_toml_gap, toml_spaced_as, blanks}
use Rattle.toml_lexemes.proofs.Gaps.{lexemes_alone}
use Rattle.toml_lexemes.proofs.Joined.{gaps_spaced}
use Rattle.toml_syntax.specs.TypedLexemes.{typed, typed_spaced}
use Rattle.toml_syntax.specs.Tree.{Statement}
use Rattle.toml_syntax.specs.Reading.{read_statements}
use Rattle.toml_syntax.specs.Spelled.{spelled_statements}
use Rattle.toml_syntax.specs.Formed.{IsClearGap, AreAlone, AreFormed}
use Rattle.toml_syntax.specs.Settled.{Style, settled_statements}
use Rattle.toml_syntax.specs.Formatted.{typed_lexemes_in, lexemes_text, parsed, laid_out, laid_out_if, formatted}
use Rattle.toml_syntax.specs.Laws.{FormattedStay, FormattedSayTheSame, content_if}
use Rattle.toml_syntax.proofs.Alone.{lexeme_alone}
use Rattle.toml_syntax.proofs.Apart.{from_apart}
use Rattle.toml_syntax.proofs.Lexed.{spelled_join, same_spaced}
use Rattle.toml_syntax.proofs.ReadAgain.{spelled_are_read}
use Rattle.toml_syntax.proofs.ReadFormed.{read_are_formed}
use Rattle.toml_syntax.proofs.SameContent.{settled_say_the_same}
use Rattle.toml_syntax.proofs.SettledAgain.{settled_stay}
use Rattle.toml_syntax.proofs.SettledFormed.{from_formed}

alone_as : (ss : List (List ℕ)) (bytes : List ℕ) → All (λ s. toml_lexemes_of s ≡ s ∷ []) ss
    → All (λ p. IsTomlGap p.gap) (toml_spaced_as bytes ss)
    → AreAlone (map typed_spaced (toml_spaced_as bytes ss))
alone_as [] bytes h g = (All-head (λ (p : SpacedToml). IsTomlGap p.gap) (after_toml_gap bytes []) [] g, tt, tt)
alone_as (s ∷ ss) bytes h g =
    let first = after_toml_gap (blanks bytes) s in
    let rest = drop (length (blanks bytes) + length s) bytes in (
      All-head (λ (p : SpacedToml). IsTomlGap p.gap) first (toml_spaced_as rest ss) g,
      lexeme_alone s (typed s) (All-head (λ s. toml_lexemes_of s ≡ s ∷ []) s ss h) refl,
      alone_as ss rest (All-tail (λ s. toml_lexemes_of s ≡ s ∷ []) s ss h)
          (All-tail (λ (p : SpacedToml). IsTomlGap p.gap) first (toml_spaced_as rest ss) g),
    )

lexemes_are_alone : (text : List ℕ) → AreAlone (typed_lexemes_in text)
lexemes_are_alone text = alone_as (toml_lexemes_of text) text (lexemes_alone text) (gaps_spaced text)

-- the statements of a text that is laid out
laid_out_parsed : (s : Style) (ss : List Statement) → IsClearGap s.indent → AreFormed ss
    → parsed (laid_out s ss) ≡ Some (settled_statements s ss)
laid_out_parsed s ss c h =
    let formed = from_formed s c None ss h in
    ap read_statements
    (same_spaced (spelled_statements (settled_statements s ss)) (spelled_join (settled_statements s ss) formed (from_apart s None ss)))
    ∙ spelled_are_read (settled_statements s ss) formed

parsed_formed : (text : List ℕ) (ss : List Statement) → parsed text ≡ Some ss → AreFormed ss
parsed_formed text ss e = read_are_formed (typed_lexemes_in text) ss (lexemes_are_alone text) e

some_text : (xs ys : List ℕ) → Some xs ≡ Some ys → xs ≡ ys
some_text xs ys e = cc

module _ (s : Style) (style : IsClearGap s.indent) (text out : List ℕ) where
  stays : (r : Option (List Statement)) → parsed text ≡ r → laid_out_if s r ≡ Some out → formatted s out ≡ Some out
  stays None e h = absurd (cc)
  stays (Some ss) e h =
      let is = some_text (laid_out s ss) out h in
      subst (λ t. formatted s t ≡ Some t) is
      (ap (laid_out_if s) (laid_out_parsed s ss style (parsed_formed text ss e))
      ∙ ap (λ ts. Some (lexemes_text (spelled_statements ts))) (settled_stay s ss))

  says : (r : Option (List Statement)) → parsed text ≡ r → laid_out_if s r ≡ Some out → content_if (parsed out) ≡ content_if r
  says None e h = absurd (cc)
  says (Some ss) e h =
      let is = some_text (laid_out s ss) out h in
      ap (λ t. content_if (parsed t)) (sym is) ∙ ap content_if (laid_out_parsed s ss style (parsed_formed text ss e))
      ∙ ap Some (settled_say_the_same s ss)

pub formatted_stay : FormattedStay
formatted_stay s style text out h = stays s style text out (parsed text) refl h

pub formatted_say_the_same : FormattedSayTheSame
formatted_say_the_same s style text out h = says s style text out (parsed text) refl h
