-- What is left of a layout: the next gap, the next lexeme, and what is left after that.
use Rattle.std.proofs.Common.{◌≡◌, ℕ, false, List, ◌∷◌, ◌++◌, refl, ap}
use Rattle.std.proofs.lemmas.Bool.{true≢false}
use Rattle.std.specs.Prelude.{Option, Some, None, is_some}
use Rattle.json_formatter.specs.Documents.{lexeme_of}
use Rattle.json_formatter.specs.Gaps.{gap_before, gap_bytes, state_after}
use Rattle.json_formatter.specs.Kept.{gap_kept, kept_after, laid_left}
use Rattle.json_formatter.specs.Spelling.{respelled}
use Rattle.json_formatter.specs.declared.gaps.State.{State}
use Rattle.json_formatter.specs.declared.kept.Kept.{Kept}
use Rattle.json_formatter.specs.declared.spelling.Spelling.{Spelling}
use Rattle.json_formatter.specs.declared.style.Style.{Style}
use Rattle.json_formatter.proofs.Respelled.{plain_stays}

module _ (style : Style) (st : State) (kept : Option Kept) (sp : Spelling) (s : List ℕ) (ss : List (List ℕ)) where
  -- the gap before the next lexeme, and where the layout stands after it
  abbrev gap : List ℕ
  gap = gap_bytes (gap_before style st s ss)

  abbrev later : State
  later = state_after style st s ss

  -- as it is spelled, with an empty line where one is kept
  pub spelled_next : laid_left style st kept sp (s ∷ ss)
      ≡ respelled sp (gap_kept kept gap) ++ (lexeme_of s ++ laid_left style later (kept_after kept (lexeme_of s)) sp ss)
  spelled_next = go kept
    where
      go : (k : Option Kept) → laid_left style st k sp (s ∷ ss)
          ≡ respelled sp (gap_kept k gap) ++ (lexeme_of s ++ laid_left style later (kept_after k (lexeme_of s)) sp ss)
      go None = refl
      go (Some k) = refl

  -- as it is, where no blank lines are kept, and line ends are line feeds and indents spaces
  pub plain_next : is_some kept ≡ false → sp.crlf ≡ false → sp.tab ≡ 0 →
      laid_left style st kept sp (s ∷ ss) ≡ gap ++ (lexeme_of s ++ laid_left style later kept sp ss)
  plain_next none crlf tab = go kept none
    where
      go : (k : Option Kept) → is_some k ≡ false →
          laid_left style st k sp (s ∷ ss) ≡ gap ++ (lexeme_of s ++ laid_left style later k sp ss)
      go (Some k) some = absurd (true≢false some)
      go None none =
          ap (λ (g : List ℕ). g ++ (lexeme_of s ++ laid_left style later None sp ss))
          (plain_stays sp (gap_before style st s ss) crlf tab)
