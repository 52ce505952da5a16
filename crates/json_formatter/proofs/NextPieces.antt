-- The next piece of a text, by the first byte of its next lexeme and the gap before that.
use Rattle.std.proofs.Common.{◌≡◌, ℕ, Bool, true, false, not, ◌&&◌, ◌||◌, ◌==◌, nat_le, List, [], ◌∷◌, ◌++◌, refl, sym, ◌∙◌, ap}
use Rattle.std.specs.Prelude.{if◌then◌else◌}
use Rattle.json.specs.Word.{head}
use Rattle.json_lexemes.specs.SpacedLexemes.{Spaced, line_feeds}
use Rattle.json_lexemes.specs.SpacedLexer.{IsFirstGap}
use Rattle.json_formatter.specs.Documents.{closes, opens, stops}
use Rattle.json_formatter.specs.Pieces.{begins_line, piece, pieces_of}
use Rattle.json_formatter.specs.Values.{line_end_if}

-- it begins as the lexeme does
piece_head : (compact : Bool) (s : List ℕ) (ps : List Spaced) → head (piece compact s ps) ≡ head s
piece_head compact [] ps = refl
piece_head compact (x ∷ s) ps =
    elim (opens (x ∷ s)) as (λ b. head (if b then (x ∷ s) ++ line_end_if (not compact && begins_line ps) else (x ∷ s)) ≡ x)
    [ true ↦ refl | false ↦ refl ]

-- it begins a line, where one ends in the gap, and no list ends there
pub begins_by_gap : (ps : List Spaced) (gap : List ℕ) → IsFirstGap ps gap →
    begins_line ps ≡ (not (stops closes (pieces_of false ps)) && nat_le 1 (line_feeds gap))
begins_by_gap [] gap h = refl
begins_by_gap (p ∷ ps) gap h =
    turned (nat_le 1 (line_feeds p.gap)) (not (closes p.lexeme))
    ∙ (λ i. not (sym same i) && nat_le 1 (line_feeds (h i)))
  where
    same : closes (piece false p.lexeme ps) ≡ closes p.lexeme
    same = ap (λ (y : ℕ). (y == 125) || (y == 93)) (piece_head false p.lexeme ps)

    turned : (a b : Bool) → (a && b) ≡ (b && a)
    turned true true = refl
    turned true false = refl
    turned false true = refl
    turned false false = refl

pub ends_no_line : (ps : List Spaced) → not (stops closes (pieces_of false ps)) ≡ false → begins_line ps ≡ false
ends_no_line [] h = refl
ends_no_line (p ∷ ps) h = begins_by_gap (p ∷ ps) p.gap refl ∙ (λ i. h i && nat_le 1 (line_feeds p.gap))
