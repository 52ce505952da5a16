-- The layout outside of lists on one line, lexeme by lexeme.
use Rattle.std.proofs.Common.{◌≡◌, refl, sym, ◌∙◌, ap, ℕ, ◌+◌, ◌*◌, min, nat_le, Bool, true, false, not, ◌&&◌, List, [], ◌∷◌, ◌++◌}
use Rattle.std.proofs.Common.{length, append_assoc}
use Rattle.std.proofs.Common.{add-mul, one-mul, arith}
use Rattle.std.specs.Prelude.{if◌then◌else◌}
use Rattle.prettyless_model.specs.Column.{saturating_add}
use Rattle.prettyless_model.specs.Metrics.{text_width}
use Rattle.json_formatter.specs.ByValue.{inner, item_comma, member_comma, new_line}
use Rattle.json_formatter.specs.Documents.{closes, is_json_sign, next_is, opens}
use Rattle.json_formatter.specs.Gaps.{comma_column, indent_at}
use Rattle.json_formatter.specs.Values.{PiecedItems as Items, no_items, item, PiecedMembers as Members, no_members, member}
use Rattle.json_formatter.specs.Values.{more_pieced_items as more_items, more_pieced_members as more_members}
use Rattle.json_formatter.specs.declared.gaps.Joint.{Joint}
use Rattle.json_formatter.specs.declared.gaps.Joint.TheVariants as joint
use Rattle.json_formatter.specs.declared.gaps.State.{State}
use Rattle.json_formatter.specs.declared.style.Style.{Style}
use Rattle.json_formatter.proofs.GapsAhead.{one_less_open}
use Rattle.json_formatter.proofs.GapsFlat.{most}
use Rattle.json_formatter.proofs.GapsFrom.{laid_from}
use Rattle.json_formatter.proofs.GapsWords.{BeginsPlainly, IsWord}

-- ---- states

-- in so many lists that have lines of their own
abbrev pub outside : ℕ → ℕ → Bool → Joint → State
outside d c fills j = record { depth = d; flat = 0; column = c; fills = fills; joint = j }

-- before the first value, or after one, in a list that does not fill its lines
abbrev pub rested : ℕ → ℕ → State
rested d c = outside d c false joint.Nothing

-- these lexemes are laid out as these bytes, and then the rest is laid out in so many lists
pub record Lays (style : Style) (st : State) (ss : List (List ℕ)) (bytes : List ℕ) (d : ℕ) (rest : List (List ℕ)) : Type 0 where
  pub column : ℕ
  pub is : laid_from style st ss ≡ bytes ++ laid_from style (rested d column) rest

module _ {style : Style} {st : State} {ss rest : List (List ℕ)} {e : ℕ} where
  -- one part after the other
  pub lays_then : {mid : List (List ℕ)} {d : ℕ} (a b : List ℕ)
      → Lays style st ss a d mid → ((c : ℕ) → Lays style (rested d c) mid b e rest) → Lays style st ss (a ++ b) e rest
  lays_then a b h k =
      let later = k h.column in
      record {
        column = later.column;
        is = h.is ∙ ap (λ (l : List ℕ). a ++ l) later.is ∙ sym (append_assoc a b (laid_from style (rested e later.column) rest));
      }

  -- bytes before a part
  pub lays_after : {next : State} {mid : List (List ℕ)} (a b : List ℕ)
      → laid_from style st ss ≡ a ++ laid_from style next mid → Lays style next mid b e rest → Lays style st ss (a ++ b) e rest
  lays_after a b h k =
      record {
        column = k.column;
        is = h ∙ ap (λ (l : List ℕ). a ++ l) k.is ∙ sym (append_assoc a b (laid_from style (rested e k.column) rest));
      }

  pub lays_same : (a b : List ℕ) → a ≡ b → Lays style st ss a e rest → Lays style st ss b e rest
  lays_same a b h k =
      record { column = k.column; is = k.is ∙ ap (λ (l : List ℕ). l ++ laid_from style (rested e k.column) rest) h }

-- ---- columns

-- the columns of the comma that comes next, if one does
abbrev pub comma_before : List (List ℕ) → ℕ
comma_before ss = comma_column (next_is (is_json_sign 44) ss)

pub items_comma : (vs : Items) (ss : List (List ℕ)) → comma_before (more_items vs ++ ss) ≡ length (item_comma vs)
items_comma no_items ss = refl
items_comma (item v vs) ss = refl

pub members_comma : (ms : Members) (ss : List (List ℕ)) → comma_before (more_members ms ++ ss) ≡ length (member_comma ms)
members_comma no_members ss = refl
members_comma (member k v ms) ss = refl

kept_within : (x k : ℕ) → saturating_add (min x most) k ≡ min (x + k) most
kept_within x k = omega arith

-- the indent in one list more
pub inner_indent : (style : Style) (d : ℕ) → inner style (indent_at style d) ≡ indent_at style (d + 1)
inner_indent style d =
    let product : d * style.indent + style.indent ≡ (d + 1) * style.indent =
    sym (add-mul d 1 style.indent ∙ ap (λ (n : ℕ). d * style.indent + n) (one-mul style.indent)) in
    kept_within (d * style.indent) style.indent ∙ ap (λ (n : ℕ). min n most) product

-- ---- the gap before a value or a key

module _ (style : Style) (d c : ℕ) (fills : Bool) where
  -- after a new line
  abbrev on_new_line : List (List ℕ) → List ℕ
  on_new_line ss = new_line (indent_at style d) ++ laid_from style (outside d (indent_at style d) fills joint.Nothing) ss

  -- after a space
  abbrev after_space : List (List ℕ) → List ℕ
  after_space ss = 32 ∷ laid_from style (outside d (saturating_add c 1) fills joint.Nothing) ss

  pub line_first : (ss : List (List ℕ)) → BeginsPlainly ss → laid_from style (outside d c fills joint.Line) ss ≡ on_new_line ss
  line_first ss b = rw b.is (at_lexeme b.first b.tail b.closes b.comma b.colon)
    where
      at_lexeme : (s : List ℕ) (rest : List (List ℕ)) → closes s ≡ false → is_json_sign 44 s ≡ false → is_json_sign 58 s ≡ false
          → laid_from style (outside d c fills joint.Line) (s ∷ rest) ≡ on_new_line (s ∷ rest)
      at_lexeme s rest e f g = rw (e, f, g) refl

  pub space_first : (ss : List (List ℕ)) → BeginsPlainly ss → laid_from style (outside d c fills joint.Space) ss ≡ after_space ss
  space_first ss b = rw b.is (at_lexeme b.first b.tail b.closes b.comma b.colon)
    where
      at_lexeme : (s : List ℕ) (rest : List (List ℕ)) → closes s ≡ false → is_json_sign 44 s ≡ false → is_json_sign 58 s ≡ false
          → laid_from style (outside d c fills joint.Space) (s ∷ rest) ≡ after_space (s ∷ rest)
      at_lexeme s rest e f g = rw (e, f, g) refl

  -- a word fits the line after a space, with its comma
  abbrev pub word_fits : List ℕ → Bool → Bool
  word_fits s comma =
      nat_le (saturating_add (saturating_add (saturating_add c 1) (text_width s)) (comma_column comma)) style.width

  -- a space where it does, and else a new line
  pub fill_first : (fit : Bool) (s : List ℕ) (rest : List (List ℕ)) → IsWord s →
      word_fits s (next_is (is_json_sign 44) rest) ≡ fit
      → laid_from style (outside d c fills joint.Fill) (s ∷ rest) ≡ (if fit then after_space (s ∷ rest) else on_new_line (s ∷ rest))
  fill_first true s rest w e = rw (w.closes, w.comma, w.colon, w.opens, e) refl
  fill_first false s rest w e = rw (w.closes, w.comma, w.colon, w.opens, e) refl

  -- ---- lexemes

  -- the column after a word, which is not counted before a comma and a new line
  abbrev pub word_column : List ℕ → List (List ℕ) → ℕ
  word_column s rest = if not fills && next_is (is_json_sign 44) rest then c else saturating_add c (text_width s)

  -- a word or a key
  pub word_next : (s : List ℕ) (rest : List (List ℕ)) → IsWord s
      → laid_from style (outside d c fills joint.Nothing) (s ∷ rest)
      ≡ s ++ laid_from style (outside d (word_column s rest) fills joint.Nothing) rest
  word_next s rest w = rw (w.closes, w.comma, w.colon, w.opens) refl

-- a line of its own for what closes a list
abbrev pub closing_line : Style → ℕ → ℕ → List ℕ
closing_line style d z = new_line (indent_at style d) ++ z ∷ []

-- what closes a list
pub close_next : (style : Style) (d c : ℕ) (fills : Bool) (z : ℕ) (rest : List (List ℕ))
    → closes (z ∷ []) ≡ true → is_json_sign 44 (z ∷ []) ≡ false → is_json_sign 58 (z ∷ []) ≡ false → opens (z ∷ []) ≡ false
    → Lays style (outside (d + 1) c fills joint.Nothing) ((z ∷ []) ∷ rest) (closing_line style d z) d rest
close_next style d c fills z rest e f g h =
    let parts = append_assoc (new_line (indent_at style d)) (z ∷ []) (laid_from style (rested d c) rest) in
    record { column = c; is = rw (e, f, g, h, one_less_open d) (sym parts) }
