-- No reader gives a lexeme back.
use Rattle.std.proofs.Common.{◌≡◌, refl, ap, ℕ, zero, suc, ◌≤◌, true, false, List, [], ◌∷◌, length, drop, length-drop, inl, inr, ◌⊎◌, arith}
use Rattle.std.proofs.lemmas.Bool.{cases_Bool}
use Rattle.json.specs.Ascii as ascii
use Rattle.prettyless_model.specs.Tree.{Tree, Nil}
use Rattle.json_formatter.specs.declared.style.Style.{Style}
use Rattle.json_formatter.specs.Documents.{Read, Reader, read, next_is, is_json_sign, opens, closes, lexeme_alone, with_value, with_comma}
use Rattle.json_formatter.specs.Documents.{list_member, list_members, list_or_lexeme, value}
use Rattle.json_formatter.proofs.Readers.{Shrinks, many_shrinks}

-- where no lexeme is left, there is no value
pub value_none : (style : Style) (depth : ℕ) → value style depth [] ≡ read Nil []
unfolding value
value_none style zero = refl
value_none style (suc depth) = refl

-- a reader gives none back, also where none is left
abbrev pub Keeps : {A : Type 0} → Reader A → Type 0
Keeps reader = (ss : List (List ℕ)) → length (reader ss).left ≤ length ss

alone_keeps : Keeps lexeme_alone
alone_keeps [] = omega arith
alone_keeps (s ∷ ss) = omega arith

with_comma_keeps : (tree : Tree) → Keeps (with_comma tree)
with_comma_keeps tree ss = by (cases_Bool (next_is (is_json_sign ascii.comma) ss))
  where
    by : (next_is (is_json_sign ascii.comma) ss ≡ true) ⊎ (next_is (is_json_sign ascii.comma) ss ≡ false) →
        length (with_comma tree ss).left ≤ length ss
    by (inl e) = rw e (omega (arith, length-drop 1 ss))
    by (inr e) = rw e (omega arith)

with_value_keeps : (value : Reader Tree) → Keeps value → (key : Tree) → Keeps (with_value value key)
with_value_keeps value keeps key ss = by (cases_Bool (next_is (is_json_sign ascii.colon) ss))
  where
    by : (next_is (is_json_sign ascii.colon) ss ≡ true) ⊎ (next_is (is_json_sign ascii.colon) ss ≡ false) →
        length (with_value value key ss).left ≤ length ss
    by (inl e) = let h = keeps (drop 1 ss) in rw e (omega (arith, h, length-drop 1 ss))
    by (inr e) = rw e (omega arith)

pub list_member_shrinks : (style : Style) (value : Reader Tree) → Shrinks value → Keeps value → Shrinks (list_member style value)
list_member_shrinks style value shrinks keeps s ss =
    let first = value (s ∷ ss) in
    let pair = with_value value first.found first.left in
    let a = shrinks s ss in
    let b = with_value_keeps value keeps first.found first.left in
    let c = with_comma_keeps pair.found pair.left in
    omega (arith, a, b, c)

list_shrinks : (style : Style) (value : Reader Tree) → Shrinks value → Keeps value → Shrinks (list_or_lexeme style value)
list_shrinks style value shrinks keeps s ss = by (cases_Bool (opens s))
  where
    by : (opens s ≡ true) ⊎ (opens s ≡ false) → length (list_or_lexeme style value (s ∷ ss)).left ≤ length ss
    by (inl e) =
        let a = many_shrinks closes (list_member style value) (list_member_shrinks style value shrinks keeps) (length ss) ss in
        let b = alone_keeps (list_members style value ss).left in
        rw e (omega (arith, a, b))
    by (inr e) = rw e (omega arith)

keeps : (style : Style) (depth : ℕ) → Shrinks (value style depth) → Keeps (value style depth)
keeps style depth shrinks [] = omega (arith, ap (λ (r : Read Tree). length r.left) (value_none style depth))
keeps style depth shrinks (s ∷ ss) = let h = shrinks s ss in omega (arith, h)

pub value_shrinks : (style : Style) (depth : ℕ) → Shrinks (value style depth)
unfolding value
value_shrinks style zero s ss = omega arith
value_shrinks style (suc depth) s ss =
    let shrinks = value_shrinks style depth in
    list_shrinks style (value style depth) shrinks (keeps style depth shrinks) s ss

pub value_keeps : (style : Style) (depth : ℕ) → Keeps (value style depth)
value_keeps style depth = keeps style depth (value_shrinks style depth)
