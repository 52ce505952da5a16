-- Trees that are made, and what holds of them.
use Rattle.std.proofs.Common.{◌≡◌, refl, sym, subst, ◌<◌, arith, ℕ, Bool, true, false, if◌then◌else◌, List, [], ◌∷◌, length, Result, IfOk}
use Rattle.std.proofs.lemmas.Result.{IfOk-weaker}
use Rattle.prettyless_model.specs.Metrics.{is_ascii}
use Rattle.prettyless_trees.specs.Counted.{text}
use Rattle.prettyless_trees.specs.Lines.{space}
use Rattle.prettyless_model.specs.Tree.{Tree, Text, TextWithLen, LineSuffix}
use Rattle.prettyless_trees.specs.Built.{append, as_line_suffix, enclose, group}
use Rattle.prettyless_shapes.specs.Shapes.{inside, list}
use Rattle.prettyless_shapes.specs.declared.lists.ListStyle.{ListStyle}

-- what holds of the tree that is wanted holds of the one that is made
pub of_made : {A E : Type 0} (result : Result A E) (tree : A → Tree) (wanted : Tree) (P : Tree → Type 0)
    → P wanted → IfOk result (λ p. tree p ≡ wanted) → IfOk result (λ p. P (tree p))
of_made result tree wanted P h made = IfOk-weaker result _ _ (λ p e. subst P (sym e) h) made

-- a space and a text are something, and no line suffix
put_off : (by_bytes : Bool) (w : ℕ) (s : List ℕ)
    → let comment = append space (if by_bytes then Text s else TextWithLen w s) in as_line_suffix comment ≡ LineSuffix comment
put_off true w s = refl
put_off false w s = refl

pub comment_put_off : (s : List ℕ) → as_line_suffix (append space (text s)) ≡ LineSuffix (append space (text s))
comment_put_off [] = refl
comment_put_off (b ∷ bs) = put_off (is_ascii (b ∷ bs)) _ (b ∷ bs)

-- a list of some members
pub list_some : (style : ListStyle) (before : List ℕ) (xs : List Tree) (mark after : List ℕ) → 0 < length xs
    → list style before xs mark after ≡ group (enclose (text before) (inside style (text mark) xs) (text after))
list_some style before [] mark after some = absurd (omega arith)
list_some style before (x ∷ xs) mark after some = refl
