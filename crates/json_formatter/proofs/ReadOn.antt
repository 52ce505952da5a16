-- The results of the code's steps: each reads on where the one before it stopped.
use Rattle.std.proofs.Common.{◌≡◌, refl, ℕ, zero, suc, false, List, ◌∷◌}
use Rattle.prettyless_trees.specs.Counted.{text}
use Rattle.prettyless_model.specs.Tree.{Tree}
use Rattle.json_formatter.specs.declared.style.Style.{Style}
use Rattle.json_formatter.specs.Documents.{Reader, read, opens, with_value, with_comma, member, value}

-- ---- a member

-- a value, what comes with it, and the comma
pub member_reads : (v : Reader Tree) (ss a b c : List (List ℕ)) (key pair made : Tree) → v ss ≡ read key a →
    with_value v key a ≡ read pair b → with_comma pair b ≡ read made c → member v ss ≡ read made c
member_reads v ss a b c key pair made e f g = rw (e, f) g

-- ---- a list

pub value_plain : (style : Style) (depth : ℕ) (s : List ℕ) (ss : List (List ℕ)) → opens s ≡ false →
    value style depth (s ∷ ss) ≡ read (text s) ss
unfolding value
value_plain style zero s ss e = rw e refl
value_plain style (suc depth) s ss e = rw e refl
