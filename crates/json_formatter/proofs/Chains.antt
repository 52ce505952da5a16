-- The shape of a list's document: its members appended to one another with gaps between them, in lines between two brackets.
use Rattle.std.proofs.Common.{◌≡◌, refl, sym, ◌∙◌, ap, subst, ℕ, zero, suc, Bool, true, false, not, List, [], ◌∷◌}
use Rattle.std.specs.Prelude.{pos}
use Rattle.std.specs.List.{fold}
use Rattle.json.specs.Word.{ends_word}
use Rattle.prettyless_model.specs.Metrics.{is_ascii}
use Rattle.prettyless_trees.specs.Built.{IsNotNil, append, enclose, group, nest}
use Rattle.prettyless_trees.specs.Counted.{text}
use Rattle.prettyless_trees.specs.Lines.{space}
use Rattle.prettyless_model.specs.Tree.{Tree, Nil, Text, Append, Group}
use Rattle.json_formatter.specs.declared.style.Style.{Style}
use Rattle.json_formatter.specs.ByValue.{items_fill}
use Rattle.json_formatter.specs.Documents.{margin, gap_in, listed}
use Rattle.json_formatter.specs.Values.{PiecedValue as Value, alone, array, object, PiecedItems as Items, no_items, item}
use Rattle.json_formatter.specs.Values.{PiecedMembers as Members, no_members}
use Rattle.json_formatter.specs.Values as g
use Rattle.json_formatter.specs.Values.{IsFormedPieced as IsFormed, AreFormedPiecedItems as AreFormedItems}
use Rattle.json_formatter.specs.Values.{AreFormedPiecedMembers as AreFormedMembers}
use Rattle.json_formatter.proofs.ValueTrees.{tree, item_trees, member_trees, item_marked, member_marked, key_tree, key_formed, opening}

-- appended, where both are something
pub append_is : (x y : Tree) → IsNotNil x → IsNotNil y → append x y ≡ Append x y
append_is Nil y h k = absurd h
append_is x Nil h k = absurd k
append_is x y h k = refl

pub append_some : (x y : Tree) → IsNotNil x → IsNotNil y → IsNotNil (append x y)
append_some x y h k = subst IsNotNil (sym (append_is x y h k)) tt

-- documents with a gap between two
abbrev pub chain : Tree → Tree → List Tree → Tree
chain gap x [] = x
chain gap x (y ∷ ys) = chain gap (Append (Append x gap) y) ys

abbrev pub AreSome : List Tree → Type 0
AreSome [] = Unit {0}
AreSome (x ∷ xs) = IsNotNil x × AreSome xs

chain_some : (gap x : Tree) (xs : List Tree) → IsNotNil x → IsNotNil (chain gap x xs)
chain_some gap x [] h = h
chain_some gap x (y ∷ ys) h = chain_some gap (Append (Append x gap) y) ys tt

chain_is : (gap x : Tree) (xs : List Tree) → IsNotNil gap → IsNotNil x → AreSome xs
    → fold (λ z y. append (append z gap) y) x xs ≡ chain gap x xs
chain_is gap x [] g h k = refl
chain_is gap x (y ∷ ys) g h k =
    ap (λ (z : Tree). fold (λ z y. append (append z gap) y) z ys)
    (ap (λ (z : Tree). append z y) (append_is x gap h g) ∙ append_is (Append x gap) y tt k.0)
    ∙ chain_is gap (Append (Append x gap) y) ys g tt k.1

-- lines between brackets, with a gap inside these
abbrev pub within : Tree → Tree → Tree → Tree → ℕ → Tree
within inside before items after k = Append (Append before (Append (nest (pos k) (Append inside items)) inside)) after

nested_some : (k : ℕ) (l r : Tree) → IsNotNil (nest (pos k) (Append l r))
nested_some zero l r = tt
nested_some (suc k) l r = tt

-- what stands between brackets
bracketed : (a : ℕ) (b : Bool) (l r : Tree) (z : ℕ)
    → group (enclose (opening a b) (Append l r) (Text (z ∷ []))) ≡ Group (Append (Append (opening a b) (Append l r)) (Text (z ∷ [])))
bracketed a true l r z = refl
bracketed a false l r z = refl

lines_are : (inside gap : Tree) (a : ℕ) (b : Bool) (z : ℕ) (k : ℕ) (x : Tree) (xs : List Tree) → IsNotNil inside → IsNotNil gap
    → IsNotNil x → AreSome xs
    → group (enclose (opening a b)
    (append (nest (pos k) (append inside (fold (λ z y. append (append z gap) y) x xs))) inside) (Text (z ∷ [])))
    ≡ Group (within inside (opening a b) (chain gap x xs) (Text (z ∷ [])) k)
lines_are inside gap a b z k x xs e g h j =
    let items = chain gap x xs in
    ap (λ (i : Tree). group (enclose (opening a b) (append (nest (pos k) (append inside i)) inside) (Text (z ∷ []))))
    (chain_is gap x xs g h j)
    ∙ ap (λ (l : Tree). group (enclose (opening a b) (append (nest (pos k) l) inside) (Text (z ∷ []))))
    (append_is inside items e (chain_some gap x xs h))
    ∙ ap (λ (l : Tree). group (enclose (opening a b) l (Text (z ∷ []))))
    (append_is (nest (pos k) (Append inside items)) inside (nested_some k inside items) e)
    ∙ bracketed a b (nest (pos k) (Append inside items)) inside z

-- the gaps of a list are something
margin_some : (blanks : Bool) → IsNotNil (margin blanks)
margin_some true = tt
margin_some false = tt

gap_some : (fills : Bool) → IsNotNil (gap_in fills)
gap_some true = tt
gap_some false = tt

pub listed_is : (blanks fills : Bool) (a : ℕ) (b : Bool) (z : ℕ) (k : ℕ) (x : Tree) (xs : List Tree) → IsNotNil x → AreSome xs
    → listed blanks fills (opening a b) (x ∷ xs) (Text (z ∷ [])) (pos k) ≡ Group
    (within (margin blanks) (opening a b) (chain (gap_in fills) x xs) (Text (z ∷ [])) k)
listed_is blanks fills a b z k x xs h j =
    lines_are (margin blanks) (gap_in fills) a b z k x xs (margin_some blanks) (gap_some fills) h j

-- ---- the documents of values are something

counted_some : (t : Bool) (b : ℕ) (bs : List ℕ) → is_ascii (b ∷ bs) ≡ t → IsNotNil (text (b ∷ bs))
counted_some true b bs e = rw e tt
counted_some false b bs e = rw e tt

pub text_some : (s : List ℕ) → ends_word s ≡ false → IsNotNil (text s)
text_some [] e = absurd (cc)
text_some (b ∷ bs) e = counted_some (is_ascii (b ∷ bs)) b bs refl

pub key_some : (k : List ℕ) → ends_word k ≡ false → IsNotNil (key_tree k)
key_some k e = append_some (append (text k) (Text (58 ∷ []))) space (append_some (text k) (Text (58 ∷ [])) (text_some k e) tt) tt

pub marked_some : (t : Tree) (vs : Items) → IsNotNil t → IsNotNil (item_marked t vs)
marked_some t no_items h = h
marked_some t (item v vs) h = append_some t (Text (44 ∷ [])) h tt

pub member_marked_some : (t : Tree) (ms : Members) → IsNotNil t → IsNotNil (member_marked t ms)
member_marked_some t no_members h = h
member_marked_some t (g.member k v ms) h = append_some t (Text (44 ∷ [])) h tt

listed_some : (blanks fills : Bool) (a : ℕ) (b : Bool) (z k : ℕ) (xs : List Tree) → AreSome xs
    → IsNotNil (listed blanks fills (opening a b) xs (Text (z ∷ [])) (pos k))
listed_some blanks fills a true z k [] h = tt
listed_some blanks fills a false z k [] h = tt
listed_some blanks fills a b z k (x ∷ xs) h = subst IsNotNil (sym (listed_is blanks fills a b z k x xs h.0 h.1)) tt

mutual
  pub value_some : (style : Style) (v : Value) → IsFormed v → IsNotNil (tree style v)
  value_some style (alone s) h = text_some s h
  value_some style (array b vs) h = listed_some false (items_fill style.fill vs) 91 b 93 style.indent (item_trees style vs)
      (items_some style vs h)
  value_some style (object b ms) h = listed_some (not style.compact) false 123 b 125 style.indent (member_trees style ms)
      (members_some style ms h)

  pub items_some : (style : Style) (vs : Items) → AreFormedItems vs → AreSome (item_trees style vs)
  items_some style no_items h = tt
  items_some style (item v vs) h = (marked_some (tree style v) vs (value_some style v h.0), items_some style vs h.1)

  pub members_some : (style : Style) (ms : Members) → AreFormedMembers ms → AreSome (member_trees style ms)
  members_some style no_members h = tt
  members_some style (g.member k v ms) h = (
    member_marked_some (append (key_tree k) (tree style v)) ms
        (append_some (key_tree k) (tree style v) (key_some k (key_formed k h.0)) (value_some style v h.1)),
    members_some style ms h.2,
  )
