-- The texts of the document of an expression are its tokens.
use Rattle.std.proofs.Common.{◌≡◌, refl, subst, ℕ, ◌<◌, ◌^◌, length, pos, List, [], ◌∷◌, ◌++◌, append_assoc, append-nil, inl, arith}
use Rattle.std.specs.Fmt.{decimal}
use Rattle.std.proofs.lemmas.Fmt.{decimal_is_IsNumeral}
use Rattle.prettyless.specs.Built.{append, between, nest}
use Rattle.prettyless.specs.Counted.{as_string, text}
use Rattle.prettyless.specs.Lines.{line, space}
use Rattle.prettyless.specs.Shown.{text_items}
use Rattle.prettyless.specs.Shows.{Item, Shown, HasTexts, apart, shows, spaced}
use Rattle.prettyless.specs.Tree.{Tree, Text}
use Rattle.prettyless.proofs.ShownItems.{append_texts, as_string_shows, group_shows, line_shows, nest_shows, space_shows}
use Rattle.example_formatters.specs.Documents.{operation_of, document_of}
use Rattle.example_formatters.specs.Expression.{Expression, HasSmallNumbers, number, negation, sum, product}
use Rattle.example_formatters.specs.Tokens.{opening_token, closing_token, plus_token, times, minus}
use Rattle.example_formatters.proofs.ExpressionTokens.{in_parentheses, tokens_of}

-- a tree that shows one text
one_text : (x : Tree) (s : List ℕ) → shows x (Shown s ∷ []) → HasTexts x (s ∷ [])
one_text x s h = (Shown s ∷ [], h, tt, refl)

-- a tree that shows whatever another shows
same_texts : (x y : Tree) (ss : List (List ℕ)) → ((items : List Item) → shows x items → shows y items) → HasTexts x ss → HasTexts y ss
same_texts x y ss change h = (h.0, change h.0 h.1, h.2, h.3)

-- a text that is not empty is shown
some_text : (s : List ℕ) → 0 < length s → text_items s ≡ Shown s ∷ []
some_text [] some = absurd (omega arith)
some_text (b ∷ bs) some = refl

number_has : (n : ℕ) → n < 2 ^ 32 → HasTexts (as_string (decimal n)) (decimal n ∷ [])
number_has n small =
    let numeral = decimal_is_IsNumeral n (omega arith) in
    one_text (as_string (decimal n)) (decimal n)
    (subst (shows (as_string (decimal n))) (some_text (decimal n) numeral.0.0) (as_string_shows (decimal n)))

regrouped : (ls rs : List (List ℕ)) (operator : List ℕ) → (opening_token ∷ (((ls ++ []) ++ operator ∷ []) ++ rs)) ++ closing_token ∷ []
    ≡ in_parentheses ls operator rs
regrouped ls rs operator = simp (append-nil, append_assoc)

-- trees in parentheses with an operator between them
operation_has : (left right : Tree) (operator : List ℕ) (ls rs : List (List ℕ)) → HasTexts left ls
    → shows (text operator) (Shown operator ∷ []) → HasTexts right rs
    → HasTexts (operation_of left operator right) (in_parentheses ls operator rs)
operation_has left right operator ls rs h o k =
    let tail = append line right in
    let below = same_texts tail (nest (pos 2) tail) rs (nest_shows (pos 2) tail)
    (append_texts line right [] rs (apart ∷ [], line_shows, tt, refl) k) in
    let first = append_texts left space ls [] h (spaced ∷ [], space_shows, tt, refl) in
    let start = append_texts (append left space) (text operator) (ls ++ []) (operator ∷ []) first (one_text (text operator) operator o) in
    let inside = append (append (append left space) (text operator)) (nest (pos 2) tail) in
    let ss = ((ls ++ []) ++ operator ∷ []) ++ rs in
    let both = append_texts (append (append left space) (text operator)) (nest (pos 2) tail) ((ls ++ []) ++ operator ∷ []) rs start below in
    let opened = append_texts (Text opening_token) inside (opening_token ∷ []) ss
    (one_text (Text opening_token) opening_token (inl refl)) both in
    let closed = append_texts (append (Text opening_token) inside) (Text closing_token) (opening_token ∷ ss) (closing_token ∷ []) opened
    (one_text (Text closing_token) closing_token (inl refl)) in
    let whole = between 40 41 inside in
    subst (HasTexts (operation_of left operator right)) (regrouped ls rs operator)
    (same_texts whole (operation_of left operator right) ((opening_token ∷ ss) ++ closing_token ∷ []) (group_shows whole) closed)

-- the texts of the document of an expression are its tokens
pub document_has : (e : Expression) → HasSmallNumbers e → HasTexts (document_of e) (tokens_of e)
document_has (number n) small = number_has n small
document_has (negation e) small =
    append_texts (text minus) (document_of e) (minus ∷ []) (tokens_of e) (one_text (text minus) minus (inl refl)) (document_has e small)
document_has (sum l r) small =
    operation_has (document_of l) (document_of r) plus_token (tokens_of l) (tokens_of r) (document_has l small.0) (inl refl)
    (document_has r small.1)
document_has (product l r) small =
    operation_has (document_of l) (document_of r) times (tokens_of l) (tokens_of r) (document_has l small.0) (inl refl)
    (document_has r small.1)
