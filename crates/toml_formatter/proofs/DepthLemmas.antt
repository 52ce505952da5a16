-- How deep brackets are, while lexemes are taken.
use Rattle.std.proofs.Common.{◌≡◌, refl, sym, ◌∙◌, ap, subst, inl, inr, Result, Ok, Err, ℕ, ◌+◌, ◌-◌, ◌≤◌}
use Rattle.std.proofs.Common.{◌||◌, true, false, List, []}
use Rattle.std.proofs.Common.{◌∷◌, ltb, arith}
use Rattle.std.specs.Result.{IfErr, IsErrAnd}
use Rattle.toml_lexemes.specs.Bytes.{line_feed}
use Rattle.toml_lexemes.specs.Lexemes.{toml_lexemes_of}
use Rattle.toml_lexemes.specs.View.{toml_text_of, HasTomlKind}
use Rattle.toml_lexemes.specs.declared.lexeme.Lexeme.{Lexeme}
use Rattle.toml_lexemes.specs.declared.lexeme.Lexeme.TheVariants as lexeme
use Rattle.toml_grammar.specs.Sorts.{sort_of}
use Rattle.toml_grammar.specs.Nesting.{depth_after, max_brackets, nest_too_deep}
use Rattle.toml_grammar.proofs.Depths.{depth_step, comment_depth, string_depth, word_depth}
use Rattle.toml_formatter.specs.Depths.{TakesWithin}
use Rattle.toml_formatter.specs.Errors.{IsFormatMemory, IsRefusalWithin, IsRefusalOf}
use Rattle.toml_documents.specs.Kinds.{is_closing, is_opening, IsPart}
use Rattle.toml_documents.specs.Lexing.{ClosesNext}
use Rattle.toml_formatter.specs.declared.error.FormatError.{FormatError}
use Rattle.toml_formatter.specs.declared.error.FormatError.TheVariants.{NotToml, TooDeep, Memory}

-- ---- one lexeme

opening_depth : (x : Lexeme) → is_opening x ≡ true → (n : ℕ) → depth_after (sort_of (toml_text_of x)) n ≡ n + 1
opening_depth lexeme.OpenArray e n = refl
opening_depth lexeme.OpenTable e n = refl
opening_depth lexeme.CloseArray e n = absurd (cc)
opening_depth lexeme.CloseTable e n = absurd (cc)
opening_depth lexeme.Comma e n = absurd (cc)
opening_depth lexeme.Equals e n = absurd (cc)
opening_depth lexeme.LineEnd e n = absurd (cc)
opening_depth (lexeme.Comment s) e n = absurd (cc)
opening_depth (lexeme.String s) e n = absurd (cc)
opening_depth (lexeme.Word s) e n = absurd (cc)

closing_depth : (x : Lexeme) → is_closing x ≡ true → (n : ℕ) → depth_after (sort_of (toml_text_of x)) n ≡ n - 1
closing_depth lexeme.CloseArray e n = refl
closing_depth lexeme.CloseTable e n = refl
closing_depth lexeme.OpenArray e n = absurd (cc)
closing_depth lexeme.OpenTable e n = absurd (cc)
closing_depth lexeme.Comma e n = absurd (cc)
closing_depth lexeme.Equals e n = absurd (cc)
closing_depth lexeme.LineEnd e n = absurd (cc)
closing_depth (lexeme.Comment s) e n = absurd (cc)
closing_depth (lexeme.String s) e n = absurd (cc)
closing_depth (lexeme.Word s) e n = absurd (cc)

plain_depth : (x : Lexeme) → HasTomlKind x → is_opening x ≡ false → is_closing x ≡ false → (n : ℕ)
    → depth_after (sort_of (toml_text_of x)) n ≡ n
plain_depth lexeme.OpenArray named e f n = absurd (cc)
plain_depth lexeme.OpenTable named e f n = absurd (cc)
plain_depth lexeme.CloseArray named e f n = absurd (cc)
plain_depth lexeme.CloseTable named e f n = absurd (cc)
plain_depth lexeme.Comma named e f n = refl
plain_depth lexeme.Equals named e f n = refl
plain_depth lexeme.LineEnd named e f n = refl
plain_depth (lexeme.Comment s) named e f n = comment_depth s.now named n
plain_depth (lexeme.String s) named e f n = string_depth s.now named n
plain_depth (lexeme.Word s) named e f n = word_depth s.now named n

-- ---- what is taken

-- a lexeme that is no bracket is within any depth
pub plain_within : (x : Lexeme) → HasTomlKind x → is_opening x ≡ false → is_closing x ≡ false
    → (depth : ℕ) (ss : List (List ℕ))
    → TakesWithin depth (toml_text_of x ∷ ss) ss
plain_within x named e f depth ss n h = depth_step (toml_text_of x) ss n n (plain_depth x named e f n) (omega (arith, h))

-- a part of a value that is no list
pub part_within : (x : Lexeme) → HasTomlKind x → IsPart x → is_opening x ≡ false → (depth : ℕ) (ss : List (List ℕ))
    → TakesWithin depth (toml_text_of x ∷ ss) ss
part_within x named part e depth ss = plain_within x named e (no_closing x part) depth ss
  where
    no_closing : (x : Lexeme) → IsPart x → is_closing x ≡ false
    no_closing lexeme.OpenArray part = refl
    no_closing lexeme.OpenTable part = refl
    no_closing lexeme.CloseArray part = absurd part
    no_closing lexeme.CloseTable part = absurd part
    no_closing lexeme.Comma part = refl
    no_closing lexeme.Equals part = refl
    no_closing lexeme.LineEnd part = refl
    no_closing (lexeme.Comment s) part = refl
    no_closing (lexeme.String s) part = refl
    no_closing (lexeme.Word s) part = refl

-- outside of brackets a closing one closes none
pub closing_within : (x : Lexeme) → is_closing x ≡ true → (ss : List (List ℕ))
    → TakesWithin max_brackets (toml_text_of x ∷ ss) ss
closing_within x e ss n h =
    let same : n - 1 ≡ n = omega (arith, h) in
    depth_step (toml_text_of x) ss n n (closing_depth x e n ∙ same) (omega (arith, h))

-- in brackets so many are open more, where one less may be
opened : (x : Lexeme) → is_opening x ≡ true → (depth : ℕ) → 1 ≤ depth → (ss : List (List ℕ)) (n : ℕ)
    → n + depth ≡ max_brackets
    → nest_too_deep n (toml_text_of x ∷ ss) ≡ nest_too_deep (n + 1) ss
opened x e depth some ss n h =
    depth_step (toml_text_of x) ss n (n + 1) (opening_depth x e n) (omega (arith, h, some))

-- a list in whose brackets one less may be open
pub list_within : (x : Lexeme) → is_opening x ≡ true → (y : Lexeme) → is_closing y ≡ true → (depth : ℕ) → 1 ≤ depth
    → (old left : List (List ℕ)) → TakesWithin (depth - 1) old (toml_text_of y ∷ left)
    → TakesWithin depth (toml_text_of x ∷ old) left
list_within x o y c depth some old left inside n h =
    let back : n + 1 - 1 ≡ n = omega arith in
    let deeper : n + 1 + (depth - 1) ≡ max_brackets = omega (arith, h, some) in
    opened x o depth some old n h ∙ inside (n + 1) deeper
    ∙ depth_step (toml_text_of y) left (n + 1) n (closing_depth y c (n + 1) ∙ back) (omega (arith, h))

rest_of : List (List ℕ) → List (List ℕ)
rest_of [] = []
rest_of (s ∷ ss) = ss

-- the same, where what comes next is known to close it
pub closed_within : (x : Lexeme) → is_opening x ≡ true → (depth : ℕ) → 1 ≤ depth
    → (old : List (List ℕ)) {ss : List (List ℕ)} (s : List ℕ)
    (left : List (List ℕ)) → ss ≡ s ∷ left → ClosesNext ss → TakesWithin (depth - 1) old ss
    → TakesWithin depth (toml_text_of x ∷ old) left
unfolding rest_of
closed_within x o depth some old s left is (inl e) inside = absurd (cc)
closed_within x o depth some old s left is (inr (y, rest, e, c)) inside = λ n h.
    list_within x o y c depth some old rest (λ m k. inside m k ∙ ap (λ ss. nest_too_deep m ss) e) n h
    ∙ ap (λ ss. nest_too_deep n ss) (ap rest_of (sym e ∙ is))

-- a list that the text ends in
pub ended_within : (x : Lexeme) → is_opening x ≡ true → (depth : ℕ) → 1 ≤ depth
    → (old : List (List ℕ)) {ss left : List (List ℕ)} → ss ≡ []
    → left ≡ [] → TakesWithin (depth - 1) old ss → TakesWithin depth (toml_text_of x ∷ old) left
ended_within x o depth some old is none inside = λ n h.
    let deeper : n + 1 + (depth - 1) ≡ max_brackets = omega (arith, h, some) in
    opened x o depth some old n h ∙ inside (n + 1) deeper ∙ ap (λ ss. nest_too_deep (n + 1) ss) is
    ∙ ap (λ ss. nest_too_deep n ss) (sym none)

-- a line end outside of brackets
pub line_end_within : (ss : List (List ℕ)) → TakesWithin max_brackets ((line_feed ∷ []) ∷ ss) ss
line_end_within ss n h = depth_step (line_feed ∷ []) ss n n refl (omega (arith, h))

-- lexemes, and then more
pub next_within : (depth : ℕ) (old left : List (List ℕ)) {between next : List (List ℕ)} → TakesWithin depth old between
    → between ≡ next
    → TakesWithin depth next left → TakesWithin depth old left
next_within depth old left f e g n h = f n h ∙ ap (λ ss. nest_too_deep n ss) e ∙ g n h

-- ---- refusals

-- what a `?` returns that passes an error on
pub passed_on : {T : Type 0} (P : FormatError → Type 0) (r : Result T FormatError) (e : FormatError) → IsErrAnd r (λ y. y ≡ e)
    → P e
    → IfErr r P
passed_on P (Ok x) e h p = tt
passed_on P (Err y) e h p = subst P (sym h) p

-- what a `?` returns where memory was refused
pub of_memory : {T : Type 0} (P : FormatError → Type 0) (r : Result T FormatError) → ((e : FormatError) → IsFormatMemory e → P e)
    → IsErrAnd r IsFormatMemory → IfErr r P
of_memory P (Ok x) f h = tt
of_memory P (Err y) f h = f y h

-- where memory was refused
pub memory_within : (depth : ℕ) (ss : List (List ℕ)) (e : FormatError) → IsFormatMemory e → IsRefusalWithin depth ss e
memory_within depth ss NotToml h = absurd h
memory_within depth ss TooDeep h = absurd h
memory_within depth ss (Memory x) h = tt

pub memory_of : (text : List ℕ) (e : FormatError) → IsFormatMemory e → IsRefusalOf text e
memory_of text NotToml h = absurd h
memory_of text TooDeep h = absurd h
memory_of text (Memory x) h = tt

-- no bracket may be open, and one more is
pub bracket_refused : (x : Lexeme) → is_opening x ≡ true → (ss : List (List ℕ))
    → IsRefusalWithin 0 (toml_text_of x ∷ ss) TooDeep
bracket_refused x o ss n h =
    let full : n ≡ 128 = omega (arith, h) in
    ap (λ k. ltb max_brackets k || nest_too_deep k ss) (opening_depth x o n ∙ ap (λ k. k + 1) full)

-- what is in brackets is refused
pub list_refused : (x : Lexeme) → is_opening x ≡ true → (depth : ℕ) → 1 ≤ depth → (old : List (List ℕ)) (e : FormatError)
    → IsRefusalWithin (depth - 1) old e → IsRefusalWithin depth (toml_text_of x ∷ old) e
list_refused x o depth some old NotToml h = absurd h
list_refused x o depth some old TooDeep h = λ n e.
    let deeper : n + 1 + (depth - 1) ≡ max_brackets = omega (arith, e, some) in
    opened x o depth some old n e ∙ h (n + 1) deeper
list_refused x o depth some old (Memory y) h = tt

-- what comes after these lexemes is refused
pub refused_after : (depth : ℕ) (old : List (List ℕ)) {between next : List (List ℕ)} (e : FormatError)
    → TakesWithin depth old between
    → between ≡ next → IsRefusalWithin depth next e → IsRefusalWithin depth old e
refused_after depth old NotToml f is h = absurd h
refused_after depth old TooDeep f is h = λ n e. f n e ∙ ap (λ ss. nest_too_deep n ss) is ∙ h n e
refused_after depth old (Memory x) f is h = tt

-- a text of which the lexemes that are left are refused
pub text_refused : (text : List ℕ) {between next : List (List ℕ)} (e : FormatError)
    → TakesWithin max_brackets (toml_lexemes_of text) between
    → between ≡ next → IsRefusalWithin max_brackets next e → IsRefusalOf text e
text_refused text NotToml f is h = absurd h
text_refused text TooDeep f is h = f 0 refl ∙ ap (λ ss. nest_too_deep 0 ss) is ∙ h 0 refl
text_refused text (Memory x) f is h = tt
