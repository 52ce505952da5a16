-- A text that is laid out has the lexemes that it had.
use Rattle.std.proofs.Common.{◌≡◌, refl, sym, ◌∙◌, ap, ℕ, ◌+◌, Bool, true, false, ◌==◌, ◌||◌, ◌⊎◌, inl, inr, List, [], ◌∷◌, ◌++◌}
use Rattle.std.proofs.Common.{length, drop, map, All, Option, Some, None, subst}
use Rattle.std.proofs.lemmas.Bool.{eqb-true, true≢false, or_cases}
use Rattle.std.proofs.lemmas.List.Elements.{All-head, All-tail}
use Rattle.toml_lexemes.specs.Bytes.{is_sign, is_blank, is_quote, ends_word}
use Rattle.text_lexemes.specs.Languages.{between}
use Rattle.toml_lexemes.specs.Lexemes.{cut_toml, toml_lexemes_of}
use Rattle.toml_lexemes.specs.SpacedLexemes.{toml_spaced_as, blanks}
use Rattle.toml_lexemes.specs.StatementLaws.{said_first, said}
use Rattle.toml_lexemes.specs.Statements.{role_of, word_parts, trimmed}
use Rattle.toml_lexemes.proofs.Gaps.{lexemes_alone}
use Rattle.toml_lexemes.proofs.TextsApart.{sign_alone}
use Rattle.toml_lexemes.proofs.Trimmed.{trimmed_twice}
use Rattle.toml_lexemes.proofs.WholeLexemes.{by_sign, no_lexeme, word_role}
use Rattle.toml_syntax.specs.TypedLexemes.{TomlLexeme, open_array, close_array, open_table, close_table, equals, comment, string, word}
use Rattle.toml_syntax.specs.TypedLexemes.{lexeme_bytes, typed, typed_spaced}
use Rattle.toml_syntax.specs.Tree.{Key, no_parts, with_word, with_string, Comments, no_comments, with_comment}
use Rattle.toml_syntax.specs.Tree.{TomlValue, plain, moment, quoted, array, table, ArrayItems, no_items, with_item, TableMembers}
use Rattle.toml_syntax.specs.Tree.{no_members, with_member}
use Rattle.toml_syntax.specs.Tree.{Body, note, header, pair, Remark, Statement}
use Rattle.toml_syntax.specs.Settled.{Style}
use Rattle.toml_syntax.specs.Content.{said_comments, said_value, said_items, said_members, said_body, said_remark, said_statement, content}
use Rattle.toml_syntax.specs.Formatted.{typed_lexemes_in, parsed, laid_out_if}
use Rattle.toml_syntax.specs.Kept.{with_kept, kept_lexemes}
use Rattle.toml_syntax.specs.Laws.{content_if, FormattedKeepLexemes}
use Rattle.toml_lexemes.proofs.Kept.{no_blank}
use Rattle.toml_syntax.proofs.Alone.{typed_word}
use Rattle.toml_syntax.proofs.FormattedAgain.{formatted_say_the_same, formatted_stay}
use Rattle.toml_syntax.proofs.ReadKept.{parsed_keep_lexemes}
use Rattle.toml_syntax.proofs.SpelledKept.{key_kept, comments_kept, value_kept, items_kept, members_kept, body_kept, remark_kept}
use Rattle.toml_syntax.proofs.SpelledKept.{statement_kept, statements_kept, statements_spelled}

-- the bytes of a lexeme, without blanks at the end of a comment
abbrev trimmed_bytes : TomlLexeme → List ℕ
trimmed_bytes (comment s) = trimmed s
trimmed_bytes l = lexeme_bytes l

parts_said : (ps : List (List ℕ)) (r : List TomlLexeme) → ps ++ map trimmed_bytes r ≡ map trimmed_bytes (map word ps ++ r)
parts_said [] r = refl
parts_said (p ∷ ps) r = ap (λ t. p ∷ t) (parts_said ps r)

-- ---- texts

-- a lexeme by its first byte says what is kept of it
abbrev Says : ℕ → List ℕ → List TomlLexeme → Type 0
Says x s r = said_first (role_of x) (x ∷ s) (map trimmed_bytes r) ≡ map trimmed_bytes (with_kept (typed (x ∷ s)) r)

module _ (x : ℕ) (s : List ℕ) (r : List TomlLexeme) (blank : is_blank x ≡ false) (alone : cut_toml between (x ∷ s) ≡ (x ∷ s) ∷ []) where
  at_byte : (c : ℕ) → Says c s r → (x == c) ≡ true → Says x s r
  at_byte c h e = subst (λ y. Says y s r) (sym (eqb-true x c e)) h

  sign_says : is_sign x ≡ true → Says x s r
  sign_says e =
      subst (λ t. Says x t r) (sym (sign_alone x s e blank alone)) (by_sign (λ y. Says y [] r) refl refl refl refl refl refl x e)

  by_quote : ((x == 34) ≡ true) ⊎ ((x == 39) ≡ true) → Says x s r
  by_quote (inl e) = at_byte 34 refl e
  by_quote (inr e) = at_byte 39 refl e

  by_blank : (is_sign x ≡ true) ⊎ (is_blank x ≡ true) → Says x s r
  by_blank (inl e) = sign_says e
  by_blank (inr e) = absurd (true≢false (sym e ∙ blank))

  by_string : ((is_sign x || is_blank x) ≡ true) ⊎ (is_quote x ≡ true) → Says x s r
  by_string (inl e) = by_blank (or_cases (is_sign x) (is_blank x) e)
  by_string (inr e) = by_quote (or_cases (x == 34) (x == 39) e)

  by_line_end : ((is_sign x || is_blank x || is_quote x) ≡ true) ⊎ ((x == 10) ≡ true) → Says x s r
  by_line_end (inl e) = by_string (or_cases (is_sign x || is_blank x) (is_quote x) e)
  by_line_end (inr e) = at_byte 10 refl e

  by_comment : ((is_sign x || is_blank x || is_quote x || (x == 10)) ≡ true) ⊎ ((x == 35) ≡ true) → Says x s r
  by_comment (inl e) = by_line_end (or_cases (is_sign x || is_blank x || is_quote x) (x == 10) e)
  by_comment (inr e) = at_byte 35 refl e

  by_word : (b : Bool) → ends_word x ≡ b → Says x s r
  by_word true e = by_comment (or_cases (is_sign x || is_blank x || is_quote x || (x == 10)) (x == 35) e)
  by_word false e =
      ap (λ p. said_first p (x ∷ s) (map trimmed_bytes r)) (word_role x e) ∙ parts_said (word_parts (x ∷ s)) r
      ∙ ap (λ l. map trimmed_bytes (with_kept l r)) (sym (typed_word x (x ∷ s) e))

said_as : (ss : List (List ℕ)) (bytes : List ℕ) → All (λ s. toml_lexemes_of s ≡ s ∷ []) ss
    → said ss ≡ map trimmed_bytes (kept_lexemes (map typed_spaced (toml_spaced_as bytes ss)))
said_as [] bytes h = refl
said_as ([] ∷ ss) bytes h = absurd (no_lexeme (All-head (λ s. toml_lexemes_of s ≡ s ∷ []) [] ss h))
said_as ((x ∷ s) ∷ ss) bytes h =
    let alone = All-head (λ s. toml_lexemes_of s ≡ s ∷ []) (x ∷ s) ss h in
    let rest = drop (length (blanks bytes) + length (x ∷ s)) bytes in
    let kept = kept_lexemes (map typed_spaced (toml_spaced_as rest ss)) in
    ap (said_first (role_of x) (x ∷ s)) (said_as ss rest (All-tail (λ s. toml_lexemes_of s ≡ s ∷ []) (x ∷ s) ss h))
    ∙ by_word x s kept (no_blank x s alone) alone (ends_word x) refl

said_kept : (text : List ℕ) → said (toml_lexemes_of text) ≡ map trimmed_bytes (kept_lexemes (typed_lexemes_in text))
said_kept text = said_as (toml_lexemes_of text) text (lexemes_alone text)

-- ---- trees

-- lexemes that differ in blanks at the end of comments alone
abbrev AreAlike : List TomlLexeme → List TomlLexeme → Type 0
AreAlike r q = map trimmed_bytes r ≡ map trimmed_bytes q

front_alike : (l : TomlLexeme) (r q : List TomlLexeme) → AreAlike r q → AreAlike (l ∷ r) (l ∷ q)
front_alike l r q e = ap (λ t. trimmed_bytes l ∷ t) e

word_alike : (w : List ℕ) (r q : List TomlLexeme) → AreAlike r q → AreAlike (with_kept (word w) r) (with_kept (word w) q)
word_alike w r q e = sym (parts_said (word_parts w) r) ∙ ap (λ t. word_parts w ++ t) e ∙ parts_said (word_parts w) q

comment_alike : (s : List ℕ) (r q : List TomlLexeme) → AreAlike r q → AreAlike (comment s ∷ r) (comment (trimmed s) ∷ q)
comment_alike s r q e = ap (λ t. trimmed s ∷ t) e ∙ ap (λ t. t ∷ map trimmed_bytes q) (sym (trimmed_twice s))

key_alike : (k : Key) (r q : List TomlLexeme) → AreAlike r q → AreAlike (key_kept k r) (key_kept k q)
key_alike no_parts r q e = e
key_alike (with_word k w) r q e = key_alike k (with_kept (word w) r) (with_kept (word w) q) (word_alike w r q e)
key_alike (with_string k s) r q e = key_alike k (string s ∷ r) (string s ∷ q) (front_alike (string s) r q e)

comments_alike : (cs : Comments) (r q : List TomlLexeme) → AreAlike r q → AreAlike (comments_kept cs r) (comments_kept (said_comments cs) q)
comments_alike no_comments r q e = e
comments_alike (with_comment cs l s) r q e = comments_alike cs (comment s ∷ r) (comment (trimmed s) ∷ q) (comment_alike s r q e)

mutual
  value_alike : (v : TomlValue) (r q : List TomlLexeme) → AreAlike r q → AreAlike (value_kept v r) (value_kept (said_value v) q)
  value_alike (plain w) r q e = word_alike w r q e
  value_alike (moment d t) r q e = word_alike d (with_kept (word t) r) (with_kept (word t) q) (word_alike t r q e)
  value_alike (quoted s) r q e = front_alike (string s) r q e
  value_alike (array cs is b l) r q e =
      let r' = items_kept is (close_array ∷ r) in
      let q' = items_kept (said_items is) (close_array ∷ q) in
      front_alike open_array (comments_kept cs r') (comments_kept (said_comments cs) q')
      (comments_alike cs r' q' (items_alike is (close_array ∷ r) (close_array ∷ q) (front_alike close_array r q e)))
  value_alike (table ms) r q e =
      front_alike open_table (members_kept ms (close_table ∷ r)) (members_kept (said_members ms) (close_table ∷ q))
      (members_alike ms (close_table ∷ r) (close_table ∷ q) (front_alike close_table r q e))

  items_alike : (is : ArrayItems) (r q : List TomlLexeme) → AreAlike r q → AreAlike (items_kept is r) (items_kept (said_items is) q)
  items_alike no_items r q e = e
  items_alike (with_item is l v cs) r q e =
      let r' = comments_kept cs r in
      let q' = comments_kept (said_comments cs) q in
      items_alike is (value_kept v r') (value_kept (said_value v) q') (value_alike v r' q' (comments_alike cs r q e))

  members_alike : (ms : TableMembers) (r q : List TomlLexeme) → AreAlike r q
      → AreAlike (members_kept ms r) (members_kept (said_members ms) q)
  members_alike no_members r q e = e
  members_alike (with_member ms k v) r q e =
      let r' = equals ∷ value_kept v r in
      let q' = equals ∷ value_kept (said_value v) q in
      members_alike ms (key_kept k r') (key_kept k q')
      (key_alike k r' q' (front_alike equals (value_kept v r) (value_kept (said_value v) q) (value_alike v r q e)))

body_alike : (b : Body) (r q : List TomlLexeme) → AreAlike r q → AreAlike (body_kept b r) (body_kept (said_body b) q)
body_alike (note s) r q e = comment_alike s r q e
body_alike (header false k) r q e =
    front_alike open_array (key_kept k (close_array ∷ r)) (key_kept k (close_array ∷ q))
    (key_alike k (close_array ∷ r) (close_array ∷ q) (front_alike close_array r q e))
body_alike (header true k) r q e =
    let r' = close_array ∷ close_array ∷ r in
    let q' = close_array ∷ close_array ∷ q in
    front_alike open_array (open_array ∷ key_kept k r') (open_array ∷ key_kept k q')
    (front_alike open_array (key_kept k r') (key_kept k q')
    (key_alike k r' q' (front_alike close_array (close_array ∷ r) (close_array ∷ q) (front_alike close_array r q e))))
body_alike (pair k g v) r q e =
    key_alike k (equals ∷ value_kept v r) (equals ∷ value_kept (said_value v) q)
    (front_alike equals (value_kept v r) (value_kept (said_value v) q) (value_alike v r q e))

remark_alike : (c : Option Remark) (r q : List TomlLexeme) → AreAlike r q → AreAlike (remark_kept c r) (remark_kept (said_remark c) q)
remark_alike None r q e = e
remark_alike (Some c) r q e = comment_alike c.text r q e

statement_alike : (s : Statement) (r q : List TomlLexeme) → AreAlike r q
    → AreAlike (statement_kept s r) (statement_kept (said_statement s) q)
statement_alike s r q e =
    body_alike s.body (remark_kept s.remark r) (remark_kept (said_remark s.remark) q) (remark_alike s.remark r q e)

statements_alike : (ss : List Statement) → AreAlike (statements_kept ss) (statements_kept (content ss))
statements_alike [] = refl
statements_alike (s ∷ ss) = statement_alike s (statements_kept ss) (statements_kept (content ss)) (statements_alike ss)

-- ---- texts laid out

-- what is said by the statements that are read
abbrev said_if : Option (List Statement) → List (List ℕ)
said_if None = []
said_if (Some ss) = map trimmed_bytes (statements_kept ss)

said_by_content : (text : List ℕ) (ss : List Statement) → parsed text ≡ Some ss
    → said (toml_lexemes_of text) ≡ said_if (content_if (parsed text))
said_by_content text ss e =
    said_kept text ∙ ap (map trimmed_bytes) (sym (parsed_keep_lexemes text ss e) ∙ statements_spelled ss) ∙ statements_alike ss
    ∙ ap (λ r. said_if (content_if r)) (sym e)

laid_parsed : (s : Style) (r : Option (List Statement)) (out : List ℕ) → laid_out_if s r ≡ Some out → (ss : List Statement) × (r ≡ Some ss)
laid_parsed s None out h = absurd (cc)
laid_parsed s (Some ss) out h = (ss, refl)

pub formatted_keep_lexemes : FormattedKeepLexemes
formatted_keep_lexemes s style text out h =
    let before = laid_parsed s (parsed text) out h in
    let after = laid_parsed s (parsed out) out (formatted_stay s style text out h) in
    said_by_content out after.0 after.1 ∙ ap said_if (formatted_say_the_same s style text out h)
    ∙ sym (said_by_content text before.0 before.1)
