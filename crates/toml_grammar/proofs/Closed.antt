-- A valid string is closed.
use Rattle.std.proofs.Common.{◌≡◌, ℕ, ◌-◌, Bool, true, false, cond, ◌==◌, ◌&&◌, ◌||◌, nat_lt, nat_le, List, [], ◌∷◌, inl, inr, refl, sym}
use Rattle.std.proofs.Common.{ap, subst}
use Rattle.std.proofs.lemmas.Bool.{cases_Bool, eqb-true, or_parts}
use Rattle.std.specs.Prelude.{⊤}
use Rattle.std.specs.List.{fold}
use Rattle.std.specs.Char.{is_digit}
use Rattle.toml_lexemes.specs.Bytes.{is_quote}
use Rattle.text_lexemes.specs.Languages.{LexerMode, between, within, Turn, stops}
use Rattle.toml_lexemes.specs.Lexemes.{Inner, StringKind, basic, literal, quote_mark, in_comment, opened, doubled, in_line}
use Rattle.toml_lexemes.specs.Lexemes.{in_line_escape, in_lines, in_lines_escape, closing, closing_more, closed, closed_more, first}
use Rattle.toml_lexemes.specs.Lexemes.{line_turn, lines_turn, turn, begins_line_feed}
use Rattle.toml_lexemes.specs.Spaced.{mode_first, mode_turn, mode_after, EndsBefore, MayFollow}
use Rattle.toml_grammar.specs.declared.string.Quoting.{Quoting}
use Rattle.toml_grammar.specs.declared.string.Quoting.TheVariants.{Basic, Literal}
use Rattle.toml_grammar.specs.declared.string.StringPlace.{StringPlace}
use Rattle.toml_grammar.specs.declared.string.StringPlace.TheVariants.{Start, Opened, Doubled, InLine, EndedLine, InLines, Returned}
use Rattle.toml_grammar.specs.declared.string.StringPlace.TheVariants.{Closing}
use Rattle.toml_grammar.specs.declared.string.StringPlace.TheVariants.{ClosingMore, Closed, ClosedMore, EndedLines, Escaped, Folded, Hex}
use Rattle.toml_grammar.specs.declared.string.StringPlace.TheVariants.{Wrong}
use Rattle.toml_grammar.specs.Bytes.{is_non_eol}
use Rattle.toml_grammar.specs.Strings.{line_place, lines_place, is_escape_letter, folded_place, escaped_place, is_scalar, after_hex}
use Rattle.toml_grammar.specs.Strings.{hex_place, string_next, string_place, ends_line_string, ends_lines_string, is_key_string, is_string}

abbrev kind_of : Quoting → StringKind
kind_of Basic = basic
kind_of Literal = literal

-- the mode of a lexer at each place
abbrev mode_of : StringPlace → LexerMode Inner
mode_of Start = between
mode_of (Opened k) = within (opened (kind_of k))
mode_of (Doubled k) = within (doubled (kind_of k))
mode_of (InLine k) = within (in_line (kind_of k))
mode_of EndedLine = between
mode_of (InLines k) = within (in_lines (kind_of k))
mode_of (Returned k) = within (in_lines (kind_of k))
mode_of (Closing k) = within (closing (kind_of k))
mode_of (ClosingMore k) = within (closing_more (kind_of k))
mode_of (Closed k) = within (closed (kind_of k))
mode_of (ClosedMore k) = within (closed_more (kind_of k))
mode_of EndedLines = between
mode_of (Escaped lines) = cond lines (within in_lines_escape) (within in_line_escape)
mode_of Folded = within (in_lines basic)
mode_of (Hex lines due value) = cond lines (within (in_lines basic)) (within (in_line basic))
mode_of Wrong = between

-- a lexer has the mode of the place, unless that is none of a string
abbrev Agrees : LexerMode Inner → StringPlace → Type 0
Agrees m Wrong = ⊤
Agrees m p = m ≡ mode_of p

-- ---- one byte

-- by one test on both sides
agrees_both : (b : Bool) (t u : Turn Inner) (p r : StringPlace) → Agrees (mode_turn t) p → Agrees (mode_turn u) r
    → Agrees (mode_turn (cond b t u)) (cond b p r)
agrees_both true t u p r f g = f
agrees_both false t u p r f g = g

-- by a test on the place alone
agrees_either : (m : LexerMode Inner) (b : Bool) (p r : StringPlace) → Agrees m p → Agrees m r → Agrees m (cond b p r)
agrees_either m true p r f g = f
agrees_either m false p r f g = g

-- at one byte, and at each other
by_byte : (F : ℕ → Type 0) (y x : ℕ) → F y → ((x == y) ≡ false → F x) → F x
by_byte F y x at other =
    elim (cases_Bool (x == y)) [ inl same ↦ subst F (sym (eqb-true x y same)) at | inr not ↦ other not ]

-- in a string of one line
agrees_line : (k : Quoting) (x : ℕ) → Agrees (mode_turn (line_turn (kind_of k) x)) (line_place k x)
agrees_line Basic x =
    let F : ℕ → Type 0 = λ y. Agrees (mode_turn (line_turn basic y)) (line_place Basic y) in
    by_byte F 10 x tt (λ no_feed. by_byte F 34 x refl (λ no_quote. by_byte F 92 x refl (λ no_slash.
    rw (no_feed, no_quote, no_slash) (agrees_either _ (is_non_eol x) (InLine Basic) Wrong refl tt))))
agrees_line Literal x =
    let F : ℕ → Type 0 = λ y. Agrees (mode_turn (line_turn literal y)) (line_place Literal y) in
    by_byte F 10 x tt (λ no_feed. by_byte F 39 x refl (λ no_quote.
    rw (no_feed, no_quote) (agrees_either _ (is_non_eol x) (InLine Literal) Wrong refl tt)))

-- in a string of several lines
agrees_in_lines : (k : Quoting) (x : ℕ) → Agrees (within (in_lines (kind_of k)))
    (cond (is_non_eol x || (x == 10)) (InLines k) (cond (x == 13) (Returned k) Wrong))
agrees_in_lines k x = agrees_either _ (is_non_eol x || (x == 10)) _ _ refl (agrees_either _ (x == 13) (Returned k) Wrong refl tt)

agrees_lines : (k : Quoting) (x : ℕ) → Agrees (mode_turn (lines_turn (kind_of k) x)) (lines_place k x)
agrees_lines Basic x =
    agrees_both (x == 34) _ _ (Closing Basic) _ refl
    (agrees_both (x == 92) _ _ (Escaped true) _ refl (agrees_in_lines Basic x))
agrees_lines Literal x = agrees_both (x == 39) _ _ (Closing Literal) _ refl (agrees_in_lines Literal x)

-- after a backslash
agrees_folded : (x : ℕ) → Agrees (within (in_lines basic)) (folded_place x)
agrees_folded x =
    agrees_either _ ((x == 32) || (x == 9)) Folded _ refl
    (agrees_either _ (x == 10) (InLines Basic) _ refl (agrees_either _ (x == 13) (Returned Basic) Wrong refl tt))

agrees_escaped_lines : (x : ℕ) → Agrees (within (in_lines basic)) (escaped_place true x)
agrees_escaped_lines x =
    agrees_either _ (is_escape_letter x) (InLines Basic) _ refl
    (agrees_either _ (x == 117) (Hex true 4 0) _ refl (agrees_either _ (x == 85) (Hex true 8 0) _ refl (agrees_folded x)))

agrees_escaped_line : (x : ℕ) → Agrees (within (in_line basic)) (escaped_place false x)
agrees_escaped_line x =
    agrees_either _ (is_escape_letter x) (InLine Basic) _ refl
    (agrees_either _ (x == 117) (Hex false 4 0) _ refl (agrees_either _ (x == 85) (Hex false 8 0) Wrong refl tt))

agrees_escaped : (lines : Bool) (x : ℕ) (b : Bool)
    → Agrees (mode_turn (turn (cond lines in_lines_escape in_line_escape) x b)) (escaped_place lines x)
agrees_escaped true x b = agrees_escaped_lines x
agrees_escaped false x b =
    let F : ℕ → Type 0 = λ y. Agrees (mode_turn (turn in_line_escape y b)) (escaped_place false y) in
    by_byte F 10 x tt (λ no_feed. rw no_feed (agrees_escaped_line x))

-- in an escape in hex digits, none of which ends a line or a string, or begins an escape
agrees_after_hex_lines : (due value : ℕ) → Agrees (within (in_lines basic)) (after_hex true due value)
agrees_after_hex_lines due value =
    agrees_either _ (nat_lt 1 due) (Hex true (due - 1) value) _ refl (agrees_either _ (is_scalar value) (InLines Basic) Wrong refl tt)

agrees_after_hex_line : (due value : ℕ) → Agrees (within (in_line basic)) (after_hex false due value)
agrees_after_hex_line due value =
    agrees_either _ (nat_lt 1 due) (Hex false (due - 1) value) _ refl (agrees_either _ (is_scalar value) (InLine Basic) Wrong refl tt)

agrees_hex : (lines : Bool) (due value x : ℕ) (b : Bool)
    → Agrees (mode_turn (turn (cond lines (in_lines basic) (in_line basic)) x b)) (hex_place lines due value x)
agrees_hex true due value x b =
    let F : ℕ → Type 0 = λ y. Agrees (mode_turn (lines_turn basic y)) (hex_place true due value y) in
    by_byte F 34 x tt (λ no_quote. by_byte F 92 x tt (λ no_slash.
    rw (no_quote, no_slash) (agrees_either _ (is_digit x 16 && nat_le value 0x10_FFFF) _ Wrong (agrees_after_hex_lines due _) tt)))
agrees_hex false due value x b =
    let F : ℕ → Type 0 = λ y. Agrees (mode_turn (line_turn basic y)) (hex_place false due value y) in
    by_byte F 10 x tt (λ no_feed. by_byte F 34 x tt (λ no_quote. by_byte F 92 x tt (λ no_slash.
    rw (no_feed, no_quote, no_slash) (agrees_either _ (is_digit x 16 && nat_le value 0x10_FFFF) _ Wrong (agrees_after_hex_line due _) tt))))

-- at the first byte
agrees_first : (x : ℕ) → Agrees (mode_first (first x)) (string_next Start x)
agrees_first x =
    let F : ℕ → Type 0 = λ y. Agrees (mode_first (first y)) (string_next Start y) in
    by_byte F 34 x refl (λ no_quote. by_byte F 39 x refl (λ no_apostrophe.
    let none : string_next Start x ≡ Wrong = rw (no_quote, no_apostrophe) refl in
    subst (Agrees (mode_first (first x))) (sym none) tt))

-- the mode after a byte
abbrev mode_next : LexerMode Inner → ℕ → Bool → LexerMode Inner
mode_next between x b = mode_first (first x)
mode_next (within i) x b = mode_turn (turn i x b)

mode_after-next : (m : LexerMode Inner) (x : ℕ) (xs : List ℕ) → mode_after m (x ∷ xs) ≡ mode_after (mode_next m x (begins_line_feed xs)) xs
mode_after-next between x xs = refl
mode_after-next (within i) x xs = refl

-- at the byte x in the mode of the place p
abbrev AgreesNext : StringPlace → ℕ → Bool → Type 0
AgreesNext p x b = Agrees (mode_next (mode_of p) x b) (string_next p x)

agrees_next : (p : StringPlace) (x : ℕ) (b : Bool) → AgreesNext p x b
agrees_next Start x b = agrees_first x
agrees_next (Opened Basic) x b = agrees_both (x == 34) _ _ (Doubled Basic) _ refl (agrees_line Basic x)
agrees_next (Opened Literal) x b = agrees_both (x == 39) _ _ (Doubled Literal) _ refl (agrees_line Literal x)
agrees_next (Doubled Basic) x b = agrees_both (x == 34) _ _ (InLines Basic) Wrong refl tt
agrees_next (Doubled Literal) x b = agrees_both (x == 39) _ _ (InLines Literal) Wrong refl tt
agrees_next (InLine k) x b = agrees_line k x
agrees_next EndedLine x b = tt
agrees_next (InLines k) x b = agrees_lines k x
agrees_next (Returned Basic) x b =
    let F : ℕ → Type 0 = λ y. Agrees (mode_turn (lines_turn basic y)) (string_next (Returned Basic) y) in
    by_byte F 10 x refl (λ no_feed.
    subst (λ t. Agrees (mode_turn (lines_turn basic x)) (cond t (InLines Basic) Wrong)) (sym no_feed) tt)
agrees_next (Returned Literal) x b =
    let F : ℕ → Type 0 = λ y. Agrees (mode_turn (lines_turn literal y)) (string_next (Returned Literal) y) in
    by_byte F 10 x refl (λ no_feed.
    subst (λ t. Agrees (mode_turn (lines_turn literal x)) (cond t (InLines Literal) Wrong)) (sym no_feed) tt)
agrees_next (Closing Basic) x b = agrees_both (x == 34) _ _ (ClosingMore Basic) _ refl (agrees_lines Basic x)
agrees_next (Closing Literal) x b = agrees_both (x == 39) _ _ (ClosingMore Literal) _ refl (agrees_lines Literal x)
agrees_next (ClosingMore Basic) x b = agrees_both (x == 34) _ _ (Closed Basic) _ refl (agrees_lines Basic x)
agrees_next (ClosingMore Literal) x b = agrees_both (x == 39) _ _ (Closed Literal) _ refl (agrees_lines Literal x)
agrees_next (Closed Basic) x b = agrees_both (x == 34) _ _ (ClosedMore Basic) Wrong refl tt
agrees_next (Closed Literal) x b = agrees_both (x == 39) _ _ (ClosedMore Literal) Wrong refl tt
agrees_next (ClosedMore Basic) x b = agrees_both (x == 34) _ _ EndedLines Wrong refl tt
agrees_next (ClosedMore Literal) x b = agrees_both (x == 39) _ _ EndedLines Wrong refl tt
agrees_next EndedLines x b = tt
agrees_next (Escaped true) x b = agrees_escaped true x b
agrees_next (Escaped false) x b = agrees_escaped false x b
agrees_next Folded x b =
    let F : ℕ → Type 0 = λ y. Agrees (mode_turn (lines_turn basic y)) (folded_place y) in
    by_byte F 34 x tt (λ no_quote. by_byte F 92 x tt (λ no_slash. rw (no_quote, no_slash) (agrees_folded x)))
agrees_next (Hex true due value) x b = agrees_hex true due value x b
agrees_next (Hex false due value) x b = agrees_hex false due value x b
agrees_next Wrong x b = tt

-- in a mode that agrees
agrees_on : (p : StringPlace) (m : LexerMode Inner) → Agrees m p → (x : ℕ) (b : Bool) → Agrees (mode_next m x b) (string_next p x)
agrees_on Wrong m h x b = tt
agrees_on p m h x b = subst (λ n. Agrees (mode_next n x b) (string_next p x)) (sym h) (agrees_next p x b)

agrees_after : (s : List ℕ) (m : LexerMode Inner) (p : StringPlace) → Agrees m p → Agrees (mode_after m s) (fold string_next p s)
agrees_after [] m p h = h
agrees_after (x ∷ xs) m p h =
    subst (λ n. Agrees n (fold string_next (string_next p x) xs)) (sym (mode_after-next m x xs))
    (agrees_after xs (mode_next m x (begins_line_feed xs)) (string_next p x) (agrees_on p m h x (begins_line_feed xs)))

-- ---- at the end

-- a byte that is no quote stops where the same quote would go on
no_mark : (k : Quoting) (t : Turn Inner) (x : ℕ) → is_quote x ≡ false → cond (x == quote_mark (kind_of k)) t stops ≡ stops
no_mark Basic t x q = ap (λ b. cond b t stops) (or_parts (x == 34) (x == 39) q).0
no_mark Literal t x q = ap (λ b. cond b t stops) (or_parts (x == 34) (x == 39) q).1

-- a lexer that is in this mode may stop before the byte x, and is in no comment
record IsClosedAt (x : ℕ) (xs : List ℕ) (m : LexerMode Inner) : Type 0 where
  ended : EndsBefore m (x ∷ xs)
  no_comment : m ≡ within in_comment → ⊥

abbrev ends_string : StringPlace → Bool
ends_string p = ends_line_string p || ends_lines_string p

closed_at : (p : StringPlace) (m : LexerMode Inner) → Agrees m p → ends_string p ≡ true
    → (x : ℕ) (xs : List ℕ) → is_quote x ≡ false → IsClosedAt x xs m
closed_at (Doubled k) m h e x xs q =
    subst (IsClosedAt x xs) (sym h) (record { ended = no_mark k _ x q; no_comment = λ r. cc })
closed_at EndedLine m h e x xs q = subst (IsClosedAt x xs) (sym h) (record { ended = tt; no_comment = λ r. cc })
closed_at (Closed k) m h e x xs q =
    subst (IsClosedAt x xs) (sym h) (record { ended = no_mark k _ x q; no_comment = λ r. cc })
closed_at (ClosedMore k) m h e x xs q =
    subst (IsClosedAt x xs) (sym h) (record { ended = no_mark k _ x q; no_comment = λ r. cc })
closed_at EndedLines m h e x xs q = subst (IsClosedAt x xs) (sym h) (record { ended = tt; no_comment = λ r. cc })
closed_at _ m h e x xs q = cc

-- a valid string is closed
pub strings_are_closed : (s : List ℕ) → is_string s ≡ true → (x : ℕ) (xs : List ℕ) → is_quote x ≡ false → MayFollow s (x ∷ xs)
unfolding is_string is_key_string
strings_are_closed s e x xs q =
    let h = closed_at (string_place s) (mode_after between s) (agrees_after s between Start refl) e x xs q in
    record { ended = h.ended; apart = λ r last. absurd (h.no_comment r) }

pub key_strings_are_strings : (s : List ℕ) → is_key_string s ≡ true → is_string s ≡ true
unfolding is_string
key_strings_are_strings s e = ap (λ b. b || ends_lines_string (string_place s)) e
