-- What is known of the next lexeme: the gap before it, and its first byte.
use Rattle.std.proofs.Common.{◌≡◌, ℕ, ◌+◌, ◌-◌, ◌<◌, false, List, [], ◌∷◌, length, drop, take, get_or, refl, sym, ap, ◌∙◌, subst}
use Rattle.std.proofs.Common.{arith}
use Rattle.std.proofs.lemmas.Bool.{true≢false}
use Rattle.std.proofs.lemmas.List.{drop_more}
use Rattle.json.specs.Lex.{Mode, Class, quote, backslash, operator, space, other, class, between, in_string, in_word}
use Rattle.json.specs.Word.{head, is_space}
use Rattle.text_lexemes.specs.Languages.{lengthened}
use Rattle.json_lexemes.specs.Lexemes.{cut, cut_byte}
use Rattle.json_lexemes.specs.SpacedLexemes.{first_spaces, spaced_as, spaced_lexemes}
use Rattle.json_lexemes.specs.SpacedLexer.{IsFirstByte, IsFirstGap}
use Rattle.json_lexemes.proofs.Classes.{IsOfClass, IsOfClass-class}
use Rattle.json_lexemes.proofs.SpacedLexemes.{spaces_taken}

-- ---- the gap

gap_first : (bytes : List ℕ) (ss : List (List ℕ)) → IsFirstGap (spaced_as bytes ss) (first_spaces bytes)
gap_first bytes [] = tt
gap_first bytes (s ∷ ss) = refl

pub first_gap : (d : List ℕ) (from place : ℕ) → place ≡ from + length (first_spaces (drop from d)) →
    IsFirstGap (spaced_lexemes (drop from d)) (take (place - from) (drop from d))
first_gap d from place spaces =
    let bytes = drop from d in
    let count : length (first_spaces bytes) ≡ place - from = omega (arith, spaces) in
    subst (IsFirstGap (spaced_lexemes bytes)) (sym (spaces_taken bytes) ∙ ap (λ (n : ℕ). take n bytes) count)
    (gap_first bytes (cut between bytes))

-- ---- the first byte

-- of these lexemes the first begins with a byte
FirstBegins : List (List ℕ) → ℕ → Type 0
FirstBegins [] x = ⊥
FirstBegins (s ∷ ss) x = head s ≡ x

lengthened_begins : (x : ℕ) (ss : List (List ℕ)) → FirstBegins (lengthened x ss) x
unfolding FirstBegins
lengthened_begins x [] = refl
lengthened_begins x (s ∷ ss) = refl

byte_begins : (c : Class) (x : ℕ) (k : Mode → List (List ℕ)) → IsOfClass c x → is_space x ≡ false → FirstBegins (cut_byte between c x k) x
unfolding FirstBegins
byte_begins quote x k is stays = lengthened_begins x (k in_string)
byte_begins backslash x k is stays = lengthened_begins x (k in_word)
byte_begins operator x k is stays = refl
byte_begins space x k is stays = absurd (true≢false (sym is ∙ stays))
byte_begins other x k is stays = lengthened_begins x (k in_word)

cut_begins : (x : ℕ) (r : List ℕ) → is_space x ≡ false → FirstBegins (cut between (x ∷ r)) x
unfolding cut
cut_begins x r stays = byte_begins (class x) x (λ m. cut m r) (IsOfClass-class x) stays

spaced_begins : (bytes : List ℕ) (ss : List (List ℕ)) (x : ℕ) → FirstBegins ss x → IsFirstByte (spaced_as bytes ss) x
unfolding FirstBegins
spaced_begins bytes [] x h = h
spaced_begins bytes (s ∷ ss) x h = h

pub first_byte : (d : List ℕ) (from place : ℕ) → place < length d → cut between (drop place d) ≡ cut between (drop from d) →
    is_space (get_or d place 0) ≡ false → IsFirstByte (spaced_lexemes (drop from d)) (get_or d place 0)
first_byte d from place lt passed stays =
    let x = get_or d place 0 in
    let here : cut between (x ∷ drop (place + 1) d) ≡ cut between (drop from d) =
    sym (ap (cut between) (drop_more d place 0 lt)) ∙ passed in
    spaced_begins (drop from d) (cut between (drop from d)) x
    (subst (λ (ss : List (List ℕ)). FirstBegins ss x) here (cut_begins x (drop (place + 1) d) stays))
