-- The strings and comments of a text that is TOML are those that TOML allows.
use Rattle.std.proofs.Common.{◌≡◌, ℕ, ◌+◌, Bool, true, false, cond, ◌==◌, ◌⊎◌, inl, inr, List, [], ◌∷◌, length, drop, Option, Some, None}
use Rattle.std.proofs.Common.{Result, Ok, Err, All, refl, sym, ap, subst, arith}
use Rattle.std.specs.Prelude.{⊤, is_ok}
use Rattle.std.proofs.lemmas.Bool.{true≢false, eqb-true, or_cases}
use Rattle.std.proofs.lemmas.List.Elements.{All-from_recursion}
use Rattle.toml_lexemes.specs.Bytes.{is_quote, hash, head}
use Rattle.toml_lexemes.specs.Lexemes.{toml_lexemes_of}
use Rattle.toml_lexemes.specs.SpacedLexemes.{SpacedToml, after_toml_gap, blanks, toml_spaced_as}
use Rattle.toml_grammar.specs.Comments.{is_comment}
use Rattle.toml_grammar.specs.Strings.{is_key_string, is_string}
use Rattle.toml_grammar.proofs.Closed.{key_strings_are_strings}
use Rattle.toml_grammar.specs.Sorts as sort
use Rattle.toml_grammar.specs.Grammar.{Reading, first_reading, where_so, string_turn, comment_after, comment_turn, sort_turn, is_line_end}
use Rattle.toml_grammar.specs.Grammar.{is_clear, turn_of_lexeme, innermost, turned, lexeme_step, then_lexemes, reading_after, is_toml}
use Rattle.toml_grammar.specs.declared.expected.Expected.{Expected}
use Rattle.toml_grammar.specs.declared.next.Bracket.{Bracket}
use Rattle.toml_grammar.specs.declared.next.Bracket.TheVariants.{Array, Table}
use Rattle.toml_grammar.specs.declared.next.Next.{Next}
use Rattle.toml_grammar.specs.declared.next.Next.TheVariants.{Line, Header, Key, Closing, Value, Member, Entry, After, AfterDate}
use Rattle.toml_grammar.specs.declared.turn.LexemeTurn.{LexemeTurn}
use Rattle.toml_grammar.specs.declared.turn.LexemeTurn.TheVariants.{GoesOn, Opens, Closes, Stops}

-- ---- turns that do not stop

abbrev Passes : LexemeTurn → Type 0
Passes (GoesOn n) = ⊤
Passes (Opens b n) = ⊤
Passes Closes = ⊤
Passes (Stops e) = ⊥

passes_turned : (bs : List Bracket) (t : LexemeTurn) (r : Reading) → turned bs t ≡ Ok r → Passes t
passes_turned bs (GoesOn n) r e = tt
passes_turned bs (Opens b n) r e = tt
passes_turned bs Closes r e = tt
passes_turned bs (Stops f) r e = let clash : Err f ≡ Ok r = e in cc

passes_where : (ok : Bool) (n : Next) (e : Expected) → Passes (where_so ok n e) → ok ≡ true
passes_where true n e h = refl
passes_where false n e h = absurd h

passes_cond : (b : Bool) (t : LexemeTurn) (e : Expected) → Passes (cond b t (Stops e)) → Passes t
passes_cond true t e h = h
passes_cond false t e h = absurd h

-- ---- strings

key_passes : (s : List ℕ) (n : Next) (e : Expected) → Passes (where_so (is_key_string s) n e) → is_string s ≡ true
key_passes s n e h = key_strings_are_strings s (passes_where (is_key_string s) n e h)

string_passes : (n : Next) (b : Option Bracket) (s : List ℕ) → Passes (string_turn n b s) → is_string s ≡ true
string_passes Line b s h = key_passes s _ _ h
string_passes Header b s h = key_passes s _ _ h
string_passes (Key o true) b s h = key_passes s _ _ h
string_passes (Key o false) b s h = absurd h
string_passes Closing b s h = absurd h
string_passes Value b s h = passes_where (is_string s) _ _ h
string_passes Member b s h = passes_where (is_string s) _ _ h
string_passes Entry b s h = key_passes s _ _ h
string_passes After b s h = absurd h
string_passes AfterDate b s h = absurd h

-- ---- comments

commented_passes : (n : Next) (b : Option Bracket) (ok : Bool) → Passes (comment_after n b ok) → ok ≡ true
commented_passes n None ok h = passes_where ok _ _ h
commented_passes n (Some Array) ok h = passes_where ok _ _ h
commented_passes n (Some Table) ok h = absurd h

comment_passes : (n : Next) (b : Option Bracket) (ok : Bool) → Passes (comment_turn n b ok) → ok ≡ true
comment_passes Line b ok h = passes_where ok _ _ h
comment_passes Header b ok h = absurd h
comment_passes (Key o due) b ok h = absurd h
comment_passes Closing b ok h = absurd h
comment_passes Value b ok h = absurd h
comment_passes Member b ok h = passes_where ok _ _ h
comment_passes Entry b ok h = absurd h
comment_passes After b ok h = commented_passes After b ok h
comment_passes AfterDate b ok h = commented_passes AfterDate b ok h

-- ---- lexemes

-- a lexeme that is a string or a comment is one that TOML allows
pub record IsAllowed (s : List ℕ) : Type 0 where
  pub if_string : sort.sort_of s ≡ sort.string → is_string s ≡ true
  pub if_comment : sort.sort_of s ≡ sort.comment → is_comment s ≡ true

allowed_step : (r t : Reading) (p : SpacedToml) → lexeme_step r p ≡ Ok t → IsAllowed p.lexeme
allowed_step r t p e =
    let b = innermost r.open_brackets in
    let n = r.next in
    let passes : Passes (sort_turn (sort.sort_of p.lexeme) n b p.gap p.lexeme) =
    passes_cond (is_clear p.gap (is_line_end (sort.sort_of p.lexeme))) _ _ (passes_turned r.open_brackets (turn_of_lexeme n b p) t e) in
    record {
      if_string = λ is. string_passes n b p.lexeme (subst (λ x. Passes (sort_turn x n b p.gap p.lexeme)) is passes);
      if_comment = λ is. comment_passes n b (is_comment p.lexeme) (subst (λ x. Passes (sort_turn x n b p.gap p.lexeme)) is passes);
    }

abbrev AreAllowed : List (List ℕ) → Type 0
AreAllowed [] = ⊤
AreAllowed (s ∷ ss) = IsAllowed s × AreAllowed ss

allowed_then : (m : Result Reading Expected) (ps : List SpacedToml) (P Q : Type 0) → ((t : Reading) → m ≡ Ok t → P)
    → ((t : Reading) → is_ok (reading_after t ps) ≡ true → Q) → is_ok (then_lexemes m (λ t. reading_after t ps)) ≡ true → P × Q
allowed_then (Ok t) ps P Q f g h = (f t refl, g t h)
allowed_then (Err e) ps P Q f g h = absurd (true≢false (sym h))

allowed_as : (ss : List (List ℕ)) (bytes : List ℕ) (r : Reading) → is_ok (reading_after r (toml_spaced_as bytes ss)) ≡ true → AreAllowed ss
allowed_as [] bytes r h = tt
allowed_as (s ∷ ss) bytes r h =
    let p = after_toml_gap (blanks bytes) s in
    let rest = drop (length (blanks bytes) + length s) bytes in
    allowed_then (lexeme_step r p) (toml_spaced_as rest ss) (IsAllowed s) (AreAllowed ss) (λ t e. allowed_step r t p e)
    (λ t g. allowed_as ss rest t g) h

pub lexemes_allowed : (text : List ℕ) → is_toml text ≡ true → All IsAllowed (toml_lexemes_of text)
unfolding is_toml
lexemes_allowed text h = All-from_recursion IsAllowed (toml_lexemes_of text) (allowed_as (toml_lexemes_of text) text first_reading h)

-- ---- how they begin

sort_quote : (x : ℕ) → is_quote x ≡ true → sort.sort_by x ≡ sort.string
sort_quote x h = go (or_cases (x == 34) (x == 39) h)
  where
    go : ((x == 34) ≡ true) ⊎ ((x == 39) ≡ true) → sort.sort_by x ≡ sort.string
    go (inl e) = ap sort.sort_by (eqb-true x 34 e)
    go (inr e) = ap sort.sort_by (eqb-true x 39 e)

pub sort_string : (s : List ℕ) → is_quote (head s) ≡ true → sort.sort_of s ≡ sort.string
sort_string [] h = absurd (true≢false (sym h))
sort_string (x ∷ xs) h = sort_quote x h

pub sort_comment : (s : List ℕ) → head s ≡ hash → sort.sort_of s ≡ sort.comment
sort_comment [] h = absurd (omega arith)
sort_comment (x ∷ xs) h = ap sort.sort_by h
