-- Texts and line ends that the grammar takes one after another are TOML as they are written.
use Rattle.std.proofs.Common.{◌≡◌, refl, sym, ◌∙◌, ap, subst, ℕ, Bool, true, false, cond, ◌==◌, ◌&&◌, ◌||◌, List, [], ◌∷◌, ◌++◌}
use Rattle.std.proofs.Common.{append_assoc}
use Rattle.std.proofs.Common.{◌⊎◌, inl, inr, Option, Some, None, Result, Ok}
use Rattle.std.specs.Prelude.{⊤, is_ok}
use Rattle.std.proofs.lemmas.Bool.{or_parts}
use Rattle.prettyless_model.specs.Options.{ending}
use Rattle.prettyless_model.specs.Spaces.{spaces}
use Rattle.prettyless_model.specs.declared.options.LineEnding.{LineEnding}
use Rattle.prettyless_model.specs.declared.options.LineEnding.TheVariants.{Lf, Crlf}
use Rattle.prettyless_model.specs.declared.options.RenderOptions.{RenderOptions}
use Rattle.toml_lexemes.specs.Bytes.{ends_word, head, is_quote, is_sign, is_blank}
use Rattle.text_lexemes.specs.Languages.{between}
use Rattle.toml_lexemes.specs.Lexemes.{cut_toml}
use Rattle.toml_lexemes.specs.Shown.{EndsWell, IsWholeLexeme}
use Rattle.toml_lexemes.specs.Statements.{Role, trimmed}
use Rattle.toml_lexemes.specs.Spaced.{EndsWithReturn, IsTomlGap, MayFollow}
use Rattle.toml_lexemes.specs.SpacedLexemes.{SpacedToml, after_toml_gap, toml_spaced_lexemes}
use Rattle.toml_lexemes.proofs.Following.{comments_are_ended, words_are_ended}
use Rattle.toml_lexemes.proofs.Gaps.{follows_one}
use Rattle.toml_lexemes.proofs.LineEnds.{cut-nil, cut_line_feed}
use Rattle.toml_lexemes.proofs.Strings.{string_followed}
use Rattle.toml_lexemes.proofs.TextsApart.{Beginning, a_sign, a_comment_sign, a_quote, a_letter, beginning, sign_alone}
use Rattle.toml_lexemes.proofs.Trimmed.{no_return}
use Rattle.toml_lexemes.proofs.WholeLexemes.{by_sign, no_lexeme, quote_role, word_is_whole}
use Rattle.toml_lexemes.proofs.Words.{word_letters, words_meet}
use Rattle.toml_grammar.specs.Grammar.{Reading, expected, innermost, is_clear, is_line_end, is_one_space, key_turn, lexeme_step}
use Rattle.toml_grammar.specs.Grammar.{line_end_turn, reading_after, sort_turn, then_lexemes, turned, where_so, word_turn}
use Rattle.toml_grammar.specs.Dates.{is_date, is_time}
use Rattle.toml_grammar.specs.Values.{is_value}
use Rattle.toml_grammar.specs.Keys.{key_word}
use Rattle.toml_grammar.specs.Sorts as sort
use Rattle.toml_grammar.specs.Sorts.{Sort, sort_by, sort_of}
use Rattle.toml_grammar.specs.declared.expected.Expected.{Expected}
use Rattle.toml_grammar.specs.declared.next.Bracket.{Bracket}
use Rattle.toml_grammar.specs.declared.next.Next.{Next}
use Rattle.toml_grammar.specs.declared.next.Next.TheVariants as next
use Rattle.toml_grammar.specs.declared.next.Owner.{Owner}
use Rattle.toml_grammar.specs.declared.next.Owner.TheVariants as owner
use Rattle.toml_grammar.specs.declared.turn.LexemeTurn.{LexemeTurn}
use Rattle.toml_grammar.specs.declared.turn.LexemeTurn.TheVariants.{Stops}
use Rattle.toml_grammar.proofs.Allowed.{sort_string}
use Rattle.toml_grammar.proofs.GapLaws.{key_words_are_joined}
use Rattle.toml_grammar.specs.declared.expected.Expected.TheVariants as want
use Rattle.prettyless_laws.specs.Bits.{AreWritten, Bit, end_of_line, text_of}
use Rattle.toml_documents.proofs.Aligning.{spaces_gap}
use Rattle.toml_documents.proofs.Walking.{one_spaced}

-- ---- where a text may stand

-- what a lexeme is to the bytes after it
pub data Lex : Type 0 where
  sign : Lex
  comment : Lex
  string : Lex
  word : Lex

abbrev pub lex_of : Sort → Lex
lex_of sort.comment = comment
lex_of sort.string = string
lex_of sort.word = word
lex_of k = sign

-- what stands directly before: the beginning of a line, one space, or a lexeme
pub data Touch : Type 0 where
  at_line : Touch
  after_space : Touch
  after : Lex → Touch

pub record Place : Type 0 where
  pub touch : Touch
  pub reading : Reading

abbrev pub place : Touch → Reading → Place
place t r = record { touch = t; reading = r }

-- the gap before the lexeme that comes next
abbrev pub IsGapAt : Touch → List ℕ → Type 0
IsGapAt at_line g = (n : ℕ) × (g ≡ spaces n)
IsGapAt after_space g = g ≡ 32 ∷ []
IsGapAt (after l) g = g ≡ []

abbrev pub IsKey : Next → Type 0
IsKey (next.Key o due) = ⊤
IsKey n = ⊥

-- a lexeme may stand directly after what is there: beside a word, in a key, another
abbrev pub MayTouch : Touch → Next → List ℕ → Type 0
MayTouch at_line n s = ⊤
MayTouch after_space n s = ⊤
MayTouch (after sign) n s = ⊤
MayTouch (after word) n s = (ends_word (head s) ≡ true) ⊎ (IsKey n × (ends_word (head s) ≡ false))
MayTouch (after string) n s = is_quote (head s) ≡ false
MayTouch (after comment) n s = ⊥

-- a lexeme of the text may stand there, and leads to the next place
pub record Stands (a : Place) (s : List ℕ) (b : Place) : Type 0 where
  pub whole : IsWholeLexeme s
  pub touches : MayTouch a.touch a.reading.next s
  pub step : (g : List ℕ) → IsGapAt a.touch g → lexeme_step a.reading (after_toml_gap g s) ≡ Ok b.reading
  pub touch : b.touch ≡ after (lex_of (sort_of s))

-- a space may stand there
abbrev pub MaySpace : Touch → Type 0
MaySpace at_line = ⊥
MaySpace after_space = ⊥
MaySpace (after sign) = ⊤
MaySpace (after word) = ⊤
MaySpace (after string) = ⊤
MaySpace (after comment) = ⊥

pub record IsSpace (a : Place) (s : List ℕ) (b : Place) : Type 0 where
  pub space : s ≡ 32 ∷ []
  pub may : MaySpace a.touch
  pub place : b ≡ place after_space a.reading

-- the line may end there
abbrev pub MayEnd : Touch → Type 0
MayEnd at_line = ⊤
MayEnd after_space = ⊥
MayEnd (after l) = ⊤

abbrev pub EndsLine : Reading → Reading → Type 0
EndsLine r t = turned r.open_brackets (line_end_turn r.next (innermost r.open_brackets)) ≡ Ok t

-- the texts and line ends lead from one place to another
abbrev pub Runs : Place → List Bit → Place → Type 0
Runs a [] b = a ≡ b
Runs a (end_of_line ∷ bits) b = (r : Reading) × MayEnd a.touch × EndsLine a.reading r × Runs (place at_line r) bits b
Runs a (text_of s ∷ bits) b = (c : Place) × (IsSpace a s c ⊎ Stands a s c) × Runs c bits b

-- ---- lexemes and what may follow them

sign_lex : (x : ℕ) → is_sign x ≡ true → lex_of (sort_by x) ≡ sign
sign_lex x = by_sign (λ y. lex_of (sort_by y) ≡ sign) refl refl refl refl refl refl x

quote_lex : (x : ℕ) → is_quote x ≡ true → lex_of (sort_by x) ≡ string
quote_lex x e = ap lex_of (sort_string (x ∷ []) e)

pub letter_sort : (x : ℕ) → ends_word x ≡ false → sort_by x ≡ sort.word
letter_sort x h =
    let a = or_parts (is_sign x || is_blank x || is_quote x || (x == 10)) (x == 35) h in
    let b = or_parts (is_sign x || is_blank x || is_quote x) (x == 10) a.0 in
    let c = or_parts (is_sign x || is_blank x) (is_quote x) b.0 in
    let d = or_parts (is_sign x) (is_blank x) c.0 in
    let s1 = or_parts ((x == 91) || (x == 93) || (x == 123) || (x == 125) || (x == 44)) (x == 61) d.0 in
    let s2 = or_parts ((x == 91) || (x == 93) || (x == 123) || (x == 125)) (x == 44) s1.0 in
    let s3 = or_parts ((x == 91) || (x == 93) || (x == 123)) (x == 125) s2.0 in
    let s4 = or_parts ((x == 91) || (x == 93)) (x == 123) s3.0 in
    let s5 = or_parts (x == 91) (x == 93) s4.0 in
    λ j. cond (s5.0 j) sort.open_array (cond (s5.1 j) sort.close_array (cond (s4.1 j) sort.open_table (cond (s3.1 j) sort.close_table
    (cond (s2.1 j) sort.comma (cond (s1.1 j) sort.equals (cond (b.1 j) sort.line_end (cond (a.1 j) sort.comment
    (cond (c.1 j) sort.string sort.word))))))))

-- what a lexeme begins with, by what it is to the bytes after it
abbrev pub BeginsAs : Lex → List ℕ → Type 0
BeginsAs sign s = is_sign (head s) ≡ true
BeginsAs comment s = head s ≡ 35
BeginsAs string s = is_quote (head s) ≡ true
BeginsAs word s = ends_word (head s) ≡ false

begins_by : (x : ℕ) (s : List ℕ) → Beginning x → BeginsAs (lex_of (sort_by x)) (x ∷ s)
begins_by x s (a_sign e) = subst (λ (l : Lex). BeginsAs l (x ∷ s)) (sym (sign_lex x e)) e
begins_by x s (a_comment_sign e) = subst (λ (l : Lex). BeginsAs l (x ∷ s)) (sym (ap (λ (y : ℕ). lex_of (sort_by y)) e)) e
begins_by x s (a_quote e) = subst (λ (l : Lex). BeginsAs l (x ∷ s)) (sym (quote_lex x e)) e
begins_by x s (a_letter e) = subst (λ (l : Lex). BeginsAs l (x ∷ s)) (sym (ap lex_of (letter_sort x e))) e

pub begins_as : (s : List ℕ) → IsWholeLexeme s → BeginsAs (lex_of (sort_of s)) s
begins_as [] whole = absurd (no_lexeme whole.alone)
begins_as (x ∷ s) whole = begins_by x s (beginning x s whole)

-- what may come after it
abbrev pub FollowsIf : Lex → List ℕ → Type 0
FollowsIf sign r = ⊤
FollowsIf comment r = (l : LineEnding) × (rest : List ℕ) × (r ≡ ending l ++ rest)
FollowsIf string r = is_quote (head r) ≡ false
FollowsIf word r = ends_word (head r) ≡ true

sign_blank : (x : ℕ) → is_sign x ≡ true → is_blank x ≡ false
sign_blank x = by_sign (λ y. is_blank y ≡ false) refl refl refl refl refl refl x

after_sign : (x : ℕ) (s r : List ℕ) → is_sign x ≡ true → cut_toml between (x ∷ s) ≡ (x ∷ s) ∷ [] → MayFollow (x ∷ s) r
after_sign x s r e alone =
    subst (λ (t : List ℕ). MayFollow (x ∷ t) r) (sym (sign_alone x s e (sign_blank x e) alone))
    (by_sign (λ (y : ℕ). MayFollow (y ∷ []) r) (follows_one 91 r refl) (follows_one 93 r refl) (follows_one 123 r refl)
    (follows_one 125 r refl)
    (follows_one 44 r refl) (follows_one 61 r refl) x e)

after_comment : (s : List ℕ) (l : LineEnding) (rest : List ℕ) → cut_toml between s ≡ s ∷ [] → head s ≡ 35 → (EndsWithReturn s → ⊥)
    → MayFollow s (ending l ++ rest)
after_comment s Lf rest alone e clear = (comments_are_ended s 10 rest alone e).1 (refl, λ h. absurd (clear h))
after_comment s Crlf rest alone e clear = (comments_are_ended s 13 (10 ∷ rest) alone e).1 (refl, λ h. absurd (clear h))

-- a comment is whole without the blanks at its end
comment_trimmed : (s : List ℕ) → IsWholeLexeme s → head s ≡ 35 → trimmed s ≡ s
comment_trimmed [] whole e = absurd (no_lexeme whole.alone)
comment_trimmed (x ∷ s) whole e =
    (subst (λ (y : ℕ). IsWholeLexeme (y ∷ s) → trimmed (y ∷ s) ≡ y ∷ s) (sym e) (λ w. w.ends)) whole

follows_as : (s r : List ℕ) (l : Lex) → IsWholeLexeme s → BeginsAs l s → FollowsIf l r → MayFollow s r
follows_as [] r l whole b f = absurd (no_lexeme whole.alone)
follows_as (x ∷ s) r sign whole b f = after_sign x s r b whole.alone
follows_as (x ∷ s) r comment whole b (l, rest, e) =
    subst (MayFollow (x ∷ s)) (sym e)
    (after_comment (x ∷ s) l rest whole.alone b (no_return (x ∷ s) (comment_trimmed (x ∷ s) whole b)))
follows_as (x ∷ s) [] string whole b f = record { ended = tt; apart = λ m is. refl }
follows_as (x ∷ s) (y ∷ ys) string whole b f = string_followed x s y ys b whole.alone f (string_ends x s b whole)
  where
    string_ends : (x : ℕ) (s : List ℕ) → is_quote x ≡ true → IsWholeLexeme (x ∷ s) → MayFollow (x ∷ s) (32 ∷ [])
    string_ends x s e w = subst (λ (r : Role). EndsWell r (x ∷ s)) (quote_role x e) w.ends
follows_as (x ∷ s) r word whole b f = (words_are_ended (x ∷ s) r whole.alone b).1 f

pub follows : (s r : List ℕ) → IsWholeLexeme s → FollowsIf (lex_of (sort_of s)) r → MayFollow s r
follows s r whole f = follows_as s r (lex_of (sort_of s)) whole (begins_as s whole) f

-- ---- one lexeme in front of others

-- the bytes go on from a reading up to the end of the text
abbrev pub GoesOn : Reading → List ℕ → Type 0
GoesOn r bytes = is_ok (reading_after r (toml_spaced_lexemes bytes)) ≡ true

one_more : (before r : Reading) (g s rest : List ℕ) → IsTomlGap g → cut_toml between s ≡ s ∷ [] → MayFollow s rest
    → lexeme_step before (after_toml_gap g s) ≡ Ok r → GoesOn r rest → GoesOn before (g ++ (s ++ rest))
one_more before r g s rest gap alone follows e h =
    ap (λ (ps : List SpacedToml). is_ok (reading_after before ps)) (one_spaced g s rest gap alone follows)
    ∙ ap (λ (m : Result Reading Expected). is_ok (then_lexemes m (λ t. reading_after t (toml_spaced_lexemes rest)))) e ∙ h

line_feed_alone : cut_toml between (10 ∷ []) ≡ (10 ∷ []) ∷ []
line_feed_alone = cut_line_feed 10 [] refl ∙ ap (λ (l : List (List ℕ)). (10 ∷ []) ∷ l) cut-nil

line_more : (l : LineEnding) (before r : Reading) (rest : List ℕ) → EndsLine before r → GoesOn r rest → GoesOn before (ending l ++ rest)
line_more Lf before r rest e h = one_more before r [] (10 ∷ []) rest tt line_feed_alone (follows_one 10 rest refl) e h
line_more Crlf before r rest e h = one_more before r (13 ∷ []) (10 ∷ []) rest (refl, tt) line_feed_alone (follows_one 10 rest refl) e h

-- ---- words side by side

clear_gap : (b : Bool) (bs : List Bracket) (t : LexemeTurn) (e : Expected) (r : Reading)
    → turned bs (cond b t (Stops e)) ≡ Ok r → (b ≡ true) × (turned bs t ≡ Ok r)
clear_gap true bs t e r h = (refl, h)
clear_gap false bs t e r h = absurd (cc)

abbrev pub taken : Reading → Result Reading Expected
taken r = Ok r

pub same_reading : {r t : Reading} → taken r ≡ taken t → r ≡ t
same_reading e = cc

-- a word with a gap before it
word_step : (r t : Reading) (g s : List ℕ) → sort_of s ≡ sort.word → lexeme_step r (after_toml_gap g s) ≡ Ok t
    → (is_clear g false ≡ true) × (turned r.open_brackets (word_turn r.next (innermost r.open_brackets) g s) ≡ Ok t)
word_step r t g s k e =
    let b = innermost r.open_brackets in
    clear_gap (is_clear g false) r.open_brackets (word_turn r.next b g s) want.LineFeed t
    (sym (ap (λ (k : Sort). turned r.open_brackets
    (cond (is_clear g (is_line_end k)) (sort_turn k r.next b g s) (Stops want.LineFeed))) k) ∙ e)

step_word : (r t : Reading) (g s : List ℕ) → sort_of s ≡ sort.word → is_clear g false ≡ true
    → turned r.open_brackets (word_turn r.next (innermost r.open_brackets) g s) ≡ Ok t → lexeme_step r (after_toml_gap g s) ≡ Ok t
step_word r t g s k clear e =
    let b = innermost r.open_brackets in
    ap (λ (k : Sort). turned r.open_brackets (cond (is_clear g (is_line_end k)) (sort_turn k r.next b g s) (Stops want.LineFeed))) k
    ∙ ap (λ (c : Bool). turned r.open_brackets (cond c (word_turn r.next b g s) (Stops want.LineFeed))) clear ∙ e

-- two words of a key
key_both : (o : Owner) (due : Bool) (e f : Expected) (bs : List Bracket) (s t : List ℕ) (c : Reading) (k l : Option Bool)
    → key_word due s ≡ k
    → (d : Bool) → k ≡ Some d → key_word d t ≡ l → turned bs (key_turn o l f) ≡ Ok c
    → turned bs (key_turn o (key_word due (s ++ t)) e) ≡ Ok c
key_both o due e f bs s t c k None is d at next h = absurd (cc)
key_both o due e f bs s t c k (Some a) is d at next h =
    ap (λ (m : Option Bool). turned bs (key_turn o m e)) (key_words_are_joined due d a s t (is ∙ at) next) ∙ h

key_joined : (o : Owner) (due : Bool) (e : Expected) (bs : List Bracket) (b : Option Bracket) (s t : List ℕ) (r c : Reading)
    (k : Option Bool)
    → key_word due s ≡ k → turned bs (key_turn o k e) ≡ Ok r → turned r.open_brackets (word_turn r.next b [] t) ≡ Ok c
    → turned bs (key_turn o (key_word due (s ++ t)) e) ≡ Ok c
key_joined o due e bs b s t r c None is first second = absurd (cc)
key_joined o due e bs b s t r c (Some d) is first second =
    key_both o due e (expected (next.Key o d) b) bs s t c (Some d) (key_word d t) is d refl refl
    (subst (λ (q : Reading). turned q.open_brackets (word_turn q.next b [] t) ≡ Ok c) (sym (same_reading first)) second)

no_key : (ok d : Bool) (e : Expected) (bs : List Bracket) (r : Reading)
    → turned bs (where_so ok (cond d next.AfterDate next.After) e) ≡ Ok r
    → IsKey r.next → ⊥
no_key true true e bs r h k = subst (λ (q : Reading). IsKey q.next) (sym (same_reading h)) k
no_key true false e bs r h k = subst (λ (q : Reading). IsKey q.next) (sym (same_reading h)) k
no_key false d e bs r h k = absurd (cc)

word_joined : (n : Next) (bs : List Bracket) (b c : Option Bracket) (g s t : List ℕ) (r u : Reading)
    → turned bs (word_turn n b g s) ≡ Ok r → IsKey r.next → turned r.open_brackets (word_turn r.next c [] t) ≡ Ok u
    → turned bs (word_turn n b g (s ++ t)) ≡ Ok u
word_joined next.Line bs b c g s t r u first k second = key_joined owner.Value true _ bs c s t r u (key_word true s) refl first second
word_joined next.Header bs b c g s t r u first k second = key_joined owner.Table true _ bs c s t r u (key_word true s) refl first second
word_joined (next.Key o due) bs b c g s t r u first k second = key_joined o due _ bs c s t r u (key_word due s) refl first second
word_joined next.Entry bs b c g s t r u first k second = key_joined owner.Value true _ bs c s t r u (key_word true s) refl first second
word_joined next.Value bs b c g s t r u first k second = absurd (no_key (is_value s) (is_date s) _ bs r first k)
word_joined next.Member bs b c g s t r u first k second = absurd (no_key (is_value s) (is_date s) _ bs r first k)
word_joined next.AfterDate bs b c g s t r u first k second = absurd (no_key (is_one_space g && is_time s) false _ bs r first k)
word_joined next.Closing bs b c g s t r u first k second = absurd (cc)
word_joined next.After bs b c g s t r u first k second = absurd (cc)

-- they are one lexeme
pub words_alone : (s t : List ℕ) → cut_toml between s ≡ s ∷ [] → ends_word (head s) ≡ false → cut_toml between t ≡ t ∷ []
    → ends_word (head t) ≡ false
    → (cut_toml between (s ++ t) ≡ (s ++ t) ∷ []) × (ends_word (head (s ++ t)) ≡ false)
words_alone [] t alone first other second = absurd (no_lexeme alone)
words_alone (x ∷ s) [] alone first other second = absurd (no_lexeme other)
words_alone (x ∷ s) (y ∷ t) alone first other second =
    let both = words_meet x s y t (word_letters (x ∷ s) alone first) second in
    let same : (y ∷ both.0) ∷ both.1 ≡ (y ∷ t) ∷ [] = sym both.2 ∙ other in
    let tail : both.0 ≡ t = cc in
    let none : both.1 ≡ [] = cc in
    (both.3 ∙ (λ i. (x ∷ (s ++ (y ∷ tail i))) ∷ none i), first)

-- ---- all of them

abbrev pub fresh : Touch → Bool
fresh at_line = true
fresh after_space = false
fresh (after l) = false

-- from where a text stands the bytes go on up to the end, after any lexeme that leads there
abbrev GoesAt : Touch → Reading → List ℕ → Type 0
GoesAt at_line r bytes = GoesOn r bytes
GoesAt after_space r bytes = GoesOn r (32 ∷ bytes)
GoesAt (after l) r bytes =
    (before : Reading) (g s : List ℕ) → IsTomlGap g → IsWholeLexeme s → lex_of (sort_of s) ≡ l → lexeme_step before
    (after_toml_gap g s) ≡ Ok r
    → GoesOn before (g ++ (s ++ bytes))

-- where other bytes may follow the lexeme
goes_apart : (l : Lex) (r : Reading) (bytes : List ℕ) → FollowsIf l bytes → GoesOn r bytes → GoesAt (after l) r bytes
goes_apart l r bytes f h before g s gap whole is step =
    one_more before r g s bytes gap whole.alone (follows s bytes whole (subst (λ (k : Lex). FollowsIf k bytes) (sym is) f)) step h

pub follows_line : (k : Lex) (l : LineEnding) (rest : List ℕ) → FollowsIf k (ending l ++ rest)
follows_line sign l rest = tt
follows_line comment l rest = (l, rest, refl)
follows_line string Lf rest = refl
follows_line string Crlf rest = refl
follows_line word Lf rest = refl
follows_line word Crlf rest = refl

goes_line : (t : Touch) (l : LineEnding) (r : Reading) (rest : List ℕ) → MayEnd t → GoesOn r (ending l ++ rest)
    → GoesAt t r (ending l ++ rest)
goes_line at_line l r rest may h = h
goes_line after_space l r rest may h = absurd may
goes_line (after k) l r rest may h = goes_apart k r (ending l ++ rest) (follows_line k l rest) h

goes_space : (k : Lex) (r : Reading) (rest : List ℕ) → MaySpace (after k) → GoesOn r (32 ∷ rest) → GoesAt (after k) r (32 ∷ rest)
goes_space sign r rest may h = goes_apart sign r (32 ∷ rest) tt h
goes_space comment r rest may h = absurd may
goes_space string r rest may h = goes_apart string r (32 ∷ rest) refl h
goes_space word r rest may h = goes_apart word r (32 ∷ rest) refl h

pub head_front : (s rest : List ℕ) → IsWholeLexeme s → head (s ++ rest) ≡ head s
head_front [] rest whole = absurd (no_lexeme whole.alone)
head_front (x ∷ s) rest whole = refl

pub word_sort : (s : List ℕ) → cut_toml between s ≡ s ∷ [] → ends_word (head s) ≡ false → sort_of s ≡ sort.word
word_sort [] alone e = absurd (no_lexeme alone)
word_sort (x ∷ s) alone e = letter_sort x e

module _ (r c : Reading) (s rest : List ℕ) (whole : IsWholeLexeme s) (later : GoesAt (after (lex_of (sort_of s))) c rest)
    (here : GoesOn r (s ++ rest)) (leads : lexeme_step r (after_toml_gap [] s) ≡ Ok c) where
  goes_joined : IsKey r.next → ends_word (head s) ≡ false → (before : Reading) (g t : List ℕ) → IsTomlGap g → IsWholeLexeme t
      → ends_word (head t) ≡ false → lexeme_step before (after_toml_gap g t) ≡ Ok r → GoesOn before (g ++ (t ++ (s ++ rest)))
  goes_joined key letter before g t gap is begins step =
      let both = words_alone t s is.alone begins whole.alone letter in
      let sort_s = word_sort s whole.alone letter in
      let sort_both = word_sort (t ++ s) both.0 both.1 in
      let first = word_step before r g t (word_sort t is.alone begins) step in
      let second = word_step r c [] s sort_s leads in
      let joined = word_joined before.next before.open_brackets (innermost before.open_brackets) (innermost r.open_brackets) g t s r c
      first.1 key second.1 in
      subst (λ (l : List ℕ). GoesOn before (g ++ l)) (append_assoc t s rest)
      (later before g (t ++ s) gap (word_is_whole (t ++ s) both.0 both.1) (ap lex_of (sort_both ∙ sym sort_s))
      (step_word before c g (t ++ s) sort_both first.0 joined))

  goes_beside : (l : Lex) → MayTouch (after l) r.next s → GoesAt (after l) r (s ++ rest)
  goes_beside sign may = goes_apart sign r (s ++ rest) tt here
  goes_beside comment may = absurd may
  goes_beside string may = goes_apart string r (s ++ rest) (ap is_quote (head_front s rest whole) ∙ may) here
  goes_beside word (inl may) = goes_apart word r (s ++ rest) (ap ends_word (head_front s rest whole) ∙ may) here
  goes_beside word (inr may) = λ before g t gap is e step.
      goes_joined may.0 may.1 before g t gap is (subst (λ (k : Lex). BeginsAs k t) e (begins_as t is)) step

module _ (o : RenderOptions) (b : Place) (line : b.touch ≡ at_line) (ended : GoesOn b.reading []) where
  goes_end : (t : Touch) (r : Reading) (bytes : List ℕ) → place t r ≡ b → bytes ≡ [] → GoesAt t r bytes
  goes_end t r bytes e none =
      subst (λ (q : Place). GoesAt q.touch q.reading bytes) (sym e)
      (subst (λ (u : Touch). GoesAt u b.reading bytes) (sym line) (subst (GoesOn b.reading) (sym none) ended))

  goes_text : (bits : List Bit) (t : Touch) (r : Reading) (s : List ℕ) (c : Place) (bytes : List ℕ) → Stands (place t r) s c
      → ((rest : List ℕ) → AreWritten o false bits rest → GoesAt (after (lex_of (sort_of s))) c.reading rest)
      → AreWritten o (fresh t) (text_of s ∷ bits) bytes → GoesAt t r bytes
  goes_text bits at_line r s c bytes st more (n, rest, e, w) =
      subst (GoesOn r) (sym e) (more rest w r (spaces n) s (spaces_gap n) st.whole refl (st.step (spaces n) (n, refl)))
  goes_text bits after_space r s c bytes st more (rest, e, w) =
      subst (λ (l : List ℕ). GoesOn r (32 ∷ l)) (sym e) (more rest w r (32 ∷ []) s (refl, tt) st.whole refl (st.step (32 ∷ []) refl))
  goes_text bits (after l) r s c bytes st more (rest, e, w) =
      let later = more rest w in
      let leads = st.step [] refl in
      subst (GoesAt (after l) r) (sym e)
      (goes_beside r c.reading s rest st.whole later (later r [] s tt st.whole refl leads) leads l st.touches)

  goes_spaced : (bits : List Bit) (t : Touch) (r : Reading) (s : List ℕ) (bytes : List ℕ) → s ≡ 32 ∷ [] → MaySpace t
      → ((rest : List ℕ) → AreWritten o false bits rest → GoesOn r (32 ∷ rest))
      → AreWritten o (fresh t) (text_of s ∷ bits) bytes → GoesAt t r bytes
  goes_spaced bits at_line r s bytes is may more w = absurd may
  goes_spaced bits after_space r s bytes is may more w = absurd may
  goes_spaced bits (after l) r s bytes is may more (rest, e, w) =
      subst (GoesAt (after l) r) (sym (e ∙ ap (λ (x : List ℕ). x ++ rest) is)) (goes_space l r rest may (more rest w))

  pub goes : (bits : List Bit) (t : Touch) (r : Reading) (bytes : List ℕ) → Runs (place t r) bits b → AreWritten o (fresh t) bits bytes
      → GoesAt t r bytes
  goes [] t r bytes runs w = goes_end t r bytes runs w
  goes (end_of_line ∷ bits) t r bytes (u, may, ends, runs) (rest, e, w) =
      subst (GoesAt t r) (sym e) (goes_line t o.line_ending r rest may
      (line_more o.line_ending r u rest ends (goes bits at_line u rest runs w)))
  goes (text_of s ∷ bits) t r bytes (c, inl space, runs) w =
      goes_spaced bits t r s bytes space.space space.may
      (λ rest v. goes bits after_space r rest (subst (λ (q : Place). Runs q bits b) space.place runs) v) w
  goes (text_of s ∷ bits) t r bytes (c, inr st, runs) w =
      goes_text bits t r s c bytes st
      (λ rest v. goes bits (after (lex_of (sort_of s))) c.reading rest
      (subst (λ (u : Touch). Runs (place u c.reading) bits b) st.touch runs) v) w
