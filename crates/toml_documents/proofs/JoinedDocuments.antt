-- Words side by side in a layout are one lexeme: the document of such lexemes is laid like that of the words.
use Rattle.std.proofs.Common.{◌≡◌, refl, sym, ◌∙◌, ap, subst, arith, ℕ, suc, ◌-◌, Bool, true, false, cond, ◌==◌, ◌&&◌, ◌||◌, not, List}
use Rattle.std.proofs.Common.{[], ◌∷◌, ◌++◌}
use Rattle.std.proofs.Common.{inl, inr, length, get_or, Ok, length-append}
use Rattle.std.proofs.Math.Seq.{get_or-append_seam}
use Rattle.std.proofs.lemmas.Bool.{true≢false}
use Rattle.std.proofs.lemmas.Bool.Decides.{nat_tests}
use Rattle.std.proofs.lemmas.Option.{slice_get_read}
use Rattle.std.specs.List.{list_all, list_any}
use Rattle.std.specs.Prelude.{◌⊎◌, Option, Some, None, nat_lt}
use Rattle.prettyless_model.specs.Metrics.{is_ascii}
use Rattle.toml_lexemes.specs.Bytes as byte
use Rattle.toml_lexemes.specs.Bytes.{dot, ends_with_dot, ends_word, head}
use Rattle.toml_lexemes.specs.Shown.{IsWholeLexeme}
use Rattle.toml_lexemes.specs.SpacedLexemes.{after_toml_gap}
use Rattle.toml_grammar.specs.Dates.{is_date, is_time}
use Rattle.toml_grammar.specs.Grammar.{Reading, comma_turn, expected, innermost, is_clear, is_line_end, is_one_space, key_turn, lexeme_step}
use Rattle.toml_grammar.specs.Grammar.{line_end_turn, sort_turn, turned, where_so, word_turn}
use Rattle.toml_grammar.proofs.KeyWords.{is_key_byte, key_word_bytes, key_word_end, key_word_start, same_end}
use Rattle.toml_grammar.specs.Keys.{key_word}
use Rattle.toml_grammar.specs.Sorts as sort
use Rattle.toml_grammar.specs.Sorts.{Sort, sort_of}
use Rattle.toml_grammar.specs.Values.{is_value}
use Rattle.toml_grammar.specs.declared.expected.Expected.{Expected}
use Rattle.toml_grammar.specs.declared.expected.Expected.TheVariants as want
use Rattle.toml_grammar.specs.declared.next.Bracket.{Bracket}
use Rattle.toml_grammar.specs.declared.next.Bracket.TheVariants as bracket
use Rattle.toml_grammar.specs.declared.next.Owner.{Owner}
use Rattle.toml_grammar.specs.declared.next.Owner.TheVariants as owner
use Rattle.toml_grammar.specs.declared.next.Next.{Next}
use Rattle.toml_grammar.specs.declared.next.Next.TheVariants as next
use Rattle.toml_grammar.specs.declared.turn.LexemeTurn.{LexemeTurn}
use Rattle.toml_grammar.specs.declared.turn.LexemeTurn.TheVariants as turn
use Rattle.toml_documents.specs.Numbers.{is_among_numbers, only_number_words}
use Rattle.toml_documents.proofs.ReadTexts.{is_word, joined_from, lexeme_then, lexemes_then, with_word, word_then}
use Rattle.prettyless_laws.specs.Bits.{Bit, end_of_line, text_of}
use Rattle.toml_documents.proofs.Written.{IsKey, Place, Runs, Stands, after, after_space, at_line, lex_of, letter_sort, place, same_reading}
use Rattle.toml_documents.proofs.Written.{taken, BeginsAs, IsGapAt, Lex, MayTouch, Touch, begins_as, sign, word}
use Rattle.toml_documents.specs.Documents.{is_line_feed_byte}
use Rattle.toml_documents.proofs.TreesAgain.{IsPlainWord, plain_words}
use Rattle.toml_documents.proofs.LexemeFacts.{alone_is}

-- ---- brackets

pub innermost_more : (bs : List Bracket) (b : Bracket) → innermost (bs ++ b ∷ []) ≡ Some b
innermost_more bs b =
    let len : length (bs ++ b ∷ []) ≡ suc (length bs) = omega (arith, length-append bs (b ∷ [])) in
    let at : length (bs ++ b ∷ []) - 1 ≡ length bs = omega (arith, len) in
    slice_get_read (bs ++ b ∷ []) (length (bs ++ b ∷ [])) (length (bs ++ b ∷ []) - 1) b refl (omega (arith, len))
    (sym (ap (λ (k : ℕ). get_or (bs ++ b ∷ []) k b) at ∙ get_or-append_seam bs b [] b))

-- ---- steps

-- a lexeme that leads on was taken by its sort
pub step_turn : (r c : Reading) (g s : List ℕ) (k : Sort) → sort_of s ≡ k → lexeme_step r (after_toml_gap g s) ≡ Ok c
    → turned r.open_brackets (sort_turn k r.next (innermost r.open_brackets) g s) ≡ Ok c
step_turn r c g s k e h =
    clear (is_clear g (is_line_end k)) (sort_turn k r.next (innermost r.open_brackets) g s)
    (sym (ap (λ (j : Sort). turned r.open_brackets
    (cond (is_clear g (is_line_end j)) (sort_turn j r.next (innermost r.open_brackets) g s) (turn.Stops want.LineFeed))) e) ∙ h)
  where
    clear : (b : Bool) (t : LexemeTurn) → turned r.open_brackets (cond b t (turn.Stops want.LineFeed)) ≡ Ok c
        → turned r.open_brackets t ≡ Ok c
    clear true t p = p
    clear false t p = absurd (cc)

-- where an array goes on
abbrev pub IsInArray : Next → Type 0
IsInArray next.Member = Unit {0}
IsInArray next.After = Unit {0}
IsInArray next.AfterDate = Unit {0}
IsInArray n = ⊥

record GoesOnIn (bs : List Bracket) (c : Reading) : Type 0 where
  array : IsInArray c.next
  brackets : c.open_brackets ≡ bs

goes_to : (bs : List Bracket) (n : Next) (c : Reading) → IsInArray n → taken (record { open_brackets = bs; next = n }) ≡ Ok c
    → GoesOnIn bs c
goes_to bs n c h e =
    subst (GoesOnIn bs) (same_reading e) (record { array = h; brackets = refl })

goes_so : (bs : List Bracket) (ok : Bool) (n : Next) (e : Expected) (c : Reading) → IsInArray n → turned bs (where_so ok n e) ≡ Ok c
    → GoesOnIn bs c
goes_so bs true n e c h t = goes_to bs n c h t
goes_so bs false n e c h t = absurd (cc)

date_next : (b : Bool) → IsInArray (cond b next.AfterDate next.After)
date_next true = tt
date_next false = tt

word_in : (n : Next) (bs : List Bracket) (b : Option Bracket) (g s : List ℕ) (c : Reading) → IsInArray n
    → turned bs (word_turn n b g s) ≡ Ok c → GoesOnIn bs c
word_in next.Member bs b g s c h t = goes_so bs (is_value s) (cond (is_date s) next.AfterDate next.After) _ c (date_next (is_date s)) t
word_in next.AfterDate bs b g s c h t = goes_so bs (is_one_space g && is_time s) next.After _ c tt t
word_in next.After bs b g s c h t = absurd (cc)
word_in n bs b g s c h t = absurd h

comma_in : (n : Next) (bs : List Bracket) (c : Reading) → IsInArray n → turned bs (comma_turn n (Some bracket.Array)) ≡ Ok c → GoesOnIn bs c
comma_in next.After bs c h t = goes_to bs next.Member c tt t
comma_in next.AfterDate bs c h t = goes_to bs next.Member c tt t
comma_in next.Member bs c h t = absurd (cc)
comma_in n bs c h t = absurd h

line_in : (n : Next) (bs : List Bracket) (c : Reading) → IsInArray n → turned bs (line_end_turn n (Some bracket.Array)) ≡ Ok c
    → GoesOnIn bs c
line_in next.After bs c h t = goes_to bs next.After c tt t
line_in next.AfterDate bs c h t = goes_to bs next.After c tt t
line_in next.Member bs c h t = goes_to bs next.Member c tt t
line_in n bs c h t = absurd h

-- ---- numbers

-- a word stands directly before what touches one
abbrev pub IsAfterWord : Option (List ℕ) → Touch → Type 0
IsAfterWord None t = t ≡ after word → ⊥
IsAfterWord (Some w) t = t ≡ after word

pub no_key_in : (n : Next) → IsInArray n → IsKey n → ⊥
no_key_in (next.Key o due) h k = h
no_key_in next.Line h k = k
no_key_in next.Header h k = k
no_key_in next.Closing h k = k
no_key_in next.Value h k = k
no_key_in next.Member h k = k
no_key_in next.Entry h k = k
no_key_in next.After h k = k
no_key_in next.AfterDate h k = k

-- a word begins with a letter
pub word_letter : (s : List ℕ) → is_word s ≡ true → ends_word (head s) ≡ false
word_letter s h = by (ends_word (head s)) h
  where
    by : (b : Bool) → not b ≡ true → b ≡ false
    by true e = absurd (cc)
    by false e = refl

pub word_sort_is : (s : List ℕ) → IsWholeLexeme s → is_word s ≡ true → sort_of s ≡ sort.word
word_sort_is [] whole h = absurd (cc)
word_sort_is (x ∷ s) whole h = letter_sort x (word_letter (x ∷ s) h)

-- in an array no word is beside another
no_word_before : (p : Option (List ℕ)) (t : Touch) (n : Next) (s : List ℕ) → IsInArray n → IsAfterWord p t → MayTouch t n s
    → is_word s ≡ true
    → p ≡ None
no_word_before None t n s h a m w = refl
no_word_before (Some u) t n s h a m w = absurd (touched (subst (λ (k : Touch). MayTouch k n s) a m))
  where
    touched : (ends_word (head s) ≡ true) ⊎ (IsKey n × (ends_word (head s) ≡ false)) → ⊥
    touched (inl e) = true≢false (sym e ∙ word_letter s w)
    touched (inr k) = no_key_in n h k.0

number_after : (p : Option (List ℕ)) (ss ts : List (List ℕ)) → only_number_words ss ≡ only_number_words ts
    → only_number_words (word_then p ss) ≡ only_number_words (word_then p ts)
number_after None ss ts e = e
number_after (Some w) ss ts e = ap (is_among_numbers (sort_of w) w) e

-- a gap that is before what comes next
gap_for : (t : Touch) → (g : List ℕ) × IsGapAt t g
gap_for at_line = ([], (0, refl))
gap_for after_space = (32 ∷ [], refl)
gap_for (after l) = ([], refl)

pub stands_turn : (a c : Place) (s : List ℕ) (k : Sort) → Stands a s c → sort_of s ≡ k
    → (g : List ℕ) × (turned a.reading.open_brackets (sort_turn k a.reading.next (innermost a.reading.open_brackets) g s) ≡ Ok c.reading)
stands_turn a c s k st e =
    let g = gap_for a.touch in (g.0, step_turn a.reading c.reading g.0 s k e (st.step g.0 g.1))

-- what is no word by its letters is none by its sort
pub no_word_sort : (s : List ℕ) → IsWholeLexeme s → is_word s ≡ false → sort_of s ≡ sort.word → ⊥
no_word_sort s whole none e =
    let letter : ends_word (head s) ≡ false = subst (λ (l : Lex). BeginsAs l s) (ap lex_of e) (begins_as s whole) in
    true≢false (ap not (sym letter) ∙ none)

-- what a lexeme that is no word is to those after it
seen_same : (k : Sort) (s : List ℕ) (x y : Bool) → (k ≡ sort.word → ⊥) → (k ≡ sort.comma → x ≡ y) → (k ≡ sort.line_end → x ≡ y)
    → is_among_numbers k s x ≡ is_among_numbers k s y
seen_same sort.word s x y other f g = absurd (other refl)
seen_same sort.comma s x y other f g = f refl
seen_same sort.line_end s x y other f g = g refl
seen_same sort.open_array s x y other f g = refl
seen_same sort.open_table s x y other f g = refl
seen_same sort.close_array s x y other f g = refl
seen_same sort.close_table s x y other f g = refl
seen_same sort.equals s x y other f g = refl
seen_same sort.comment s x y other f g = refl
seen_same sort.string s x y other f g = refl
seen_same sort.text_end s x y other f g = refl

-- after a sign no word is
after_sign : (s : List ℕ) (c : Place) (k : Sort) → c.touch ≡ after (lex_of (sort_of s)) → sort_of s ≡ k → lex_of k ≡ sign
    → c.touch ≡ after word → ⊥
after_sign s c k t e sg w =
    let clash : after sign ≡ after word = ap after (sym sg) ∙ ap (λ (j : Sort). after (lex_of j)) (sym e) ∙ sym t ∙ w in cc

-- in an array, lexemes with words joined are numbers alone where those without are
abbrev pub NumbersJoined : List Bit → Type 0
NumbersJoined bits =
    (a b : Place) (p : Option (List ℕ)) → Runs a bits b → innermost a.reading.open_brackets ≡ Some bracket.Array → IsInArray a.reading.next
    → IsAfterWord p a.touch → only_number_words (word_then p (lexemes_then bits [])) ≡ only_number_words (joined_from p bits)

module _ (bits : List Bit) (more : NumbersJoined bits) (a b c : Place) (s : List ℕ) (st : Stands a s c) (runs : Runs c bits b)
    (in_array : innermost a.reading.open_brackets ≡ Some bracket.Array) (goes : IsInArray a.reading.next) where
  on_in : (p : Option (List ℕ)) → GoesOnIn a.reading.open_brackets c.reading → IsAfterWord p c.touch
      → only_number_words (word_then p (lexemes_then bits [])) ≡ only_number_words (joined_from p bits)
  on_in p h t = more c b p runs (ap innermost h.brackets ∙ in_array) h.array t

  word_numbers : is_word s ≡ true → only_number_words (lexeme_then s (lexemes_then bits [])) ≡ only_number_words (joined_from (Some s) bits)
  word_numbers w =
      let e = word_sort_is s st.whole w in
      let t = stands_turn a c s sort.word st e in
      ap only_number_words (alone_is s st.whole.alone (lexemes_then bits []))
      ∙ on_in (Some s) (word_in a.reading.next a.reading.open_brackets (innermost a.reading.open_brackets) t.0 s c.reading goes t.1)
      (st.touch ∙ ap (λ (k : Sort). after (lex_of k)) e)

  comma_numbers : sort_of s ≡ sort.comma → only_number_words (lexemes_then bits []) ≡ only_number_words (joined_from None bits)
  comma_numbers e =
      let t = stands_turn a c s sort.comma st e in
      on_in None
      (comma_in a.reading.next a.reading.open_brackets c.reading goes
      (subst (λ (q : Option Bracket). turned a.reading.open_brackets (comma_turn a.reading.next q) ≡ Ok c.reading) in_array t.1))
      (after_sign s c sort.comma st.touch e refl)

  line_numbers : sort_of s ≡ sort.line_end → only_number_words (lexemes_then bits []) ≡ only_number_words (joined_from None bits)
  line_numbers e =
      let t = stands_turn a c s sort.line_end st e in
      on_in None
      (line_in a.reading.next a.reading.open_brackets c.reading goes
      (subst (λ (q : Option Bracket). turned a.reading.open_brackets (line_end_turn a.reading.next q) ≡ Ok c.reading) in_array t.1))
      (after_sign s c sort.line_end st.touch e refl)

  other_numbers : is_word s ≡ false
      → only_number_words (lexeme_then s (lexemes_then bits [])) ≡ only_number_words (lexeme_then s (joined_from None bits))
  other_numbers none =
      ap only_number_words (alone_is s st.whole.alone (lexemes_then bits []))
      ∙ seen_same (sort_of s) s (only_number_words (lexemes_then bits [])) (only_number_words (joined_from None bits))
      (no_word_sort s st.whole none) comma_numbers line_numbers
      ∙ ap only_number_words (sym (alone_is s st.whole.alone (joined_from None bits)))

  text_numbers : (p : Option (List ℕ)) (w : Bool) → is_word s ≡ w → IsAfterWord p a.touch
      → only_number_words (word_then p (lexeme_then s (lexemes_then bits [])))
      ≡ only_number_words (cond w (joined_from (Some (with_word p s)) bits) (word_then p (lexeme_then s (joined_from None bits))))
  text_numbers p true w t =
      let none = no_word_before p a.touch a.reading.next s goes t st.touches w in
      subst
      (λ (q : Option (List ℕ)).
      only_number_words (word_then q (lexeme_then s (lexemes_then bits []))) ≡ only_number_words (joined_from (Some (with_word q s)) bits))
      (sym none) (word_numbers w)
  text_numbers p false w t =
      number_after p (lexeme_then s (lexemes_then bits [])) (lexeme_then s (joined_from None bits)) (other_numbers w)

pub space_none : after_space ≡ after word → ⊥
space_none e = cc

pub line_none : at_line ≡ after word → ⊥
line_none e = cc

pub numbers_joined : (bits : List Bit) → NumbersJoined bits
numbers_joined [] a b p runs i h t = refl
numbers_joined (end_of_line ∷ bits) a b p (r, may, ends, runs) i h t =
    let on = line_in a.reading.next a.reading.open_brackets r h
    (subst (λ (q : Option Bracket). turned a.reading.open_brackets (line_end_turn a.reading.next q) ≡ Ok r) i ends) in
    number_after p ((10 ∷ []) ∷ lexemes_then bits []) ((10 ∷ []) ∷ joined_from None bits)
    (numbers_joined bits (place at_line r) b None runs (ap innermost on.brackets ∙ i) on.array line_none)
numbers_joined (text_of s ∷ bits) a b p (c, inl space, runs) i h t =
    subst
    (λ (u : List ℕ).
    only_number_words (word_then p (lexeme_then u (lexemes_then bits [])))
    ≡ only_number_words (cond (is_word u) (joined_from (Some (with_word p u)) bits) (word_then p (lexeme_then u (joined_from None bits)))))
    (sym space.space)
    (number_after p (lexemes_then bits []) (joined_from None bits)
    (numbers_joined bits (place after_space a.reading) b None (subst (λ (q : Place). Runs q bits b) space.place runs) i h space_none))
numbers_joined (text_of s ∷ bits) a b p (c, inr st, runs) i h t =
    text_numbers bits (numbers_joined bits) a b c s st runs i h p (is_word s) refl t

-- ---- keys

plain_byte : (x : ℕ) → is_key_byte x ≡ true → (nat_lt x 128 ≡ true) × ((x == byte.line_feed) ≡ false)
plain_byte x h = (grind (arith, nat_tests, h), grind (arith, nat_tests, h))

both_true : (a b : Bool) → a && b ≡ true → (a ≡ true) × (b ≡ true)
both_true true b h = (refl, h)
both_true false b h = absurd (cc)

pub plain_key : (s : List ℕ) → list_all is_key_byte s ≡ true → (is_ascii s ≡ true) × (list_any is_line_feed_byte s ≡ false)
plain_key [] h = (refl, refl)
plain_key (x ∷ s) h =
    let parts = both_true (is_key_byte x) (list_all is_key_byte s) h in
    let one = plain_byte x parts.0 in
    let more = plain_key s parts.1 in
    (λ i. one.0 i && more.0 i, λ i. one.1 i || more.1 i)

-- in a key, a part is due where the word ends with a dot
abbrev pub IsKeyDue : Next → List ℕ → Type 0
IsKeyDue (next.Key o due) w = IsPlainWord w × (due ≡ ends_with_dot w)
IsKeyDue n w = Unit {0}

key_word_plain : (due later : Bool) (x : ℕ) (s : List ℕ) → key_word due (x ∷ s) ≡ Some later → IsPlainWord (x ∷ s)
key_word_plain due later x s h =
    let plain = plain_key (x ∷ s) (key_word_bytes due later (x ∷ s) h) in
    record { some = λ e. absurd (cc); ascii = plain.0; line = plain.1 }

due_of : (o : Owner) (due : Bool) (bs : List Bracket) (e : Expected) (x : ℕ) (s : List ℕ) (c : Reading) (k : Option Bool)
    → key_word due (x ∷ s) ≡ k → turned bs (key_turn o k e) ≡ Ok c → IsKeyDue c.next (x ∷ s)
due_of o due bs e x s c None is t = absurd (cc)
due_of o due bs e x s c (Some later) is t =
    subst (λ (r : Reading). IsKeyDue r.next (x ∷ s)) (same_reading t) (key_word_plain due later x s is, key_word_end due later x s is)

no_due : (bs : List Bracket) (ok d : Bool) (e : Expected) (w : List ℕ) (c : Reading)
    → turned bs (where_so ok (cond d next.AfterDate next.After) e) ≡ Ok c → IsKeyDue c.next w
no_due bs true true e w c t = subst (λ (r : Reading). IsKeyDue r.next w) (same_reading t) tt
no_due bs true false e w c t = subst (λ (r : Reading). IsKeyDue r.next w) (same_reading t) tt
no_due bs false d e w c t = absurd (cc)

pub word_due : (n : Next) (bs : List Bracket) (b : Option Bracket) (g : List ℕ) (x : ℕ) (s : List ℕ) (c : Reading)
    → turned bs (word_turn n b g (x ∷ s)) ≡ Ok c → IsKeyDue c.next (x ∷ s)
word_due next.Line bs b g x s c t = due_of owner.Value true bs _ x s c (key_word true (x ∷ s)) refl t
word_due next.Header bs b g x s c t = due_of owner.Table true bs _ x s c (key_word true (x ∷ s)) refl t
word_due (next.Key o due) bs b g x s c t = due_of o due bs _ x s c (key_word due (x ∷ s)) refl t
word_due next.Entry bs b g x s c t = due_of owner.Value true bs _ x s c (key_word true (x ∷ s)) refl t
word_due next.Value bs b g x s c t = no_due bs (is_value (x ∷ s)) (is_date (x ∷ s)) _ (x ∷ s) c t
word_due next.Member bs b g x s c t = no_due bs (is_value (x ∷ s)) (is_date (x ∷ s)) _ (x ∷ s) c t
word_due next.AfterDate bs b g x s c t = no_due bs (is_one_space g && is_time (x ∷ s)) false _ (x ∷ s) c t
word_due next.Closing bs b g x s c t = absurd (cc)
word_due next.After bs b g x s c t = absurd (cc)

-- two words of a key meet at a dot
record AreMet (w s : List ℕ) : Type 0 where
  plain : IsPlainWord s
  meet : ends_with_dot w || (head s == dot) ≡ true

met_by : (o : Owner) (due dotted : Bool) (bs : List Bracket) (e : Expected) (x : ℕ) (s : List ℕ) (c : Reading) (k : Option Bool)
    → due ≡ dotted → key_word due (x ∷ s) ≡ k → turned bs (key_turn o k e) ≡ Ok c → dotted || (x == dot) ≡ true
met_by o due true bs e x s c k d is t = refl
met_by o due false bs e x s c None d is t = absurd (cc)
met_by o due false bs e x s c (Some later) d is t =
    key_word_start later x s (ap (λ (b : Bool). key_word b (x ∷ s)) (sym d) ∙ is)

pub words_meet_at : (n : Next) (bs : List Bracket) (b : Option Bracket) (g w : List ℕ) (x : ℕ) (s : List ℕ) (c : Reading) → IsKey n
    → IsKeyDue n w → turned bs (word_turn n b g (x ∷ s)) ≡ Ok c → ends_with_dot w || (x == dot) ≡ true
words_meet_at (next.Key o due) bs b g w x s c k d t =
    met_by o due (ends_with_dot w) bs _ x s c (key_word due (x ∷ s)) d.1 refl t
words_meet_at n bs b g w x s c k d t = absurd k

pub plain_before : (n : Next) (w : List ℕ) → IsKey n → IsKeyDue n w → IsPlainWord w
plain_before (next.Key o due) w k d = d.0
plain_before n w k d = absurd k

-- in a key, what comes after a word
pub plain_after : (n : Next) (bs : List Bracket) (b : Option Bracket) (g : List ℕ) (x : ℕ) (s : List ℕ) (c : Reading) → IsKey n
    → turned bs (word_turn n b g (x ∷ s)) ≡ Ok c → IsPlainWord (x ∷ s)
plain_after (next.Key o due) bs b g x s c k t = go (key_word due (x ∷ s)) refl t
  where
    go : (m : Option Bool) → key_word due (x ∷ s) ≡ m → turned bs (key_turn o m (expected (next.Key o due) b)) ≡ Ok c → IsPlainWord (x ∷ s)
    go None is u = absurd (cc)
    go (Some later) is u = key_word_plain due later x s is
plain_after n bs b g x s c k t = absurd k

pub ends_both : (w : List ℕ) (x : ℕ) (s : List ℕ) → ends_with_dot (w ++ (x ∷ s)) ≡ ends_with_dot (x ∷ s)
ends_both [] x s = refl
ends_both (y ∷ []) x s = same_end y x s
ends_both (y ∷ z ∷ w) x s = same_end y z (w ++ (x ∷ s)) ∙ ends_both (z ∷ w) x s

-- after both, a part is due as after the second
pub both_due : (n : Next) (w : List ℕ) (x : ℕ) (s : List ℕ) → IsPlainWord w → IsKeyDue n (x ∷ s) → IsKeyDue n (w ++ (x ∷ s))
both_due (next.Key o due) w x s p h = (plain_words w (x ∷ s) p h.0, h.1 ∙ sym (ends_both w x s))
both_due next.Line w x s p h = tt
both_due next.Header w x s p h = tt
both_due next.Closing w x s p h = tt
both_due next.Value w x s p h = tt
both_due next.Member w x s p h = tt
both_due next.Entry w x s p h = tt
both_due next.After w x s p h = tt
both_due next.AfterDate w x s p h = tt
