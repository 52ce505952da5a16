-- The bytes before where a text stops being JSON begin a text that is JSON.
use Rattle.std.proofs.Common.{◌≡◌, ℕ, zero, suc, ◌+◌, ◌-◌, ◌≤◌, true, false, Bool, cond, ◌&&◌, ◌||◌, List}
use Rattle.std.proofs.Common.{[], ◌∷◌}
use Rattle.std.proofs.Common.{◌++◌, length, take, drop, reverse, Option, Some, None, option_and_then, refl, sym, ap, ◌∙◌, subst}
use Rattle.std.proofs.Common.{arith}
use Rattle.std.proofs.Common.{IsSome, append-nil, append_assoc}
use Rattle.std.specs.Prelude.{⊤}
use Rattle.std.proofs.lemmas.Bool.{true≢false, and_parts, or_parts}
use Rattle.std.proofs.lemmas.List.{length-append, reverse-reverse, take-append-le}
use Rattle.std.proofs.Math.Seq.{drop-append_seam, take-append-add, take-append_seam, take-length}
use Rattle.json.specs.Text.{content}
use Rattle.json.specs.Word.{is_operator, is_space, ends_word, head}
use Rattle.json.specs.Lex.{Class, quote, backslash, operator, space, other, class, between, in_word, in_string, lex}
use Rattle.json.proofs.Found.{Some_inj}
use Rattle.json_validity.specs.Document.{document}
use Rattle.text_lexemes.specs.Languages.{lengthened}
use Rattle.json_lexemes.specs.Lexemes.{cut, lexemes}
use Rattle.json_lexemes.specs.Spaced.{IsGap}
use Rattle.json_lexemes.specs.SpacedLexemes.{AreGaps, Spaced, after_gap, lexemes_of, put_together, spaced_as, spaced_lexemes}
use Rattle.json_lexemes.proofs.Classes.{IsOfClass, IsOfClass-class, each_operator}
use Rattle.json_lexemes.proofs.NotEmpty.{IsBegun}
use Rattle.json_lexemes.proofs.Reading.{cut-gap, gap_ends}
use Rattle.json_lexemes.proofs.Sound.{cut-sign, cut-space}
use Rattle.json_lexemes.proofs.SpacedLexemes.{first_spaced, gaps_spaces, spaced_are_lexemes, texts_joined}
use Rattle.json_lexemes.proofs.Strings.{whole_string}
use Rattle.json_lexemes.proofs.Words.{cut-word, run_of}
use Rattle.json_grammar.specs.Faults.{ReachesJson, StopsAtLexeme, expects_string}
use Rattle.json_grammar.specs.Laws.{BeginsJson, FrontsBeginJson, StringsBeginJson, TextsBeginJson}
use Rattle.json_grammar.specs.Next as next
use Rattle.json_grammar.specs.Next.{closes_array, closes_object, expects_value, is_key}
use Rattle.json_grammar.specs.Readings as sort
use Rattle.json_grammar.specs.Readings.{JsonReading, JsonSort, before, after_value_in, first_json_reading, is_leaf}
use Rattle.json_grammar.specs.Readings.{json_reading_after, json_sort_of, json_step, keyed, sort_step, valued}
use Rattle.json_grammar.specs.Strings.{BeginsString, IsStringFault, is_closed_at}
use Rattle.json_grammar.specs.declared.expected.Expected.{Expected}
use Rattle.json_grammar.specs.declared.expected.Expected.TheVariants as want
use Rattle.json_grammar.specs.declared.next.Bracket.{Bracket}
use Rattle.json_grammar.specs.declared.next.Bracket.TheVariants.{Array, Object}
use Rattle.json_grammar.proofs.Accepted.{AreLeaves, IsLeafIfAny, close_step, stepped, string_leaf}
use Rattle.json_grammar.proofs.Closing.{leaf_cut}
use Rattle.json_grammar.proofs.Completed.{Fits, IsGood, first, innermost_first, is_document, one_step, reversed, step_good, taken}
use Rattle.json_grammar.proofs.Meeting.{bad_leaf, leaf_content, passes}
use Rattle.json_grammar.proofs.Reached.{lexemes_of-append, read-append, together-append}

-- ---- lexemes before other bytes

-- where it is JSON, the lexeme s is cut off before any bytes as it is before these, but that a word has to end there too
abbrev IsCutOff : List ℕ → List ℕ → Type 0
IsCutOff s here = IsLeafIfAny (json_sort_of s) s → (r : List ℕ) → (ends_word here ≡ true → ends_word r ≡ true)
    → cut between (s ++ r) ≡ s
    ∷ cut between r

-- the bytes are these lexemes after gaps, and so is each
abbrev AreCutOff : List ℕ → List (List ℕ) → Type 0
AreCutOff xs [] = ⊤
AreCutOff xs (s ∷ ss) = (g : List ℕ) × (rest : List ℕ) × IsGap g × IsBegun s × (xs
    ≡ g ++ (s ++ rest)) × IsCutOff s rest × AreCutOff rest ss

abbrev HasCuts : List ℕ → Type 0
HasCuts xs = AreCutOff xs (cut between xs)

one_cut : (s xs rest : List ℕ) → cut between xs ≡ s ∷ cut between rest → xs ≡ s ++ rest → IsBegun s → IsCutOff s rest
    → HasCuts rest
    → HasCuts xs
one_cut s xs rest cuts is begun off h = subst (AreCutOff xs) (sym cuts) ([], rest, tt, begun, is, off, h)

space_before : (x : ℕ) (xs : List ℕ) (ss : List (List ℕ)) → is_space x ≡ true → AreCutOff xs ss → AreCutOff (x ∷ xs) ss
space_before x xs [] e h = tt
space_before x xs (s ∷ ss) e (g, rest, gap, begun, is, off, h) =
    (x ∷ g, rest, (e, gap), begun, ap (λ (l : List ℕ). x ∷ l) is, off, h)

no_space : (x : ℕ) → is_operator x ≡ true → is_space x ≡ false
no_space = each_operator (λ x. is_space x ≡ false) refl refl refl refl refl refl

-- a string that is JSON ends where it is cut off
string_off : (f rest : List ℕ) → is_leaf (34 ∷ f) ≡ true → cut between (34 ∷ (f ++ rest))
    ≡ (34 ∷ f) ∷ cut between rest → (r : List ℕ)
    → cut between (34 ∷ (f ++ r)) ≡ (34 ∷ f) ∷ cut between r
string_off f rest leaf cuts r =
    let c = leaf_content f leaf in
    let w = whole_string f c.0 c.1 in
    let more : w.front ++ (w.rest ++ rest) ≡ f ++ rest =
    sym (append_assoc w.front w.rest rest) ∙ ap (λ (l : List ℕ). l ++ rest) (sym w.is) in
    let again : cut between (34 ∷ (f ++ rest)) ≡ (34 ∷ w.front) ∷ cut between (w.rest ++ rest) =
    ap (λ (l : List ℕ). cut between (34 ∷ l)) (sym more) ∙ w.cuts (w.rest ++ rest) in
    let same : w.front ≡ f = cc in
    subst (λ (l : List ℕ). cut between (34 ∷ (l ++ r)) ≡ (34 ∷ l) ∷ cut between r) same (w.cuts r)

module _ (n : ℕ) (shorter : (xs : List ℕ) → length xs ≤ n → HasCuts xs) (xs : List ℕ) (le : length xs ≤ n) where
  rest_cut : (front rest : List ℕ) → xs ≡ front ++ rest → HasCuts rest
  rest_cut front rest is = shorter rest (omega (arith, ap length is, length-append front rest))

  at_quote : HasCuts (34 ∷ xs)
  unfolding cut
  at_quote =
      let p = passes xs in_string in
      let split : 34 ∷ xs ≡ (34 ∷ p.front) ++ p.rest = ap (λ (l : List ℕ). 34 ∷ l) p.is in
      let cuts : cut between (34 ∷ xs) ≡ (34 ∷ p.front) ∷ cut between p.rest = ap (lengthened 34) p.cuts in
      one_cut (34 ∷ p.front) (34 ∷ xs) p.rest cuts split refl
      (λ leaf r ends. string_off p.front p.rest leaf (ap (cut between) (sym split) ∙ cuts) r) (rest_cut p.front p.rest p.is)

  at_backslash : HasCuts (92 ∷ xs)
  unfolding cut lex
  at_backslash =
      let p = passes xs in_word in
      one_cut (92 ∷ p.front) (92 ∷ xs) p.rest (ap (lengthened 92) p.cuts) (ap (λ (l : List ℕ). 92 ∷ l) p.is) refl
      (λ leaf r ends. absurd (true≢false (sym leaf ∙ bad_leaf (92 ∷ p.front) (lex in_word p.front) refl)))
      (rest_cut p.front p.rest p.is)

  at_word : (x : ℕ) → class x ≡ other → HasCuts (x ∷ xs)
  at_word x e =
      let w = run_of xs in
      let says : IsOfClass other x = subst (λ c. IsOfClass c x) e (IsOfClass-class x) in
      let split : x ∷ xs ≡ (x ∷ w.front) ++ w.rest = ap (λ (l : List ℕ). x ∷ l) w.is in
      one_cut (x ∷ w.front) (x ∷ xs) w.rest (ap (cut between) split ∙ cut-word x w.front w.rest e w.run w.ended) split
      (or_parts (is_operator x) (is_space x) says).1
      (λ leaf r ends. cut-word x w.front r e w.run (ends w.ended)) (rest_cut w.front w.rest w.is)

  by_class : (x : ℕ) (c : Class) → class x ≡ c → IsOfClass c x → HasCuts (x ∷ xs)
  by_class x quote e says = subst (λ y. HasCuts (y ∷ xs)) (sym says) at_quote
  by_class x backslash e says = subst (λ y. HasCuts (y ∷ xs)) (sym says) at_backslash
  by_class x operator e says =
      one_cut (x ∷ []) (x ∷ xs) xs (cut-sign x xs e) refl (no_space x says) (λ leaf r ends. cut-sign x r e) (shorter xs le)
  by_class x space e says = subst (AreCutOff (x ∷ xs)) (sym (cut-space x xs e)) (space_before x xs (cut between xs) says (shorter xs le))
  by_class x other e says = at_word x e

cuts_within : (n : ℕ) (xs : List ℕ) → length xs ≤ n → HasCuts xs
unfolding cut
cuts_within n [] le = tt
cuts_within zero (x ∷ xs) le = absurd (omega arith)
cuts_within (suc n) (x ∷ xs) le = by_class n (cuts_within n) xs (omega arith) x (class x) refl (IsOfClass-class x)

-- ---- the first lexemes before other bytes

-- where those end, others come here; before bytes that end a word where these do, they are cut off alike
record Front (xs : List ℕ) (ss others : List (List ℕ)) : Type 0 where
  ps : List Spaced
  here : List ℕ
  left : AreCutOff here others
  splits : spaced_as xs (ss ++ others) ≡ ps ++ spaced_as here others
  same : lexemes_of ps ≡ ss
  cuts : (more : List ℕ) → (ends_word here ≡ true → ends_word more ≡ true)
      → cut between (put_together ps ++ more) ≡ ss ++ cut between more
  ends : (more : List ℕ) → (ends_word here ≡ true → ends_word more ≡ true) → ends_word xs ≡ true
      → ends_word (put_together ps ++ more) ≡ true

same_start : (g s a b : List ℕ) → IsBegun s → ends_word (g ++ (s ++ a)) ≡ true → ends_word (g ++ (s ++ b)) ≡ true
same_start [] [] a b h e = absurd h
same_start [] (x ∷ s) a b h e = e
same_start (x ∷ g) s a b h e = e

front_of : (ss others : List (List ℕ)) (xs : List ℕ) → AreCutOff xs (ss ++ others) → AreLeaves ss → Front xs ss others
front_of [] others xs h leaves =
    record { ps = []; here = xs; left = h; splits = refl; same = refl; cuts = λ more kept. refl; ends = λ more kept. kept }
front_of (s ∷ ss) others xs (g, rest, gap, begun, is, off, h) leaves =
    let f = front_of ss others rest h leaves.1 in
    let bytes : (more : List ℕ) → put_together (after_gap g s ∷ f.ps) ++ more ≡ g ++ (s ++ (put_together f.ps ++ more)) =
    λ more. append_assoc g (s ++ put_together f.ps) more ∙ ap (λ (l : List ℕ). g ++ l) (append_assoc s (put_together f.ps) more) in
    record {
      ps = after_gap g s ∷ f.ps;
      here = f.here;
      left = f.left;
      splits = first_spaced xs g s rest (ss ++ others) gap begun is ∙ ap (λ (l : List Spaced). after_gap g s ∷ l) f.splits;
      same = ap (λ (l : List (List ℕ)). s ∷ l) f.same;
      cuts = λ more kept.
          ap (cut between) (bytes more) ∙ cut-gap g (s ++ (put_together f.ps ++ more)) gap
          ∙ off leaves.0 (put_together f.ps ++ more) (f.ends more kept) ∙ ap (λ (l : List (List ℕ)). s ∷ l) (f.cuts more kept);
      ends = λ more kept e. ap ends_word (bytes more) ∙ same_start g s rest (put_together f.ps ++ more) begun (sym
          (ap ends_word is) ∙ e);
    }

same_count : (ps : List Spaced) → length (lexemes_of ps) ≡ length ps
same_count [] = refl
same_count (p ∷ ps) = omega (arith, same_count ps)

same_front : (ps qs rs ts : List Spaced) → ps ++ qs ≡ rs ++ ts → length ps ≡ length rs → ps ≡ rs
same_front ps qs rs ts e count =
    sym (take-append_seam ps qs) ∙ ap (λ (l : List Spaced). take (length ps) l) e ∙ ap (λ (k : ℕ). take k (rs ++ ts)) count
    ∙ take-append_seam rs ts

-- where the rest of what was spaced begins
record Left (rest : List Spaced) : Type 0 where
  here : List ℕ
  left : AreCutOff here (lexemes_of rest)
  splits : rest ≡ spaced_as here (lexemes_of rest)

-- what was read is cut off alike before other bytes
read_cut : (text : List ℕ) (front rest : List Spaced) (more : List ℕ) → spaced_lexemes text ≡ front ++ rest
    → AreLeaves (lexemes_of front)
    → ((l : Left rest) → ends_word l.here ≡ true → ends_word more ≡ true)
    → cut between (put_together front ++ more) ≡ lexemes_of front ++ cut between more
read_cut text front rest more cuts leaves kept =
    let all : lexemes text ≡ lexemes_of front ++ lexemes_of rest =
    sym (spaced_are_lexemes text) ∙ ap lexemes_of cuts ∙ lexemes_of-append front rest in
    let h : AreCutOff text (lexemes_of front ++ lexemes_of rest) =
    subst (AreCutOff text) all (cuts_within (length text) text (omega arith)) in
    let f = front_of (lexemes_of front) (lexemes_of rest) text h leaves in
    let both : front ++ rest ≡ f.ps ++ spaced_as f.here (lexemes_of rest) = sym cuts ∙ ap (spaced_as text) all ∙ f.splits in
    let count : length front ≡ length f.ps = sym (same_count front) ∙ ap length (sym f.same) ∙ same_count f.ps in
    let is : front ≡ f.ps = same_front front rest f.ps (spaced_as f.here (lexemes_of rest)) both count in
    let left : rest ≡ spaced_as f.here (lexemes_of rest) =
    sym (drop-append_seam front rest) ∙ ap (λ (l : List Spaced). drop (length front) l) both
    ∙ ap (λ (k : ℕ). drop k (f.ps ++ spaced_as f.here (lexemes_of rest))) count
    ∙ drop-append_seam f.ps (spaced_as f.here (lexemes_of rest)) in
    ap (λ (l : List Spaced). cut between (put_together l ++ more)) is
    ∙ f.cuts more (kept (record { here = f.here; left = f.left; splits = left }))

-- ---- what was read

step_leaf : (o : JsonSort) (r t : JsonReading) (s : List ℕ) → sort_step o r s ≡ Some t → IsLeafIfAny o s
step_leaf sort.open_array r t s e = tt
step_leaf sort.close_array r t s e = tt
step_leaf sort.open_object r t s e = tt
step_leaf sort.close_object r t s e = tt
step_leaf sort.comma r t s e = tt
step_leaf sort.colon r t s e = tt
step_leaf sort.string r t s e = by (is_key r.next) e
  where
    by : (b : Bool) → cond b (cond (is_leaf s) (Some (before r.open_brackets want.Colon)) None) (valued r s) ≡ Some t
        → is_leaf s ≡ true
    by true f = (taken (is_leaf s) (before r.open_brackets want.Colon) t f).0
    by false f = (and_parts (expects_value r.next) (is_leaf s)
        (taken (expects_value r.next && is_leaf s) (after_value_in r.open_brackets) t f).0).1
step_leaf sort.word r t s e =
    (and_parts (expects_value r.next) (is_leaf s) (taken (expects_value r.next && is_leaf s) (after_value_in r.open_brackets) t e).0).1

read_leaves : (ss : List (List ℕ)) (r u : JsonReading) → json_reading_after r ss ≡ Some u → AreLeaves ss
read_leaves [] r u e = tt
read_leaves (s ∷ ss) r u e =
    let step = one_step r u s ss e in
    (step_leaf (json_sort_of s) r step.0 s step.1, read_leaves ss step.0 u step.2)

read_good : (ss : List (List ℕ)) (r u : JsonReading) → IsGood r → json_reading_after r ss ≡ Some u → IsGood u
read_good [] r u good e = subst IsGood (Some_inj r u e) good
read_good (s ∷ ss) r u good e =
    let step = one_step r u s ss e in
    read_good ss step.0 u (step_good (json_sort_of s) r.open_brackets r.next s step.0 good step.1) step.2

-- ---- how a text goes on to its end

abbrev closers : List Bracket → List ℕ
closers [] = []
closers (Array ∷ bs) = 93 ∷ closers bs
closers (Object ∷ bs) = 125 ∷ closers bs

abbrev finished : JsonReading
finished = before [] want.End

-- these bytes lead to the end
abbrev Finishes : JsonReading → List ℕ → Type 0
Finishes r bytes = json_reading_after r (cut between bytes) ≡ Some finished

-- after a value, and where a list may end
abbrev AfterValue : List Bracket → Type 0
AfterValue bs = Finishes (after_value_in (reverse bs)) (closers bs)

-- a list is ended where its closing bracket may stand
closed : (b : Bracket) (bs : List Bracket) (closes : Bool) → closes ≡ true
    → cond closes (Some (after_value_in (take (length (reverse bs ++ b ∷ []) - 1) (reverse bs ++ b ∷ [])))) None
    ≡ Some (after_value_in (reverse bs))
closed b bs closes e =
    ap (λ c. cond c (Some (after_value_in (take (length (reverse bs ++ b ∷ []) - 1) (reverse bs ++ b ∷ [])))) None) e
    ∙ close_step (reverse bs) b

-- its closing bracket leads on to what finishes the lists around it
bracket_finishes : (b : Bracket) (sign : ℕ) (bs : List Bracket) (n : Expected) → class sign ≡ operator
    → json_step (before (reverse bs ++ b ∷ []) n) (sign ∷ []) ≡ Some (after_value_in (reverse bs)) → AfterValue bs
    → Finishes (before (reverse (b ∷ bs)) n) (sign ∷ closers bs)
bracket_finishes b sign bs n is step h =
    ap (json_reading_after (before (reverse (b ∷ bs)) n)) (cut-sign sign (closers bs) is)
    ∙ ap (λ (l : List Bracket). json_reading_after (before l n) ((sign ∷ []) ∷ cut between (closers bs))) (reversed b bs)
    ∙ stepped (before (reverse bs ++ b ∷ []) n) (after_value_in (reverse bs)) (sign ∷ []) (cut between (closers bs)) step
    ∙ h

array_finishes : (bs : List Bracket) (n : Expected) → closes_array n ≡ true → AfterValue bs
    → Finishes (before (reverse (Array ∷ bs)) n) (closers (Array ∷ bs))
array_finishes bs n e h = bracket_finishes Array 93 bs n refl (closed Array bs (closes_array n) e) h

object_finishes : (bs : List Bracket) (n : Expected) → closes_object n ≡ true → AfterValue bs
    → Finishes (before (reverse (Object ∷ bs)) n) (closers (Object ∷ bs))
object_finishes bs n e h = bracket_finishes Object 125 bs n refl (closed Object bs (closes_object n) e) h

after_first : (bs : List Bracket) → after_value_in (reverse bs) ≡ before (reverse bs) (next.after_value (first bs))
after_first bs = ap (λ (o : Option Bracket). before (reverse bs) (next.after_value o)) (innermost_first bs)

after_value_finishes : (bs : List Bracket) → AfterValue bs
unfolding cut
after_value_finishes [] = refl
after_value_finishes (Array ∷ bs) =
    ap (λ (r : JsonReading). json_reading_after r (cut between (closers (Array ∷ bs)))) (after_first (Array ∷ bs))
    ∙ array_finishes bs want.CommaOrBracket refl (after_value_finishes bs)
after_value_finishes (Object ∷ bs) =
    ap (λ (r : JsonReading). json_reading_after r (cut between (closers (Object ∷ bs)))) (after_first (Object ∷ bs))
    ∙ object_finishes bs want.CommaOrBrace refl (after_value_finishes bs)

-- an empty string is a value or a key
empty_leaf : is_leaf (34 ∷ 34 ∷ []) ≡ true
unfolding lex content
empty_leaf = string_leaf (34 ∷ 34 ∷ []) [] refl

empty_cut : (r : List ℕ) → cut between (34 ∷ 34 ∷ r) ≡ (34 ∷ 34 ∷ []) ∷ cut between r
unfolding cut
empty_cut r = refl

colon_cut : (r : List ℕ) → cut between (58 ∷ r) ≡ (58 ∷ []) ∷ cut between r
colon_cut r = cut-sign 58 r refl

value_finishes : (bs : List Bracket) → Finishes (before (reverse bs) want.Value) (34 ∷ 34 ∷ closers bs)
value_finishes bs =
    ap (json_reading_after (before (reverse bs) want.Value)) (empty_cut (closers bs))
    ∙ stepped (before (reverse bs) want.Value) (after_value_in (reverse bs)) (34 ∷ 34 ∷ []) (cut between (closers bs))
    (ap (λ b. cond b (Some (after_value_in (reverse bs))) None) empty_leaf)
    ∙ after_value_finishes bs

colon_finishes : (bs : List Bracket) → Finishes (before (reverse bs) want.Colon) (58 ∷ 34 ∷ 34 ∷ closers bs)
colon_finishes bs =
    ap (json_reading_after (before (reverse bs) want.Colon)) (colon_cut (34 ∷ 34 ∷ closers bs))
    ∙ stepped (before (reverse bs) want.Colon) (before (reverse bs) want.Value) (58 ∷ []) (cut between (34 ∷ 34 ∷ closers bs)) refl
    ∙ value_finishes bs

key_finishes : (bs : List Bracket) → Finishes (before (reverse bs) want.Key) (34 ∷ 34 ∷ 58 ∷ 34 ∷ 34 ∷ closers bs)
key_finishes bs =
    ap (json_reading_after (before (reverse bs) want.Key)) (empty_cut (58 ∷ 34 ∷ 34 ∷ closers bs))
    ∙ stepped (before (reverse bs) want.Key) (before (reverse bs) want.Colon) (34 ∷ 34 ∷ []) (cut between
    (58 ∷ 34 ∷ 34 ∷ closers bs))
    (ap (λ b. cond b (Some (before (reverse bs) want.Colon)) None) empty_leaf)
    ∙ colon_finishes bs

-- each good reading goes on to its end
finishes : (bs : List Bracket) (n : Expected) → Fits bs n → (bytes : List ℕ) × Finishes (before (reverse bs) n) bytes
unfolding cut
finishes bs want.Value fits = (34 ∷ 34 ∷ closers bs, value_finishes bs)
finishes [] want.ValueOrBracket fits = absurd fits
finishes (Array ∷ bs) want.ValueOrBracket fits =
    (closers (Array ∷ bs), array_finishes bs want.ValueOrBracket refl (after_value_finishes bs))
finishes (Object ∷ bs) want.ValueOrBracket fits = absurd fits
finishes bs want.Key fits = (34 ∷ 34 ∷ 58 ∷ 34 ∷ 34 ∷ closers bs, key_finishes bs)
finishes [] want.KeyOrBrace fits = absurd fits
finishes (Array ∷ bs) want.KeyOrBrace fits = absurd fits
finishes (Object ∷ bs) want.KeyOrBrace fits = (closers (Object ∷ bs), object_finishes bs want.KeyOrBrace refl (after_value_finishes bs))
finishes bs want.Colon fits = (58 ∷ 34 ∷ 34 ∷ closers bs, colon_finishes bs)
finishes [] want.CommaOrBracket fits = absurd fits
finishes (Array ∷ bs) want.CommaOrBracket fits =
    (closers (Array ∷ bs), array_finishes bs want.CommaOrBracket refl (after_value_finishes bs))
finishes (Object ∷ bs) want.CommaOrBracket fits = absurd fits
finishes [] want.CommaOrBrace fits = absurd fits
finishes (Array ∷ bs) want.CommaOrBrace fits = absurd fits
finishes (Object ∷ bs) want.CommaOrBrace fits = (
  closers (Object ∷ bs),
  object_finishes bs want.CommaOrBrace refl
      (after_value_finishes bs),
)
finishes [] want.End fits = ([], refl)
finishes (b ∷ bs) want.End fits = absurd (cc)
finishes bs n fits = absurd fits

-- ---- texts

begins : (text : List ℕ) (rest : List Spaced) (reading : JsonReading) (gap : List ℕ) (reached : ReachesJson text rest reading)
    → IsGap gap
    → BeginsJson (put_together reached.front ++ gap)
begins text rest reading gap reached is_gap =
    let front = reached.front in
    let leaves = read_leaves (lexemes_of front) first_json_reading reading reached.reads in
    let good = read_good (lexemes_of front) first_json_reading reading (tt, omega arith) reached.reads in
    let obs = reading.open_brackets in
    let end = finishes (reverse obs) reading.next good.0 in
    let more : List ℕ = gap ++ (32 ∷ end.0) in
    let bytes : (put_together front ++ gap) ++ (32 ∷ end.0) ≡ put_together front ++ more =
    append_assoc (put_together front) gap (32 ∷ end.0) in
    let cuts = read_cut text front rest more reached.cut leaves (λ l e. gap_ends gap (32 ∷ end.0) is_gap refl) in
    let tail : cut between more ≡ cut between end.0 = cut-gap gap (32 ∷ end.0) is_gap ∙ cut-space 32 end.0 refl in
    let start : reading ≡ before (reverse (reverse obs)) reading.next =
    ap (λ (l : List Bracket). before l reading.next) (sym (reverse-reverse obs)) in
    let read : json_reading_after first_json_reading (lexemes ((put_together front ++ gap) ++ (32 ∷ end.0))) ≡ Some finished =
    ap (λ (l : List ℕ). json_reading_after first_json_reading (lexemes l)) bytes
    ∙ ap (json_reading_after first_json_reading) (cuts ∙ ap (λ (l : List (List ℕ)). lexemes_of front ++ l) tail)
    ∙ read-append (lexemes_of front) (cut between end.0) first_json_reading
    ∙ ap (option_and_then (λ (t : JsonReading). json_reading_after t (cut between end.0))) reached.reads
    ∙ ap (λ (t : JsonReading). json_reading_after t (cut between end.0)) start
    ∙ end.1 in
    (32 ∷ end.0, is_document ((put_together front ++ gap) ++ (32 ∷ end.0)) finished read refl)

gap_of : (ps : List Spaced) (q : Spaced) (qs : List Spaced) → AreGaps (ps ++ q ∷ qs) → IsGap q.gap
gap_of [] q qs h = h.0
gap_of (p ∷ ps) q qs h = gap_of ps q qs h.1

-- around the lexeme where a text stops
module _ (text : List ℕ) (offset : ℕ) (e : Expected) (stop : StopsAtLexeme text offset e) where
  abbrev bytes_before : List ℕ
  bytes_before = put_together stop.reached.front ++ stop.found.gap

  abbrev bytes_after : List ℕ
  bytes_after = put_together stop.later ++ (texts_joined text).0

  text_parts : text ≡ bytes_before ++ (stop.found.lexeme ++ bytes_after)
  text_parts =
      let front = stop.reached.front in
      let found = stop.found in
      let later = found.lexeme ++ put_together stop.later in
      let joined = texts_joined text in
      joined.2
      ∙ ap (λ (l : List Spaced). put_together l ++ joined.0) stop.reached.cut
      ∙ ap (λ (l : List ℕ). l ++ joined.0)
      (together-append front (found ∷ stop.later) ∙ sym (append_assoc (put_together front) found.gap later))
      ∙ append_assoc bytes_before later joined.0
      ∙ ap (λ (l : List ℕ). bytes_before ++ l) (append_assoc found.lexeme (put_together stop.later) joined.0)

  count_before : offset - stop.within ≡ length bytes_before
  count_before = omega (arith, stop.place, length-append (put_together stop.reached.front) stop.found.gap)

  gap_before : IsGap stop.found.gap
  gap_before = gap_of stop.reached.front stop.found stop.later (subst AreGaps stop.reached.cut (gaps_spaces text))

pub fronts_begin : FrontsBeginJson
fronts_begin text offset e stop =
    let before_it : take (offset - stop.within) text ≡ bytes_before text offset e stop =
    ap (λ (k : ℕ). take k text) (count_before text offset e stop)
    ∙ ap (λ (l : List ℕ). take (length (bytes_before text offset e stop)) l) (text_parts text offset e stop)
    ∙ take-append_seam (bytes_before text offset e stop) (stop.found.lexeme ++ bytes_after text offset e stop) in
    subst BeginsJson (sym before_it)
    (begins text (stop.found ∷ stop.later) stop.reading stop.found.gap stop.reached (gap_before text offset e stop))

pub texts_begin : TextsBeginJson
texts_begin text offset e stop =
    let joined = texts_joined text in
    let split : text ≡ put_together stop.reached.front ++ joined.0 =
    joined.2 ∙ ap (λ (l : List Spaced). put_together l ++ joined.0) (stop.reached.cut ∙ append-nil stop.reached.front) in
    subst BeginsJson (sym split) (begins text [] stop.reading joined.0 stop.reached joined.1)

-- ---- in a string

same_quote : (g a b : List ℕ) → ends_word (g ++ 34 ∷ a) ≡ true → ends_word (g ++ 34 ∷ b) ≡ true
same_quote g a b e = same_start g (34 ∷ []) a b refl e

abbrev first_gap : List Spaced → List ℕ
first_gap [] = []
first_gap (p ∷ ps) = p.gap

-- a string of JSON in place of another one begins as that
kept_word : (found : Spaced) (later : List Spaced) (f rest : List ℕ) → found.lexeme ≡ 34 ∷ f → (l : Left (found ∷ later))
    → ends_word l.here ≡ true → ends_word (found.gap ++ 34 ∷ rest) ≡ true
kept_word found later f rest is l e =
    let c = l.left in
    let gaps : found.gap ≡ c.0 = ap first_gap (l.splits ∙ first_spaced l.here c.0 found.lexeme c.1 (lexemes_of later) c.2 c.3 c.4) in
    let here : l.here ≡ c.0 ++ 34 ∷ (f ++ c.1) = c.4 ∙ ap (λ (x : List ℕ). c.0 ++ (x ++ c.1)) is in
    ap (λ (g : List ℕ). ends_word (g ++ 34 ∷ rest)) gaps ∙ same_quote c.0 (f ++ c.1) rest (sym (ap ends_word here) ∙ e)

begins_string : (text : List ℕ) (found : Spaced) (later : List Spaced) (reading t : JsonReading)
    (reached : ReachesJson text (found ∷ later) reading) → IsGap found.gap → (f p : List ℕ) → found.lexeme ≡ 34 ∷ f
    → is_leaf (34 ∷ (p ++ 34 ∷ [])) ≡ true → json_step reading (34 ∷ (p ++ 34 ∷ [])) ≡ Some t
    → BeginsJson ((put_together reached.front ++ found.gap) ++ 34 ∷ p)
begins_string text found later reading t reached is_gap f p is leaf step =
    let front = reached.front in
    let s = 34 ∷ (p ++ 34 ∷ []) in
    let leaves = read_leaves (lexemes_of front) first_json_reading reading reached.reads in
    let good = read_good (lexemes_of front) first_json_reading reading (tt, omega arith) reached.reads in
    let next_good = step_good (json_sort_of s) reading.open_brackets reading.next s t good step in
    let end = finishes (reverse t.open_brackets) t.next next_good.0 in
    let last : List ℕ = 34 ∷ 32 ∷ end.0 in
    let more : List ℕ = found.gap ++ 34 ∷ (p ++ last) in
    let bytes : ((put_together front ++ found.gap) ++ 34 ∷ p) ++ last ≡ put_together front ++ more =
    append_assoc (put_together front ++ found.gap) (34 ∷ p) last ∙ append_assoc (put_together front) found.gap (34 ∷ (p ++ last)) in
    let cuts = read_cut text front (found ∷ later) more reached.cut leaves (kept_word found later f (p ++ last) is) in
    let tail : cut between more ≡ s ∷ cut between end.0 =
    cut-gap found.gap (34 ∷ (p ++ last)) is_gap ∙ leaf_cut p leaf (32 ∷ end.0)
    ∙ ap (λ (l : List (List ℕ)). s ∷ l) (cut-space 32 end.0 refl) in
    let start : t ≡ before (reverse (reverse t.open_brackets)) t.next =
    ap (λ (l : List Bracket). before l t.next) (sym (reverse-reverse t.open_brackets)) in
    let read : json_reading_after first_json_reading (lexemes (((put_together front ++ found.gap) ++ 34 ∷ p) ++ last)) ≡ Some finished =
    ap (λ (l : List ℕ). json_reading_after first_json_reading (lexemes l)) bytes
    ∙ ap (json_reading_after first_json_reading) (cuts ∙ ap (λ (l : List (List ℕ)). lexemes_of front ++ l) tail)
    ∙ read-append (lexemes_of front) (s ∷ cut between end.0) first_json_reading
    ∙ ap (option_and_then (λ (u : JsonReading). json_reading_after u (s ∷ cut between end.0))) reached.reads
    ∙ stepped reading t s (cut between end.0) step
    ∙ ap (λ (u : JsonReading). json_reading_after u (cut between end.0)) start
    ∙ end.1 in
    (last, is_document (((put_together front ++ found.gap) ++ 34 ∷ p) ++ last) finished read refl)

string_step : (r : JsonReading) (s : List ℕ) → is_leaf s ≡ true → expects_string r.next ≡ true
    → (t : JsonReading) × (keyed r s ≡ Some t)
string_step r s leaf may = by (is_key r.next) refl
  where
    value : (a b : Bool) → (a || b) ≡ true → b ≡ false → a ≡ true
    value true b e f = refl
    value false b e f = absurd (true≢false (sym e ∙ f))

    by : (k : Bool) → is_key r.next ≡ k → (t : JsonReading) × (keyed r s ≡ Some t)
    by true k = (
      before r.open_brackets want.Colon,
      λ i. cond (k i) (cond (leaf i) (Some (before r.open_brackets want.Colon)) None) (valued r s),
    )
    by false k =
        let v = value (expects_value r.next) (is_key r.next) may k in (
          after_value_in r.open_brackets,
          λ i. cond (k i) (cond (is_leaf s) (Some (before r.open_brackets want.Colon)) None)
              (cond (v i && leaf i) (Some (after_value_in r.open_brackets)) None),
        )

quote_first : (s : List ℕ) → head s ≡ 34 → s ≡ 34 ∷ drop 1 s
quote_first [] e = absurd (omega arith)
quote_first (x ∷ xs) e = ap (λ y. y ∷ xs) e

quote_alone : is_leaf (34 ∷ []) ≡ false
unfolding lex content
quote_alone = bad_leaf (34 ∷ []) [] refl

-- what begins with these bytes begins with the first of them
begins_less : (a b : List ℕ) → BeginsJson (a ++ b) → BeginsJson a
begins_less a b (rest, json) = (b ++ rest, subst (λ (l : List ℕ). IsSome (document l)) (append_assoc a b rest) json)

module _ (text : List ℕ) (offset : ℕ) (e : Expected) (stop : StopsAtLexeme text offset e) (opens : head stop.found.lexeme ≡ 34)
    (may : expects_string stop.reading.next ≡ true) where
  abbrev found : List ℕ
  found = stop.found.lexeme

  abbrev opened : List ℕ
  opened = drop 1 found

  abbrev ahead : List ℕ
  ahead = bytes_before text offset e stop

  is_opened : found ≡ 34 ∷ opened
  is_opened = quote_first found opens

  string_begins : (p : List ℕ) → is_leaf (34 ∷ (p ++ 34 ∷ [])) ≡ true → BeginsJson (ahead ++ 34 ∷ p)
  string_begins p leaf =
      let step = string_step stop.reading (34 ∷ (p ++ 34 ∷ [])) leaf may in
      begins_string text stop.found stop.later stop.reading step.0 stop.reached (gap_before text offset e stop) opened p is_opened leaf
      step.1

  closed_begins : (n : ℕ) → is_closed_at found n ≡ true → BeginsJson (ahead ++ take n found)
  closed_begins zero leaf = absurd (true≢false (sym leaf ∙ quote_alone))
  closed_begins (suc n) leaf =
      subst (λ (l : List ℕ). BeginsJson (ahead ++ take (suc n) l)) (sym is_opened)
      (string_begins (take n opened) (sym (ap (λ (l : List ℕ). is_closed_at l (suc n)) is_opened) ∙ leaf))

  open_begins : BeginsString found → BeginsJson (ahead ++ found)
  open_begins (more, leaf) =
      let closed = sym (ap (λ (l : List ℕ). is_leaf ((l ++ more) ++ 34 ∷ [])) is_opened) ∙ leaf in
      subst (λ (l : List ℕ). BeginsJson (ahead ++ l)) (sym is_opened)
      (begins_less (ahead ++ 34 ∷ opened) more
      (subst BeginsJson (sym (append_assoc ahead (34 ∷ opened) more)) (string_begins (opened ++ more) closed)))

  up_to : (n : ℕ) → n ≤ length found → stop.within ≡ n → take offset text ≡ ahead ++ take n found
  up_to n le is =
      let count : offset ≡ length ahead + n =
      omega (arith, stop.place, is, length-append (put_together stop.reached.front) stop.found.gap) in
      let after = bytes_after text offset e stop in
      ap (λ (k : ℕ). take k text) count
      ∙ ap (λ (l : List ℕ). take (length ahead + n) l) (text_parts text offset e stop)
      ∙ take-append-add ahead (found ++ after) n
      ∙ ap (λ (l : List ℕ). ahead ++ l) (take-append-le n found after le)

  stop_begins : IsStringFault found stop.within e → BeginsJson (take offset text)
  stop_begins fault = by fault.goes_on refl
    where
      place : (b : Bool) → fault.goes_on ≡ b → stop.within ≡ cond b (length found) fault.allowed
      place b so = fault.place ∙ ap (λ t. cond t (length found) fault.allowed) so

      by : (b : Bool) → fault.goes_on ≡ b → BeginsJson (take offset text)
      by true so =
          subst BeginsJson
          (sym (up_to (length found) (omega arith) (place true so) ∙ ap (λ (l : List ℕ). ahead ++ l) (take-length found)))
          (open_begins (fault.begins.0 so))
      by false so =
          subst BeginsJson (sym (up_to fault.allowed fault.longest.within (place false so)))
          (closed_begins fault.allowed fault.longest.closed)

pub strings_begin : StringsBeginJson
strings_begin text offset e stop fault opens may = stop_begins text offset e stop opens may fault
