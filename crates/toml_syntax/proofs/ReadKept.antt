-- What is read keeps the lexemes of the text: each turn of the reader puts its lexeme after those that were read.
use Rattle.std.proofs.Common.{◌≡◌, refl, sym, ◌∙◌, ap, ℕ, zero, suc, Bool, true, false, cond, ◌==◌, ◌&&◌, ◌||◌, List, [], ◌∷◌, ◌++◌}
use Rattle.std.proofs.Common.{◌+◌, length, drop, map, All, Option, Some, None, subst}
use Rattle.std.specs.Bool.{⊤}
use Rattle.std.proofs.lemmas.List.Elements.{All-head, All-tail}
use Rattle.toml_lexemes.specs.Bytes as byte
use Rattle.toml_lexemes.specs.Bytes.{ends_with_dot}
use Rattle.toml_lexemes.specs.Lexemes.{toml_lexemes_of}
use Rattle.toml_lexemes.specs.SpacedLexemes.{toml_spaced_as, blanks}
use Rattle.toml_lexemes.specs.Statements.{ends_part, word_parts}
use Rattle.toml_lexemes.proofs.Gaps.{lexemes_alone}
use Rattle.toml_lexemes.proofs.WholeLexemes.{no_lexeme}
use Rattle.toml_lexemes.proofs.Words.{parts_both}
use Rattle.toml_grammar.specs.Comments.{is_comment}
use Rattle.toml_grammar.specs.Dates.{is_date, is_time}
use Rattle.toml_grammar.specs.Grammar.{is_empty_gap, is_one_space}
use Rattle.toml_grammar.specs.Keys.{key_word}
use Rattle.toml_grammar.specs.Strings.{is_key_string, is_string}
use Rattle.toml_grammar.specs.Values.{is_value}
use Rattle.toml_grammar.proofs.GapLaws.{key_words_are_joined}
use Rattle.toml_grammar.proofs.KeyWords.{key_word_end, key_word_start}
use Rattle.toml_syntax.specs.TypedLexemes.{TomlLexeme, open_array, close_array, open_table, close_table, comma, equals, line_end, comment}
use Rattle.toml_syntax.specs.TypedLexemes.{string, word, text_end, typed, typed_spaced}
use Rattle.toml_syntax.specs.TypedLexemes.{TypedAfterGap, is_line_end_lexeme, is_clear_gap}
use Rattle.toml_syntax.specs.Tree.{Lead, lead, Key, no_parts, with_word, with_string, Comments, no_comments, with_comment}
use Rattle.toml_syntax.specs.Tree.{TomlValue, plain, moment, quoted, array, table, ArrayItems, no_items, with_item, TableMembers}
use Rattle.toml_syntax.specs.Tree.{no_members, with_member}
use Rattle.toml_syntax.specs.Tree.{Body, note, header, pair, Statement, statement_of_parts}
use Rattle.toml_syntax.specs.Reading.{Outside, of_line, of_array, of_table, KeyOf, for_header, for_line, for_member, Now, at_line}
use Rattle.toml_syntax.specs.Reading.{at_header, in_key, at_closing}
use Rattle.toml_syntax.specs.Reading.{at_value, in_array, in_table, at_end, after_remark, ReadTurn, more, says, ends, says_last, refuses}
use Rattle.toml_syntax.specs.Reading.{more_if, joined_word}
use Rattle.toml_syntax.specs.Reading.{word_in_key, after_equals, after_bracket, in_key_turn, now_after_value, value_turn_of, time_turn}
use Rattle.toml_syntax.specs.Reading.{last_comma, comment_in, time_in_array}
use Rattle.toml_syntax.specs.Reading.{array_turn, table_turn, with_remark, line_turn_of, header_turn, closing_turn, time_at_end}
use Rattle.toml_syntax.specs.Reading.{end_turn_of, remark_turn, clear_turn}
use Rattle.toml_syntax.specs.Reading.{read_turn, said_before, then_statements, read_from}
use Rattle.toml_syntax.specs.Formatted.{typed_lexemes_in}
use Rattle.toml_syntax.specs.Kept.{with_kept, kept_lexemes, EndsOnce}
use Rattle.toml_syntax.specs.Laws.{ReadKeepLexemes, ParsedKeepLexemes}
use Rattle.toml_syntax.proofs.Alone.{by_sort}
use Rattle.toml_syntax.proofs.SpelledKept.{key_kept, comments_kept, value_kept, items_kept, members_kept, body_kept, remark_kept}
use Rattle.toml_syntax.proofs.SpelledKept.{statement_kept, statements_kept, statements_spelled}

-- ---- where a reader is

-- the lexemes that were read of the statement that has not ended, in front of others
abbrev outside_kept : Outside → List TomlLexeme → List TomlLexeme
outside_kept (of_line l k g) r = key_kept k (equals ∷ r)
outside_kept (of_array o cs is l) r = outside_kept o (open_array ∷ comments_kept cs (items_kept is r))
outside_kept (of_table o ms k) r = outside_kept o (open_table ∷ members_kept ms (key_kept k (equals ∷ r)))

abbrev owner_kept : KeyOf → List TomlLexeme → List TomlLexeme
owner_kept (for_header l false) r = open_array ∷ r
owner_kept (for_header l true) r = open_array ∷ open_array ∷ r
owner_kept (for_line l) r = r
owner_kept (for_member o ms) r = outside_kept o (open_table ∷ members_kept ms r)

abbrev now_kept : Now → List TomlLexeme → List TomlLexeme
now_kept (at_line n) r = r
now_kept (at_header l) r = open_array ∷ r
now_kept (in_key o k due) r = owner_kept o (key_kept k r)
now_kept (at_closing l k) r = open_array ∷ open_array ∷ key_kept k (close_array ∷ r)
now_kept (at_value o) r = outside_kept o r
now_kept (in_array o cs is n due) r = outside_kept o (open_array ∷ comments_kept cs (items_kept is r))
now_kept (in_table o ms) r = outside_kept o (open_table ∷ members_kept ms r)
now_kept (at_end s) r = statement_kept s r
now_kept (after_remark s) r = statement_kept s r

-- the last word of a key may stand there, and after it a part is due or not
abbrev EndsDue : Key → Bool → Type 0
EndsDue no_parts due = ⊤
EndsDue (with_word k w) due = (before : Bool) × (key_word before w ≡ Some due)
EndsDue (with_string k s) due = ⊤

abbrev IsSoundNow : Now → Type 0
IsSoundNow (at_line n) = ⊤
IsSoundNow (at_header l) = ⊤
IsSoundNow (in_key o k due) = EndsDue k due
IsSoundNow (at_closing l k) = ⊤
IsSoundNow (at_value o) = ⊤
IsSoundNow (in_array o cs is n due) = ⊤
IsSoundNow (in_table o ms) = ⊤
IsSoundNow (at_end s) = s.remark ≡ None
IsSoundNow (after_remark s) = ⊤

-- a turn by the lexeme l, after what f puts in front
abbrev Keeps : (List TomlLexeme → List TomlLexeme) → TomlLexeme → ReadTurn → Type 0
Keeps f l (more m) = IsSoundNow m × ((r : List TomlLexeme) → now_kept m r ≡ f (with_kept l r))
Keeps f l (says s m) = IsSoundNow m × ((r : List TomlLexeme) → statement_kept s (now_kept m r) ≡ f (with_kept l r))
Keeps f l ends = (l ≡ text_end) × ((r : List TomlLexeme) → r ≡ f (with_kept l r))
Keeps f l (says_last s) = (l ≡ text_end) × ((r : List TomlLexeme) → statement_kept s r ≡ f (with_kept l r))
Keeps f l refuses = ⊤

keeps_if : (f : List TomlLexeme → List TomlLexeme) (l : TomlLexeme) (b : Bool) (m : Now) → IsSoundNow m
    → ((r : List TomlLexeme) → now_kept m r ≡ f (with_kept l r)) → Keeps f l (more_if b m)
keeps_if f l true m h k = (h, k)
keeps_if f l false m h k = tt

-- ---- keys

-- a word of a key and the next one meet at a dot
meet_at_dot : (before due after : Bool) (x : ℕ) (v w : List ℕ) → key_word before (x ∷ v) ≡ Some due → key_word due w ≡ Some after
    → (ends_with_dot (x ∷ v) || ends_part w) ≡ true
meet_at_dot before due after x v w h e =
    ap (λ b. b || ends_part w) (sym (key_word_end before due x v h)) ∙ by due w e
  where
    by : (due : Bool) (w : List ℕ) → key_word due w ≡ Some after → (due || ends_part w) ≡ true
    by true w e = refl
    by false [] e = refl
    by false (y ∷ ys) e = key_word_start after y ys e

parts_joined : (before due after : Bool) (v w : List ℕ) → key_word before v ≡ Some due → key_word due w ≡ Some after
    → word_parts (v ++ w) ≡ word_parts v ++ word_parts w
parts_joined before due after [] w h e = refl
parts_joined before due after (x ∷ v) w h e = parts_both x v w (meet_at_dot before due after x v w h e)

words_both : (a b : List (List ℕ)) (r : List TomlLexeme) → map word (a ++ b) ++ r ≡ map word a ++ (map word b ++ r)
words_both [] b r = refl
words_both (x ∷ a) b r = ap (λ ls. word x ∷ ls) (words_both a b r)

key_joined : (k : Key) (due next : Bool) (w : List ℕ) (r : List TomlLexeme) → EndsDue k due → key_word due w ≡ Some next
    → key_kept (joined_word k w) r ≡ key_kept k (with_kept (word w) r)
key_joined no_parts due next w r h e = refl
key_joined (with_word k v) due next w r h e =
    ap (key_kept k)
    (ap (λ ps. map word ps ++ r) (parts_joined h.0 due next v w h.1 e) ∙ words_both (word_parts v) (word_parts w) r)
key_joined (with_string k s) due next w r h e = refl

due_joined : (k : Key) (due next : Bool) (w : List ℕ) → EndsDue k due → key_word due w ≡ Some next → EndsDue (joined_word k w) next
due_joined no_parts due next w h e = (due, e)
due_joined (with_word k v) due next w h e = (h.0, key_words_are_joined h.0 due next v w h.1 e)
due_joined (with_string k s) due next w h e = (due, e)

word_keeps : (o : KeyOf) (k : Key) (due : Bool) (w : List ℕ) (x : Option Bool) → EndsDue k due → key_word due w ≡ x
    → Keeps (λ r. owner_kept o (key_kept k r)) (word w) (word_in_key o (joined_word k w) x)
word_keeps o k due w None h e = tt
word_keeps o k due w (Some next) h e = (due_joined k due next w h e, λ r. ap (owner_kept o) (key_joined k due next w r h e))

equals_keeps : (o : KeyOf) (k : Key) (g : List ℕ) → Keeps (λ r. owner_kept o (key_kept k r)) equals (after_equals o k g)
equals_keeps (for_header l b) k g = tt
equals_keeps (for_line l) k g = (tt, λ r. refl)
equals_keeps (for_member o ms) k g = (tt, λ r. refl)

bracket_keeps : (o : KeyOf) (k : Key) → Keeps (λ r. owner_kept o (key_kept k r)) close_array (after_bracket o k)
bracket_keeps (for_header l false) k = (refl, λ r. refl)
bracket_keeps (for_header l true) k = (tt, λ r. refl)
bracket_keeps (for_line l) k = tt
bracket_keeps (for_member o ms) k = tt

key_keeps : (l : TomlLexeme) (due : Bool) (o : KeyOf) (k : Key) (g : List ℕ) → EndsDue k due
    → Keeps (λ r. owner_kept o (key_kept k r)) l (in_key_turn o k due g l)
key_keeps (word w) due o k g h = word_keeps o k due w (key_word due w) h refl
key_keeps (string s) true o k g h =
    keeps_if (λ r. owner_kept o (key_kept k r)) (string s) (is_key_string s) (in_key o (with_string k s) false) tt (λ r. refl)
key_keeps (string s) false o k g h = tt
key_keeps equals true o k g h = tt
key_keeps equals false o k g h = equals_keeps o k g
key_keeps close_array true o k g h = tt
key_keeps close_array false o k g h = bracket_keeps o k
key_keeps open_array due o k g h = tt
key_keeps open_table due o k g h = tt
key_keeps close_table due o k g h = tt
key_keeps comma due o k g h = tt
key_keeps line_end due o k g h = tt
key_keeps (comment s) due o k g h = tt
key_keeps text_end due o k g h = tt

-- ---- values

after_sound : (o : Outside) (v : TomlValue) → IsSoundNow (now_after_value o v)
after_sound (of_line l k g) v = refl
after_sound (of_array o cs is l) v = tt
after_sound (of_table o ms k) v = tt

after_kept : (o : Outside) (v : TomlValue) (r : List TomlLexeme) → now_kept (now_after_value o v) r ≡ outside_kept o (value_kept v r)
after_kept (of_line l k g) v r = refl
after_kept (of_array o cs is l) v r = refl
after_kept (of_table o ms k) v r = refl

value_keeps : (l : TomlLexeme) (o : Outside) (g : List ℕ) → Keeps (outside_kept o) l (value_turn_of o g l)
value_keeps (word w) o g =
    keeps_if (outside_kept o) (word w) (is_value w) (now_after_value o (plain w)) (after_sound o (plain w)) (after_kept o (plain w))
value_keeps (string s) o g =
    keeps_if (outside_kept o) (string s) (is_string s) (now_after_value o (quoted s)) (after_sound o (quoted s)) (after_kept o (quoted s))
value_keeps open_array o g = (tt, λ r. refl)
value_keeps open_table o g = (tt, λ r. refl)
value_keeps close_array o g = tt
value_keeps close_table o g = tt
value_keeps comma o g = tt
value_keeps equals o g = tt
value_keeps line_end o g = tt
value_keeps (comment s) o g = tt
value_keeps text_end o g = tt

time_keeps : (v : TomlValue) (o : Outside) (g t : List ℕ) → Keeps (λ r. outside_kept o (value_kept v r)) (word t) (time_turn o v g t)
time_keeps (plain d) o g t =
    keeps_if (λ r. outside_kept o (value_kept (plain d) r)) (word t) (is_date d && (is_one_space g && is_time t))
    (now_after_value o (moment d t)) (after_sound o (moment d t)) (after_kept o (moment d t))
time_keeps (moment d u) o g t = tt
time_keeps (quoted s) o g t = tt
time_keeps (array cs is b l) o g t = tt
time_keeps (table ms) o g t = tt

-- ---- arrays

-- what was read of an array, in front of others
abbrev array_kept : Outside → Comments → ArrayItems → List TomlLexeme → List TomlLexeme
array_kept o cs is r = outside_kept o (open_array ∷ comments_kept cs (items_kept is r))

comment_sound : (is : ArrayItems) (o : Outside) (cs : Comments) (l : Lead) (s : List ℕ) (due : Bool)
    → IsSoundNow (comment_in o cs is l s due)
comment_sound no_items o cs l s due = tt
comment_sound (with_item is k v ds) o cs l s due = tt

comment_kept : (is : ArrayItems) (o : Outside) (cs : Comments) (l : Lead) (s : List ℕ) (due : Bool) (r : List TomlLexeme)
    → now_kept (comment_in o cs is l s due) r ≡ array_kept o cs is (comment s ∷ r)
comment_kept no_items o cs l s due r = refl
comment_kept (with_item is k v ds) o cs l s due r = refl

time_in_keeps : (is : ArrayItems) (n : ℕ) (o : Outside) (cs : Comments) (g t : List ℕ)
    → Keeps (array_kept o cs is) (word t) (time_in_array o cs is n g t)
time_in_keeps no_items n o cs g t = tt
time_in_keeps (with_item is l v no_comments) zero o cs g t = time_keeps v (of_array o cs is l) g t
time_in_keeps (with_item is l v no_comments) (suc n) o cs g t = tt
time_in_keeps (with_item is l v (with_comment ds k s)) n o cs g t = tt

array_keeps : (l : TomlLexeme) (due : Bool) (o : Outside) (cs : Comments) (is : ArrayItems) (n : ℕ) (g : List ℕ)
    → Keeps (array_kept o cs is) l (array_turn o cs is n due g l)
array_keeps line_end due o cs is n g = (tt, λ r. refl)
array_keeps (comment s) due o cs is n g =
    keeps_if (array_kept o cs is) (comment s) (is_comment s) (comment_in o cs is (lead n g) s due)
    (comment_sound is o cs (lead n g) s due) (comment_kept is o cs (lead n g) s due)
array_keeps close_array due o cs is n g =
    let v = array cs is (last_comma is due) (lead n g) in (after_sound o v, after_kept o v)
array_keeps comma false o cs is n g = (tt, λ r. refl)
array_keeps comma true o cs is n g = tt
array_keeps (word t) false o cs is n g = time_in_keeps is n o cs g t
array_keeps (word w) true o cs is n g = value_keeps (word w) (of_array o cs is (lead n g)) g
array_keeps (string s) false o cs is n g = tt
array_keeps (string s) true o cs is n g = value_keeps (string s) (of_array o cs is (lead n g)) g
array_keeps open_array false o cs is n g = tt
array_keeps open_array true o cs is n g = (tt, λ r. refl)
array_keeps open_table false o cs is n g = tt
array_keeps open_table true o cs is n g = (tt, λ r. refl)
array_keeps close_table due o cs is n g = tt
array_keeps equals due o cs is n g = tt
array_keeps text_end due o cs is n g = tt

-- ---- inline tables

table_keeps : (l : TomlLexeme) (ms : TableMembers) (o : Outside) (g : List ℕ)
    → Keeps (λ r. outside_kept o (open_table ∷ members_kept ms r)) l (table_turn o ms g l)
table_keeps close_table ms o g = (after_sound o (table ms), after_kept o (table ms))
table_keeps (word w) no_members o g = key_keeps (word w) true (for_member o no_members) no_parts g tt
table_keeps (string s) no_members o g = key_keeps (string s) true (for_member o no_members) no_parts g tt
table_keeps comma no_members o g = tt
table_keeps comma (with_member ms k v) o g = (tt, λ r. refl)
table_keeps (word t) (with_member ms k v) o g = time_keeps v (of_table o ms k) g t
table_keeps (string s) (with_member ms k v) o g = tt
table_keeps open_array ms o g = tt
table_keeps close_array ms o g = tt
table_keeps open_table ms o g = tt
table_keeps equals ms o g = tt
table_keeps line_end ms o g = tt
table_keeps (comment s) ms o g = tt
table_keeps text_end ms o g = tt

-- ---- lines

line_keeps : (l : TomlLexeme) (n : ℕ) (g : List ℕ) → Keeps (λ r. r) l (line_turn_of n g l)
line_keeps line_end n g = (tt, λ r. refl)
line_keeps (comment s) n g =
    keeps_if (λ r. r) (comment s) (is_comment s) (after_remark (statement_of_parts (lead n g) (note s) None)) tt (λ r. refl)
line_keeps open_array n g = (tt, λ r. refl)
line_keeps (word w) n g = key_keeps (word w) true (for_line (lead n g)) no_parts g tt
line_keeps (string s) n g = key_keeps (string s) true (for_line (lead n g)) no_parts g tt
line_keeps text_end n g = (refl, λ r. refl)
line_keeps close_array n g = tt
line_keeps open_table n g = tt
line_keeps close_table n g = tt
line_keeps comma n g = tt
line_keeps equals n g = tt

header_keeps : (l : TomlLexeme) (h : Lead) (g : List ℕ) → Keeps (λ r. open_array ∷ r) l (header_turn h g l)
header_keeps open_array h g =
    keeps_if (λ r. open_array ∷ r) open_array (is_empty_gap g) (in_key (for_header h true) no_parts true) tt (λ r. refl)
header_keeps (word w) h g = key_keeps (word w) true (for_header h false) no_parts g tt
header_keeps (string s) h g = key_keeps (string s) true (for_header h false) no_parts g tt
header_keeps close_array h g = tt
header_keeps open_table h g = tt
header_keeps close_table h g = tt
header_keeps comma h g = tt
header_keeps equals h g = tt
header_keeps line_end h g = tt
header_keeps (comment s) h g = tt
header_keeps text_end h g = tt

closing_keeps : (l : TomlLexeme) (h : Lead) (k : Key) (g : List ℕ) → Keeps (now_kept (at_closing h k)) l (closing_turn h k g l)
closing_keeps close_array h k g =
    keeps_if (now_kept (at_closing h k)) close_array (is_empty_gap g) (at_end (statement_of_parts h (header true k) None)) refl (λ r. refl)
closing_keeps open_array h k g = tt
closing_keeps open_table h k g = tt
closing_keeps close_table h k g = tt
closing_keeps comma h k g = tt
closing_keeps equals h k g = tt
closing_keeps line_end h k g = tt
closing_keeps (comment s) h k g = tt
closing_keeps (string s) h k g = tt
closing_keeps (word w) h k g = tt
closing_keeps text_end h k g = tt

time_at_keeps : (b : Body) (h : Lead) (g t : List ℕ) → Keeps (body_kept b) (word t) (time_at_end h b g t)
time_at_keeps (note s) h g t = tt
time_at_keeps (header b k) h g t = tt
time_at_keeps (pair k b v) h g t = time_keeps v (of_line h k b) g t

end_keeps : (l : TomlLexeme) (s : Statement) (g : List ℕ) → s.remark ≡ None → Keeps (statement_kept s) l (end_turn_of s g l)
end_keeps (comment c) s g e =
    keeps_if (statement_kept s) (comment c) (is_comment c) (after_remark (with_remark s g c)) tt
    (λ r. ap (λ x. body_kept s.body (remark_kept x (comment c ∷ r))) (sym e))
end_keeps (word t) s g e =
    subst (λ x. Keeps (λ r. body_kept s.body (remark_kept x r)) (word t) (time_at_end s.before s.body g t)) (sym e)
    (time_at_keeps s.body s.before g t)
end_keeps line_end s g e = (tt, λ r. refl)
end_keeps text_end s g e = (refl, λ r. refl)
end_keeps open_array s g e = tt
end_keeps close_array s g e = tt
end_keeps open_table s g e = tt
end_keeps close_table s g e = tt
end_keeps comma s g e = tt
end_keeps equals s g e = tt
end_keeps (string t) s g e = tt

after_remark_keeps : (l : TomlLexeme) (s : Statement) → Keeps (statement_kept s) l (remark_turn s l)
after_remark_keeps line_end s = (tt, λ r. refl)
after_remark_keeps text_end s = (refl, λ r. refl)
after_remark_keeps open_array s = tt
after_remark_keeps close_array s = tt
after_remark_keeps open_table s = tt
after_remark_keeps close_table s = tt
after_remark_keeps comma s = tt
after_remark_keeps equals s = tt
after_remark_keeps (comment t) s = tt
after_remark_keeps (string t) s = tt
after_remark_keeps (word t) s = tt

-- ---- texts

clear_keeps : (n : Now) (g : List ℕ) (l : TomlLexeme) → IsSoundNow n → Keeps (now_kept n) l (clear_turn n g l)
clear_keeps (at_line n) g l h = line_keeps l n g
clear_keeps (at_header j) g l h = header_keeps l j g
clear_keeps (in_key o k due) g l h = key_keeps l due o k g h
clear_keeps (at_closing j k) g l h = closing_keeps l j k g
clear_keeps (at_value o) g l h = value_keeps l o g
clear_keeps (in_array o cs is n due) g l h = array_keeps l due o cs is n g
clear_keeps (in_table o ms) g l h = table_keeps l ms o g
clear_keeps (at_end s) g l h = end_keeps l s g h
clear_keeps (after_remark s) g l h = after_remark_keeps l s

turn_keeps : (c : Bool) (f : List TomlLexeme → List TomlLexeme) (l : TomlLexeme) (t : ReadTurn) → Keeps f l t → Keeps f l (cond c t refuses)
turn_keeps true f l t h = h
turn_keeps false f l t h = tt

some_is : (xs ys : List Statement) → Some xs ≡ Some ys → xs ≡ ys
some_is xs ys e = cc

-- where statements are read, these lexemes are kept of them
abbrev ReadsKept : Option (List Statement) → List TomlLexeme → Type 0
ReadsKept r ls = (ss : List Statement) → r ≡ Some ss → statements_kept ss ≡ ls

said_kept : (s : Statement) (r : Option (List Statement)) (ls : List TomlLexeme) → ReadsKept r ls
    → ReadsKept (said_before s r) (statement_kept s ls)
said_kept s None ls h ss e = absurd (cc)
said_kept s (Some ts) ls h ss e = ap statements_kept (sym (some_is (s ∷ ts) ss e)) ∙ ap (statement_kept s) (h ts refl)

then_kept : (t : ReadTurn) (f : List TomlLexeme → List TomlLexeme) (l : TomlLexeme) (ps : List TypedAfterGap) (ss : List Statement)
    → Keeps f l t
    → (l ≡ text_end → ps ≡ []) → ((n : Now) → IsSoundNow n → ReadsKept (read_from n ps) (now_kept n (kept_lexemes ps)))
    → then_statements t (λ next. read_from next ps) ≡ Some ss → statements_kept ss ≡ f (with_kept l (kept_lexemes ps))
then_kept (more n) f l ps ss h last k e = k n h.0 ss e ∙ h.1 (kept_lexemes ps)
then_kept (says s n) f l ps ss h last k e =
    said_kept s (read_from n ps) (now_kept n (kept_lexemes ps)) (k n h.0) ss e ∙ h.1 (kept_lexemes ps)
then_kept ends f l ps ss h last k e =
    ap statements_kept (sym (some_is [] ss e)) ∙ ap kept_lexemes (sym (last h.0)) ∙ h.1 (kept_lexemes ps)
then_kept (says_last s) f l ps ss h last k e =
    ap statements_kept (sym (some_is (s ∷ []) ss e)) ∙ ap (λ qs. statement_kept s (kept_lexemes qs)) (sym (last h.0))
    ∙ h.1 (kept_lexemes ps)
then_kept refuses f l ps ss h last k e = absurd (cc)

from_kept : (ps : List TypedAfterGap) (n : Now) → EndsOnce ps → IsSoundNow n → ReadsKept (read_from n ps) (now_kept n (kept_lexemes ps))
from_kept [] n last h ss e = absurd (cc)
from_kept (p ∷ ps) n last h ss e =
    then_kept (read_turn n p) (now_kept n) p.lexeme ps ss
    (turn_keeps (is_clear_gap p.gap (is_line_end_lexeme p.lexeme)) (now_kept n) p.lexeme (clear_turn n p.gap p.lexeme)
    (clear_keeps n p.gap p.lexeme h))
    last.0 (λ m. from_kept ps m last.1) e

pub read_keep_lexemes : ReadKeepLexemes
read_keep_lexemes ps ss last e = statements_spelled ss ∙ from_kept ps (at_line 0) last tt ss e

-- ---- the end of a text

some_sort : (a b c d e f g h i : Bool) (s : List ℕ) → by_sort a b c d e f g h i s ≡ text_end → ⊥
some_sort true b c d e f g h i s t = cc
some_sort false true c d e f g h i s t = cc
some_sort false false true d e f g h i s t = cc
some_sort false false false true e f g h i s t = cc
some_sort false false false false true f g h i s t = cc
some_sort false false false false false true g h i s t = cc
some_sort false false false false false false true h i s t = cc
some_sort false false false false false false false true i s t = cc
some_sort false false false false false false false false true s t = cc
some_sort false false false false false false false false false s t = cc

not_end : (x : ℕ) (s : List ℕ) → typed (x ∷ s) ≡ text_end → ⊥
not_end x s e =
    some_sort (x == 91) (x == 93) (x == 123) (x == 125) (x == 44) (x == 61) (x == 10) (x == 35) (byte.is_quote x) (x ∷ s) e

ends_as : (ss : List (List ℕ)) (bytes : List ℕ) → All (λ s. toml_lexemes_of s ≡ s ∷ []) ss
    → EndsOnce (map typed_spaced (toml_spaced_as bytes ss))
ends_as [] bytes h = (λ e. refl, tt)
ends_as ([] ∷ ss) bytes h = absurd (no_lexeme (All-head (λ s. toml_lexemes_of s ≡ s ∷ []) [] ss h))
ends_as ((x ∷ s) ∷ ss) bytes h = (
  λ e. absurd (not_end x s e),
  ends_as ss (drop (length (blanks bytes) + length (x ∷ s)) bytes) (All-tail (λ s. toml_lexemes_of s ≡ s ∷ []) (x ∷ s) ss h),
)

pub ends_once : (text : List ℕ) → EndsOnce (typed_lexemes_in text)
ends_once text = ends_as (toml_lexemes_of text) text (lexemes_alone text)

pub parsed_keep_lexemes : ParsedKeepLexemes
parsed_keep_lexemes text ss e = read_keep_lexemes (typed_lexemes_in text) ss (ends_once text) e
