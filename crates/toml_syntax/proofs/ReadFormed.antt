-- What is read may be spelled.
use Rattle.std.proofs.Common.{◌≡◌, refl, ℕ, zero, suc, Bool, true, false, cond, ◌&&◌, List, [], ◌∷◌, Option, Some}
use Rattle.std.proofs.Common.{None, subst}
use Rattle.std.specs.Bool.{⊤}
use Rattle.toml_lexemes.specs.Spaced.{IsTomlGap}
use Rattle.toml_grammar.specs.Comments.{is_comment}
use Rattle.toml_grammar.specs.Dates.{is_date, is_time}
use Rattle.toml_grammar.specs.Grammar.{is_empty_gap, is_one_space}
use Rattle.toml_grammar.specs.Keys.{key_word}
use Rattle.toml_grammar.specs.Strings.{is_key_string, is_string}
use Rattle.toml_grammar.specs.Values.{is_value}
use Rattle.toml_grammar.proofs.GapLaws.{key_words_are_joined}
use Rattle.toml_syntax.specs.TypedLexemes.{TomlLexeme, open_array, close_array, open_table, close_table, comma, equals, line_end, comment}
use Rattle.toml_syntax.specs.TypedLexemes.{string, word, text_end}
use Rattle.toml_syntax.specs.TypedLexemes.{TypedAfterGap, is_line_end_lexeme, is_clear_gap}
use Rattle.toml_syntax.specs.Tree.{Lead, lead, Key, no_parts, with_word, with_string, Comments, no_comments, with_comment}
use Rattle.toml_syntax.specs.Tree.{TomlValue, plain, moment, quoted, array, table, ArrayItems, no_items, with_item, TableMembers}
use Rattle.toml_syntax.specs.Tree.{no_members, with_member}
use Rattle.toml_syntax.specs.Tree.{Body, note, header, pair, Statement, statement_of_parts}
use Rattle.toml_syntax.specs.Reading.{Outside, of_line, of_array, of_table, KeyOf, for_header, for_line, for_member, Now, at_line}
use Rattle.toml_syntax.specs.Reading.{at_header, in_key, at_closing}
use Rattle.toml_syntax.specs.Reading.{at_value, in_array, in_table, at_end, after_remark, ReadTurn, more, says, ends, says_last, refuses}
use Rattle.toml_syntax.specs.Reading.{more_if, joined_word}
use Rattle.toml_syntax.specs.Reading.{word_in_key, after_equals, after_bracket, in_key_turn, now_after_value, value_turn_of, time_turn}
use Rattle.toml_syntax.specs.Reading.{last_comma, comment_in, time_in_array}
use Rattle.toml_syntax.specs.Reading.{array_turn, table_turn, with_remark, line_turn_of, header_turn, closing_turn, time_at_end}
use Rattle.toml_syntax.specs.Reading.{end_turn_of, remark_turn, clear_turn}
use Rattle.toml_syntax.specs.Reading.{read_turn, said_before, then_statements, read_from}
use Rattle.toml_syntax.specs.Formed.{IsClearGap, StandsAlone, IsFormedKey, AreFormedComments, IsFormedValue, AreFormedArrayItems}
use Rattle.toml_syntax.specs.Formed.{AreFormedTableMembers, IsFormedBody}
use Rattle.toml_syntax.specs.Formed.{IsFormedRemark, IsFormedStatement, AreFormed, IsTextAlone, AreAlone}
use Rattle.toml_syntax.specs.Laws.{ReadAreFormed}
use Rattle.toml_syntax.proofs.Alone.{words_joined}

-- ---- where a reader is

abbrev IsFormedOutside : Outside → Type 0
IsFormedOutside (of_line l k g) = IsClearGap l.gap × IsFormedKey k false × IsClearGap g
IsFormedOutside (of_array o cs is l) = IsFormedOutside o × AreFormedComments cs × AreFormedArrayItems is × IsClearGap l.gap
IsFormedOutside (of_table o ms k) = IsFormedOutside o × AreFormedTableMembers ms × IsFormedKey k false

abbrev IsFormedKeyOf : KeyOf → Type 0
IsFormedKeyOf (for_header l b) = IsClearGap l.gap
IsFormedKeyOf (for_line l) = IsClearGap l.gap
IsFormedKeyOf (for_member o ms) = IsFormedOutside o × AreFormedTableMembers ms

-- what a comment may follow
abbrev HasEnd : Body → Type 0
HasEnd (note s) = ⊥
HasEnd (header b k) = ⊤
HasEnd (pair k g v) = ⊤

abbrev IsFormedNow : Now → Type 0
IsFormedNow (at_line n) = ⊤
IsFormedNow (at_header l) = IsClearGap l.gap
IsFormedNow (in_key o k due) = IsFormedKeyOf o × IsFormedKey k due
IsFormedNow (at_closing l k) = IsClearGap l.gap × IsFormedKey k false
IsFormedNow (at_value o) = IsFormedOutside o
IsFormedNow (in_array o cs is n due) = IsFormedOutside o × AreFormedComments cs × AreFormedArrayItems is
IsFormedNow (in_table o ms) = IsFormedOutside o × AreFormedTableMembers ms
IsFormedNow (at_end s) = HasEnd s.body × IsFormedStatement s
IsFormedNow (after_remark s) = IsFormedStatement s

abbrev IsFormedTurn : ReadTurn → Type 0
IsFormedTurn (more n) = IsFormedNow n
IsFormedTurn (says s n) = IsFormedStatement s × IsFormedNow n
IsFormedTurn ends = ⊤
IsFormedTurn (says_last s) = IsFormedStatement s
IsFormedTurn refuses = ⊤

formed_if : (b : Bool) (n : Now) → (b ≡ true → IsFormedNow n) → IsFormedTurn (more_if b n)
formed_if true n h = h refl
formed_if false n h = tt

both : (a b : Bool) → (a && b) ≡ true → (a ≡ true) × (b ≡ true)
both true b h = (refl, h)
both false b h = absurd (cc)

-- ---- keys

joined_formed : (k : Key) (due next : Bool) (w : List ℕ) → IsFormedKey k due → key_word due w ≡ Some next → StandsAlone (word w)
    → IsFormedKey (joined_word k w) next
joined_formed no_parts due next w h e a = (tt, due, h, e, a)
joined_formed (with_word k v) due next w h e a = (h.0, h.1, h.2, key_words_are_joined h.1 due next v w h.3 e, words_joined v w h.4 a)
joined_formed (with_string k s) due next w h e a = (tt, due, h, e, a)

word_formed : (o : KeyOf) (k : Key) (due : Bool) (w : List ℕ) (r : Option Bool) → IsFormedKeyOf o → IsFormedKey k due → key_word due w ≡ r
    → StandsAlone (word w) → IsFormedTurn (word_in_key o (joined_word k w) r)
word_formed o k due w None f h e a = tt
word_formed o k due w (Some next) f h e a = (f, joined_formed k due next w h e a)

equals_formed : (o : KeyOf) (k : Key) (g : List ℕ) → IsFormedKeyOf o → IsFormedKey k false → IsClearGap g
    → IsFormedTurn (after_equals o k g)
equals_formed (for_header l b) k g f h c = tt
equals_formed (for_line l) k g f h c = (f, h, c)
equals_formed (for_member o ms) k g f h c = (f.0, f.1, h)

bracket_formed : (o : KeyOf) (k : Key) → IsFormedKeyOf o → IsFormedKey k false → IsFormedTurn (after_bracket o k)
bracket_formed (for_header l false) k f h = (tt, (f, h, tt))
bracket_formed (for_header l true) k f h = (f, h)
bracket_formed (for_line l) k f h = tt
bracket_formed (for_member o ms) k f h = tt

key_formed : (l : TomlLexeme) (due : Bool) (o : KeyOf) (k : Key) (g : List ℕ) → IsFormedKeyOf o → IsFormedKey k due → IsTomlGap g
    → is_clear_gap g (is_line_end_lexeme l) ≡ true → IsTextAlone l → IsFormedTurn (in_key_turn o k due g l)
key_formed (word w) due o k g f h b c a = word_formed o k due w (key_word due w) f h refl a
key_formed (string s) true o k g f h b c a = formed_if (is_key_string s) (in_key o (with_string k s) false) (λ e. (f, (h, e, refl, a)))
key_formed (string s) false o k g f h b c a = tt
key_formed equals true o k g f h b c a = tt
key_formed equals false o k g f h b c a = equals_formed o k g f h (b, c)
key_formed close_array true o k g f h b c a = tt
key_formed close_array false o k g f h b c a = bracket_formed o k f h
key_formed open_array due o k g f h b c a = tt
key_formed open_table due o k g f h b c a = tt
key_formed close_table due o k g f h b c a = tt
key_formed comma due o k g f h b c a = tt
key_formed line_end due o k g f h b c a = tt
key_formed (comment s) due o k g f h b c a = tt
key_formed text_end due o k g f h b c a = tt

-- ---- values

after_formed : (o : Outside) (v : TomlValue) → IsFormedOutside o → IsFormedValue v → IsFormedNow (now_after_value o v)
after_formed (of_line l k g) v f h = (tt, (f.0, (f.1, f.2, h), tt))
after_formed (of_array o cs is l) v f h = (f.0, f.1, (f.2, f.3, h, tt))
after_formed (of_table o ms k) v f h = (f.0, (f.1, f.2, h))

value_formed : (l : TomlLexeme) (o : Outside) (g : List ℕ) → IsFormedOutside o → IsTextAlone l → IsFormedTurn (value_turn_of o g l)
value_formed (word w) o g f a = formed_if (is_value w) (now_after_value o (plain w)) (λ e. after_formed o (plain w) f (e, a))
value_formed (string s) o g f a = formed_if (is_string s) (now_after_value o (quoted s)) (λ e. after_formed o (quoted s) f (e, a))
value_formed open_array o g f a = (f, tt, tt)
value_formed open_table o g f a = (f, tt)
value_formed close_array o g f a = tt
value_formed close_table o g f a = tt
value_formed comma o g f a = tt
value_formed equals o g f a = tt
value_formed line_end o g f a = tt
value_formed (comment s) o g f a = tt
value_formed text_end o g f a = tt

time_formed : (v : TomlValue) (o : Outside) (g t : List ℕ) → IsFormedOutside o → IsFormedValue v → StandsAlone (word t)
    → IsFormedTurn (time_turn o v g t)
time_formed (plain d) o g t f h a =
    formed_if (is_date d && (is_one_space g && is_time t)) (now_after_value o (moment d t)) (λ e.
    let one = both (is_date d) _ e in
    let two = both (is_one_space g) (is_time t) one.1 in
    after_formed o (moment d t) f (h.0, one.0, two.1, h.1, a))
time_formed (moment d u) o g t f h a = tt
time_formed (quoted s) o g t f h a = tt
time_formed (array cs is b l) o g t f h a = tt
time_formed (table ms) o g t f h a = tt

-- ---- arrays

last_comma_again : (is : ArrayItems) (b : Bool) → last_comma is (last_comma is b) ≡ last_comma is b
last_comma_again no_items b = refl
last_comma_again (with_item is l v cs) b = refl

comment_formed : (is : ArrayItems) (o : Outside) (cs : Comments) (l : Lead) (s : List ℕ) (due : Bool) → IsFormedOutside o
    → AreFormedComments cs
    → AreFormedArrayItems is → IsClearGap l.gap → is_comment s ≡ true → IsFormedNow (comment_in o cs is l s due)
comment_formed no_items o cs l s due f h i c e = (f, (h, c, e), tt)
comment_formed (with_item is k v ds) o cs l s due f h i c e = (f, h, (i.0, i.1, i.2, (i.3, c, e)))

time_in_formed : (is : ArrayItems) (n : ℕ) (o : Outside) (cs : Comments) (g t : List ℕ) → IsFormedOutside o → AreFormedComments cs
    → AreFormedArrayItems is → StandsAlone (word t) → IsFormedTurn (time_in_array o cs is n g t)
time_in_formed no_items n o cs g t f h i a = tt
time_in_formed (with_item is l v no_comments) zero o cs g t f h i a = time_formed v (of_array o cs is l) g t (f, h, i.0, i.1) i.2 a
time_in_formed (with_item is l v no_comments) (suc n) o cs g t f h i a = tt
time_in_formed (with_item is l v (with_comment ds k s)) n o cs g t f h i a = tt

array_formed : (l : TomlLexeme) (due : Bool) (o : Outside) (cs : Comments) (is : ArrayItems) (n : ℕ) (g : List ℕ) → IsFormedOutside o
    → AreFormedComments cs → AreFormedArrayItems is → IsTomlGap g → is_clear_gap g (is_line_end_lexeme l) ≡ true → IsTextAlone l
    → IsFormedTurn (array_turn o cs is n due g l)
array_formed line_end due o cs is n g f h i b c a = (f, h, i)
array_formed (comment s) due o cs is n g f h i b c a =
    formed_if (is_comment s) (comment_in o cs is (lead n g) s due) (comment_formed is o cs (lead n g) s due f h i (b, c))
array_formed close_array due o cs is n g f h i b c a =
    after_formed o (array cs is (last_comma is due) (lead n g)) f (h, i, last_comma_again is due, (b, c))
array_formed comma false o cs is n g f h i b c a = (f, h, i)
array_formed comma true o cs is n g f h i b c a = tt
array_formed (word t) false o cs is n g f h i b c a = time_in_formed is n o cs g t f h i a
array_formed (word w) true o cs is n g f h i b c a = value_formed (word w) (of_array o cs is (lead n g)) g (f, h, i, (b, c)) a
array_formed (string s) false o cs is n g f h i b c a = tt
array_formed (string s) true o cs is n g f h i b c a = value_formed (string s) (of_array o cs is (lead n g)) g (f, h, i, (b, c)) a
array_formed open_array false o cs is n g f h i b c a = tt
array_formed open_array true o cs is n g f h i b c a = ((f, h, i, (b, c)), tt, tt)
array_formed open_table false o cs is n g f h i b c a = tt
array_formed open_table true o cs is n g f h i b c a = ((f, h, i, (b, c)), tt)
array_formed close_table due o cs is n g f h i b c a = tt
array_formed equals due o cs is n g f h i b c a = tt
array_formed text_end due o cs is n g f h i b c a = tt

-- ---- inline tables

table_formed : (l : TomlLexeme) (ms : TableMembers) (o : Outside) (g : List ℕ) → IsFormedOutside o → AreFormedTableMembers ms → IsTomlGap g
    → is_clear_gap g (is_line_end_lexeme l) ≡ true → IsTextAlone l → IsFormedTurn (table_turn o ms g l)
table_formed close_table ms o g f h b c a = after_formed o (table ms) f h
table_formed (word w) no_members o g f h b c a = key_formed (word w) true (for_member o no_members) no_parts g (f, h) refl b c a
table_formed (string s) no_members o g f h b c a = key_formed (string s) true (for_member o no_members) no_parts g (f, h) refl b c a
table_formed comma no_members o g f h b c a = tt
table_formed comma (with_member ms k v) o g f h b c a = ((f, h), refl)
table_formed (word t) (with_member ms k v) o g f h b c a = time_formed v (of_table o ms k) g t (f, h.0, h.1) h.2 a
table_formed (string s) (with_member ms k v) o g f h b c a = tt
table_formed open_array ms o g f h b c a = tt
table_formed close_array ms o g f h b c a = tt
table_formed open_table ms o g f h b c a = tt
table_formed equals ms o g f h b c a = tt
table_formed line_end ms o g f h b c a = tt
table_formed (comment s) ms o g f h b c a = tt
table_formed text_end ms o g f h b c a = tt

-- ---- lines

line_formed : (l : TomlLexeme) (n : ℕ) (g : List ℕ) → IsTomlGap g → is_clear_gap g (is_line_end_lexeme l) ≡ true → IsTextAlone l
    → IsFormedTurn (line_turn_of n g l)
line_formed line_end n g b c a = tt
line_formed (comment s) n g b c a = formed_if (is_comment s) (after_remark (statement_of_parts (lead n g) (note s) None))
    (λ e. ((b, c), e, tt))
line_formed open_array n g b c a = (b, c)
line_formed (word w) n g b c a = key_formed (word w) true (for_line (lead n g)) no_parts g (b, c) refl b c a
line_formed (string s) n g b c a = key_formed (string s) true (for_line (lead n g)) no_parts g (b, c) refl b c a
line_formed text_end n g b c a = tt
line_formed close_array n g b c a = tt
line_formed open_table n g b c a = tt
line_formed close_table n g b c a = tt
line_formed comma n g b c a = tt
line_formed equals n g b c a = tt

header_formed : (l : TomlLexeme) (h : Lead) (g : List ℕ) → IsClearGap h.gap → IsTomlGap g → is_clear_gap g (is_line_end_lexeme l) ≡ true
    → IsTextAlone l
    → IsFormedTurn (header_turn h g l)
header_formed open_array h g f b c a = formed_if (is_empty_gap g) (in_key (for_header h true) no_parts true) (λ e. (f, refl))
header_formed (word w) h g f b c a = key_formed (word w) true (for_header h false) no_parts g f refl b c a
header_formed (string s) h g f b c a = key_formed (string s) true (for_header h false) no_parts g f refl b c a
header_formed close_array h g f b c a = tt
header_formed open_table h g f b c a = tt
header_formed close_table h g f b c a = tt
header_formed comma h g f b c a = tt
header_formed equals h g f b c a = tt
header_formed line_end h g f b c a = tt
header_formed (comment s) h g f b c a = tt
header_formed text_end h g f b c a = tt

closing_formed : (l : TomlLexeme) (h : Lead) (k : Key) (g : List ℕ) → IsClearGap h.gap → IsFormedKey k false
    → IsFormedTurn (closing_turn h k g l)
closing_formed close_array h k g f i = formed_if (is_empty_gap g) (at_end (statement_of_parts h (header true k) None))
    (λ e. (tt, (f, i, tt)))
closing_formed open_array h k g f i = tt
closing_formed open_table h k g f i = tt
closing_formed close_table h k g f i = tt
closing_formed comma h k g f i = tt
closing_formed equals h k g f i = tt
closing_formed line_end h k g f i = tt
closing_formed (comment s) h k g f i = tt
closing_formed (string s) h k g f i = tt
closing_formed (word w) h k g f i = tt
closing_formed text_end h k g f i = tt

remark_formed : (x : Body) (g s : List ℕ) → HasEnd x → IsClearGap g → is_comment s ≡ true
    → IsFormedRemark x (Some record { gap = g; text = s })
remark_formed (note t) g s h c e = absurd h
remark_formed (header b k) g s h c e = (c, e)
remark_formed (pair k b v) g s h c e = (c, e)

time_at_formed : (x : Body) (l : Lead) (g t : List ℕ) → IsClearGap l.gap → IsFormedBody x → StandsAlone (word t)
    → IsFormedTurn (time_at_end l x g t)
time_at_formed (note s) l g t f h a = tt
time_at_formed (header b k) l g t f h a = tt
time_at_formed (pair k b v) l g t f h a = time_formed v (of_line l k b) g t (f, h.0, h.1) h.2 a

end_formed : (l : TomlLexeme) (s : Statement) (g : List ℕ) → HasEnd s.body → IsFormedStatement s → IsTomlGap g
    → is_clear_gap g (is_line_end_lexeme l) ≡ true
    → IsTextAlone l → IsFormedTurn (end_turn_of s g l)
end_formed (comment t) s g e h b c a =
    formed_if (is_comment t) (after_remark (with_remark s g t)) (λ i. (h.0, h.1, remark_formed s.body g t e (b, c) i))
end_formed (word t) s g e h b c a = time_at_formed s.body s.before g t h.0 h.1 a
end_formed line_end s g e h b c a = (h, tt)
end_formed text_end s g e h b c a = h
end_formed open_array s g e h b c a = tt
end_formed close_array s g e h b c a = tt
end_formed open_table s g e h b c a = tt
end_formed close_table s g e h b c a = tt
end_formed comma s g e h b c a = tt
end_formed equals s g e h b c a = tt
end_formed (string t) s g e h b c a = tt

after_remark_formed : (l : TomlLexeme) (s : Statement) → IsFormedStatement s → IsFormedTurn (remark_turn s l)
after_remark_formed line_end s h = (h, tt)
after_remark_formed text_end s h = h
after_remark_formed open_array s h = tt
after_remark_formed close_array s h = tt
after_remark_formed open_table s h = tt
after_remark_formed close_table s h = tt
after_remark_formed comma s h = tt
after_remark_formed equals s h = tt
after_remark_formed (comment t) s h = tt
after_remark_formed (string t) s h = tt
after_remark_formed (word t) s h = tt

-- ---- texts

clear_formed : (n : Now) (g : List ℕ) (l : TomlLexeme) → IsFormedNow n → IsTomlGap g → is_clear_gap g (is_line_end_lexeme l) ≡ true
    → IsTextAlone l
    → IsFormedTurn (clear_turn n g l)
clear_formed (at_line n) g l f b c a = line_formed l n g b c a
clear_formed (at_header h) g l f b c a = header_formed l h g f b c a
clear_formed (in_key o k due) g l f b c a = key_formed l due o k g f.0 f.1 b c a
clear_formed (at_closing h k) g l f b c a = closing_formed l h k g f.0 f.1
clear_formed (at_value o) g l f b c a = value_formed l o g f a
clear_formed (in_array o cs is n due) g l f b c a = array_formed l due o cs is n g f.0 f.1 f.2 b c a
clear_formed (in_table o ms) g l f b c a = table_formed l ms o g f.0 f.1 b c a
clear_formed (at_end s) g l f b c a = end_formed l s g f.0 f.1 b c a
clear_formed (after_remark s) g l f b c a = after_remark_formed l s f

turn_formed : (c : Bool) (t : ReadTurn) → (c ≡ true → IsFormedTurn t) → IsFormedTurn (cond c t refuses)
turn_formed true t h = h refl
turn_formed false t h = tt

some_is : (xs ys : List Statement) → Some xs ≡ Some ys → xs ≡ ys
some_is xs ys e = cc

-- a statement in front of others that are read
said_formed : (s : Statement) (r : Option (List Statement)) (ss : List Statement) → IsFormedStatement s
    → ((ts : List Statement) → r ≡ Some ts → AreFormed ts) → said_before s r ≡ Some ss → AreFormed ss
said_formed s None ss h k e = absurd (cc)
said_formed s (Some ts) ss h k e = subst AreFormed (some_is (s ∷ ts) ss e) (h, k ts refl)

then_formed : (t : ReadTurn) (k : Now → Option (List Statement)) (ss : List Statement) → IsFormedTurn t
    → ((n : Now) (ts : List Statement) → IsFormedNow n → k n ≡ Some ts → AreFormed ts) → then_statements t k ≡ Some ss → AreFormed ss
then_formed (more n) k ss f h e = h n ss f e
then_formed (says s n) k ss f h e = said_formed s (k n) ss f.0 (λ ts. h n ts f.1) e
then_formed ends k ss f h e = subst AreFormed (some_is [] ss e) tt
then_formed (says_last s) k ss f h e = subst AreFormed (some_is (s ∷ []) ss e) (f, tt)
then_formed refuses k ss f h e = absurd (cc)

from_formed : (ps : List TypedAfterGap) (n : Now) (ss : List Statement) → IsFormedNow n → AreAlone ps → read_from n ps ≡ Some ss
    → AreFormed ss
from_formed [] n ss f h e = absurd (cc)
from_formed (p ∷ ps) n ss f h e =
    then_formed (read_turn n p) (λ next. read_from next ps) ss
    (turn_formed (is_clear_gap p.gap (is_line_end_lexeme p.lexeme)) (clear_turn n p.gap p.lexeme)
    (λ c. clear_formed n p.gap p.lexeme f h.0 c h.1))
    (λ m ts g r. from_formed ps m ts g h.2 r) e

pub read_are_formed : ReadAreFormed
read_are_formed ps ss h e = from_formed ps (at_line 0) ss tt h e
