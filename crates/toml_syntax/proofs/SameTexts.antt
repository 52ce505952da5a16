-- A text is read as statements where it is TOML by the grammar: both go over its lexemes side by side.
use Rattle.std.proofs.Common.{◌≡◌, refl, sym, ◌∙◌, ap, ℕ, zero, suc, ◌+◌, ◌-◌, Bool, true, false, cond, not, ◌==◌, ◌&&◌, List, []}
use Rattle.std.proofs.Common.{◌∷◌, ◌++◌, length}
use Rattle.std.proofs.Common.{inl, inr, drop, take, All}
use Rattle.std.proofs.Common.{map, Option, Some, None, Result, Ok, Err, is_ok, subst, arith, length-append}
use Rattle.std.specs.Bool.{⊤}
use Rattle.std.specs.Option.{is_some}
use Rattle.std.specs.List.{slice_get, list_all}
use Rattle.std.proofs.Math.Seq.{take-append_seam, take-length}
use Rattle.std.proofs.lemmas.Bool.{eqb-true, true≢false, and_parts, or_cases}
use Rattle.std.proofs.lemmas.List.Elements.{All-head, All-tail}
use Rattle.text_lexemes.specs.Languages.{between}
use Rattle.toml_lexemes.specs.Bytes.{head}
use Rattle.toml_lexemes.specs.Lexemes.{cut_toml, begins_line_feed, toml_lexemes_of}
use Rattle.toml_lexemes.specs.Spaced.{IsTomlGap, MayFollow, IsWellSpaced, begins_line_end}
use Rattle.toml_lexemes.specs.SpacedLexemes.{blanks, toml_spaced_as, toml_spaced_lexemes}
use Rattle.toml_lexemes.proofs.Following.{comments_are_ended}
use Rattle.toml_lexemes.proofs.Gaps.{IsWellSpaced-lexemes, lexemes_alone}
use Rattle.toml_lexemes.proofs.Kept.{no_blank}
use Rattle.toml_lexemes.proofs.WholeLexemes.{no_lexeme}
use Rattle.toml_grammar.specs.Grammar.{is_toml}
use Rattle.toml_syntax.specs.Laws.{ParsedAreToml}
use Rattle.toml_syntax.proofs.Alone.{by_sort}
use Rattle.toml_lexemes.specs.Bytes as byte
use Rattle.toml_lexemes.specs.SpacedLexemes.{SpacedToml}
use Rattle.toml_grammar.specs.Comments.{is_comment}
use Rattle.toml_grammar.specs.Dates.{is_date, is_time}
use Rattle.toml_grammar.specs.Keys.{key_word}
use Rattle.toml_grammar.specs.Strings.{is_key_string, is_string}
use Rattle.toml_grammar.specs.Values.{is_value}
use Rattle.toml_grammar.specs.Grammar.{Reading, innermost, is_clear, is_line_end, is_empty_gap, is_one_space, where_so, sort_turn}
use Rattle.toml_grammar.specs.Grammar.{word_turn, turned, lexeme_step}
use Rattle.toml_grammar.specs.Grammar.{reading_after, then_lexemes, key_turn}
use Rattle.toml_grammar.specs.Sorts as sort
use Rattle.toml_grammar.specs.Sorts.{Sort, sort_of}
use Rattle.toml_grammar.specs.declared.expected.Expected.{Expected}
use Rattle.toml_grammar.specs.declared.expected.Expected.TheVariants as want
use Rattle.toml_grammar.specs.declared.next.Bracket.{Bracket}
use Rattle.toml_grammar.specs.declared.next.Bracket.TheVariants as bracket
use Rattle.toml_grammar.specs.declared.next.Owner.{Owner}
use Rattle.toml_grammar.specs.declared.next.Owner.TheVariants as owner
use Rattle.toml_grammar.specs.declared.next.Next.{Next}
use Rattle.toml_grammar.specs.declared.next.Next.TheVariants as next
use Rattle.toml_grammar.specs.declared.turn.LexemeTurn.{LexemeTurn}
use Rattle.toml_grammar.specs.declared.turn.LexemeTurn.TheVariants.{Stops}
use Rattle.toml_syntax.specs.TypedLexemes.{TomlLexeme, open_array, close_array, open_table, close_table, comma, equals, line_end, comment}
use Rattle.toml_syntax.specs.TypedLexemes.{string, word, text_end}
use Rattle.toml_syntax.specs.TypedLexemes.{typed_after_gap, typed, typed_spaced, is_line_end_lexeme, is_clear_gap}
use Rattle.toml_syntax.specs.Tree.{Lead, lead, Key, no_parts, with_string, Comments, no_comments, with_comment}
use Rattle.toml_syntax.specs.Tree.{TomlValue, plain, moment, quoted, array, table, ArrayItems, no_items, with_item, TableMembers}
use Rattle.toml_syntax.specs.Tree.{no_members, with_member}
use Rattle.toml_syntax.specs.Tree.{Body, note, header, pair, Remark, Statement, statement_of_parts}
use Rattle.toml_syntax.specs.Reading.{Outside, of_line, of_array, of_table, KeyOf, for_header, for_line, for_member, Now, at_line}
use Rattle.toml_syntax.specs.Reading.{at_header, in_key, at_closing}
use Rattle.toml_syntax.specs.Reading.{at_value, in_array, in_table, at_end, after_remark, ReadTurn, more, says, ends, says_last, refuses}
use Rattle.toml_syntax.specs.Reading.{more_if, joined_word}
use Rattle.toml_syntax.specs.Reading.{word_in_key, in_key_turn, now_after_value, value_turn_of, time_turn}
use Rattle.toml_syntax.specs.Reading.{last_comma, comment_in, time_in_array}
use Rattle.toml_syntax.specs.Reading.{array_turn, table_turn, with_remark, line_turn_of, header_turn, closing_turn, time_at_end}
use Rattle.toml_syntax.specs.Reading.{end_turn_of, remark_turn, clear_turn}
use Rattle.toml_syntax.specs.Reading.{read_turn, said_before, then_statements, read_from}

-- ---- where both are

abbrev reading : List Bracket → Next → Reading
reading bs n = record { open_brackets = bs; next = n }

abbrev brackets_in : Outside → List Bracket
brackets_in (of_line l k g) = []
brackets_in (of_array o cs is l) = brackets_in o ++ bracket.Array ∷ []
brackets_in (of_table o ms k) = brackets_in o ++ bracket.Table ∷ []

abbrev key_brackets : KeyOf → List Bracket
key_brackets (for_header l b) = []
key_brackets (for_line l) = []
key_brackets (for_member o ms) = brackets_in o ++ bracket.Table ∷ []

abbrev owner_of : KeyOf → Owner
owner_of (for_header l false) = owner.Table
owner_of (for_header l true) = owner.Tables
owner_of (for_line l) = owner.Value
owner_of (for_member o ms) = owner.Value

-- a date, which a time may follow
abbrev is_date_value : TomlValue → Bool
is_date_value (plain d) = is_date d
is_date_value (moment d t) = false
is_date_value (quoted s) = false
is_date_value (array cs is b l) = false
is_date_value (table ms) = false

abbrev is_after_date : ArrayItems → ℕ → Bool
is_after_date no_items n = false
is_after_date (with_item is l v no_comments) zero = is_date_value v
is_after_date (with_item is l v no_comments) (suc n) = false
is_after_date (with_item is l v (with_comment cs k s)) n = false

abbrev is_date_body : Body → Bool
is_date_body (note s) = false
is_date_body (header b k) = false
is_date_body (pair k g v) = is_date_value v

abbrev after_next : Bool → Next
after_next b = cond b next.AfterDate next.After

abbrev remark_next : Option Remark → Next
remark_next None = next.Line
remark_next (Some r) = next.After

abbrev reading_of : Now → Reading
reading_of (at_line n) = reading [] next.Line
reading_of (at_header l) = reading [] next.Header
reading_of (in_key o k due) = reading (key_brackets o) (next.Key (owner_of o) due)
reading_of (at_closing l k) = reading [] next.Closing
reading_of (at_value o) = reading (brackets_in o) next.Value
reading_of (in_array o cs is n true) = reading (brackets_in o ++ bracket.Array ∷ []) next.Member
reading_of (in_array o cs is n false) = reading (brackets_in o ++ bracket.Array ∷ []) (after_next (is_after_date is n))
reading_of (in_table o no_members) = reading (brackets_in o ++ bracket.Table ∷ []) next.Entry
reading_of (in_table o (with_member ms k v)) = reading (brackets_in o ++ bracket.Table ∷ []) (after_next (is_date_value v))
reading_of (at_end s) = reading [] (after_next (is_date_body s.body))
reading_of (after_remark s) = reading [] (remark_next s.remark)

-- ---- agreement

abbrev IsComment : TomlLexeme → Type 0
IsComment open_array = ⊥
IsComment close_array = ⊥
IsComment open_table = ⊥
IsComment close_table = ⊥
IsComment comma = ⊥
IsComment equals = ⊥
IsComment line_end = ⊥
IsComment (comment s) = ⊤
IsComment (string s) = ⊥
IsComment (word s) = ⊥
IsComment text_end = ⊥

abbrev IsNotEnd : TomlLexeme → Type 0
IsNotEnd text_end = ⊥
IsNotEnd open_array = ⊤
IsNotEnd close_array = ⊤
IsNotEnd open_table = ⊤
IsNotEnd close_table = ⊤
IsNotEnd comma = ⊤
IsNotEnd equals = ⊤
IsNotEnd line_end = ⊤
IsNotEnd (comment s) = ⊤
IsNotEnd (string s) = ⊤
IsNotEnd (word s) = ⊤

-- a comment at the end of a line is read by a comment alone
abbrev IsLedBy : TomlLexeme → Now → Type 0
IsLedBy l (after_remark s) = IsComment l
IsLedBy l (at_line n) = ⊤
IsLedBy l (at_header h) = ⊤
IsLedBy l (in_key o k due) = ⊤
IsLedBy l (at_closing h k) = ⊤
IsLedBy l (at_value o) = ⊤
IsLedBy l (in_array o cs is n due) = ⊤
IsLedBy l (in_table o ms) = ⊤
IsLedBy l (at_end s) = ⊤

abbrev Leads : TomlLexeme → Now → Reading → Type 0
Leads l m r = (r ≡ reading_of m) × IsNotEnd l × IsLedBy l m

-- both go on, to places that correspond, or neither does
abbrev Agrees : TomlLexeme → ReadTurn → Result Reading Expected → Type 0
Agrees l (more m) (Ok r) = Leads l m r
Agrees l (says s m) (Ok r) = Leads l m r
Agrees l ends (Ok r) = l ≡ text_end
Agrees l (says_last s) (Ok r) = l ≡ text_end
Agrees l refuses (Ok r) = ⊥
Agrees l (more m) (Err e) = ⊥
Agrees l (says s m) (Err e) = ⊥
Agrees l ends (Err e) = ⊥
Agrees l (says_last s) (Err e) = ⊥
Agrees l refuses (Err e) = ⊤

agrees_if : (l : TomlLexeme) (b : Bool) (m : Now) (bs : List Bracket) (n : Next) (e : Expected) → Leads l m (reading bs n)
    → Agrees l (more_if b m) (turned bs (where_so b n e))
agrees_if l true m bs n e h = h
agrees_if l false m bs n e h = tt

-- ---- keys

word_agrees : (o : KeyOf) (k : Key) (w : List ℕ) (r : Option Bool) (e : Expected)
    → Agrees (word w) (word_in_key o k r) (turned (key_brackets o) (key_turn (owner_of o) r e))
word_agrees o k w None e = tt
word_agrees o k w (Some due) e = (refl, tt, tt)

-- the sort of a lexeme, and the bytes that the grammar sees of it
abbrev sort_as : TomlLexeme → Sort
sort_as open_array = sort.open_array
sort_as close_array = sort.close_array
sort_as open_table = sort.open_table
sort_as close_table = sort.close_table
sort_as comma = sort.comma
sort_as equals = sort.equals
sort_as line_end = sort.line_end
sort_as (comment s) = sort.comment
sort_as (string s) = sort.string
sort_as (word s) = sort.word
sort_as text_end = sort.text_end

abbrev seen_bytes : TomlLexeme → List ℕ → List ℕ
seen_bytes (comment t) s = t
seen_bytes (string t) s = t
seen_bytes (word t) s = t
seen_bytes open_array s = s
seen_bytes close_array s = s
seen_bytes open_table s = s
seen_bytes close_table s = s
seen_bytes comma s = s
seen_bytes equals s = s
seen_bytes line_end s = s
seen_bytes text_end s = s

-- what the grammar makes of a lexeme
abbrev grammar_turn : TomlLexeme → Next → Option Bracket → List ℕ → List ℕ → LexemeTurn
grammar_turn l n b g s = sort_turn (sort_as l) n b g (seen_bytes l s)

key_agrees : (l : TomlLexeme) (due : Bool) (o : KeyOf) (k : Key) (g s : List ℕ) (i : Option Bracket)
    → Agrees l (in_key_turn o k due g l) (turned (key_brackets o) (grammar_turn l (next.Key (owner_of o) due) i g s))
key_agrees (word w) due o k g s i = word_agrees o (joined_word k w) w (key_word due w) _
key_agrees (string t) true o k g s i =
    agrees_if (string t) (is_key_string t) (in_key o (with_string k t) false) (key_brackets o) (next.Key (owner_of o) false) want.KeyString
    (refl, tt, tt)
key_agrees (string t) false o k g s i = tt
key_agrees equals true (for_header l false) k g s i = tt
key_agrees equals true (for_header l true) k g s i = tt
key_agrees equals true (for_line l) k g s i = tt
key_agrees equals true (for_member o ms) k g s i = tt
key_agrees equals false (for_header l false) k g s i = tt
key_agrees equals false (for_header l true) k g s i = tt
key_agrees equals false (for_line l) k g s i = (refl, tt, tt)
key_agrees equals false (for_member o ms) k g s i = (refl, tt, tt)
key_agrees close_array true (for_header l false) k g s i = tt
key_agrees close_array true (for_header l true) k g s i = tt
key_agrees close_array true (for_line l) k g s i = tt
key_agrees close_array true (for_member o ms) k g s i = tt
key_agrees close_array false (for_header l false) k g s i = (refl, tt, tt)
key_agrees close_array false (for_header l true) k g s i = (refl, tt, tt)
key_agrees close_array false (for_line l) k g s i = tt
key_agrees close_array false (for_member o ms) k g s i = tt
key_agrees open_array due o k g s i = tt
key_agrees open_table due o k g s i = tt
key_agrees close_table due o k g s i = tt
key_agrees comma due o k g s i = tt
key_agrees line_end due o k g s i = tt
key_agrees (comment t) due o k g s i = tt
key_agrees text_end due o k g s i = tt

-- ---- values

after_leads : (o : Outside) (v : TomlValue) (l : TomlLexeme) → IsNotEnd l
    → Leads l (now_after_value o v) (reading (brackets_in o) (after_next (is_date_value v)))
after_leads (of_line h k g) v l e = (refl, e, tt)
after_leads (of_array o cs is h) v l e = (refl, e, tt)
after_leads (of_table o ms k) v l e = (refl, e, tt)

value_agrees : (l : TomlLexeme) (o : Outside) (g s : List ℕ) (i : Option Bracket)
    → Agrees l (value_turn_of o g l) (turned (brackets_in o) (grammar_turn l next.Value i g s))
value_agrees (word w) o g s i =
    agrees_if (word w) (is_value w) (now_after_value o (plain w)) (brackets_in o) (after_next (is_date w)) want.Value
    (after_leads o (plain w) (word w) tt)
value_agrees (string t) o g s i =
    agrees_if (string t) (is_string t) (now_after_value o (quoted t)) (brackets_in o) next.After want.String
    (after_leads o (quoted t) (string t) tt)
value_agrees open_array o g s i = (refl, tt, tt)
value_agrees open_table o g s i = (refl, tt, tt)
value_agrees close_array o g s i = tt
value_agrees close_table o g s i = tt
value_agrees comma o g s i = tt
value_agrees equals o g s i = tt
value_agrees line_end o g s i = tt
value_agrees (comment t) o g s i = tt
value_agrees text_end o g s i = tt

-- a word after a value
time_by : (b : Bool) (o : Outside) (d g t : List ℕ) (i : Option Bracket) → is_date d ≡ b
    → Agrees (word t) (more_if (is_date d && (is_one_space g && is_time t)) (now_after_value o (moment d t)))
    (turned (brackets_in o) (word_turn (after_next b) i g t))
time_by true o d g t i e =
    subst (λ c. Agrees (word t) (more_if (c && (is_one_space g && is_time t)) (now_after_value o (moment d t)))
    (turned (brackets_in o) (word_turn next.AfterDate i g t))) (sym e)
    (agrees_if (word t) (is_one_space g && is_time t) (now_after_value o (moment d t)) (brackets_in o) next.After _
    (after_leads o (moment d t) (word t) tt))
time_by false o d g t i e =
    subst (λ c. Agrees (word t) (more_if (c && (is_one_space g && is_time t)) (now_after_value o (moment d t)))
    (turned (brackets_in o) (word_turn next.After i g t))) (sym e) tt

time_agrees : (v : TomlValue) (o : Outside) (g t : List ℕ) (i : Option Bracket)
    → Agrees (word t) (time_turn o v g t) (turned (brackets_in o) (word_turn (after_next (is_date_value v)) i g t))
time_agrees (plain d) o g t i = time_by (is_date d) o d g t i refl
time_agrees (moment d u) o g t i = tt
time_agrees (quoted u) o g t i = tt
time_agrees (array cs is b l) o g t i = tt
time_agrees (table ms) o g t i = tt

-- ---- arrays

one_longer : (bs : List Bracket) (b : Bracket) → length (bs ++ b ∷ []) - 1 ≡ length bs
one_longer bs b = omega (arith, length-append bs (b ∷ []))

last_bracket : (bs : List Bracket) (b : Bracket) → slice_get (bs ++ b ∷ []) (length bs) ≡ Some b
last_bracket [] b = refl
last_bracket (x ∷ bs) b = last_bracket bs b

innermost_is : (bs : List Bracket) (b : Bracket) → innermost (bs ++ b ∷ []) ≡ Some b
innermost_is bs b = ap (slice_get (bs ++ b ∷ [])) (one_longer bs b) ∙ last_bracket bs b

outer : (bs : List Bracket) (b : Bracket) → take (length (bs ++ b ∷ []) - 1) (bs ++ b ∷ []) ≡ bs
outer bs b = ap (λ n. take n (bs ++ b ∷ [])) (one_longer bs b) ∙ take-append_seam bs (b ∷ [])

-- a bracket closes
closes_leads : (o : Outside) (v : TomlValue) (b : Bracket) (l : TomlLexeme) → IsNotEnd l → is_date_value v ≡ false
    → Leads l (now_after_value o v) (reading (take (length (brackets_in o ++ b ∷ []) - 1) (brackets_in o ++ b ∷ [])) next.After)
closes_leads o v b l e d =
    subst (λ bs. Leads l (now_after_value o v) (reading bs next.After)) (sym (outer (brackets_in o) b))
    (subst (λ c. Leads l (now_after_value o v) (reading (brackets_in o) (after_next c))) d (after_leads o v l e))

comment_due_leads : (is : ArrayItems) (o : Outside) (cs : Comments) (h : Lead) (s : List ℕ)
    → Leads (comment s) (comment_in o cs is h s true) (reading (brackets_in o ++ bracket.Array ∷ []) next.Member)
comment_due_leads no_items o cs h s = (refl, tt, tt)
comment_due_leads (with_item is l v ds) o cs h s = (refl, tt, tt)

comment_after_leads : (is : ArrayItems) (o : Outside) (cs : Comments) (h : Lead) (s : List ℕ)
    → Leads (comment s) (comment_in o cs is h s false) (reading (brackets_in o ++ bracket.Array ∷ []) next.After)
comment_after_leads no_items o cs h s = (refl, tt, tt)
comment_after_leads (with_item is l v ds) o cs h s = (refl, tt, tt)

-- where an item may come
due_agrees : (l : TomlLexeme) (o : Outside) (cs : Comments) (is : ArrayItems) (n : ℕ) (g s : List ℕ)
    → Agrees l (array_turn o cs is n true g l)
    (turned (brackets_in o ++ bracket.Array ∷ []) (grammar_turn l next.Member (Some bracket.Array) g s))
due_agrees line_end o cs is n g s = (refl, tt, tt)
due_agrees (comment t) o cs is n g s =
    agrees_if (comment t) (is_comment t) (comment_in o cs is (lead n g) t true)
    (brackets_in o ++ bracket.Array ∷ []) next.Member want.Comment
    (comment_due_leads is o cs (lead n g) t)
due_agrees close_array o cs is n g s = closes_leads o (array cs is (last_comma is true) (lead n g)) bracket.Array close_array tt refl
due_agrees comma o cs is n g s = tt
due_agrees (word w) o cs is n g s =
    agrees_if (word w) (is_value w) (now_after_value (of_array o cs is (lead n g)) (plain w)) (brackets_in o ++ bracket.Array ∷ [])
    (after_next (is_date w))
    want.ValueOrBracket (after_leads (of_array o cs is (lead n g)) (plain w) (word w) tt)
due_agrees (string t) o cs is n g s =
    agrees_if (string t) (is_string t) (now_after_value (of_array o cs is (lead n g)) (quoted t))
    (brackets_in o ++ bracket.Array ∷ []) next.After
    want.String (after_leads (of_array o cs is (lead n g)) (quoted t) (string t) tt)
due_agrees open_array o cs is n g s = (refl, tt, tt)
due_agrees open_table o cs is n g s = (refl, tt, tt)
due_agrees close_table o cs is n g s = tt
due_agrees equals o cs is n g s = tt
due_agrees text_end o cs is n g s = tt

-- line ends end the wait for a time
no_date_later : (is : ArrayItems) (n : ℕ) → is_after_date is (suc n) ≡ false
no_date_later no_items n = refl
no_date_later (with_item is l v no_comments) n = refl
no_date_later (with_item is l v (with_comment cs k s)) n = refl

time_in_agrees : (is : ArrayItems) (n : ℕ) (o : Outside) (cs : Comments) (g t : List ℕ) (i : Option Bracket)
    → Agrees (word t) (time_in_array o cs is n g t)
    (turned (brackets_in o ++ bracket.Array ∷ []) (word_turn (after_next (is_after_date is n)) i g t))
time_in_agrees no_items n o cs g t i = tt
time_in_agrees (with_item is l v no_comments) zero o cs g t i = time_agrees v (of_array o cs is l) g t i
time_in_agrees (with_item is l v no_comments) (suc n) o cs g t i = tt
time_in_agrees (with_item is l v (with_comment ds k s)) n o cs g t i = tt

-- after an item, which may be a date
after_agrees : (l : TomlLexeme) (b : Bool) (o : Outside) (cs : Comments) (is : ArrayItems) (n : ℕ) (g s : List ℕ) → is_after_date is n ≡ b
    → Agrees l (array_turn o cs is n false g l)
    (turned (brackets_in o ++ bracket.Array ∷ []) (grammar_turn l (after_next b) (Some bracket.Array) g s))
after_agrees line_end true o cs is n g s e =
    (ap (λ c. reading (brackets_in o ++ bracket.Array ∷ []) (after_next c)) (sym (no_date_later is n)), tt, tt)
after_agrees line_end false o cs is n g s e =
    (ap (λ c. reading (brackets_in o ++ bracket.Array ∷ []) (after_next c)) (sym (no_date_later is n)), tt, tt)
after_agrees (comment t) true o cs is n g s e =
    agrees_if (comment t) (is_comment t) (comment_in o cs is (lead n g) t false)
    (brackets_in o ++ bracket.Array ∷ []) next.After want.Comment
    (comment_after_leads is o cs (lead n g) t)
after_agrees (comment t) false o cs is n g s e =
    agrees_if (comment t) (is_comment t) (comment_in o cs is (lead n g) t false)
    (brackets_in o ++ bracket.Array ∷ []) next.After want.Comment
    (comment_after_leads is o cs (lead n g) t)
after_agrees close_array true o cs is n g s e = closes_leads o
    (array cs is (last_comma is false) (lead n g)) bracket.Array close_array tt refl
after_agrees close_array false o cs is n g s e = closes_leads o
    (array cs is (last_comma is false) (lead n g)) bracket.Array close_array tt refl
after_agrees comma true o cs is n g s e = (refl, tt, tt)
after_agrees comma false o cs is n g s e = (refl, tt, tt)
after_agrees (word t) b o cs is n g s e =
    subst (λ c. Agrees (word t) (time_in_array o cs is n g t)
    (turned (brackets_in o ++ bracket.Array ∷ []) (word_turn (after_next c) (Some bracket.Array) g t))) e
    (time_in_agrees is n o cs g t (Some bracket.Array))
after_agrees (string t) true o cs is n g s e = tt
after_agrees (string t) false o cs is n g s e = tt
after_agrees open_array true o cs is n g s e = tt
after_agrees open_array false o cs is n g s e = tt
after_agrees open_table true o cs is n g s e = tt
after_agrees open_table false o cs is n g s e = tt
after_agrees close_table true o cs is n g s e = tt
after_agrees close_table false o cs is n g s e = tt
after_agrees equals true o cs is n g s e = tt
after_agrees equals false o cs is n g s e = tt
after_agrees text_end true o cs is n g s e = tt
after_agrees text_end false o cs is n g s e = tt

-- ---- inline tables

entry_agrees : (l : TomlLexeme) (o : Outside) (g s : List ℕ)
    → Agrees l (table_turn o no_members g l)
    (turned (brackets_in o ++ bracket.Table ∷ []) (grammar_turn l next.Entry (Some bracket.Table) g s))
entry_agrees close_table o g s = closes_leads o (table no_members) bracket.Table close_table tt refl
entry_agrees (word w) o g s = word_agrees (for_member o no_members) (joined_word no_parts w) w (key_word true w) want.KeyOrBrace
entry_agrees (string t) o g s =
    agrees_if (string t) (is_key_string t) (in_key (for_member o no_members) (with_string no_parts t) false)
    (brackets_in o ++ bracket.Table ∷ [])
    (next.Key owner.Value false) want.KeyString (refl, tt, tt)
entry_agrees open_array o g s = tt
entry_agrees close_array o g s = tt
entry_agrees open_table o g s = tt
entry_agrees comma o g s = tt
entry_agrees equals o g s = tt
entry_agrees line_end o g s = tt
entry_agrees (comment t) o g s = tt
entry_agrees text_end o g s = tt

member_agrees : (l : TomlLexeme) (b : Bool) (o : Outside) (ms : TableMembers) (k : Key) (v : TomlValue) (g s : List ℕ) → is_date_value v ≡ b
    → Agrees l (table_turn o (with_member ms k v) g l)
    (turned (brackets_in o ++ bracket.Table ∷ []) (grammar_turn l (after_next b) (Some bracket.Table) g s))
member_agrees close_table true o ms k v g s e = closes_leads o (table (with_member ms k v)) bracket.Table close_table tt refl
member_agrees close_table false o ms k v g s e = closes_leads o (table (with_member ms k v)) bracket.Table close_table tt refl
member_agrees comma true o ms k v g s e = (refl, tt, tt)
member_agrees comma false o ms k v g s e = (refl, tt, tt)
member_agrees (word t) b o ms k v g s e =
    subst (λ c. Agrees (word t) (time_turn (of_table o ms k) v g t)
    (turned (brackets_in o ++ bracket.Table ∷ []) (word_turn (after_next c) (Some bracket.Table) g t))) e
    (time_agrees v (of_table o ms k) g t (Some bracket.Table))
member_agrees (string t) true o ms k v g s e = tt
member_agrees (string t) false o ms k v g s e = tt
member_agrees open_array true o ms k v g s e = tt
member_agrees open_array false o ms k v g s e = tt
member_agrees close_array true o ms k v g s e = tt
member_agrees close_array false o ms k v g s e = tt
member_agrees open_table true o ms k v g s e = tt
member_agrees open_table false o ms k v g s e = tt
member_agrees equals true o ms k v g s e = tt
member_agrees equals false o ms k v g s e = tt
member_agrees line_end true o ms k v g s e = tt
member_agrees line_end false o ms k v g s e = tt
member_agrees (comment t) true o ms k v g s e = tt
member_agrees (comment t) false o ms k v g s e = tt
member_agrees text_end true o ms k v g s e = tt
member_agrees text_end false o ms k v g s e = tt

-- ---- lines

line_agrees : (l : TomlLexeme) (n : ℕ) (g s : List ℕ) → Agrees l (line_turn_of n g l) (turned [] (grammar_turn l next.Line None g s))
line_agrees line_end n g s = (refl, tt, tt)
line_agrees (comment t) n g s =
    agrees_if (comment t) (is_comment t) (after_remark (statement_of_parts (lead n g) (note t) None)) [] next.Line want.Comment
    (refl, tt, tt)
line_agrees open_array n g s = (refl, tt, tt)
line_agrees (word w) n g s = word_agrees (for_line (lead n g)) (joined_word no_parts w) w (key_word true w) want.Line
line_agrees (string t) n g s =
    agrees_if (string t) (is_key_string t) (in_key (for_line (lead n g)) (with_string no_parts t) false) []
    (next.Key owner.Value false) want.KeyString
    (refl, tt, tt)
line_agrees text_end n g s = refl
line_agrees close_array n g s = tt
line_agrees open_table n g s = tt
line_agrees close_table n g s = tt
line_agrees comma n g s = tt
line_agrees equals n g s = tt

header_agrees : (l : TomlLexeme) (h : Lead) (g s : List ℕ) → Agrees l (header_turn h g l) (turned [] (grammar_turn l next.Header None g s))
header_agrees open_array h g s =
    agrees_if open_array (is_empty_gap g) (in_key (for_header h true) no_parts true) [] (next.Key owner.Tables true) want.Key (refl, tt, tt)
header_agrees (word w) h g s = word_agrees (for_header h false) (joined_word no_parts w) w (key_word true w) want.Key
header_agrees (string t) h g s =
    agrees_if (string t) (is_key_string t) (in_key (for_header h false) (with_string no_parts t) false) []
    (next.Key owner.Table false) want.KeyString
    (refl, tt, tt)
header_agrees close_array h g s = tt
header_agrees open_table h g s = tt
header_agrees close_table h g s = tt
header_agrees comma h g s = tt
header_agrees equals h g s = tt
header_agrees line_end h g s = tt
header_agrees (comment t) h g s = tt
header_agrees text_end h g s = tt

closing_agrees : (l : TomlLexeme) (h : Lead) (k : Key) (g s : List ℕ)
    → Agrees l (closing_turn h k g l) (turned [] (grammar_turn l next.Closing None g s))
closing_agrees close_array h k g s =
    agrees_if close_array (is_empty_gap g) (at_end (statement_of_parts h (header true k) None)) [] next.After want.Bracket (refl, tt, tt)
closing_agrees open_array h k g s = tt
closing_agrees open_table h k g s = tt
closing_agrees close_table h k g s = tt
closing_agrees comma h k g s = tt
closing_agrees equals h k g s = tt
closing_agrees line_end h k g s = tt
closing_agrees (comment t) h k g s = tt
closing_agrees (string t) h k g s = tt
closing_agrees (word w) h k g s = tt
closing_agrees text_end h k g s = tt

time_at_agrees : (x : Body) (h : Lead) (g t : List ℕ)
    → Agrees (word t) (time_at_end h x g t) (turned [] (word_turn (after_next (is_date_body x)) None g t))
time_at_agrees (note u) h g t = tt
time_at_agrees (header b k) h g t = tt
time_at_agrees (pair k b v) h g t = time_agrees v (of_line h k b) g t None

end_agrees : (l : TomlLexeme) (b : Bool) (x : Statement) (g s : List ℕ) → is_date_body x.body ≡ b
    → Agrees l (end_turn_of x g l) (turned [] (grammar_turn l (after_next b) None g s))
end_agrees (comment t) true x g s e =
    agrees_if (comment t) (is_comment t) (after_remark (with_remark x g t)) [] next.After want.Comment (refl, tt, tt)
end_agrees (comment t) false x g s e =
    agrees_if (comment t) (is_comment t) (after_remark (with_remark x g t)) [] next.After want.Comment (refl, tt, tt)
end_agrees (word t) b x g s e =
    subst (λ c. Agrees (word t) (time_at_end x.before x.body g t) (turned [] (word_turn (after_next c) None g t))) e
    (time_at_agrees x.body x.before g t)
end_agrees line_end true x g s e = (refl, tt, tt)
end_agrees line_end false x g s e = (refl, tt, tt)
end_agrees text_end true x g s e = refl
end_agrees text_end false x g s e = refl
end_agrees open_array true x g s e = tt
end_agrees open_array false x g s e = tt
end_agrees close_array true x g s e = tt
end_agrees close_array false x g s e = tt
end_agrees open_table true x g s e = tt
end_agrees open_table false x g s e = tt
end_agrees close_table true x g s e = tt
end_agrees close_table false x g s e = tt
end_agrees comma true x g s e = tt
end_agrees comma false x g s e = tt
end_agrees equals true x g s e = tt
end_agrees equals false x g s e = tt
end_agrees (string t) true x g s e = tt
end_agrees (string t) false x g s e = tt

-- the end of a line, or of the text
abbrev pub IsLineOrEnd : TomlLexeme → Type 0
IsLineOrEnd line_end = ⊤
IsLineOrEnd text_end = ⊤
IsLineOrEnd open_array = ⊥
IsLineOrEnd close_array = ⊥
IsLineOrEnd open_table = ⊥
IsLineOrEnd close_table = ⊥
IsLineOrEnd comma = ⊥
IsLineOrEnd equals = ⊥
IsLineOrEnd (comment s) = ⊥
IsLineOrEnd (string s) = ⊥
IsLineOrEnd (word s) = ⊥

remark_agrees : (l : TomlLexeme) (r : Option Remark) (x : Statement) (g s : List ℕ) → IsLineOrEnd l
    → Agrees l (remark_turn x l) (turned [] (grammar_turn l (remark_next r) None g s))
remark_agrees line_end None x g s h = (refl, tt, tt)
remark_agrees line_end (Some r) x g s h = (refl, tt, tt)
remark_agrees text_end None x g s h = refl
remark_agrees text_end (Some r) x g s h = refl
remark_agrees open_array r x g s h = absurd h
remark_agrees close_array r x g s h = absurd h
remark_agrees open_table r x g s h = absurd h
remark_agrees close_table r x g s h = absurd h
remark_agrees comma r x g s h = absurd h
remark_agrees equals r x g s h = absurd h
remark_agrees (comment t) r x g s h = absurd h
remark_agrees (string t) r x g s h = absurd h
remark_agrees (word t) r x g s h = absurd h

-- ---- texts

-- what may come after a comment at the end of a line
abbrev IsReady : Now → TomlLexeme → Type 0
IsReady (after_remark s) l = IsLineOrEnd l
IsReady (at_line n) l = ⊤
IsReady (at_header h) l = ⊤
IsReady (in_key o k due) l = ⊤
IsReady (at_closing h k) l = ⊤
IsReady (at_value o) l = ⊤
IsReady (in_array o cs is n due) l = ⊤
IsReady (in_table o ms) l = ⊤
IsReady (at_end s) l = ⊤

-- what the grammar makes of a lexeme within the innermost bracket
abbrev grammar_step : Reading → TomlLexeme → List ℕ → List ℕ → Result Reading Expected
grammar_step r l g s = turned r.open_brackets (grammar_turn l r.next (innermost r.open_brackets) g s)

clear_agrees : (n : Now) (l : TomlLexeme) (g s : List ℕ) → IsReady n l → Agrees l (clear_turn n g l) (grammar_step (reading_of n) l g s)
clear_agrees (at_line n) l g s h = line_agrees l n g s
clear_agrees (at_header k) l g s h = header_agrees l k g s
clear_agrees (in_key o k due) l g s h = key_agrees l due o k g s (innermost (key_brackets o))
clear_agrees (at_closing k j) l g s h = closing_agrees l k j g s
clear_agrees (at_value o) l g s h = value_agrees l o g s (innermost (brackets_in o))
clear_agrees (in_array o cs is n true) l g s h =
    subst (λ i. Agrees l (array_turn o cs is n true g l) (turned (brackets_in o ++ bracket.Array ∷ []) (grammar_turn l next.Member i g s)))
    (sym (innermost_is (brackets_in o) bracket.Array)) (due_agrees l o cs is n g s)
clear_agrees (in_array o cs is n false) l g s h =
    subst (λ i. Agrees l (array_turn o cs is n false g l)
    (turned (brackets_in o ++ bracket.Array ∷ []) (grammar_turn l (after_next (is_after_date is n)) i g s)))
    (sym (innermost_is (brackets_in o) bracket.Array)) (after_agrees l (is_after_date is n) o cs is n g s refl)
clear_agrees (in_table o no_members) l g s h =
    subst (λ i. Agrees l (table_turn o no_members g l) (turned (brackets_in o ++ bracket.Table ∷ []) (grammar_turn l next.Entry i g s)))
    (sym (innermost_is (brackets_in o) bracket.Table)) (entry_agrees l o g s)
clear_agrees (in_table o (with_member ms k v)) l g s h =
    subst (λ i. Agrees l (table_turn o (with_member ms k v) g l)
    (turned (brackets_in o ++ bracket.Table ∷ []) (grammar_turn l (after_next (is_date_value v)) i g s)))
    (sym (innermost_is (brackets_in o) bracket.Table)) (member_agrees l (is_date_value v) o ms k v g s refl)
clear_agrees (at_end x) l g s h = end_agrees l (is_date_body x.body) x g s refl
clear_agrees (after_remark x) l g s h = remark_agrees l x.remark x g s h

-- ---- lexemes and their sorts

sorts_by : (a b c d e f g h i : Bool) (s : List ℕ)
    → cond a sort.open_array (cond b sort.close_array (cond c sort.open_table (cond d sort.close_table (cond e sort.comma
    (cond f sort.equals (cond g sort.line_end (cond h sort.comment (cond i sort.string sort.word))))))))
    ≡ sort_as (by_sort a b c d e f g h i s)
sorts_by true b c d e f g h i s = refl
sorts_by false true c d e f g h i s = refl
sorts_by false false true d e f g h i s = refl
sorts_by false false false true e f g h i s = refl
sorts_by false false false false true f g h i s = refl
sorts_by false false false false false true g h i s = refl
sorts_by false false false false false false true h i s = refl
sorts_by false false false false false false false true i s = refl
sorts_by false false false false false false false false true s = refl
sorts_by false false false false false false false false false s = refl

same_sort : (s : List ℕ) → sort_of s ≡ sort_as (typed s)
same_sort [] = refl
same_sort (x ∷ s) = sorts_by (x == 91) (x == 93) (x == 123) (x == 125) (x == 44) (x == 61) (x == 10) (x == 35) (byte.is_quote x) (x ∷ s)

seen_by : (a b c d e f g h i : Bool) (s : List ℕ) → seen_bytes (by_sort a b c d e f g h i s) s ≡ s
seen_by true b c d e f g h i s = refl
seen_by false true c d e f g h i s = refl
seen_by false false true d e f g h i s = refl
seen_by false false false true e f g h i s = refl
seen_by false false false false true f g h i s = refl
seen_by false false false false false true g h i s = refl
seen_by false false false false false false true h i s = refl
seen_by false false false false false false false true i s = refl
seen_by false false false false false false false false true s = refl
seen_by false false false false false false false false false s = refl

same_bytes : (s : List ℕ) → seen_bytes (typed s) s ≡ s
same_bytes [] = refl
same_bytes (x ∷ s) = seen_by (x == 91) (x == 93) (x == 123) (x == 125) (x == 44) (x == 61) (x == 10) (x == 35) (byte.is_quote x) (x ∷ s)

-- only comments begin with a hash, and only the end of the text has no bytes
abbrev IsSorted : Bool → TomlLexeme → Type 0
IsSorted h (comment t) = h ≡ true
IsSorted h text_end = ⊥
IsSorted h open_array = ⊤
IsSorted h close_array = ⊤
IsSorted h open_table = ⊤
IsSorted h close_table = ⊤
IsSorted h comma = ⊤
IsSorted h equals = ⊤
IsSorted h line_end = ⊤
IsSorted h (string t) = ⊤
IsSorted h (word t) = ⊤

sorted_by : (a b c d e f g h i : Bool) (s : List ℕ) → IsSorted h (by_sort a b c d e f g h i s)
sorted_by true b c d e f g h i s = tt
sorted_by false true c d e f g h i s = tt
sorted_by false false true d e f g h i s = tt
sorted_by false false false true e f g h i s = tt
sorted_by false false false false true f g h i s = tt
sorted_by false false false false false true g h i s = tt
sorted_by false false false false false false true h i s = tt
sorted_by false false false false false false false true i s = refl
sorted_by false false false false false false false false true s = tt
sorted_by false false false false false false false false false s = tt

line_same : (l : TomlLexeme) → is_line_end (sort_as l) ≡ is_line_end_lexeme l
line_same open_array = refl
line_same close_array = refl
line_same open_table = refl
line_same close_table = refl
line_same comma = refl
line_same equals = refl
line_same line_end = refl
line_same (comment s) = refl
line_same (string s) = refl
line_same (word s) = refl
line_same text_end = refl

-- ---- gaps

and_true : (b : Bool) → (b && true) ≡ b
and_true true = refl
and_true false = refl

all_clear : (g : List ℕ) → list_all (λ x. not (x == byte.carriage_return)) g ≡ is_clear_gap g false
all_clear [] = refl
all_clear (x ∷ []) = and_true (not (x == byte.carriage_return))
all_clear (x ∷ (y ∷ g)) = ap (λ b. not (x == byte.carriage_return) && b) (all_clear (y ∷ g))

clear_but_last : (g : List ℕ) → list_all (λ x. not (x == byte.carriage_return)) (take (length g - 1) g) ≡ is_clear_gap g true
clear_but_last [] = refl
clear_but_last (x ∷ []) = refl
clear_but_last (x ∷ (y ∷ g)) =
    ap (λ n. list_all (λ z. not (z == byte.carriage_return)) (take n (x ∷ (y ∷ g)))) (fewer (length g))
    ∙ ap (λ b. not (x == byte.carriage_return) && b) (clear_but_last (y ∷ g))
  where
    fewer : (n : ℕ) → suc (suc n) - 1 ≡ suc (suc n - 1)
    fewer n = omega arith

clear_same : (g : List ℕ) (b : Bool) → is_clear g b ≡ is_clear_gap g b
clear_same g true = clear_but_last g
clear_same g false = ap (list_all (λ x. not (x == byte.carriage_return))) (take-length g) ∙ all_clear g

-- ---- steps

cond_agrees : (c : Bool) (l : TomlLexeme) (t : ReadTurn) (bs : List Bracket) (u : LexemeTurn) (e : Expected) → Agrees l t (turned bs u)
    → Agrees l (cond c t refuses) (turned bs (cond c u (Stops e)))
cond_agrees true l t bs u e h = h
cond_agrees false l t bs u e h = tt

step_by : (n : Now) (l : TomlLexeme) (g s : List ℕ) (k : Sort) → k ≡ sort_as l → seen_bytes l s ≡ s → IsReady n l
    → Agrees l (read_turn n (typed_after_gap g l))
    (turned (reading_of n).open_brackets (cond (is_clear g (is_line_end k))
    (sort_turn k (reading_of n).next (innermost (reading_of n).open_brackets) g s) (Stops want.LineFeed)))
step_by n l g s k e b h =
    let bs = (reading_of n).open_brackets in
    let turn = λ (j : Sort) (t : List ℕ). sort_turn j (reading_of n).next (innermost bs) g t in
    let read = read_turn n (typed_after_gap g l) in
    subst (λ j. Agrees l read (turned bs (cond (is_clear g (is_line_end j)) (turn j s) (Stops want.LineFeed)))) (sym e)
    (subst (λ c. Agrees l read (turned bs (cond c (turn (sort_as l) s) (Stops want.LineFeed))))
    (sym (ap (is_clear g) (line_same l) ∙ clear_same g (is_line_end_lexeme l)))
    (cond_agrees (is_clear_gap g (is_line_end_lexeme l)) l (clear_turn n g l) bs (turn (sort_as l) s) want.LineFeed
    (subst (λ t. Agrees l (clear_turn n g l) (turned bs (turn (sort_as l) t))) b (clear_agrees n l g s h))))

step_agrees : (n : Now) (q : SpacedToml) → IsReady n (typed q.lexeme)
    → Agrees (typed q.lexeme) (read_turn n (typed_spaced q)) (lexeme_step (reading_of n) q)
step_agrees n q h = step_by n (typed q.lexeme) q.gap q.lexeme (sort_of q.lexeme) (same_sort q.lexeme) (same_bytes q.lexeme) h

-- ---- lists

-- a line end comes next, or the end of the text
abbrev LineNext : List SpacedToml → Type 0
LineNext [] = ⊥
LineNext (q ∷ qs) = IsLineOrEnd (typed q.lexeme)

abbrev IsWell : TomlLexeme → List SpacedToml → Type 0 → Type 0
IsWell text_end qs later = qs ≡ []
IsWell (comment s) qs later = LineNext qs × later
IsWell open_array qs later = later
IsWell close_array qs later = later
IsWell open_table qs later = later
IsWell close_table qs later = later
IsWell comma qs later = later
IsWell equals qs later = later
IsWell line_end qs later = later
IsWell (string s) qs later = later
IsWell (word s) qs later = later

-- lexemes with an end, where line ends come after comments
abbrev AreWell : List SpacedToml → Type 0
AreWell [] = ⊥
AreWell (q ∷ qs) = IsWell (typed q.lexeme) qs (AreWell qs)

abbrev ReadyFor : Now → List SpacedToml → Type 0
ReadyFor n [] = ⊥
ReadyFor n (q ∷ qs) = IsReady n (typed q.lexeme)

ready_by : (m : Now) (l k : TomlLexeme) → IsLedBy l m → (IsComment l → IsLineOrEnd k) → IsReady m k
ready_by (after_remark s) l k h f = f h
ready_by (at_line n) l k h f = tt
ready_by (at_header j) l k h f = tt
ready_by (in_key o j due) l k h f = tt
ready_by (at_closing j i) l k h f = tt
ready_by (at_value o) l k h f = tt
ready_by (in_array o cs is n due) l k h f = tt
ready_by (in_table o ms) l k h f = tt
ready_by (at_end s) l k h f = tt

later_well : (l : TomlLexeme) (qs : List SpacedToml) (W : Type 0) → IsNotEnd l → IsWell l qs W → (IsComment l → LineNext qs) × W
later_well text_end qs W e h = absurd e
later_well (comment s) qs W e h = (λ c. h.0, h.1)
later_well open_array qs W e h = (λ c. absurd c, h)
later_well close_array qs W e h = (λ c. absurd c, h)
later_well open_table qs W e h = (λ c. absurd c, h)
later_well close_table qs W e h = (λ c. absurd c, h)
later_well comma qs W e h = (λ c. absurd c, h)
later_well equals qs W e h = (λ c. absurd c, h)
later_well line_end qs W e h = (λ c. absurd c, h)
later_well (string s) qs W e h = (λ c. absurd c, h)
later_well (word s) qs W e h = (λ c. absurd c, h)

ready_for : (m : Now) (l : TomlLexeme) (qs : List SpacedToml) → IsLedBy l m → (IsComment l → LineNext qs) → AreWell qs → ReadyFor m qs
ready_for m l [] h f w = absurd w
ready_for m l (q ∷ qs) h f w = ready_by m l (typed q.lexeme) h f

some_said : (s : Statement) (r : Option (List Statement)) → is_some (said_before s r) ≡ is_some r
some_said s None = refl
some_said s (Some ss) = refl

-- what is read of lexemes, where the grammar reads them
abbrev SameFrom : Now → List SpacedToml → Type 0
SameFrom n qs = is_some (read_from n (map typed_spaced qs)) ≡ is_ok (reading_after (reading_of n) qs)

on_agrees : (l : TomlLexeme) (qs : List SpacedToml) (m : Now) (r : Reading) → Leads l m r → IsWell l qs (AreWell qs)
    → ((n : Now) → ReadyFor n qs → AreWell qs → SameFrom n qs) → is_some (read_from m (map typed_spaced qs)) ≡ is_ok (reading_after r qs)
on_agrees l qs m r h w f =
    let later = later_well l qs (AreWell qs) h.1 w in
    f m (ready_for m l qs h.2 later.0 later.1) later.1 ∙ ap (λ x. is_ok (reading_after x qs)) (sym h.0)

end_same : (l : TomlLexeme) (qs : List SpacedToml) (W : Type 0) (r : Reading) → l ≡ text_end → IsWell l qs W
    → true ≡ is_ok (reading_after r qs)
end_same l qs W r e w = subst (λ x. true ≡ is_ok (reading_after r x)) (sym (subst (λ k. IsWell k qs W) e w)) refl

then_agrees : (t : ReadTurn) (r : Result Reading Expected) (l : TomlLexeme) (qs : List SpacedToml) → Agrees l t r → IsWell l qs (AreWell qs)
    → ((n : Now) → ReadyFor n qs → AreWell qs → SameFrom n qs)
    → is_some (then_statements t (λ n. read_from n (map typed_spaced qs))) ≡ is_ok (then_lexemes r (λ x. reading_after x qs))
then_agrees (more m) (Ok r) l qs h w f = on_agrees l qs m r h w f
then_agrees (says s m) (Ok r) l qs h w f = some_said s (read_from m (map typed_spaced qs)) ∙ on_agrees l qs m r h w f
then_agrees ends (Ok r) l qs h w f = end_same l qs (AreWell qs) r h w
then_agrees (says_last s) (Ok r) l qs h w f = end_same l qs (AreWell qs) r h w
then_agrees refuses (Ok r) l qs h w f = absurd h
then_agrees (more m) (Err e) l qs h w f = absurd h
then_agrees (says s m) (Err e) l qs h w f = absurd h
then_agrees ends (Err e) l qs h w f = absurd h
then_agrees (says_last s) (Err e) l qs h w f = absurd h
then_agrees refuses (Err e) l qs h w f = refl

same_from : (qs : List SpacedToml) (n : Now) → ReadyFor n qs → AreWell qs → SameFrom n qs
same_from [] n h w = absurd w
same_from (q ∷ qs) n h w =
    then_agrees (read_turn n (typed_spaced q)) (lexeme_step (reading_of n) q) (typed q.lexeme) qs (step_agrees n q h) w (same_from qs)

-- ---- texts

-- a blank is no line feed
no_feed : (x : ℕ) → byte.is_blank x ≡ true → (x == 10) ≡ true → ⊥
no_feed x gap e = true≢false (sym gap ∙ ap byte.is_blank (eqb-true x 10 e))

-- a line feed comes first after a gap, where a line end begins there
feed_after : (g : List ℕ) (y : ℕ) (ys : List ℕ) → IsTomlGap g → begins_line_feed (g ++ (y ∷ ys)) ≡ true → (y == 10) ≡ true
feed_after [] y ys gap h = h
feed_after (z ∷ g) y ys gap h = absurd (no_feed z gap.0 h)

feed_after_gap : (g : List ℕ) (y : ℕ) (ys : List ℕ) → IsTomlGap g → byte.is_blank y ≡ false → begins_line_end (g ++ (y ∷ ys)) ≡ true
    → (y == 10) ≡ true
feed_after_gap [] y ys gap b h =
    elim (or_cases (y == 10) ((y == 13) && begins_line_feed ys) h) [
      | inl e ↦ e
      | inr e ↦ absurd (true≢false (sym (ap byte.is_blank (eqb-true y 13 (and_parts (y == 13) (begins_line_feed ys) e).0)) ∙ b))
    ]
feed_after_gap (x ∷ g) y ys gap b h =
    elim (or_cases (x == 10) ((x == 13) && begins_line_feed (g ++ (y ∷ ys))) h) [
      | inl e ↦ absurd (no_feed x gap.0 e)
      | inr e ↦ feed_after g y ys gap.1 (and_parts (x == 13) (begins_line_feed (g ++ (y ∷ ys))) e).1
    ]

-- what comes after a comment of a text
line_next : (s rest : List ℕ) (ss : List (List ℕ)) (bytes : List ℕ) → cut_toml between s ≡ s ∷ [] → head s ≡ 35 → MayFollow s rest
    → IsWellSpaced rest ss → All (λ s. toml_lexemes_of s ≡ s ∷ []) ss → LineNext (toml_spaced_as bytes ss)
line_next s rest [] bytes a e f h each = tt
line_next s rest ([] ∷ ss) bytes a e f h each = absurd (no_lexeme (All-head (λ s. toml_lexemes_of s ≡ s ∷ []) [] ss each))
line_next s rest ((y ∷ ys) ∷ ss) bytes a e f (g, after, gap, is, follows, later) each =
    let alone = All-head (λ s. toml_lexemes_of s ≡ s ∷ []) (y ∷ ys) ss each in
    let begins : begins_line_end (g ++ (y ∷ (ys ++ after)))
    ≡ true = starts s (g ++ (y ∷ (ys ++ after))) (some g y (ys ++ after)) a e (subst (MayFollow s) is f) in
    let feed = feed_after_gap g y (ys ++ after) gap (no_blank y ys alone) begins in
    subst (λ x. IsLineOrEnd (typed (x ∷ ys))) (sym (eqb-true y 10 feed)) tt
  where
    some : (g : List ℕ) (y : ℕ) (r : List ℕ) → (x : ℕ) × (xs : List ℕ) × (g ++ (y ∷ r) ≡ x ∷ xs)
    some [] y r = (y, r, refl)
    some (x ∷ g) y r = (x, g ++ (y ∷ r), refl)

    starts : (s r : List ℕ) → (x : ℕ) × (xs : List ℕ) × (r ≡ x ∷ xs) → cut_toml between s ≡ s ∷ [] → head s ≡ 35 → MayFollow s r
        → begins_line_end r ≡ true
    starts s r (x, xs, is) a e f =
        subst (λ t. begins_line_end t ≡ true) (sym is) ((comments_are_ended s x xs a e).0 (subst (MayFollow s) is f)).0

well_by : (l : TomlLexeme) (x : ℕ) (s : List ℕ) (qs : List SpacedToml) (W : Type 0) → typed (x ∷ s) ≡ l → (head (x ∷ s) ≡ 35 → LineNext qs)
    → W
    → IsWell l qs W
well_by text_end x s qs W e f w =
    absurd (subst (IsSorted (x == 35)) e
    (sorted_by (x == 91) (x == 93) (x == 123) (x == 125) (x == 44) (x == 61) (x == 10) (x == 35) (byte.is_quote x) (x ∷ s)))
well_by (comment t) x s qs W e f w = (
  f (eqb-true x 35 (subst (IsSorted (x == 35)) e
      (sorted_by (x == 91) (x == 93) (x == 123) (x == 125) (x == 44) (x == 61) (x == 10) (x == 35) (byte.is_quote x) (x ∷ s)))),
  w,
)
well_by open_array x s qs W e f w = w
well_by close_array x s qs W e f w = w
well_by open_table x s qs W e f w = w
well_by close_table x s qs W e f w = w
well_by comma x s qs W e f w = w
well_by equals x s qs W e f w = w
well_by line_end x s qs W e f w = w
well_by (string t) x s qs W e f w = w
well_by (word t) x s qs W e f w = w

are_well : (ss : List (List ℕ)) (bytes rest : List ℕ) → IsWellSpaced rest ss → All (λ s. toml_lexemes_of s ≡ s ∷ []) ss
    → AreWell (toml_spaced_as bytes ss)
are_well [] bytes rest h each = refl
are_well ([] ∷ ss) bytes rest h each = absurd (no_lexeme (All-head (λ s. toml_lexemes_of s ≡ s ∷ []) [] ss each))
are_well ((x ∷ s) ∷ ss) bytes rest (g, after, gap, is, follows, later) each =
    let others = All-tail (λ s. toml_lexemes_of s ≡ s ∷ []) (x ∷ s) ss each in
    let left = drop (length (blanks bytes) + length (x ∷ s)) bytes in
    well_by (typed (x ∷ s)) x s (toml_spaced_as left ss) (AreWell (toml_spaced_as left ss)) refl
    (λ e. line_next (x ∷ s) after ss left (All-head (λ s. toml_lexemes_of s ≡ s ∷ []) (x ∷ s) ss each) e follows later others)
    (are_well ss left after later others)

ready_first : (qs : List SpacedToml) → AreWell qs → ReadyFor (at_line 0) qs
ready_first [] h = absurd h
ready_first (q ∷ qs) h = tt

pub parsed_are_toml : ParsedAreToml
unfolding is_toml
parsed_are_toml text =
    let well = are_well (toml_lexemes_of text) text text (IsWellSpaced-lexemes text) (lexemes_alone text) in
    same_from (toml_spaced_lexemes text) (at_line 0) (ready_first (toml_spaced_lexemes text) well) well
