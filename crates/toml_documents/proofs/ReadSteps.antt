-- How the lexemes of a layout are read, a text and a gap at a time.
use Rattle.std.proofs.Common.{◌≡◌, refl, sym, ◌∙◌, ap, subst, ℕ, Bool, true, false, cond, ◌&&◌, List, [], ◌∷◌, ◌++◌, inl, inr}
use Rattle.std.specs.Prelude.{◌⊎◌}
use Rattle.toml_lexemes.specs.Bytes as byte
use Rattle.toml_lexemes.specs.Bytes.{dot, head}
use Rattle.toml_grammar.specs.Sorts as sort
use Rattle.toml_grammar.specs.Sorts.{Sort, sort_of}
use Rattle.prettyless_model.specs.declared.mode.Mode.{Mode}
use Rattle.prettyless_model.specs.declared.mode.Mode.TheVariants.{Break, Flat}
use Rattle.toml_documents.specs.Documents.{Level, Draft, End, RowEntry, document_from, draft_with, new_level, new_statement}
use Rattle.toml_documents.specs.Gaps.{gap_after_comma, gap_before_comma, gap_before_comment, gap_before_first_comment, gap_before_part}
use Rattle.toml_documents.specs.Gaps.{gap_on_line, is_last_comment, line_break, stays, may_hold}
use Rattle.toml_documents.proofs.GapFlags.{breaks_before, leaves_blank}
use Rattle.toml_documents.specs.Numbers.{is_among_numbers, only_number_words}
use Rattle.toml_documents.proofs.ReadTexts.{lexeme_then, lexemes_then}
use Rattle.prettyless_laws.specs.Bits.{Bit, end_of_line, text_of, word_bits}
use Rattle.toml_documents.specs.declared.gaps.Gap.{Gap}
use Rattle.toml_documents.specs.declared.gaps.Gap.TheVariants as gap
use Rattle.toml_documents.specs.declared.kind.Kind.{Kind}
use Rattle.toml_documents.specs.declared.kind.Kind.TheVariants.{Statement, Header, Table, Array, Numbers}
use Rattle.toml_documents.specs.declared.kind.Last.{Last}
use Rattle.toml_documents.specs.declared.kind.Last.TheVariants.{Start, Close, Equals, Word, Dot, String, Comma, Comment}
use Rattle.toml_documents.specs.declared.style.Style.{Style}
use Rattle.toml_documents.proofs.GapsAgain.{comment_again}
use Rattle.toml_documents.proofs.TreesAgain.{gap_bits, line_bits}
use Rattle.prettyless_laws.proofs.Again.{first_mode}

-- ---- what is between two texts

-- what is between two texts of a layout: nothing, a space, a line end or two
pub data Seam : Type 0 where
  nothing : Seam
  spaced : Seam
  ended : Seam
  doubled : Seam

abbrev pub seam_bits : Seam → List Bit
seam_bits nothing = []
seam_bits spaced = text_of (byte.blank_space ∷ []) ∷ []
seam_bits ended = end_of_line ∷ []
seam_bits doubled = end_of_line ∷ end_of_line ∷ []

-- what a gap is spelled as
abbrev pub IsSeam : Gap → Mode → Seam → Type 0
IsSeam gap.Nothing m s = s ≡ nothing
IsSeam gap.Space m s = s ≡ spaced
IsSeam gap.Beside m s = s ≡ spaced
IsSeam gap.Edge Break s = s ≡ ended
IsSeam gap.Edge Flat s = s ≡ nothing
IsSeam gap.Line Break s = s ≡ ended
IsSeam gap.Line Flat s = s ≡ spaced
IsSeam gap.Fill Break s = (s ≡ ended) ⊎ (s ≡ spaced)
IsSeam gap.Fill Flat s = s ≡ spaced
IsSeam gap.BlankLine Break s = s ≡ doubled
IsSeam gap.BlankLine Flat s = s ≡ spaced
IsSeam gap.Break m s = s ≡ ended
IsSeam gap.BlankBreak m s = s ≡ doubled

-- how a line that may be flat is spelled
abbrev pub line_seam : Mode → Seam
line_seam Break = ended
line_seam Flat = spaced

-- what a gap is spelled as, where its group is laid in the first of these modes
abbrev pub seam_of : Gap → Mode → List Mode → Seam
seam_of gap.Nothing m ms = nothing
seam_of gap.Space m ms = spaced
seam_of gap.Beside m ms = spaced
seam_of gap.Edge Break ms = ended
seam_of gap.Edge Flat ms = nothing
seam_of gap.Line m ms = line_seam m
seam_of gap.Fill Break ms = line_seam (first_mode ms)
seam_of gap.Fill Flat ms = spaced
seam_of gap.BlankLine Break ms = doubled
seam_of gap.BlankLine Flat ms = spaced
seam_of gap.Break m ms = ended
seam_of gap.BlankBreak m ms = doubled

line_seam_bits : (m : Mode) → line_bits m ≡ seam_bits (line_seam m)
line_seam_bits Break = refl
line_seam_bits Flat = refl

pub gap_seam : (g : Gap) (m : Mode) (ms : List Mode) → gap_bits g m ms ≡ seam_bits (seam_of g m ms)
gap_seam gap.Nothing m ms = refl
gap_seam gap.Space m ms = refl
gap_seam gap.Beside m ms = refl
gap_seam gap.Edge Break ms = refl
gap_seam gap.Edge Flat ms = refl
gap_seam gap.Line m ms = line_seam_bits m
gap_seam gap.Fill Break ms = line_seam_bits (first_mode ms)
gap_seam gap.Fill Flat ms = refl
gap_seam gap.BlankLine Break ms = refl
gap_seam gap.BlankLine Flat ms = refl
gap_seam gap.Break m ms = refl
gap_seam gap.BlankBreak m ms = refl

line_is_seam : (m : Mode) → (line_seam m ≡ ended) ⊎ (line_seam m ≡ spaced)
line_is_seam Break = inl refl
line_is_seam Flat = inr refl

pub is_seam : (g : Gap) (m : Mode) (ms : List Mode) → IsSeam g m (seam_of g m ms)
is_seam gap.Nothing m ms = refl
is_seam gap.Space m ms = refl
is_seam gap.Beside m ms = refl
is_seam gap.Edge Break ms = refl
is_seam gap.Edge Flat ms = refl
is_seam gap.Line Break ms = refl
is_seam gap.Line Flat ms = refl
is_seam gap.Fill Break ms = line_is_seam (first_mode ms)
is_seam gap.Fill Flat ms = refl
is_seam gap.BlankLine Break ms = refl
is_seam gap.BlankLine Flat ms = refl
is_seam gap.Break m ms = refl
is_seam gap.BlankBreak m ms = refl

-- ---- lexemes

pub read_both : (xs ys : List Bit) (ss : List (List ℕ)) → lexemes_then (xs ++ ys) ss ≡ lexemes_then xs (lexemes_then ys ss)
read_both [] ys ss = refl
read_both (text_of s ∷ xs) ys ss = ap (lexeme_then s) (read_both xs ys ss)
read_both (end_of_line ∷ xs) ys ss = ap (λ (l : List (List ℕ)). (byte.line_feed ∷ []) ∷ l) (read_both xs ys ss)

-- this text is a lexeme
abbrev pub IsLexeme : List ℕ → Type 0
IsLexeme s = (ss : List (List ℕ)) → lexeme_then s ss ≡ s ∷ ss

pub read_text : (s : List ℕ) → IsLexeme s → (ss : List (List ℕ)) → lexemes_then (word_bits s) ss ≡ s ∷ ss
read_text [] h ss = h ss
read_text (x ∷ s) h ss = h ss

-- where these levels are open, these texts and line ends lead to those
abbrev pub Leads : Style → List Level → List Bit → List Level → Type 0
Leads style old bits new =
    (d : Draft) (rest : List (List ℕ))
    → document_from style (record d { levels = old }) (lexemes_then bits rest) ≡ document_from style (record d { levels = new }) rest

module _ (style : Style) where
  pub leads_none : (old : List Level) → Leads style old [] old
  leads_none old d rest = refl

  pub leads_both : (old middle new : List Level) (xs ys : List Bit) → Leads style old xs middle → Leads style middle ys new
      → Leads style old (xs ++ ys) new
  leads_both old middle new xs ys h k d rest =
      ap (document_from style (record d { levels = old })) (read_both xs ys rest) ∙ h d (lexemes_then ys rest) ∙ k d rest

  pub from_lexeme : (k : Sort) (d : Draft) (s : List ℕ) (rest : List (List ℕ)) → sort_of s ≡ k
      → document_from style d (s ∷ rest) ≡ document_from style (draft_with style k d s rest) rest
  unfolding document_from
  from_lexeme k d s rest e = ap (λ (j : Sort). document_from style (draft_with style j d s rest) rest) e

  -- the same of the text of a lexeme
  pub from_text : (k : Sort) (d : Draft) (s : List ℕ) (rest : List (List ℕ)) → IsLexeme s → sort_of s ≡ k
      → document_from style d (lexemes_then (word_bits s) rest) ≡ document_from style (draft_with style k d s rest) rest
  from_text k d s rest h e = ap (document_from style d) (read_text s h rest) ∙ from_lexeme k d s rest e

-- ---- arrays of numbers

-- in front of others, they are numbers or not
abbrev pub Counts : Bool → List Bit → Type 0
Counts number bits = (rest : List (List ℕ)) → only_number_words (lexemes_then bits rest) ≡ number && only_number_words rest

and_assoc : (a b c : Bool) → a && (b && c) ≡ (a && b) && c
and_assoc true b c = refl
and_assoc false b c = refl

pub counts_both : (a b : Bool) (xs ys : List Bit) → Counts a xs → Counts b ys → Counts (a && b) (xs ++ ys)
counts_both a b xs ys h k rest =
    ap only_number_words (read_both xs ys rest) ∙ h (lexemes_then ys rest) ∙ ap (λ (c : Bool). a && c) (k rest)
    ∙ and_assoc a b (only_number_words rest)

pub counts_seam : (s : Seam) → Counts true (seam_bits s)
counts_seam nothing rest = refl
counts_seam spaced rest = refl
counts_seam ended rest = refl
counts_seam doubled rest = refl

pub counts_text : (k : Sort) (s : List ℕ) → IsLexeme s → sort_of s ≡ k → (rest : List (List ℕ))
    → only_number_words (lexemes_then (word_bits s) rest) ≡ is_among_numbers k s (only_number_words rest)
counts_text k s h e rest =
    ap only_number_words (read_text s h rest) ∙ ap (λ (j : Sort). is_among_numbers j s (only_number_words rest)) e

-- ---- places

-- where a row of entries stands: in brackets, or it is a statement, of which nothing was read or something
pub data Place : Type 0 where
  inside : Place
  on_line : Place
  fresh : Place

-- with something in it
abbrev pub begun : Place → Place
begun inside = inside
begun on_line = on_line
begun fresh = on_line

abbrev pub is_first : Place → Bool
is_first inside = false
is_first on_line = false
is_first fresh = true

abbrev pub IsAround : Place → List Level → Type 0
IsAround inside [] = ⊥
IsAround inside (lv ∷ lvs) = Unit {0}
IsAround on_line lvs = lvs ≡ []
IsAround fresh lvs = lvs ≡ []

-- the levels where nothing was read
abbrev pub started : Place → Kind → List ℕ → List Level → List Level
started inside kind opening lvs = new_level kind opening ∷ lvs
started on_line kind opening lvs = []
started fresh kind opening lvs = []

-- a level in others, unless it is that of a statement of which nothing was read
abbrev pub stacked : Bool → Level → List Level → List Level
stacked true lv lvs = []
stacked false lv lvs = lv ∷ lvs

abbrev pub IsFirst : Bool → Level → List Level → Type 0
IsFirst true lv lvs = (lv ≡ new_statement) × (lvs ≡ [])
IsFirst false lv lvs = Unit {0}

-- a level with these entries, after its last lexeme
abbrev pub level_of : Kind → List ℕ → End → RowEntry → Level
level_of kind opening before entry =
    record { kind = kind; opening = opening; before = before; entry = entry; broken = false; blank = false }

-- ---- gaps

abbrev pub broken_after : Seam → Bool
broken_after nothing = false
broken_after spaced = false
broken_after ended = true
broken_after doubled = true

abbrev pub blank_after : Seam → Bool
blank_after nothing = false
blank_after spaced = false
blank_after ended = false
blank_after doubled = true

-- after a gap
abbrev pub parted : Seam → Level → Level
parted s lv = record lv { broken = broken_after s; blank = blank_after s }

-- no line ends outside of brackets
abbrev pub StaysIn : Place → Seam → Type 0
StaysIn inside s = Unit {0}
StaysIn on_line s = broken_after s ≡ false
StaysIn fresh s = broken_after s ≡ false

module _ (style : Style) (kind : Kind) (opening : List ℕ) (before : End) (entry : RowEntry) where
  abbrev pub lv : Level
  lv = level_of kind opening before entry

  leads_inside : (s : Seam) (outer : Level) (lvs : List Level)
      → Leads style (lv ∷ outer ∷ lvs) (seam_bits s) (parted s lv ∷ outer ∷ lvs)
  unfolding document_from
  leads_inside nothing outer lvs d rest = refl
  leads_inside spaced outer lvs d rest = refl
  leads_inside ended outer lvs d rest = refl
  leads_inside doubled outer lvs d rest = refl

  leads_outside : (first : Bool) (s : Seam) (lvs : List Level) → broken_after s ≡ false
      → Leads style (stacked first lv lvs) (seam_bits s) (stacked first (parted s lv) lvs)
  leads_outside true nothing lvs h d rest = refl
  leads_outside true spaced lvs h d rest = refl
  leads_outside false nothing lvs h d rest = refl
  leads_outside false spaced lvs h d rest = refl
  leads_outside first ended lvs h d rest = absurd (cc)
  leads_outside first doubled lvs h d rest = absurd (cc)

  pub leads_seam : (place : Place) (s : Seam) (lvs : List Level) → IsAround place lvs → StaysIn place s
      → Leads style (stacked (is_first place) lv lvs) (seam_bits s) (stacked (is_first place) (parted s lv) lvs)
  leads_seam inside s [] around h = absurd around
  leads_seam inside s (outer ∷ lvs) around h = leads_inside s outer lvs
  leads_seam on_line s lvs around h = leads_outside false s lvs h
  leads_seam fresh s lvs around h = leads_outside true s lvs h

-- ---- gaps that are read again

still : (g : Gap) (m : Mode) (s : Seam) → stays g ≡ true → IsSeam g m s → broken_after s ≡ false
still gap.Nothing m s h e = ap broken_after e
still gap.Space m s h e = ap broken_after e
still gap.Beside m s h e = ap broken_after e
still gap.Edge m s h e = absurd (cc)
still gap.Line m s h e = absurd (cc)
still gap.Fill m s h e = absurd (cc)
still gap.BlankLine m s h e = absurd (cc)
still gap.Break m s h e = absurd (cc)
still gap.BlankBreak m s h e = absurd (cc)

on_line_stays : (l : Last) (k : Sort) (dotted : Bool) → stays (gap_on_line l k dotted) ≡ true
on_line_stays Equals k dotted = refl
on_line_stays l sort.equals dotted = refl
on_line_stays Word sort.word true = refl
on_line_stays Word sort.word false = refl
on_line_stays String sort.string dotted = refl
on_line_stays l k dotted = refl

statement_stays : (l : Last) (k : Sort) (dotted blank : Bool) → is_last_comment l ≡ false
    → stays (gap_before_part Statement l k dotted blank) ≡ true
statement_stays Start k dotted blank h = refl
statement_stays Comma k dotted blank h = refl
statement_stays Comment k dotted blank h = absurd (cc)
statement_stays Close k dotted blank h = on_line_stays Close k dotted
statement_stays Equals k dotted blank h = on_line_stays Equals k dotted
statement_stays Word k dotted blank h = on_line_stays Word k dotted
statement_stays Dot k dotted blank h = on_line_stays Dot k dotted
statement_stays String k dotted blank h = on_line_stays String k dotted

-- outside of brackets no comment is before this
abbrev pub IsCalm : Place → Kind → Last → Type 0
IsCalm inside kind l = Unit {0}
IsCalm on_line kind l = (kind ≡ Statement) × (is_last_comment l ≡ false)
IsCalm fresh kind l = (kind ≡ Statement) × (is_last_comment l ≡ false)

calm_stays : (kind : Kind) (l : Last) (k : Sort) (dotted blank : Bool) → (kind ≡ Statement) × (is_last_comment l ≡ false)
    → stays (gap_before_part kind l k dotted blank) ≡ true
calm_stays kind l k dotted blank (e, h) =
    subst (λ (a : Kind). stays (gap_before_part a l k dotted blank) ≡ true) (sym e) (statement_stays l k dotted blank h)

pub part_stays : (place : Place) (kind : Kind) (l : Last) (k : Sort) (dotted blank : Bool) (m : Mode) (s : Seam)
    → IsCalm place kind l → IsSeam (gap_before_part kind l k dotted blank) m s → StaysIn place s
part_stays inside kind l k dotted blank m s calm e = tt
part_stays on_line kind l k dotted blank m s calm e =
    still (gap_before_part kind l k dotted blank) m s (calm_stays kind l k dotted blank calm) e
part_stays fresh kind l k dotted blank m s calm e =
    still (gap_before_part kind l k dotted blank) m s (calm_stays kind l k dotted blank calm) e

-- a gap with a blank line, where it is flat and the blank line is not read again
pub record Unblanked (g h : Gap) (m : Mode) : Type 0 where
  pub was : g ≡ gap.BlankLine
  pub flat : m ≡ Flat
  pub now : (h ≡ gap.Line) ⊎ (h ≡ gap.Fill)

abbrev pub Regap : Gap → Gap → Mode → Type 0
Regap g h m = (h ≡ g) ⊎ Unblanked g h m

array_regap : (blank : Bool) (m : Mode) (s : Seam) → IsSeam (gap_after_comma Array blank) m s
    → Regap (gap_after_comma Array blank) (gap_after_comma Array (blank_after s)) m
array_regap true Break s e = inl (ap (λ (a : Seam). gap_after_comma Array (blank_after a)) e)
array_regap true Flat s e =
    inr (record { was = refl; flat = refl; now = inl (ap (λ (a : Seam). gap_after_comma Array (blank_after a)) e) })
array_regap false Break s e = inl (ap (λ (a : Seam). gap_after_comma Array (blank_after a)) e)
array_regap false Flat s e = inl (ap (λ (a : Seam). gap_after_comma Array (blank_after a)) e)

numbers_regap : (blank : Bool) (m : Mode) (s : Seam) → IsSeam (gap_after_comma Numbers blank) m s
    → Regap (gap_after_comma Numbers blank) (gap_after_comma Numbers (blank_after s)) m
numbers_regap true Break s e = inl (ap (λ (a : Seam). gap_after_comma Numbers (blank_after a)) e)
numbers_regap true Flat s e =
    inr (record { was = refl; flat = refl; now = inr (ap (λ (a : Seam). gap_after_comma Numbers (blank_after a)) e) })
numbers_regap false Break s (inl e) = inl (ap (λ (a : Seam). gap_after_comma Numbers (blank_after a)) e)
numbers_regap false Break s (inr e) = inl (ap (λ (a : Seam). gap_after_comma Numbers (blank_after a)) e)
numbers_regap false Flat s e = inl (ap (λ (a : Seam). gap_after_comma Numbers (blank_after a)) e)

break_regap : (blank : Bool) (m : Mode) (s : Seam) → IsSeam (line_break blank) m s → line_break (blank_after s) ≡ line_break blank
break_regap true m s e = ap (λ (a : Seam). line_break (blank_after a)) e
break_regap false m s e = ap (λ (a : Seam). line_break (blank_after a)) e

comma_regap : (kind : Kind) (blank : Bool) (m : Mode) (s : Seam) → IsSeam (gap_after_comma kind blank) m s
    → Regap (gap_after_comma kind blank) (gap_after_comma kind (blank_after s)) m
comma_regap Statement blank m s e = inl refl
comma_regap Header blank m s e = inl refl
comma_regap Table blank m s e = inl refl
comma_regap Array blank m s e = array_regap blank m s e
comma_regap Numbers blank m s e = numbers_regap blank m s e

pub part_regap : (kind : Kind) (l : Last) (k : Sort) (dotted blank : Bool) (m : Mode) (s : Seam)
    → IsSeam (gap_before_part kind l k dotted blank) m s
    → Regap (gap_before_part kind l k dotted blank) (gap_before_part kind l k dotted (blank_after s)) m
part_regap kind Start k dotted blank m s e = inl refl
part_regap kind Comma k dotted blank m s e = comma_regap kind blank m s e
part_regap kind Comment k dotted blank m s e = inl (break_regap blank m s e)
part_regap kind Close k dotted blank m s e = inl refl
part_regap kind Equals k dotted blank m s e = inl refl
part_regap kind Word k dotted blank m s e = inl refl
part_regap kind Dot k dotted blank m s e = inl refl
part_regap kind String k dotted blank m s e = inl refl

-- ---- gaps before comments

-- no gap that is a line end only where lines are broken
abbrev IsFirm : Gap → Type 0
IsFirm gap.Nothing = Unit {0}
IsFirm gap.Space = Unit {0}
IsFirm gap.Beside = Unit {0}
IsFirm gap.Edge = ⊥
IsFirm gap.Line = ⊥
IsFirm gap.Fill = ⊥
IsFirm gap.BlankLine = ⊥
IsFirm gap.Break = Unit {0}
IsFirm gap.BlankBreak = Unit {0}

firm_seam : (g : Gap) (m : Mode) (s : Seam) → IsFirm g → IsSeam g m s
    → (broken_after s ≡ breaks_before g) × (blank_after s ≡ leaves_blank g)
firm_seam gap.Nothing m s h e = (ap broken_after e, ap blank_after e)
firm_seam gap.Space m s h e = (ap broken_after e, ap blank_after e)
firm_seam gap.Beside m s h e = (ap broken_after e, ap blank_after e)
firm_seam gap.Edge m s h e = absurd h
firm_seam gap.Line m s h e = absurd h
firm_seam gap.Fill m s h e = absurd h
firm_seam gap.BlankLine m s h e = absurd h
firm_seam gap.Break m s h e = (ap broken_after e, ap blank_after e)
firm_seam gap.BlankBreak m s h e = (ap broken_after e, ap blank_after e)

firm_break : (blank : Bool) → IsFirm (line_break blank)
firm_break true = tt
firm_break false = tt

firm_broken : (broken : Bool) (g : Gap) → IsFirm g → IsFirm (cond broken g gap.Beside)
firm_broken true g h = h
firm_broken false g h = tt

firm_nested : (l : Last) (broken blank : Bool)
    → IsFirm (gap_before_first_comment Array l broken blank)
firm_nested Comment broken blank = firm_break blank
firm_nested Start broken blank = firm_broken broken gap.Break tt
firm_nested Close broken blank = firm_broken broken (line_break blank) (firm_break blank)
firm_nested Equals broken blank = firm_broken broken (line_break blank) (firm_break blank)
firm_nested Word broken blank = firm_broken broken (line_break blank) (firm_break blank)
firm_nested Dot broken blank = firm_broken broken (line_break blank) (firm_break blank)
firm_nested String broken blank = firm_broken broken (line_break blank) (firm_break blank)
firm_nested Comma broken blank = firm_broken broken (line_break blank) (firm_break blank)

firm_statement : (l : Last) (broken blank : Bool) → IsFirm (gap_before_first_comment Statement l broken blank)
firm_statement Comment broken blank = firm_break blank
firm_statement Start broken blank = tt
firm_statement Close broken blank = tt
firm_statement Equals broken blank = tt
firm_statement Word broken blank = tt
firm_statement Dot broken blank = tt
firm_statement String broken blank = tt
firm_statement Comma broken blank = tt

same_nested : (kind : Kind) (l : Last) (broken blank : Bool)
    → (kind ≡ Statement) ⊎ (gap_before_first_comment kind l broken blank ≡ gap_before_first_comment Array l broken blank)
same_nested Statement l broken blank = inl refl
same_nested Header Comment broken blank = inr refl
same_nested Header Start broken blank = inr refl
same_nested Header l broken blank = inr refl
same_nested Table Comment broken blank = inr refl
same_nested Table Start broken blank = inr refl
same_nested Table l broken blank = inr refl
same_nested Array l broken blank = inr refl
same_nested Numbers Comment broken blank = inr refl
same_nested Numbers Start broken blank = inr refl
same_nested Numbers l broken blank = inr refl

firm_of : (kind : Kind) (l : Last) (broken blank : Bool)
    → (kind ≡ Statement) ⊎ (gap_before_first_comment kind l broken blank ≡ gap_before_first_comment Array l broken blank)
    → IsFirm (gap_before_first_comment kind l broken blank)
firm_of kind l broken blank (inl e) =
    subst (λ (a : Kind). IsFirm (gap_before_first_comment a l broken blank)) (sym e) (firm_statement l broken blank)
firm_of kind l broken blank (inr e) = subst IsFirm (sym e) (firm_nested l broken blank)

firm_comment : (kind : Kind) (l : Last) (after broken blank : Bool) → IsFirm (gap_before_comment kind l after broken blank)
firm_comment kind l true broken blank = firm_break blank
firm_comment kind l false broken blank = firm_of kind l broken blank (same_nested kind l broken blank)

pub comment_regap : (kind : Kind) (l : Last) (after broken blank : Bool) (m : Mode) (s : Seam)
    → IsSeam (gap_before_comment kind l after broken blank) m s
    → gap_before_comment kind l after (broken_after s) (blank_after s) ≡ gap_before_comment kind l after broken blank
comment_regap kind l after broken blank m s e =
    let g = gap_before_comment kind l after broken blank in
    let flags = firm_seam g m s (firm_comment kind l after broken blank) e in
    ap (λ (b : Bool). gap_before_comment kind l after b (blank_after s)) flags.0
    ∙ ap (λ (b : Bool). gap_before_comment kind l after (breaks_before g) b) flags.1 ∙ comment_again kind l after broken blank

statement_comment_stays : (l : Last) (broken blank : Bool) → is_last_comment l ≡ false
    → stays (gap_before_comment Statement l false broken blank) ≡ true
statement_comment_stays Comment broken blank h = absurd (cc)
statement_comment_stays Start broken blank h = refl
statement_comment_stays Close broken blank h = refl
statement_comment_stays Equals broken blank h = refl
statement_comment_stays Word broken blank h = refl
statement_comment_stays Dot broken blank h = refl
statement_comment_stays String broken blank h = refl
statement_comment_stays Comma broken blank h = refl

pub comment_stays : (kind : Kind) (l : Last) (broken blank : Bool) (m : Mode) (s : Seam)
    → (kind ≡ Statement) × (is_last_comment l ≡ false) → IsSeam (gap_before_comment kind l false broken blank) m s → broken_after s ≡ false
comment_stays kind l broken blank m s (e, h) is =
    still (gap_before_comment kind l false broken blank) m s
    (subst (λ (a : Kind). stays (gap_before_comment a l false broken blank) ≡ true) (sym e) (statement_comment_stays l broken blank h)) is

-- ---- before commas

pub comma_gap : (l : Last) → may_hold l ≡ false → gap_before_comma l ≡ gap.Nothing
comma_gap Start h = refl
comma_gap Close h = refl
comma_gap Equals h = refl
comma_gap Word h = refl
comma_gap Dot h = refl
comma_gap String h = refl
comma_gap Comma h = absurd (cc)
comma_gap Comment h = absurd (cc)
