-- Gaps that are spelled anew: they are gaps, have as many line feeds, and the first line end says how lines end.
use Rattle.std.proofs.Common.{◌≡◌, ◌⊎◌, inl, inr, refl, sym, ◌∙◌, ap, ℕ, zero, suc, ◌+◌, ◌-◌, ◌/◌, ◌%◌, ◌==◌}
use Rattle.std.proofs.Common.{◌&&◌, ◌||◌, nat_le, Bool, true, false, cond}
use Rattle.std.proofs.Common.{List, [], ◌∷◌, ◌++◌, length, drop, append_assoc, append-nil, zero-add, arith}
use Rattle.std.specs.Prelude.{replicate, ⊤, if◌then◌else◌}
use Rattle.std.proofs.lemmas.Bool.{cases_Bool, eqb-true, or_parts, true≢false}
use Rattle.std.proofs.lemmas.List.{length-replicate}
use Rattle.json.specs.Word.{is_space}
use Rattle.json_lexemes.specs.Spaced.{IsGap}
use Rattle.json_lexemes.specs.SpacedLexemes.{AreGaps, Spaced, after_gap, has_blank_line, lexemes_of, line_feeds, put_together}
use Rattle.json_lexemes.proofs.Inline.{IsInline}
use Rattle.json_lexemes.proofs.LineEnds.{AreInline}
use Rattle.prettyless_model.specs.Spaces.{spaces}
use Rattle.json_formatter.specs.BlankLines.{ends_line, first_gap, kept_from, kept_gap}
use Rattle.json_formatter.specs.ByValue.{new_line}
use Rattle.json_formatter.specs.Documents.{is_json_sign}
use Rattle.json_formatter.specs.Gaps.{gap_bytes}
use Rattle.json_formatter.specs.Spelling.{begins_crlf, columns_spelled, ends_in_crlf, line_end_bytes, line_ends, respelled, respelled_all}
use Rattle.json_formatter.specs.Spelling.{tabs}
use Rattle.json_formatter.specs.declared.gaps.Gap.{Gap}
use Rattle.json_formatter.specs.declared.gaps.Gap.TheVariants as gap
use Rattle.json_formatter.specs.declared.spelling.Spelling.{Spelling}
use Rattle.json_formatter.specs.declared.style.LineEnd.{LineEnd}
use Rattle.json_formatter.specs.declared.style.LineEnd.TheVariants as line_end

-- ---- line feeds

feeds_both : (xs ys : List ℕ) → line_feeds (xs ++ ys) ≡ line_feeds xs + line_feeds ys
feeds_both [] ys = sym (zero-add (line_feeds ys))
feeds_both (x ∷ xs) ys = by (x == 10) (feeds_both xs ys)
  where
    by : (b : Bool) → line_feeds (xs ++ ys) ≡ line_feeds xs + line_feeds ys
        → cond b (1 + line_feeds (xs ++ ys)) (line_feeds (xs ++ ys)) ≡ cond b (1 + line_feeds xs) (line_feeds xs) + line_feeds ys
    by true later = omega (arith, later)
    by false later = later

feeds_end : (crlf : Bool) → line_feeds (line_end_bytes crlf) ≡ 1
feeds_end true = refl
feeds_end false = refl

feeds_ends : (crlf : Bool) (n : ℕ) → line_feeds (line_ends crlf n) ≡ n
feeds_ends crlf zero = refl
feeds_ends crlf (suc n) = omega (arith, feeds_both (line_end_bytes crlf) (line_ends crlf n), feeds_end crlf, feeds_ends crlf n)

no_feeds : (x : ℕ) → (x == 10) ≡ false → (n : ℕ) → line_feeds (replicate n x) ≡ 0
no_feeds x e zero = refl
no_feeds x e (suc n) = rw e (no_feeds x e n)

feeds_indent : (tab n : ℕ) → line_feeds (columns_spelled tab n) ≡ 0
feeds_indent tab n = by (tab == 0)
  where
    by : (b : Bool) → line_feeds (if b then spaces n else tabs (n / tab) ++ spaces (n % tab)) ≡ 0
    by true = no_feeds 32 refl n
    by false =
        omega (arith, feeds_both (tabs (n / tab)) (spaces (n % tab)), no_feeds 9 refl (n / tab), no_feeds 32 refl (n % tab))

pub feeds_respelled : (sp : Spelling) (g : List ℕ) → line_feeds (respelled sp g) ≡ line_feeds g
feeds_respelled sp g = by (line_feeds g == 0)
  where
    by : (b : Bool)
        → line_feeds (if b then g else line_ends sp.crlf (line_feeds g) ++ columns_spelled sp.tab (length g - line_feeds g)) ≡ line_feeds g
    by true = refl
    by false =
        omega (
          arith,
          feeds_both (line_ends sp.crlf (line_feeds g)) (columns_spelled sp.tab (length g - line_feeds g)),
          feeds_ends sp.crlf (line_feeds g),
          feeds_indent sp.tab (length g - line_feeds g),
        )

-- ---- gaps

gap_both : (xs ys : List ℕ) → IsGap xs → IsGap ys → IsGap (xs ++ ys)
gap_both [] ys h k = k
gap_both (x ∷ xs) ys h k = (h.0, gap_both xs ys h.1 k)

pub end_gap : (crlf : Bool) → IsGap (line_end_bytes crlf)
end_gap true = (refl, (refl, tt))
end_gap false = (refl, tt)

ends_gap : (crlf : Bool) (n : ℕ) → IsGap (line_ends crlf n)
ends_gap crlf zero = tt
ends_gap crlf (suc n) = gap_both (line_end_bytes crlf) (line_ends crlf n) (end_gap crlf) (ends_gap crlf n)

run_gap : (x : ℕ) → is_space x ≡ true → (n : ℕ) → IsGap (replicate n x)
run_gap x e zero = tt
run_gap x e (suc n) = (e, run_gap x e n)

indent_gap : (tab n : ℕ) → IsGap (columns_spelled tab n)
indent_gap tab n = by (tab == 0)
  where
    by : (b : Bool) → IsGap (if b then spaces n else tabs (n / tab) ++ spaces (n % tab))
    by true = run_gap 32 refl n
    by false = gap_both (tabs (n / tab)) (spaces (n % tab)) (run_gap 9 refl (n / tab)) (run_gap 32 refl (n % tab))

respelled_gap : (sp : Spelling) (g : List ℕ) → IsGap g → IsGap (respelled sp g)
respelled_gap sp g h = by (line_feeds g == 0)
  where
    by : (b : Bool) → IsGap (if b then g else line_ends sp.crlf (line_feeds g) ++ columns_spelled sp.tab (length g - line_feeds g))
    by true = h
    by false =
        gap_both (line_ends sp.crlf (line_feeds g)) (columns_spelled sp.tab (length g - line_feeds g)) (ends_gap sp.crlf (line_feeds g))
        (indent_gap sp.tab (length g - line_feeds g))

-- ---- gaps of the code

-- so many line ends and an indent
ends_respelled : (sp : Spelling) (g : List ℕ) (n k : ℕ) → line_feeds g ≡ n → (n == 0) ≡ false → length g - n ≡ k
    → respelled sp g ≡ line_ends sp.crlf n ++ columns_spelled sp.tab k
ends_respelled sp g n k f some left =
    (λ i. if f i == 0 then g else line_ends sp.crlf (f i) ++ columns_spelled sp.tab (length g - f i))
    ∙ (λ i. if some i then g else line_ends sp.crlf n ++ columns_spelled sp.tab (left i))

pub line_respelled : (sp : Spelling) (i : ℕ) → respelled sp (new_line i) ≡ line_end_bytes sp.crlf ++ columns_spelled sp.tab i
line_respelled sp i =
    let count : length (spaces i) ≡ i = length-replicate {A = ℕ} i 32 in
    ends_respelled sp (new_line i) 1 i (ap (λ (n : ℕ). 1 + n) (no_feeds 32 refl i)) refl (omega (arith, count))
    ∙ ap (λ (l : List ℕ). l ++ columns_spelled sp.tab i) (append-nil (line_end_bytes sp.crlf))

pub blank_line_respelled : (sp : Spelling) (i : ℕ)
    → respelled sp (10 ∷ new_line i) ≡ (line_end_bytes sp.crlf ++ line_end_bytes sp.crlf) ++ columns_spelled sp.tab i
blank_line_respelled sp i =
    let count : length (spaces i) ≡ i = length-replicate {A = ℕ} i 32 in
    let end = line_end_bytes sp.crlf in
    ends_respelled sp (10 ∷ new_line i) 2 i (ap (λ (n : ℕ). 1 + (1 + n)) (no_feeds 32 refl i)) refl (omega (arith, count))
    ∙ ap (λ (l : List ℕ). (end ++ l) ++ columns_spelled sp.tab i) (append-nil end)

-- with line feeds and spaces alone they stay
pub plain_stays : (sp : Spelling) (g : Gap) → sp.crlf ≡ false → sp.tab ≡ 0 → respelled sp (gap_bytes g) ≡ gap_bytes g
plain_stays sp gap.Nothing crlf tab = refl
plain_stays sp gap.Space crlf tab = refl
plain_stays sp (gap.Line i) crlf tab = line_respelled sp i ∙ (λ j. line_end_bytes (crlf j) ++ columns_spelled (tab j) i)
plain_stays sp (gap.BlankLine i) crlf tab =
    blank_line_respelled sp i ∙ (λ j. (line_end_bytes (crlf j) ++ line_end_bytes (crlf j)) ++ columns_spelled (tab j) i)

-- ---- lexemes

pub respelled_gaps : (sp : Spelling) (ps : List Spaced) → AreGaps ps → AreGaps (respelled_all sp ps)
respelled_gaps sp [] h = tt
respelled_gaps sp (p ∷ ps) h = (respelled_gap sp p.gap h.0, respelled_gaps sp ps h.1)

pub respelled_are : (sp : Spelling) (ps : List Spaced) → lexemes_of (respelled_all sp ps) ≡ lexemes_of ps
respelled_are sp [] = refl
respelled_are sp (p ∷ ps) = ap (λ (l : List (List ℕ)). p.lexeme ∷ l) (respelled_are sp ps)

-- they keep the same blank lines
pub respelled_kept : (sp : Spelling) (c : Bool) (sources ps : List Spaced)
    → kept_from c (respelled_all sp sources) ps ≡ kept_from c sources ps
respelled_kept sp c sources [] = refl
respelled_kept sp c [] (p ∷ ps) = refl
respelled_kept sp c (q ∷ qs) (p ∷ ps) =
    let feeds = feeds_respelled sp q.gap in
    let later = respelled_kept sp (is_json_sign 44 p.lexeme) qs ps in
    λ i.
    after_gap (if c && (ends_line p.gap && nat_le 2 (feeds i)) then 10 ∷ p.gap else p.gap) p.lexeme ∷ later i

-- ---- the first line end

-- no byte of these is a CR
abbrev pub HasNoReturn : List ℕ → Type 0
HasNoReturn [] = ⊤
HasNoReturn (x ∷ xs) = ((x == 13) ≡ false) × HasNoReturn xs

abbrev pub HaveNoReturns : List Spaced → Type 0
HaveNoReturns [] = ⊤
HaveNoReturns (p ∷ ps) = HasNoReturn p.gap × HaveNoReturns ps

run_no_return : (n : ℕ) → HasNoReturn (spaces n)
run_no_return zero = tt
run_no_return (suc n) = (refl, run_no_return n)

pub gap_no_return : (g : Gap) → HasNoReturn (gap_bytes g)
gap_no_return gap.Nothing = tt
gap_no_return gap.Space = (refl, tt)
gap_no_return (gap.Line i) = (refl, run_no_return i)
gap_no_return (gap.BlankLine i) = (refl, (refl, run_no_return i))

kept_no_return : (c : Bool) (source g : List ℕ) → HasNoReturn g → HasNoReturn (kept_gap c source g)
kept_no_return c source g h = by (c && (ends_line g && has_blank_line source))
  where
    by : (b : Bool) → HasNoReturn (if b then 10 ∷ g else g)
    by false = h
    by true = (refl, h)

pub kept_no_returns : (c : Bool) (sources ps : List Spaced) → HaveNoReturns ps → HaveNoReturns (kept_from c sources ps)
kept_no_returns c sources [] h = tt
kept_no_returns c sources (p ∷ ps) h =
    (kept_no_return c (first_gap sources) p.gap h.0, kept_no_returns (is_json_sign 44 p.lexeme) (drop 1 sources) ps h.1)

-- a gap that ends no line
inline_gap : (g : List ℕ) → HasNoReturn g → line_feeds g ≡ 0 → IsInline g
inline_gap [] h none = tt
inline_gap (x ∷ xs) h none = by (cases_Bool (x == 10)) (inline_gap xs h.1)
  where
    by : ((x == 10) ≡ true) ⊎ ((x == 10) ≡ false) → (line_feeds xs ≡ 0 → IsInline xs) → IsInline (x ∷ xs)
    by (inl e) later = let some : 1 + line_feeds xs ≡ 0 = rw e at none in absurd (omega arith)
    by (inr e) later = let left : line_feeds xs ≡ 0 = rw e at none in (λ i. e i || h.0 i, later left)

-- bytes without a line end are passed over
skips : (xs rest : List ℕ) → IsInline xs → begins_crlf false (xs ++ rest) ≡ begins_crlf false rest
skips [] rest h = refl
skips (x ∷ xs) rest h =
    let p = or_parts (x == 10) (x == 13) h.0 in
    (λ i. if p.0 i then false else begins_crlf (p.1 i) (xs ++ rest)) ∙ skips xs rest h.1

at_end : (crlf : Bool) (rest : List ℕ) → begins_crlf false (line_end_bytes crlf ++ rest) ≡ crlf
at_end true rest = refl
at_end false rest = refl

last_end : (crlf : Bool) → begins_crlf false (line_end_bytes crlf) ≡ crlf
last_end true = refl
last_end false = refl

-- line ends before other bytes
at_ends : (crlf : Bool) (n : ℕ) (rest : List ℕ) → (n == 0) ≡ false → begins_crlf false (line_ends crlf n ++ rest) ≡ crlf
at_ends crlf zero rest some = absurd (true≢false some)
at_ends crlf (suc n) rest some =
    ap (begins_crlf false) (append_assoc (line_end_bytes crlf) (line_ends crlf n) rest) ∙ at_end crlf (line_ends crlf n ++ rest)

at_gap : (sp : Spelling) (g rest : List ℕ) → HasNoReturn g → begins_crlf false rest ≡ sp.crlf
    → begins_crlf false (respelled sp g ++ rest) ≡ sp.crlf
at_gap sp g rest h it = by (cases_Bool (line_feeds g == 0))
  where
    by : ((line_feeds g == 0) ≡ true) ⊎ ((line_feeds g == 0) ≡ false) → begins_crlf false (respelled sp g ++ rest) ≡ sp.crlf
    by (inl e) =
        (λ i. begins_crlf false
        ((if e i then g else line_ends sp.crlf (line_feeds g) ++ columns_spelled sp.tab (length g - line_feeds g)) ++ rest))
        ∙ skips g rest (inline_gap g h (eqb-true (line_feeds g) 0 e))
        ∙ it
    by (inr e) =
        let indent = columns_spelled sp.tab (length g - line_feeds g) in
        (λ i. begins_crlf false ((if e i then g else line_ends sp.crlf (line_feeds g) ++ indent) ++ rest))
        ∙ ap (begins_crlf false) (append_assoc (line_ends sp.crlf (line_feeds g)) indent rest)
        ∙ at_ends sp.crlf (line_feeds g) (indent ++ rest) e

-- a layout begins with the line end that it is spelled with
pub first_line_end : (sp : Spelling) (ps : List Spaced) → AreInline (lexemes_of ps) → HaveNoReturns ps
    → begins_crlf false (put_together (respelled_all sp ps) ++ line_end_bytes sp.crlf) ≡ sp.crlf
first_line_end sp [] inline gaps = last_end sp.crlf
first_line_end sp (p ∷ ps) inline gaps =
    let later = put_together (respelled_all sp ps) in
    let end = line_end_bytes sp.crlf in
    ap (begins_crlf false)
    (append_assoc (respelled sp p.gap) (p.lexeme ++ later) end
    ∙ ap (λ (l : List ℕ). respelled sp p.gap ++ l) (append_assoc p.lexeme later end))
    ∙ at_gap sp p.gap (p.lexeme ++ (later ++ end)) gaps.0
    (skips p.lexeme (later ++ end) inline.0 ∙ first_line_end sp ps inline.1 gaps.1)

-- so the same line ends are chosen for it
pub same_line_end : (e : LineEnd) (text bytes : List ℕ) → begins_crlf false bytes ≡ ends_in_crlf e text
    → ends_in_crlf e bytes ≡ ends_in_crlf e text
same_line_end line_end.OfText text bytes same = same
same_line_end line_end.Lf text bytes same = refl
same_line_end line_end.CrLf text bytes same = refl
