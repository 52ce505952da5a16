-- Rows of entries that a layout has, where they are read again.
use Rattle.std.proofs.Common.{◌≡◌, refl, sym, ◌∙◌, ap, subst, ℕ, Bool, true, false, ◌==◌, ◌&&◌, not, List, [], ◌∷◌, ◌++◌, inl, inr}
use Rattle.std.specs.Prelude.{◌⊎◌, Option, Some, None}
use Rattle.prettyless_trees.specs.Built.{append}
use Rattle.prettyless_trees.specs.Counted as counted
use Rattle.prettyless_model.specs.Tree.{Tree, Nil, TextWithLen}
use Rattle.prettyless_model.specs.declared.mode.Mode.{Mode}
use Rattle.prettyless_model.specs.declared.mode.Mode.TheVariants.{Flat}
use Rattle.toml_lexemes.specs.Bytes as byte
use Rattle.toml_lexemes.specs.Bytes.{dot, head}
use Rattle.toml_lexemes.specs.Statements.{trimmed}
use Rattle.toml_lexemes.proofs.Trimmed.{trimmed_twice}
use Rattle.toml_grammar.specs.Sorts as sort
use Rattle.toml_grammar.specs.Sorts.{Sort, sort_of}
use Rattle.toml_documents.specs.Documents.{Commented, End, Level, Part, RowEntry, after_comments, after_part, after_rest, comments_tree}
use Rattle.toml_documents.specs.Documents.{document_from, end_after_comma, entry_with_comma, is_some, level_end, new_statement, separated}
use Rattle.toml_documents.specs.Documents.{with_part}
use Rattle.toml_documents.specs.Gaps.{is_last_comment, gap_before_comma, gap_before_comment, gap_before_part, gap_before_text, may_hold}
use Rattle.toml_documents.specs.Kinds.{last_after_text}
use Rattle.prettyless_laws.specs.Bits.{Bit, word_bits}
use Rattle.prettyless_laws.proofs.Again.{Again}
use Rattle.toml_documents.specs.declared.gaps.Gap.{Gap}
use Rattle.toml_documents.specs.declared.gaps.Gap.TheVariants as gap
use Rattle.toml_documents.specs.declared.kind.Kind.{Kind}
use Rattle.toml_documents.specs.declared.kind.Kind.TheVariants.{Statement}
use Rattle.toml_documents.specs.declared.kind.Last.{Last}
use Rattle.toml_documents.specs.declared.style.Style.{Style}
use Rattle.toml_documents.proofs.TreesAgain.{after_gap, again_append, again_flat_blank, again_flat_blank_fill, again_same, again_separated}
use Rattle.toml_documents.proofs.TreesAgain.{again_text, gap_bits, line_bits}
use Rattle.toml_documents.proofs.ReadSteps.{Counts, StaysIn, IsAround, IsCalm, IsFirst, IsLexeme, IsSeam, Leads, Place, Regap, Seam, begun}
use Rattle.toml_documents.proofs.ReadSteps.{blank_after, broken_after, comma_gap, comment_regap, comment_stays, counts_both, counts_seam}
use Rattle.toml_documents.proofs.ReadSteps.{counts_text, doubled, ended, fresh, from_text, gap_seam, inside, is_first, is_seam, leads_both}
use Rattle.toml_documents.proofs.ReadSteps.{leads_none, leads_seam, level_of, nothing, on_line, part_regap, part_stays, parted, seam_bits}
use Rattle.toml_documents.proofs.ReadSteps.{seam_of, spaced, stacked, started}

-- ---- what is read

-- lexemes of which one takes the place of the other
pub record IsAlike (word s : List ℕ) : Type 0 where
  pub sort : sort_of word ≡ sort_of s
  pub dotted : (head word == dot) ≡ (head s == dot)
  pub last : last_after_text word ≡ last_after_text s

-- A part that begins with the lexeme s, where it is laid in a mode and its groups in others: it is read as a part again.
pub record PartRead (style : Style) (around : Kind) (first number : Bool) (s : List ℕ) (tree : Tree) (m : Mode)
    (ms : List Mode) : Type 0 where
  pub word : List ℕ
  pub again : Tree
  pub left : List Mode
  pub bits : List Bit
  pub alike : IsAlike word s
  pub related : Again tree again m ms left bits
  pub counts : Counts number bits
  pub leads : (lv : Level) (lvs : List Level) → IsFirst first lv lvs → lv.kind ≡ around
      → Leads style (stacked first lv lvs) bits (with_part lv word again ∷ lvs)

abbrev pub PartReads : Style → Kind → Bool → Bool → List ℕ → Tree → Type 0
PartReads style around first number s tree = (m : Mode) (ms : List Mode) → PartRead style around first number s tree m ms

abbrev pub row : Option Part → Bool → List Commented → RowEntry
row part comma comments = record { part = part; comma = comma; comments = comments }

-- nothing was read, or something
abbrev pub IsNew : Place → Level → Type 0
IsNew inside lv = Unit {0}
IsNew on_line lv = Unit {0}
IsNew fresh lv = lv ≡ new_statement

-- entries up to a part, with the comma and the comments of the last one or without, of which this is the document
pub record RowRead (style : Style) (place : Place) (number : Bool) (kind : Kind) (opening : List ℕ) (e : End) (m : Mode)
    (ms : List Mode) : Type 0 where
  pub before : End
  pub entry : RowEntry
  pub left : List Mode
  pub bits : List Bit
  pub last : (level_end (level_of kind opening before entry)).last ≡ e.last
  pub related : Again e.tree (level_end (level_of kind opening before entry)).tree m ms left bits
  pub counts : Counts number bits
  pub new : IsNew place (level_of kind opening before entry)
  pub leads : (lvs : List Level) → IsAround place lvs
      → Leads style (started place kind opening lvs) bits (stacked (is_first place) (level_of kind opening before entry) lvs)

abbrev pub RowReads : Style → Place → Bool → Kind → List ℕ → End → Type 0
RowReads style place number kind opening e = (m : Mode) (ms : List Mode) → RowRead style place number kind opening e m ms

-- the same where the last entry has this comma, or none, and as many comments as these
pub record EntryRead (style : Style) (place : Place) (number : Bool) (kind : Kind) (opening : List ℕ) (comma : Bool) (cs : List Commented)
    (e : End) (m : Mode) (ms : List Mode) : Type 0 where
  pub before : End
  pub part : Option Part
  pub comments : List Commented
  pub left : List Mode
  pub bits : List Bit
  pub some : is_some comments ≡ is_some cs
  pub last : (after_part kind before part).last ≡ e.last
  pub related : Again (after_rest kind (row None comma cs) e).tree
      (after_rest kind (row None comma comments) (after_part kind before part)).tree m ms left bits
  pub counts : Counts number bits
  pub new : IsNew place (level_of kind opening before (row part comma comments))
  pub leads : (lvs : List Level) → IsAround place lvs
      → Leads style (started place kind opening lvs) bits
      (stacked (is_first place) (level_of kind opening before (row part comma comments)) lvs)

-- the same without comments
pub record CommaRead (style : Style) (place : Place) (number : Bool) (kind : Kind) (opening : List ℕ) (comma : Bool) (e : End) (m : Mode)
    (ms : List Mode) : Type 0 where
  pub before : End
  pub part : Option Part
  pub left : List Mode
  pub bits : List Bit
  pub last : (after_part kind before part).last ≡ e.last
  pub related : Again (end_after_comma comma e).tree (end_after_comma comma (after_part kind before part)).tree m ms left bits
  pub counts : Counts number bits
  pub new : IsNew place (level_of kind opening before (row part comma []))
  pub leads : (lvs : List Level) → IsAround place lvs
      → Leads style (started place kind opening lvs) bits
      (stacked (is_first place) (level_of kind opening before (row part comma [])) lvs)

-- up to a part
abbrev pub BodyReads : Style → Place → Bool → Kind → List ℕ → End → Type 0
BodyReads style place number kind opening e = (m : Mode) (ms : List Mode) → CommaRead style place number kind opening false e m ms

-- ---- what may come

-- a comma comes after what takes one
abbrev pub TakesComma : Place → Bool → End → Type 0
TakesComma place true e = (is_first place ≡ false) × (may_hold e.last ≡ false)
TakesComma place false e = Unit {0}

-- a comment, of which what is left without the blanks at its end is one
pub record IsComment (s : List ℕ) : Type 0 where
  pub alone : IsLexeme (trimmed s)
  pub sort : sort_of (trimmed s) ≡ sort.comment

-- comments that may stand there: outside of brackets one, after what is no comment
abbrev pub TakesComments : Kind → Place → Last → List Commented → Type 0
TakesComments kind inside l cs = Unit {0}
TakesComments kind on_line l [] = Unit {0}
TakesComments kind on_line l (r ∷ rs) = (rs ≡ []) × (kind ≡ Statement) × (is_last_comment l ≡ false)
TakesComments kind fresh l cs = cs ≡ []

abbrev pub AreComments : List Commented → Type 0
AreComments [] = Unit {0}
AreComments (r ∷ rs) = IsComment r.comment × AreComments rs

-- ---- one part more

module _ (x y u v : Tree) where
  abbrev Regapped : Gap → Gap → Mode → Type 0
  Regapped g h m =
      (ms ns left : List Mode) (xs us : List Bit) → Again x y m ms ns xs → Again u v m (after_gap g m ns) left us
      → Again (separated g x u) (separated h y v) m ms left (xs ++ (gap_bits g m ns ++ us))

  unblanked : (h : Gap) → (h ≡ gap.Line) ⊎ (h ≡ gap.Fill) → Regapped gap.BlankLine h Flat
  unblanked h (inl e) ms ns left xs us p q =
      subst (λ (k : Gap). Again (separated gap.BlankLine x u) (separated k y v) Flat ms left (xs ++ (line_bits Flat ++ us))) (sym e)
      (again_flat_blank x y u v ms ns left xs us p q)
  unblanked h (inr e) ms ns left xs us p q =
      subst (λ (k : Gap). Again (separated gap.BlankLine x u) (separated k y v) Flat ms left (xs ++ (line_bits Flat ++ us))) (sym e)
      (again_flat_blank_fill x y u v ms ns left xs us p q)

  again_regapped : (g h : Gap) (m : Mode) → Regap g h m → Regapped g h m
  again_regapped g h m (inl e) ms ns left xs us p q =
      subst (λ (k : Gap). Again (separated g x u) (separated k y v) m ms left (xs ++ (gap_bits g m ns ++ us))) (sym e)
      (again_separated g x y u v m ms ns left xs us p q)
  again_regapped g h m (inr w) ms ns left xs us p q =
      let at : Regapped g h m =
      subst (λ (k : Gap). Regapped k h m) (sym w.was) (subst (λ (n : Mode). Regapped gap.BlankLine h n) (sym w.flat) (unblanked h w.now)) in
      at ms ns left xs us p q

module _ (style : Style) (kind : Kind) (opening : List ℕ) where
  -- a part makes a statement one of which something was read
  as_begun : (place : Place) (lv : Level) (lvs : List Level) (bits : List Bit)
      → Leads style (started place kind opening lvs) bits (lv ∷ lvs)
      → Leads style (started (begun place) kind opening lvs) bits (stacked (is_first (begun place)) lv lvs)
  as_begun inside lv lvs bits h = h
  as_begun on_line lv lvs bits h = h
  as_begun fresh lv lvs bits h = h

  around_begun : (place : Place) (lvs : List Level) → IsAround (begun place) lvs → IsAround place lvs
  around_begun inside lvs h = h
  around_begun on_line lvs h = h
  around_begun fresh lvs h = h

  new_begun : (place : Place) (lv : Level) → IsNew (begun place) lv
  new_begun inside lv = tt
  new_begun on_line lv = tt
  new_begun fresh lv = tt

  unparted : (before : End) (entry : RowEntry) (s : Seam) → broken_after s ≡ false
      → parted s (level_of kind opening before entry) ≡ level_of kind opening before entry
  unparted before entry nothing h = refl
  unparted before entry spaced h = refl
  unparted before entry ended h = absurd (cc)
  unparted before entry doubled h = absurd (cc)

  first_parted : (place : Place) (before : End) (entry : RowEntry) (s : Seam) (k : Kind) (l : Last) (j : Sort) (dotted blank : Bool)
      (m : Mode)
      (lvs : List Level) → IsCalm place k l → IsSeam (gap_before_part k l j dotted blank) m s
      → IsNew place (level_of kind opening before entry) → IsAround place lvs
      → IsFirst (is_first place) (parted s (level_of kind opening before entry)) lvs
  first_parted inside before entry s k l j dotted blank m lvs calm e new around = tt
  first_parted on_line before entry s k l j dotted blank m lvs calm e new around = tt
  first_parted fresh before entry s k l j dotted blank m lvs calm e new around =
      (unparted before entry s (part_stays fresh k l j dotted blank m s calm e) ∙ new, around)

  pub body_with_part : (place : Place) (e : End) (s : List ℕ) (tree : Tree) (blank n k : Bool) → IsCalm place kind e.last
      → RowReads style place n kind opening e → PartReads style kind (is_first place) k s tree
      → BodyReads style (begun place) (n && k) kind opening
      (after_part kind e (Some (record { blank = blank; first = s; tree = tree })))
  body_with_part place e s tree blank n k calm rows parts m ms =
      let r = rows m ms in
      let lv = level_of kind opening r.before r.entry in
      let g = gap_before_text kind e.last s blank in
      let seam = seam_of g m r.left in
      let p = parts m (after_gap g m r.left) in
      let is = is_seam g m r.left in
      let h = gap_before_text kind (level_end lv).last p.word (blank_after seam) in
      let same : h ≡ gap_before_text kind e.last s (blank_after seam) =
      ap (λ (l : Last). gap_before_text kind l p.word (blank_after seam)) r.last
      ∙ ap (λ (j : Sort). gap_before_part kind e.last j (head p.word == dot) (blank_after seam)) p.alike.sort
      ∙ ap (λ (b : Bool). gap_before_part kind e.last (sort_of s) b (blank_after seam)) p.alike.dotted in
      let regap : Regap g h m = subst (λ (a : Gap). Regap g a m) (sym same)
      (part_regap kind e.last (sort_of s) (head s == dot) blank m seam is) in
      record {
        before = level_end lv;
        part = Some (record { blank = blank_after seam; first = p.word; tree = p.again });
        left = p.left;
        bits = r.bits ++ (gap_bits g m r.left ++ p.bits);
        last = p.alike.last;
        related =
            again_regapped e.tree (level_end lv).tree tree p.again g h m regap ms r.left p.left r.bits p.bits r.related p.related;
        counts =
            subst (λ (b : List Bit). Counts (n && k) (r.bits ++ (b ++ p.bits))) (sym (gap_seam g m r.left))
            (counts_both n k r.bits (seam_bits seam ++ p.bits) r.counts
            (counts_both true k (seam_bits seam) p.bits (counts_seam seam) p.counts));
        new = new_begun place _;
        leads = λ lvs outside.
            let around = around_begun place lvs outside in
            let after = with_part (parted seam lv) p.word p.again in
            as_begun place after lvs (r.bits ++ (gap_bits g m r.left ++ p.bits))
            (subst (λ (b : List Bit). Leads style (started place kind opening lvs) (r.bits ++ (b ++ p.bits)) (after ∷ lvs))
            (sym (gap_seam g m r.left))
            (leads_both style (started place kind opening lvs) (stacked (is_first place) lv lvs) (after ∷ lvs) r.bits
            (seam_bits seam ++ p.bits) (r.leads lvs around)
            (leads_both style (stacked (is_first place) lv lvs) (stacked (is_first place) (parted seam lv) lvs) (after ∷ lvs)
            (seam_bits seam)
            p.bits
            (leads_seam style kind opening r.before r.entry place seam lvs around
            (part_stays place kind e.last (sort_of s) (head s == dot) blank m seam calm is))
            (p.leads (parted seam lv) lvs
            (first_parted place r.before r.entry seam kind e.last (sort_of s) (head s == dot) blank m lvs calm is r.new around) refl))));
      }

  -- ---- a comma

  -- with the comma of the entry
  abbrev pub CommaReads : Place → Bool → Bool → End → Type 0
  CommaReads place n comma e = (m : Mode) (ms : List Mode) → CommaRead style place n kind opening comma e m ms

  pub comma_leads : (before : End) (part : Option Part) (lvs : List Level) → may_hold (after_part kind before part).last ≡ false
      → Leads style (level_of kind opening before (row part false []) ∷ lvs) (word_bits (byte.comma ∷ []))
      (level_of kind opening before (row part true []) ∷ lvs)
  comma_leads before part lvs h d rest =
      from_text style sort.comma (record d { levels = level_of kind opening before (row part false []) ∷ lvs }) (byte.comma ∷ []) rest
      (λ ss. refl) refl
      ∙ ap (λ (b : Bool). document_from style
      (record d { levels = entry_with_comma b (level_of kind opening before (row part false [])) ∷ lvs }) rest) h

  comma_stacked : (place : Place) (before : End) (part : Option Part) (lvs : List Level) → is_first place ≡ false
      → may_hold (after_part kind before part).last ≡ false
      → Leads style (stacked (is_first place) (level_of kind opening before (row part false [])) lvs) (word_bits (byte.comma ∷ []))
      (stacked (is_first place) (level_of kind opening before (row part true [])) lvs)
  comma_stacked inside before part lvs f h = comma_leads before part lvs h
  comma_stacked on_line before part lvs f h = comma_leads before part lvs h
  comma_stacked fresh before part lvs f h = absurd (cc)

  new_comma : (place : Place) (before : End) (part : Option Part) → is_first place ≡ false
      → IsNew place (level_of kind opening before (row part true []))
  new_comma inside before part f = tt
  new_comma on_line before part f = tt
  new_comma fresh before part f = absurd (cc)

  pub counts_comma : Counts true (word_bits (byte.comma ∷ []))
  counts_comma rest = refl

  and_true : (b : Bool) → b && true ≡ b
  and_true true = refl
  and_true false = refl

  and_false : (b : Bool) → b && false ≡ false
  and_false true = refl
  and_false false = refl

  body_with_comma : (place : Place) (n comma : Bool) (e : End) → TakesComma place comma e → BodyReads style place n kind opening e
      → CommaReads place n comma e
  body_with_comma place n false e takes body m ms = body m ms
  body_with_comma place n true e takes body m ms =
      let r = body m ms in
      let comma = byte.comma ∷ [] in
      let y = after_part kind r.before r.part in
      let none = comma_gap e.last takes.1 in
      let held : may_hold y.last ≡ false = ap may_hold r.last ∙ takes.1 in
      let ns = after_gap (gap_before_comma e.last) m r.left in
      let gap_is : gap_bits (gap_before_comma e.last) m r.left ≡ [] = ap (λ (g : Gap). gap_bits g m r.left) none in
      record {
        before = r.before;
        part = r.part;
        left = ns;
        bits = r.bits ++ word_bits comma;
        last = r.last;
        related =
            subst
            (λ (l : Last).
            Again (separated (gap_before_comma e.last) e.tree (counted.text comma))
            (separated (gap_before_comma l) y.tree (counted.text comma)) m ms ns (r.bits ++ word_bits comma))
            (sym r.last)
            (subst
            (λ (b : List Bit).
            Again (separated (gap_before_comma e.last) e.tree (counted.text comma))
            (separated (gap_before_comma e.last) y.tree (counted.text comma)) m ms ns (r.bits ++ (b ++ word_bits comma)))
            gap_is
            (again_separated (gap_before_comma e.last) e.tree y.tree (counted.text comma) (counted.text comma) m ms r.left ns r.bits
            (word_bits comma) r.related (again_text comma m ns)));
        counts =
            subst (λ (b : Bool). Counts b (r.bits ++ word_bits comma)) (and_true n)
            (counts_both n true r.bits (word_bits comma) r.counts counts_comma);
        new = new_comma place r.before r.part takes.0;
        leads = λ lvs around.
            leads_both style (started place kind opening lvs)
            (stacked (is_first place) (level_of kind opening r.before (row r.part false [])) lvs)
            (stacked (is_first place) (level_of kind opening r.before (row r.part true [])) lvs) r.bits (word_bits comma)
            (r.leads lvs around)
            (comma_stacked place r.before r.part lvs takes.0 held);
      }

  -- ---- comments

  -- comments are read as comments of the last entry
  record CommentsRead (place : Place) (l : Last) (cs : List Commented) (before : End) (part : Option Part) (comma : Bool) (m : Mode)
      (ms : List Mode) : Type 0 where
    again : List Commented
    left : List Mode
    bits : List Bit
    some : is_some again ≡ is_some cs
    related : Again (comments_tree kind l cs) (comments_tree kind l again) m ms left bits
    counts : Counts (not (is_some cs)) bits
    leads : (lvs : List Level) → IsAround place lvs
        → Leads style (stacked (is_first place) (level_of kind opening before (row part comma [])) lvs) bits
        (stacked (is_first place) (level_of kind opening before (row part comma again)) lvs)

  comments_stay : (place : Place) (l : Last) (r : Commented) (rs : List Commented) (m : Mode) (s : Seam)
      → TakesComments kind place l (r ∷ rs)
      → IsSeam (gap_before_comment kind l (is_some rs) r.broken r.blank) m s → StaysIn place s
  comments_stay inside l r rs m s takes e = tt
  comments_stay on_line l r rs m s (none, e, h) is =
      comment_stays kind l r.broken r.blank m s (e, h)
      (subst (λ (cs : List Commented). IsSeam (gap_before_comment kind l (is_some cs) r.broken r.blank) m s) none is)
  comments_stay fresh l r rs m s takes e = absurd (cc)

  takes_before : (place : Place) (l : Last) (r : Commented) (rs : List Commented) → TakesComments kind place l (r ∷ rs)
      → TakesComments kind place l rs
  takes_before inside l r rs h = tt
  takes_before on_line l r rs h = subst (TakesComments kind on_line l) (sym h.0) tt
  takes_before fresh l r rs h = absurd (cc)

  comment_leads : (before : End) (part : Option Part) (comma : Bool) (rs : List Commented) (seam : Seam) (s : List ℕ) (lvs : List Level)
      → IsComment s
      → Leads style (parted seam (level_of kind opening before (row part comma rs)) ∷ lvs) (word_bits (trimmed s))
      (level_of kind opening before
      (row part comma (record { broken = broken_after seam; blank = blank_after seam; comment = trimmed s } ∷ rs)) ∷ lvs)
  comment_leads before part comma rs seam s lvs is d rest =
      from_text style sort.comment (record d { levels = parted seam (level_of kind opening before (row part comma rs)) ∷ lvs }) (trimmed s)
      rest is.alone is.sort

  comment_stacked : (place : Place) (l : Last) (before : End) (part : Option Part) (comma : Bool) (r : Commented) (rs cs : List Commented)
      (seam : Seam) (lvs : List Level) → TakesComments kind place l (r ∷ rs) → IsComment r.comment
      → Leads style (stacked (is_first place) (parted seam (level_of kind opening before (row part comma cs))) lvs)
      (word_bits (trimmed r.comment))
      (stacked (is_first place) (level_of kind opening before
      (row part comma (record { broken = broken_after seam; blank = blank_after seam; comment = trimmed r.comment } ∷ cs))) lvs)
  comment_stacked inside l before part comma r rs cs seam lvs takes is = comment_leads before part comma cs seam r.comment lvs is
  comment_stacked on_line l before part comma r rs cs seam lvs takes is = comment_leads before part comma cs seam r.comment lvs is
  comment_stacked fresh l before part comma r rs cs seam lvs takes is = absurd (cc)

  counts_comment : (s : List ℕ) → IsComment s → Counts false (word_bits (trimmed s))
  counts_comment s is rest = counts_text sort.comment (trimmed s) is.alone is.sort rest

  comments_read : (place : Place) (l : Last) (cs : List Commented) (before : End) (part : Option Part) (comma : Bool) (m : Mode)
      (ms : List Mode) → TakesComments kind place l cs → AreComments cs → CommentsRead place l cs before part comma m ms
  comments_read place l [] before part comma m ms takes are = record {
    again = [];
    left = ms;
    bits = [];
    some = refl;
    related = again_same Nil m ms;
    counts = λ rest. refl;
    leads = λ lvs around. leads_none style _;
  }
  comments_read place l (r ∷ rs) before part comma m ms takes are =
      let i = comments_read place l rs before part comma m ms (takes_before place l r rs takes) are.1 in
      let g = gap_before_comment kind l (is_some rs) r.broken r.blank in
      let seam = seam_of g m i.left in
      let t = trimmed r.comment in
      let is = is_seam g m i.left in
      let h = gap_before_comment kind l (is_some i.again) (broken_after seam) (blank_after seam) in
      let same : h ≡ g =
      ap (λ (b : Bool). gap_before_comment kind l b (broken_after seam) (blank_after seam)) i.some
      ∙ comment_regap kind l (is_some rs) r.broken r.blank m seam is in
      let ns = after_gap g m i.left in
      let lv = level_of kind opening before (row part comma i.again) in
      let new = level_of kind opening before
      (row part comma (record { broken = broken_after seam; blank = blank_after seam; comment = t } ∷ i.again)) in
      record {
        again = record { broken = broken_after seam; blank = blank_after seam; comment = t } ∷ i.again;
        left = ns;
        bits = i.bits ++ (gap_bits g m i.left ++ word_bits t);
        some = refl;
        related =
            subst
            (λ (a : Gap).
            Again (separated g (comments_tree kind l rs) (TextWithLen 0 t))
            (separated a (comments_tree kind l i.again) (TextWithLen 0 (trimmed t))) m ms ns
            (i.bits ++ (gap_bits g m i.left ++ word_bits t)))
            (sym same)
            (subst
            (λ (u : List ℕ).
            Again (separated g (comments_tree kind l rs) (TextWithLen 0 t))
            (separated g (comments_tree kind l i.again) (TextWithLen 0 u)) m ms ns (i.bits ++ (gap_bits g m i.left ++ word_bits t)))
            (sym (trimmed_twice r.comment))
            (again_separated g (comments_tree kind l rs) (comments_tree kind l i.again) (TextWithLen 0 t)
            (TextWithLen 0 t) m ms i.left ns i.bits
            (word_bits t) i.related (again_same (TextWithLen 0 t) m ns)));
        counts =
            subst (λ (b : Bool). Counts b (i.bits ++ (gap_bits g m i.left ++ word_bits t))) (and_false (not (is_some rs)))
            (subst (λ (b : List Bit). Counts (not (is_some rs) && false) (i.bits ++ (b ++ word_bits t))) (sym (gap_seam g m i.left))
            (counts_both (not (is_some rs)) false i.bits (seam_bits seam ++ word_bits t) i.counts
            (counts_both true false (seam_bits seam) (word_bits t) (counts_seam seam) (counts_comment r.comment are.0))));
        leads = λ lvs around.
            let old = stacked (is_first place) (level_of kind opening before (row part comma [])) lvs in
            subst (λ (b : List Bit). Leads style old (i.bits ++ (b ++ word_bits t)) (stacked (is_first place) new lvs))
            (sym (gap_seam g m i.left))
            (leads_both style old (stacked (is_first place) lv lvs) (stacked (is_first place) new lvs) i.bits
            (seam_bits seam ++ word_bits t)
            (i.leads lvs around)
            (leads_both style (stacked (is_first place) lv lvs) (stacked (is_first place) (parted seam lv) lvs)
            (stacked (is_first place) new lvs) (seam_bits seam) (word_bits t)
            (leads_seam style kind opening before (row part comma i.again) place seam lvs around
            (comments_stay place l r rs m seam takes is))
            (comment_stacked place l before part comma r rs i.again seam lvs takes are.0)));
      }

  new_comments : (place : Place) (l : Last) (before : End) (part : Option Part) (comma : Bool) (r : Commented) (rs cs : List Commented)
      → TakesComments kind place l (r ∷ rs) → IsNew place (level_of kind opening before (row part comma cs))
  new_comments inside l before part comma r rs cs takes = tt
  new_comments on_line l before part comma r rs cs takes = tt
  new_comments fresh l before part comma r rs cs takes = absurd (cc)

  -- with the comma and the comments of the last entry
  pub body_with_rest : (place : Place) (n comma : Bool) (cs : List Commented) (e : End) → TakesComma place comma e
      → TakesComments kind place e.last cs → AreComments cs → BodyReads style place n kind opening e → (m : Mode) (ms : List Mode)
      → EntryRead style place (n && not (is_some cs)) kind opening comma cs e m ms
  body_with_rest place n comma [] e takes may are body m ms =
      let r = body_with_comma place n comma e takes body m ms in
      record {
        before = r.before;
        part = r.part;
        comments = [];
        left = r.left;
        bits = r.bits;
        some = refl;
        last = r.last;
        related = r.related;
        counts = subst (λ (b : Bool). Counts b r.bits) (sym (and_true n)) r.counts;
        new = r.new;
        leads = r.leads;
      }
  body_with_rest place n comma (c ∷ cs) e takes may are body m ms =
      let r = body_with_comma place n comma e takes body m ms in
      let i = comments_read place e.last (c ∷ cs) r.before r.part comma m r.left may are in
      let x = end_after_comma comma e in
      let y = end_after_comma comma (after_part kind r.before r.part) in
      let both : Again (append x.tree (comments_tree kind e.last (c ∷ cs))) (append y.tree (comments_tree kind e.last i.again)) m ms i.left
      (r.bits ++ i.bits) =
      again_append x.tree y.tree (comments_tree kind e.last (c ∷ cs)) (comments_tree kind e.last i.again) m ms r.left i.left r.bits i.bits
      r.related i.related in
      record {
        before = r.before;
        part = r.part;
        comments = i.again;
        left = i.left;
        bits = r.bits ++ i.bits;
        some = i.some;
        last = r.last;
        related =
            subst
            (λ (b : Bool).
            Again (append x.tree (comments_tree kind e.last (c ∷ cs)))
            (after_comments b (comments_tree kind (after_part kind r.before r.part).last i.again) y).tree m ms i.left (r.bits ++ i.bits))
            (sym i.some)
            (subst
            (λ (l : Last).
            Again (append x.tree (comments_tree kind e.last (c ∷ cs))) (append y.tree (comments_tree kind l i.again)) m ms i.left
            (r.bits ++ i.bits))
            (sym r.last) both);
        counts = counts_both n false r.bits i.bits r.counts i.counts;
        new = new_comments place e.last r.before r.part comma c cs i.again may;
        leads = λ lvs around.
            leads_both style (started place kind opening lvs)
            (stacked (is_first place) (level_of kind opening r.before (row r.part comma [])) lvs)
            (stacked (is_first place) (level_of kind opening r.before (row r.part comma i.again)) lvs) r.bits i.bits (r.leads lvs around)
            (i.leads lvs around);
      }

  comma_lasts : (comma : Bool) (x y : End) → x.last ≡ y.last → (end_after_comma comma x).last ≡ (end_after_comma comma y).last
  comma_lasts true x y h = refl
  comma_lasts false x y h = h

  lasts : (some comma : Bool) (t u : Tree) (x y : End) → x.last ≡ y.last
      → (after_comments some t (end_after_comma comma x)).last ≡ (after_comments some u (end_after_comma comma y)).last
  lasts true comma t u x y h = refl
  lasts false comma t u x y h = comma_lasts comma x y h

  pub rest_last : (place : Place) (n comma : Bool) (cs : List Commented) (e : End) (m : Mode) (ms : List Mode)
      (r : EntryRead style place n kind opening comma cs e m ms)
      → (after_rest kind (row None comma r.comments) (after_part kind r.before r.part)).last ≡ (after_rest kind (row None comma cs) e).last
  rest_last place n comma cs e m ms r =
      let y = after_part kind r.before r.part in
      let t = comments_tree kind y.last r.comments in
      ap (λ (b : Bool). (after_comments b t (end_after_comma comma y)).last) r.some
      ∙ lasts (is_some cs) comma t (comments_tree kind e.last cs) y e r.last

  -- entries that end so are before a part
  pub body_as_row : (place : Place) (n comma : Bool) (cs : List Commented) (e : End)
      → ((m : Mode) (ms : List Mode) → EntryRead style place n kind opening comma cs e m ms)
      → RowReads style place n kind opening (after_rest kind (row None comma cs) e)
  body_as_row place n comma cs e body m ms =
      let r = body m ms in
      record {
        before = r.before;
        entry = row r.part comma r.comments;
        left = r.left;
        bits = r.bits;
        last = rest_last place n comma cs e m ms r;
        related = r.related;
        counts = r.counts;
        new = r.new;
        leads = r.leads;
      }
