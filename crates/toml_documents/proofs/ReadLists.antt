-- Lists that a layout has, where they are read again.
use Rattle.std.proofs.Common.{◌≡◌, refl, sym, ◌∙◌, ap, subst, ℕ, Bool, true, false, cond, ◌&&◌, not, List, [], ◌∷◌, ◌++◌}
use Rattle.std.specs.Prelude.{None}
use Rattle.prettyless_model.specs.Tree.{Tree}
use Rattle.prettyless_model.specs.declared.mode.Mode.{Mode}
use Rattle.prettyless_model.specs.declared.mode.Mode.TheVariants.{Break, Flat}
use Rattle.toml_lexemes.specs.Bytes as byte
use Rattle.toml_grammar.specs.Sorts as sort
use Rattle.toml_grammar.specs.Sorts.{Sort, sort_of}
use Rattle.toml_documents.specs.Documents.{Commented, Draft, End, Level, RowEntry, after_part, after_rest, closed_end, comma_kept}
use Rattle.toml_documents.specs.Documents.{document_from, ends_item, is_array, is_some, list_tree, new_level, new_statement, part_end}
use Rattle.toml_documents.specs.Documents.{indent_in, trailed_end, with_part}
use Rattle.toml_documents.specs.Gaps.{gap_before_close, may_hold}
use Rattle.toml_documents.specs.Kinds.{kind_in}
use Rattle.toml_documents.specs.Numbers.{is_among_numbers, kind_before, only_number_words, opened_kind}
use Rattle.toml_documents.proofs.ReadTexts.{lexemes_then}
use Rattle.prettyless_laws.specs.Bits.{Bit, word_bits}
use Rattle.prettyless_laws.proofs.Again.{Again, first_mode, later_modes}
use Rattle.toml_documents.specs.declared.gaps.Gap.{Gap}
use Rattle.toml_documents.specs.declared.kind.Kind.{Kind}
use Rattle.toml_documents.specs.declared.kind.Kind.TheVariants.{Statement, Header, Table, Array, Numbers}
use Rattle.toml_documents.specs.declared.kind.Last.{Last}
use Rattle.toml_documents.specs.declared.kind.Last.TheVariants as last
use Rattle.toml_documents.specs.declared.style.Style.{Style}
use Rattle.toml_documents.proofs.TreesAgain.{after_gap, again_bracketed, again_flat_bracketed, again_flat_trailed, again_trailed, bracketed}
use Rattle.toml_documents.proofs.TreesAgain.{bracketed_bits, gap_bits}
use Rattle.toml_documents.proofs.ReadSteps.{Counts, counts_text, IsAround, IsFirst, IsLexeme, Leads, counts_both, counts_seam, from_text}
use Rattle.toml_documents.proofs.ReadSteps.{gap_seam, inside, leads_both, leads_seam, level_of, parted, read_both, seam_bits, seam_of}
use Rattle.toml_documents.proofs.ReadSteps.{stacked, started}
use Rattle.toml_documents.proofs.ReadRows.{AreComments, BodyReads, CommaRead, EntryRead, PartReads, TakesComma, body_with_rest, comma_leads}
use Rattle.toml_documents.proofs.ReadRows.{rest_last, row}

-- ---- what is in brackets

-- what is in brackets, where its entries up to the last part end so
abbrev pub closed_of : Kind → Bool → List Commented → End → End
closed_of kind comma cs e =
    let x = after_rest kind (row None (comma_kept kind e.last comma (is_some cs)) cs) e in
    trailed_end (is_array kind && ends_item x.last) comma x

pub closed_same : (lv : Level) → closed_end lv ≡ closed_of lv.kind lv.entry.comma lv.entry.comments (part_end lv)
closed_same lv = refl

-- it is read again
pub record ClosedRead (style : Style) (number : Bool) (kind : Kind) (opening : List ℕ) (e : End) (m : Mode) (ms : List Mode) : Type 0 where
  pub before : End
  pub entry : RowEntry
  pub left : List Mode
  pub bits : List Bit
  pub last : (closed_end (level_of kind opening before entry)).last ≡ e.last
  pub related : Again e.tree (closed_end (level_of kind opening before entry)).tree m ms left bits
  pub counts : Counts number bits
  pub leads : (lvs : List Level) → IsAround inside lvs
      → Leads style (started inside kind opening lvs) bits (level_of kind opening before entry ∷ lvs)

abbrev pub ClosedReads : Style → Bool → Kind → List ℕ → End → Type 0
ClosedReads style number kind opening e = (m : Mode) (ms : List Mode) → ClosedRead style number kind opening e m ms

closed_is : (kind : Kind) (comma k b : Bool) (cs : List Commented) (e : End) → comma_kept kind e.last comma (is_some cs) ≡ k
    → is_array kind && ends_item (after_rest kind (row None k cs) e).last ≡ b
    → closed_of kind comma cs e ≡ trailed_end b comma (after_rest kind (row None k cs) e)
closed_is kind comma k b cs e h g =
    ap
    (λ (j : Bool).
    trailed_end (is_array kind && ends_item (after_rest kind (row None j cs) e).last) comma (after_rest kind (row None j cs) e)) h
    ∙ ap (λ (c : Bool). trailed_end c comma (after_rest kind (row None k cs) e)) g

trailed_last : (b comma : Bool) (e : End) → (trailed_end b comma e).last ≡ e.last
trailed_last true comma e = refl
trailed_last false comma e = refl

-- a comma that is kept once is kept
kept_cond : (b comma x : Bool) → cond b (cond b comma x) x ≡ cond b comma x
kept_cond true comma x = refl
kept_cond false comma x = refl

kept_again : (kind : Kind) (l : Last) (comma s : Bool) → comma_kept kind l (comma_kept kind l comma s) s ≡ comma_kept kind l comma s
kept_again kind l comma s = kept_cond (may_hold l) comma (is_array kind && (ends_item l && s))

-- where an item ends, nothing waits
item_holds : (l : Last) → ends_item l ≡ true → may_hold l ≡ false
item_holds last.Start h = absurd (cc)
item_holds last.Close h = refl
item_holds last.Equals h = refl
item_holds last.Word h = refl
item_holds last.Dot h = refl
item_holds last.String h = refl
item_holds last.Comma h = absurd (cc)
item_holds last.Comment h = absurd (cc)

and_right : (a b : Bool) → a && b ≡ true → b ≡ true
and_right true b h = h
and_right false b h = absurd (cc)

no_and : (a : Bool) → a && false ≡ true → ⊥
no_and true h = cc
no_and false h = cc

and_false_of : (b : Bool) → b && false ≡ false
and_false_of true = refl
and_false_of false = refl

and_true_of : (b : Bool) → b && true ≡ b
and_true_of true = refl
and_true_of false = refl

-- where no comment is before a bracket, no comma is kept
unkept : (kind : Kind) (l : Last) (comma : Bool) → may_hold l ≡ false → comma_kept kind l comma false ≡ false
unkept kind l comma h =
    ap (λ (b : Bool). cond b comma (is_array kind && (ends_item l && false))) h
    ∙ ap (λ (b : Bool). is_array kind && b) (and_false_of (ends_item l)) ∙ and_false_of (is_array kind)

module _ (style : Style) (kind : Kind) (opening : List ℕ) where
  abbrev ListRead : Bool → Bool → List Commented → End → Mode → List Mode → Type 0
  ListRead n kept cs e m ms = EntryRead style inside n kind opening kept cs e m ms

  -- the comma of the last entry is kept, or none is
  abbrev IsKept : Bool → List Commented → End → Type 0
  IsKept kept cs e = comma_kept kind e.last kept (is_some cs) ≡ kept

  kept_read : (n kept : Bool) (cs : List Commented) (e : End) (m : Mode) (ms : List Mode) (r : ListRead n kept cs e m ms) → IsKept kept cs e
      → comma_kept kind (after_part kind r.before r.part).last kept (is_some r.comments) ≡ kept
  kept_read n kept cs e m ms r is =
      ap (λ (l : Last). comma_kept kind l kept (is_some r.comments)) r.last ∙ ap (comma_kept kind e.last kept) r.some ∙ is

  -- where it does not end with an item
  closed_plain : (n kept comma : Bool) (cs : List Commented) (e : End) (m : Mode) (ms : List Mode) → ListRead n kept cs e m ms
      → IsKept kept cs e → is_array kind && ends_item (after_rest kind (row None kept cs) e).last ≡ false
      → ClosedRead style n kind opening (after_rest kind (row None kept cs) e) m ms
  closed_plain n kept comma cs e m ms r is none =
      let y = after_part kind r.before r.part in
      let x = after_rest kind (row None kept cs) e in
      let z = after_rest kind (row None kept r.comments) y in
      let lasts = rest_last style kind opening inside n kept cs e m ms r in
      let same : closed_of kind kept r.comments y ≡ z =
      closed_is kind kept kept false r.comments y (kept_read n kept cs e m ms r is)
      (ap (λ (l : Last). is_array kind && ends_item l) lasts ∙ none) in
      record {
        before = r.before;
        entry = row r.part kept r.comments;
        left = r.left;
        bits = r.bits;
        last = ap (λ (u : End). u.last) same ∙ lasts;
        related = subst (λ (u : End). Again x.tree u.tree m ms r.left r.bits) (sym same) r.related;
        counts = r.counts;
        leads = r.leads;
      }

  -- where it ends with an item and is broken, it gets a comma
  closed_broken : (n comma : Bool) (e : End) (ms : List Mode) → CommaRead style inside n kind opening false e Break ms
      → is_array kind && ends_item e.last ≡ true → ClosedRead style n kind opening (trailed_end true comma e) Break ms
  closed_broken n comma e ms r ends =
      let y = after_part kind r.before r.part in
      let holds : may_hold y.last ≡ false = ap may_hold r.last ∙ item_holds e.last (and_right (is_array kind) (ends_item e.last) ends) in
      let same : closed_of kind true [] y ≡ trailed_end true true y =
      closed_is kind true false true [] y (unkept kind y.last true holds) (ap (λ (l : Last). is_array kind && ends_item l) r.last ∙ ends) in
      let z = trailed_end true comma e in
      let comma_bits = word_bits (byte.comma ∷ []) in
      record {
        before = r.before;
        entry = row r.part true [];
        left = r.left;
        bits = r.bits ++ comma_bits;
        last = ap (λ (u : End). u.last) same ∙ r.last;
        related =
            subst (λ (u : End). Again z.tree u.tree Break ms r.left (r.bits ++ comma_bits)) (sym same)
            (again_trailed comma e.tree y.tree ms r.left r.bits r.related);
        counts =
            subst (λ (b : Bool). Counts b (r.bits ++ comma_bits)) (and_true_of n)
            (counts_both n true r.bits comma_bits r.counts (λ rest. refl));
        leads = λ lvs around.
            leads_both style (started inside kind opening lvs) (level_of kind opening r.before (row r.part false []) ∷ lvs)
            (level_of kind opening r.before (row r.part true []) ∷ lvs) r.bits comma_bits (r.leads lvs around)
            (comma_leads style kind opening r.before r.part lvs holds);
      }

  -- and where it is flat, none
  closed_flat : (n comma : Bool) (e : End) (ms : List Mode) → CommaRead style inside n kind opening false e Flat ms
      → is_array kind && ends_item e.last ≡ true → ClosedRead style n kind opening (trailed_end true comma e) Flat ms
  closed_flat n comma e ms r ends =
      let y = after_part kind r.before r.part in
      let holds : may_hold y.last ≡ false = ap may_hold r.last ∙ item_holds e.last (and_right (is_array kind) (ends_item e.last) ends) in
      let same : closed_of kind false [] y ≡ trailed_end true false y =
      closed_is kind false false true [] y (unkept kind y.last false holds)
      (ap (λ (l : Last). is_array kind && ends_item l) r.last ∙ ends) in
      let z = trailed_end true comma e in
      record {
        before = r.before;
        entry = row r.part false [];
        left = r.left;
        bits = r.bits;
        last = ap (λ (u : End). u.last) same ∙ r.last;
        related =
            subst (λ (u : End). Again z.tree u.tree Flat ms r.left r.bits) (sym same)
            (again_flat_trailed comma e.tree y.tree ms r.left r.bits r.related);
        counts = r.counts;
        leads = r.leads;
      }

  closed_item : (n comma : Bool) (e : End) (m : Mode) (ms : List Mode) → CommaRead style inside n kind opening false e m ms
      → is_array kind && ends_item e.last ≡ true → ClosedRead style n kind opening (trailed_end true comma e) m ms
  closed_item n comma e Break ms r ends = closed_broken n comma e ms r ends
  closed_item n comma e Flat ms r ends = closed_flat n comma e ms r ends

  -- in either case
  closed_either : (n kept comma : Bool) (cs : List Commented) (e : End) (b : Bool) → BodyReads style inside n kind opening e
      → TakesComma inside kept e → AreComments cs → IsKept kept cs e
      → is_array kind && ends_item (after_rest kind (row None kept cs) e).last ≡ b
      → ClosedReads style (n && not (is_some cs)) kind opening (trailed_end b comma (after_rest kind (row None kept cs) e))
  closed_either n kept comma cs e false body takes are is h m ms =
      closed_plain (n && not (is_some cs)) kept comma cs e m ms
      (body_with_rest style kind opening inside n kept cs e takes tt are body m ms) is h
  closed_either n kept comma (c ∷ cs) e true body takes are is h m ms = absurd (no_and (is_array kind) h)
  closed_either n true comma [] e true body takes are is h m ms = absurd (no_and (is_array kind) h)
  closed_either n false comma [] e true body takes are is h m ms =
      subst (λ (b : Bool). ClosedRead style b kind opening (trailed_end true comma e) m ms) (sym (and_true_of n))
      (closed_item n comma e m ms (body m ms) h)

  kept_takes : (b comma x : Bool) (e : End) → may_hold e.last ≡ b → TakesComma inside comma e
      → TakesComma inside (cond b comma x) e
  kept_takes true comma x e h takes = takes
  kept_takes false comma true e h takes = (refl, h)
  kept_takes false comma false e h takes = tt

  pub closed_reads : (n comma : Bool) (cs : List Commented) (e : End) → TakesComma inside comma e
      → AreComments cs → BodyReads style inside n kind opening e
      → ClosedReads style (n && not (is_some cs)) kind opening (closed_of kind comma cs e)
  closed_reads n comma cs e takes are body =
      let kept = comma_kept kind e.last comma (is_some cs) in
      closed_either n kept comma cs e (is_array kind && ends_item (after_rest kind (row None kept cs) e).last) body
      (kept_takes (may_hold e.last) comma (is_array kind && (ends_item e.last && is_some cs)) e refl takes) are
      (kept_again kind e.last comma (is_some cs)) refl

-- ---- which kind of list it is

-- a list that holds numbers alone, or not, where it may
abbrev pub kind_with : Kind → Bool → Kind
kind_with Statement b = Statement
kind_with Header b = Header
kind_with Table b = Table
kind_with Array b = cond b Numbers Array
kind_with Numbers b = Numbers

pub kind_before_is : (kind : Kind) (ss : List (List ℕ)) → kind_before kind ss ≡ kind_with kind (only_number_words ss)
kind_before_is Statement ss = refl
kind_before_is Header ss = refl
kind_before_is Table ss = refl
kind_before_is Array ss = refl
kind_before_is Numbers ss = refl

-- ---- lists

-- brackets
abbrev pub Opens : Sort → Type 0
Opens sort.open_array = Unit {0}
Opens sort.open_table = Unit {0}
Opens k = ⊥

abbrev pub Closes : Sort → Type 0
Closes sort.close_array = Unit {0}
Closes sort.close_table = Unit {0}
Closes k = ⊥

-- whether an array of numbers ends with it
abbrev pub closes_numbers : Sort → Bool
closes_numbers sort.close_array = true
closes_numbers k = false

pub closes_is : (k : Sort) (s : List ℕ) (others : Bool) → Closes k → is_among_numbers k s others ≡ closes_numbers k
closes_is sort.close_array s others h = refl
closes_is sort.close_table s others h = refl
closes_is sort.open_array s others h = absurd h
closes_is sort.open_table s others h = absurd h
closes_is sort.comma s others h = absurd h
closes_is sort.equals s others h = absurd h
closes_is sort.line_end s others h = absurd h
closes_is sort.comment s others h = absurd h
closes_is sort.string s others h = absurd h
closes_is sort.word s others h = absurd h
closes_is sort.text_end s others h = absurd h

pub opens_is : (k : Sort) (s : List ℕ) (others : Bool) → Opens k → is_among_numbers k s others ≡ false
opens_is sort.open_array s others h = refl
opens_is sort.open_table s others h = refl
opens_is sort.close_array s others h = absurd h
opens_is sort.close_table s others h = absurd h
opens_is sort.comma s others h = absurd h
opens_is sort.equals s others h = absurd h
opens_is sort.line_end s others h = absurd h
opens_is sort.comment s others h = absurd h
opens_is sort.string s others h = absurd h
opens_is sort.word s others h = absurd h
opens_is sort.text_end s others h = absurd h

-- the modes in a group
abbrev pub inner_mode : Mode → List Mode → Mode
inner_mode Break ms = first_mode ms
inner_mode Flat ms = Flat

abbrev pub inner_modes : Mode → List Mode → List Mode
inner_modes Break ms = later_modes ms
inner_modes Flat ms = ms

-- those after it
abbrev pub outer_modes : Gap → Mode → List Mode → List Mode → List Mode
outer_modes g Break ms left = after_gap g (first_mode ms) left
outer_modes g Flat ms left = left

pub again_listed : (n : ℕ) (g : Gap) (s t : List ℕ) (x y : Tree) (m : Mode) (ms left : List Mode) (bits : List Bit) → IsLexeme s
    → IsLexeme t
    → Again x y (inner_mode m ms) (inner_modes m ms) left bits
    → Again (bracketed n g s x t) (bracketed n g s y t) m ms (outer_modes g m ms left)
    (bracketed_bits g (inner_mode m ms) left s bits t)
again_listed n g [] t x y m ms left bits h k r = let e = h [] in absurd (cc)
again_listed n g (a ∷ s) [] x y m ms left bits h k r = let e = k [] in absurd (cc)
again_listed n g (a ∷ s) (b ∷ t) x y Break ms left bits h k r = again_bracketed n g a b s t x y ms left bits r
again_listed n g (a ∷ s) (b ∷ t) x y Flat ms left bits h k r = again_flat_bracketed n g a b s t x y ms left bits r

four_read : (a b c d : List Bit) (rest : List (List ℕ))
    → lexemes_then ((a ++ b) ++ (c ++ d)) rest ≡ lexemes_then a (lexemes_then b (lexemes_then c (lexemes_then d rest)))
four_read a b c d rest =
    read_both (a ++ b) (c ++ d) rest ∙ ap (lexemes_then (a ++ b)) (read_both c d rest)
    ∙ read_both a b (lexemes_then c (lexemes_then d rest))

module _ (style : Style) where
  opens_new : (k : Sort) (s : List ℕ) (d : Draft) (rest : List (List ℕ)) → Opens k → IsLexeme s → sort_of s ≡ k
      → document_from style (record d { levels = [] }) (lexemes_then (word_bits s) rest)
      ≡ document_from style (record d { levels = new_level (opened_kind Statement true k rest) s ∷ new_statement ∷ [] }) rest
  opens_new sort.open_array s d rest opens alone is = from_text style sort.open_array (record d { levels = [] }) s rest alone is
  opens_new sort.open_table s d rest opens alone is = from_text style sort.open_table (record d { levels = [] }) s rest alone is
  opens_new k s d rest opens alone is = absurd opens

  opens_in : (k : Sort) (s : List ℕ) (lv : Level) (lvs : List Level) (d : Draft) (rest : List (List ℕ)) → Opens k → IsLexeme s
      → sort_of s ≡ k
      → document_from style (record d { levels = lv ∷ lvs }) (lexemes_then (word_bits s) rest)
      ≡ document_from style (record d { levels = new_level (opened_kind lv.kind false k rest) s ∷ lv ∷ lvs }) rest
  opens_in sort.open_array s lv lvs d rest opens alone is =
      from_text style sort.open_array (record d { levels = lv ∷ lvs }) s rest alone is
  opens_in sort.open_table s lv lvs d rest opens alone is =
      from_text style sort.open_table (record d { levels = lv ∷ lvs }) s rest alone is
  opens_in k s lv lvs d rest opens alone is = absurd opens

  -- a bracket opens a level
  opens_level : (k : Sort) (first : Bool) (s : List ℕ) (lv : Level) (lvs : List Level) (d : Draft) (rest : List (List ℕ)) → Opens k
      → IsFirst first lv lvs → IsLexeme s → sort_of s ≡ k
      → document_from style (record d { levels = stacked first lv lvs }) (lexemes_then (word_bits s) rest)
      ≡ document_from style (record d { levels = new_level (opened_kind lv.kind first k rest) s ∷ lv ∷ lvs }) rest
  opens_level k true s lv lvs d rest opens (e, g) alone is =
      opens_new k s d rest opens alone is
      ∙ ap (λ (l : Level). document_from style (record d { levels = new_level (opened_kind l.kind true k rest) s ∷ l ∷ [] }) rest) (sym e)
      ∙ ap (λ (ls : List Level). document_from style (record d { levels = new_level (opened_kind lv.kind true k rest) s ∷ lv ∷ ls }) rest)
      (sym g)
  opens_level k false s lv lvs d rest opens f alone is = opens_in k s lv lvs d rest opens alone is

  -- and another closes it
  closes_level : (k : Sort) (s : List ℕ) (lv outer : Level) (lvs : List Level) → Closes k → IsLexeme s → sort_of s ≡ k
      → Leads style (lv ∷ outer ∷ lvs) (word_bits s) (with_part outer lv.opening (list_tree style lv s) ∷ lvs)
  closes_level sort.close_array s lv outer lvs closes alone is d rest =
      from_text style sort.close_array (record d { levels = lv ∷ outer ∷ lvs }) s rest alone is
  closes_level sort.close_table s lv outer lvs closes alone is d rest =
      from_text style sort.close_table (record d { levels = lv ∷ outer ∷ lvs }) s rest alone is
  closes_level k s lv outer lvs closes alone is d rest = absurd closes

  pub list_reads : (k j : Sort) (first : Bool) (around : Kind) (n : Bool) (lv : Level) (close : List ℕ) → Opens k → sort_of lv.opening ≡ k
      → IsLexeme lv.opening → Closes j → sort_of close ≡ j → IsLexeme close
      → lv.kind ≡ kind_with (kind_in around first k) (n && closes_numbers j)
      → ClosedReads style n lv.kind lv.opening (closed_end lv)
      → PartReads style around first false lv.opening (list_tree style lv close)
  list_reads k j first around n lv close opens open_is open_alone closes close_is close_alone kind_is closed m ms =
      let r = closed (inner_mode m ms) (inner_modes m ms) in
      let e = closed_end lv in
      let w = level_of lv.kind lv.opening r.before r.entry in
      let g = gap_before_close lv.kind e.last in
      let columns = indent_in style lv.kind in
      let im = inner_mode m ms in
      let seam = seam_of g im r.left in
      let bits = bracketed_bits g im r.left lv.opening r.bits close in
      let left = outer_modes g m ms r.left in
      record {
        word = lv.opening;
        again = list_tree style w close;
        left = left;
        bits = bits;
        alike = record { sort = refl; dotted = refl; last = refl };
        related =
            subst
            (λ (l : Last).
            Again (list_tree style lv close)
            (bracketed columns (gap_before_close lv.kind l) lv.opening (closed_end w).tree close) m ms left bits)
            (sym r.last)
            (again_listed columns g lv.opening close e.tree (closed_end w).tree m ms r.left r.bits open_alone close_alone r.related);
        counts = λ rest.
            ap only_number_words (four_read (word_bits lv.opening) r.bits (gap_bits g im r.left) (word_bits close) rest)
            ∙ counts_text k lv.opening open_alone open_is _ ∙ opens_is k lv.opening _ opens;
        leads = λ lv0 lvs0 is_first is_around d rest.
            let rest3 = lexemes_then (word_bits close) rest in
            let rest2 = lexemes_then (gap_bits g im r.left) rest3 in
            let rest1 = lexemes_then r.bits rest2 in
            let gap_is : rest2 ≡ lexemes_then (seam_bits seam) rest3 =
            ap (λ (b : List Bit). lexemes_then b rest3) (gap_seam g im r.left) in
            let numbers : only_number_words rest1 ≡ n && closes_numbers j =
            r.counts rest2
            ∙ ap (λ (b : Bool). n && b)
            (ap only_number_words gap_is ∙ counts_seam seam rest3 ∙ counts_text j close close_alone close_is rest
            ∙ closes_is j close _ closes) in
            let same : opened_kind lv0.kind first k rest1 ≡ lv.kind =
            ap (λ (a : Kind). opened_kind a first k rest1) is_around ∙ kind_before_is (kind_in around first k) rest1
            ∙ ap (kind_with (kind_in around first k)) numbers ∙ sym kind_is in
            ap (document_from style (record d { levels = stacked first lv0 lvs0 }))
            (four_read (word_bits lv.opening) r.bits (gap_bits g im r.left) (word_bits close) rest)
            ∙ opens_level k first lv.opening lv0 lvs0 d rest1 opens is_first open_alone open_is
            ∙ ap (λ (a : Kind). document_from style (record d { levels = new_level a lv.opening ∷ lv0 ∷ lvs0 }) rest1) same
            ∙ r.leads (lv0 ∷ lvs0) tt d rest2
            ∙ ap (document_from style (record d { levels = w ∷ lv0 ∷ lvs0 })) gap_is
            ∙ leads_seam style lv.kind lv.opening r.before r.entry inside seam (lv0 ∷ lvs0) tt tt d rest3
            ∙ closes_level j close (parted seam w) lv0 lvs0 closes close_alone close_is d rest;
      }
