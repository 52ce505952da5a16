-- What the scanner knows after one piece more.
use Rattle.std.proofs.Common.{◌≡◌, ℕ, zero, suc, ◌+◌, ◌-◌, ◌<◌, Bool, true, false, inl, inr, Some, None, refl, sym, ◌∙◌, ap, subst, arith}
use Rattle.std.proofs.Common.{List, [], ◌∷◌, ◌++◌, length, drop, take, get_or, length-append, length-drop}
use Rattle.std.proofs.Common.{get_or-set_same, get_or-set_other, drop-cons}
use Rattle.std.specs.Prelude.{Result, Ok, Err, IfOk}
use Rattle.std.specs.Result.{is_err}
use Rattle.std.proofs.Math.ListN.{get_or-append}
use Rattle.std.proofs.Math.Seq.{get_or-append_seam}
use Rattle.std.proofs.lemmas.Bool.{cases_eq}
use Rattle.std.proofs.lemmas.List.{get_or-take, length-set, length-take-le}
use Rattle.json_formatter.specs.Documents.{opens, closes, greatest_width}
use Rattle.json_formatter.specs.Flat.{piece_columns, wider}
use Rattle.json_formatter.specs.Window.{comma_columns, width_with_comma, rests_of, rest_at, no_list, list_at, closed_at, closed_last}
use Rattle.json_formatter.specs.Window.{IsLast, IsUnclosed, IsScanned, IsWidthUpTo, IsWindow}
use Rattle.json_formatter.specs.declared.scanner.Opened.{Opened}
use Rattle.json_formatter.specs.declared.scanner.Scanner.{Scanner}
use Rattle.json_formatter.proofs.WindowWidths.{last_wide, wider_none, within_wider, unclosed_plain, unclosed_opening, unclosed_closing, closed_width}

rests_same : (s : List ℕ) (ss : List (List ℕ)) → opens s ≡ false → rests_of (s ∷ ss) ≡ rests_of ss
rests_same s ss o = rw o refl

rests_more : (s : List ℕ) (ss : List (List ℕ)) → opens s ≡ true → rests_of (s ∷ ss) ≡ ss ∷ rests_of ss
rests_more s ss o = rw o refl

-- ---- a piece that neither opens nor closes a list

pub scanned_plain : {compact : Bool} (rests : List (List (List ℕ))) (lists : List Opened) (unclosed : List ℕ) (t : ℕ)
    (s : List ℕ) (ss : List (List ℕ))
    → IsScanned compact rests lists unclosed t (s ∷ ss) → opens s ≡ false → closes s ≡ false
    → IsScanned compact rests lists unclosed (t + piece_columns compact s ss) ss
scanned_plain {compact} rests lists unclosed t s ss k o c = record {
  unseen = sym (rests_same s ss o) ∙ k.unseen;
  known = k.known;
  unknown = k.unknown;
  within = k.within;
  inner = λ p h. unclosed_plain compact _ _ t _ s ss (k.inner p h) o c;
}

-- ---- a piece that opens one

-- the rest of the first list that the scanner has not seen, and those after it
first_unseen : (rests : List (List (List ℕ))) (n : ℕ) (ss : List (List ℕ)) (later : List (List (List ℕ)))
    → ss ∷ later ≡ drop n rests → (rest_at rests n ≡ ss) × (later ≡ drop (suc n) rests)
first_unseen rests n ss later e =
    let within : n < length rests = omega (arith, ap length e, length-drop n rests) in
    let split : drop n rests ≡ rest_at rests n ∷ drop (suc n) rests = drop-cons rests n [] within in
    let both : ss ∷ later ≡ rest_at rests n ∷ drop (suc n) rests = e ∙ split in
    (cc, cc)

-- a list that is open, at another index or total
moved : {compact : Bool} {i j a b t u n m : ℕ} {left : List (List ℕ)} (rests : List (List (List ℕ))) → i ≡ j → a ≡ b → t ≡ u → n ≡ m
    → IsUnclosed compact (rest_at rests j) b u m left → IsUnclosed compact (rest_at rests i) a t n left
moved rests ij ab tu nm h = rw (ij, ab, tu, nm) h

-- with the list that was opened last
abbrev pub with_list : List Opened → ℕ → List Opened
with_list lists t = lists ++ record { start = t; width = None } ∷ []

list_before : (lists : List Opened) (t i : ℕ) → i < length lists → list_at (with_list lists t) i ≡ list_at lists i
list_before lists t i h = get_or-append lists (record { start = t; width = None } ∷ []) no_list i h

list_last : (lists : List Opened) (t : ℕ) → list_at (with_list lists t) (length lists) ≡ record { start = t; width = None }
list_last lists t = get_or-append_seam lists (record { start = t; width = None }) [] no_list

list_more : (lists : List Opened) (t : ℕ) → length (with_list lists t) ≡ length lists + 1
list_more lists t = length-append lists (record { start = t; width = None } ∷ [])

-- ---- a piece that closes one

-- where none is open that the scanner saw opened
pub scanned_outside : {compact : Bool} (rests : List (List (List ℕ))) (lists : List Opened) (t : ℕ) (s : List ℕ) (ss : List (List ℕ))
    → IsScanned compact rests lists [] t (s ∷ ss) → opens s ≡ false → IsScanned compact rests lists [] (t + piece_columns compact s ss) ss
scanned_outside {compact} rests lists t s ss k o = record {
  unseen = sym (rests_same s ss o) ∙ k.unseen;
  known = k.known;
  unknown = k.unknown;
  within = k.within;
  inner = λ p h. let no : ⊥ = omega arith in absurd no;
}

pub scanned_opening : {compact : Bool} (rests : List (List (List ℕ))) (lists : List Opened) (unclosed : List ℕ) (t : ℕ)
    (s : List ℕ) (ss : List (List ℕ))
    → IsScanned compact rests lists unclosed t (s ∷ ss) → opens s ≡ true
    → IsScanned compact rests (with_list lists (t + piece_columns compact s ss)) (unclosed ++ length lists ∷ [])
    (t + piece_columns compact s ss) ss
scanned_opening {compact} rests lists unclosed t s ss k o =
    let total = t + piece_columns compact s ss in
    let n = length lists in
    let m = length unclosed in
    let more = with_list lists total in
    let deeper = unclosed ++ n ∷ [] in
    let first = first_unseen rests n ss (rests_of ss) (sym (rests_more s ss o) ∙ k.unseen) in
    let count : length more ≡ n + 1 = list_more lists total in
    let depth : length deeper ≡ m + 1 = length-append unclosed (n ∷ []) in
    let last : list_at more n ≡ record { start = total; width = None } = list_last lists total in
    record {
      unseen = let e : suc n ≡ length more = omega arith in first.1 ∙ ap (λ i. drop i rests) e;
      known = λ i w h e. elim (cases_eq i n) [
        | inl at ↦ let none : (list_at more i).width ≡ None = ap (λ j. (list_at more j).width) at ∙ ap (λ l. l.width) last in cc
        | inr ne ↦ let lt : i < n = omega arith in k.known i w lt (sym (ap (λ l. l.width) (list_before lists total i lt)) ∙ e)
      ];
      unknown = λ i h e. elim (cases_eq i n) [
        | inl at ↦ (m, omega arith, get_or-append_seam unclosed n [] 0 ∙ sym at)
        | inr ne ↦
            let lt : i < n = omega arith in
            let old = k.unknown i lt (sym (ap (λ l. l.width) (list_before lists total i lt)) ∙ e) in
            (old.0, (let h : old.0 < m = old.1 in omega arith), get_or-append unclosed (n ∷ []) 0 old.0 old.1 ∙ old.2)
      ];
      within = λ p h. elim (cases_eq p m) [
        | inl at ↦ let e : get_or deeper p 0 ≡ n = ap (λ q. get_or deeper q 0) at ∙ get_or-append_seam unclosed n [] 0 in omega arith
        | inr ne ↦
            let lt : p < m = omega arith in
            let e : get_or deeper p 0 ≡ get_or unclosed p 0 = get_or-append unclosed (n ∷ []) 0 p lt in
            let h : get_or unclosed p 0 < n = k.within p lt in
            omega arith
      ];
      inner = λ p h. elim (cases_eq p m) [
        | inl at ↦
            let e : get_or deeper p 0 ≡ n = ap (λ q. get_or deeper q 0) at ∙ get_or-append_seam unclosed n [] 0 in
            let begins : (list_at more (get_or deeper p 0)).start ≡ total
            = ap (λ j. (list_at more j).start) e ∙ ap (λ l. l.start) last in
            let d : length deeper - p ≡ 1 = omega arith in
            let none : total - total ≡ 0 = omega arith in
            moved rests e begins refl d
            (record {
              begun = omega arith;
              width = ap (width_with_comma compact 1) first.0
                  ∙ sym (ap (λ j. wider j (width_with_comma compact 1 ss)) none ∙ wider_none (width_with_comma compact 1 ss));
            })
        | inr ne ↦
            let lt : p < m = omega arith in
            let e : get_or deeper p 0 ≡ get_or unclosed p 0 = get_or-append unclosed (n ∷ []) 0 p lt in
            let begins : (list_at more (get_or deeper p 0)).start ≡ (list_at lists (get_or unclosed p 0)).start
            = ap (λ j. (list_at more j).start) e ∙ ap (λ l. l.start) (list_before lists total _ (k.within p lt)) in
            let d : length deeper - p ≡ m - p + 1 = omega arith in
            moved rests e begins refl d (unclosed_opening compact _ _ t (m - p) s ss (k.inner p lt) o)
      ];
    }

start_same : (lists : List Opened) (i j total more : ℕ) → i < length lists
    → (list_at (closed_at lists i total more) j).start ≡ (list_at lists j).start
start_same lists i j total more h =
    let new : Opened = record (list_at lists i) { width = Some (total - (list_at lists i).start + more) } in
    elim (cases_eq j i) [
      | inl at ↦ ap (λ k. (list_at (closed_at lists i total more) k).start) at
          ∙ ap (λ l. l.start) (get_or-set_same lists i new no_list h)
          ∙ sym (ap (λ k. (list_at lists k).start) at)
      | inr ne ↦ ap (λ l. l.start) (get_or-set_other lists i j new no_list ne)
    ]

-- the innermost, of index i
closed_inner : {compact : Bool} {rests : List (List (List ℕ))} {lists : List Opened} {unclosed : List ℕ} {t i : ℕ} {s : List ℕ}
    {ss : List (List ℕ)} (m : ℕ) → IsScanned compact rests lists unclosed t (s ∷ ss) → opens s ≡ false → closes s ≡ true
    → length unclosed ≡ m + 1 → get_or unclosed m 0 ≡ i
    → IsScanned compact rests (closed_at lists i (t + piece_columns compact s ss) (comma_columns ss)) (take m unclosed)
    (t + piece_columns compact s ss) ss
closed_inner {compact} {rests} {lists} {unclosed} {t} {i} {s} {ss} m k o c count at_last =
    let total = t + piece_columns compact s ss in
    let more = comma_columns ss in
    let new : Opened = record (list_at lists i) { width = Some (total - (list_at lists i).start + more) } in
    let after = closed_at lists i total more in
    let last : m < length unclosed = omega arith in
    let within : i < length lists = subst (λ j. j < length lists) at_last (k.within m last) in
    let left : length (take m unclosed) ≡ m = length-take-le m unclosed (omega arith) in
    let same : length after ≡ length lists = length-set lists i new in
    let set_here : list_at after i ≡ new = get_or-set_same lists i new no_list within in
    let one : length unclosed - m ≡ 1 = omega arith in
    let open_here : IsUnclosed compact (rest_at rests i) (list_at lists i).start t (length unclosed - m) (s ∷ ss)
    = subst (λ j. IsUnclosed compact (rest_at rests j) (list_at lists j).start t (length unclosed - m) (s ∷ ss)) at_last (k.inner m last) in
    let width : width_with_comma compact 1 (rest_at rests i) ≡ Some (total - (list_at lists i).start + more)
    = closed_width compact (rest_at rests i) _ t _ s ss open_here o c (omega arith) in
    record {
      unseen = sym (rests_same s ss o) ∙ k.unseen ∙ ap (λ n. drop n rests) (sym same);
      known = λ j w h e. elim (cases_eq j i) [
        | inl at ↦
            let is : (list_at after j).width ≡ Some (total - (list_at lists i).start + more)
            = ap (λ q. (list_at after q).width) at ∙ ap (λ l. l.width) set_here in
            ap (λ q. width_with_comma compact 1 (rest_at rests q)) at ∙ width ∙ sym is ∙ e
        | inr ne ↦
            let other : list_at after j ≡ list_at lists j = get_or-set_other lists i j new no_list ne in
            k.known j w (omega arith) (sym (ap (λ l. l.width) other) ∙ e)
      ];
      unknown = λ j h e. elim (cases_eq j i) [
        | inl at ↦
            let is : (list_at after j).width ≡ Some (total - (list_at lists i).start + more)
            = ap (λ q. (list_at after q).width) at ∙ ap (λ l. l.width) set_here in
            cc
        | inr ne ↦
            let other : list_at after j ≡ list_at lists j = get_or-set_other lists i j new no_list ne in
            let old = k.unknown j (omega arith) (sym (ap (λ l. l.width) other) ∙ e) in
            let within : old.0 < length unclosed = old.1 in
            let before : old.0 < m = elim (cases_eq old.0 m) [
              | inl there ↦ absurd (ne (sym old.2 ∙ ap (λ q. get_or unclosed q 0) there ∙ at_last))
              | inr before ↦ omega arith
            ] in
            (old.0, omega arith, get_or-take m unclosed old.0 0 before ∙ old.2)
      ];
      within = λ p h.
          let before : p < m = omega arith in
          let e : get_or (take m unclosed) p 0 ≡ get_or unclosed p 0 = get_or-take m unclosed p 0 before in
          let w : get_or unclosed p 0 < length lists = k.within p (omega arith) in
          omega arith;
      inner = λ p h.
          let before : p < m = omega arith in
          let e : get_or (take m unclosed) p 0 ≡ get_or unclosed p 0 = get_or-take m unclosed p 0 before in
          let begins : (list_at after (get_or (take m unclosed) p 0)).start ≡ (list_at lists (get_or unclosed p 0)).start
          = ap (λ q. (list_at after q).start) e ∙ start_same lists i _ total more within in
          let d : length (take m unclosed) - p ≡ length unclosed - p - 1 = omega arith in
          moved rests e begins refl d
          (unclosed_closing compact _ _ t (length unclosed - p) s ss (k.inner p (omega arith)) o c (omega arith));
    }

pub scanned_closing : {compact : Bool} (rests : List (List (List ℕ))) (lists : List Opened) (unclosed : List ℕ) (t : ℕ)
    (s : List ℕ) (ss : List (List ℕ))
    → IsScanned compact rests lists unclosed t (s ∷ ss) → opens s ≡ false → closes s ≡ true
    → IsScanned compact rests (closed_last lists unclosed (t + piece_columns compact s ss) (comma_columns ss))
    (take (length unclosed - 1) unclosed) (t + piece_columns compact s ss) ss
scanned_closing {compact} rests lists [] t s ss k o c = scanned_outside rests lists t s ss k o
scanned_closing {compact} rests lists (u ∷ us) t s ss k o c =
    let e : length us ≡ length (u ∷ us) - 1 = omega arith in
    let total = t + piece_columns compact s ss in
    subst (λ m. IsScanned compact rests (closed_last lists (u ∷ us) total (comma_columns ss)) (take m (u ∷ us)) total ss) e
    (closed_inner (length us) k o c (omega arith) refl)

-- ---- from the reader on

-- nothing is known
pub scanned_nothing : (compact : Bool) (t : ℕ) (left : List (List ℕ)) → IsScanned compact (rests_of left) [] [] t left
scanned_nothing compact t left = record {
  unseen = refl;
  known = λ i w h e. let no : ⊥ = omega arith in absurd no;
  unknown = λ i h e. let no : ⊥ = omega arith in absurd no;
  within = λ p h. let no : ⊥ = omega arith in absurd no;
  inner = λ p h. let no : ⊥ = omega arith in absurd no;
}

-- the reader has passed a piece that opens a list which the scanner has seen
pub window_passed : (left : List (List ℕ)) (scanner : Scanner) (passed : ℕ) (s : List ℕ) → opens s ≡ true
    → passed < length scanner.lists.items → IsWindow (s ∷ left) scanner passed None
    → IsWindow left scanner (passed + 1) (Some passed)
window_passed left scanner passed s o h w =
    let first = first_unseen w.rests passed left (rests_of left) (sym (rests_more s left o) ∙ w.ahead) in
    let next : suc passed ≡ passed + 1 = omega arith in
    record {
      rests = w.rests;
      knows = w.knows;
      seen = omega arith;
      ahead = first.1 ∙ ap (λ n. drop n w.rests) next;
      opened = (h, first.0);
    }

-- the scanner has begun anew at the reader
pub window_anew : (left : List (List ℕ)) (scanner : Scanner) → scanner.pieces ≡ left → scanner.lists.items ≡ []
    → scanner.unclosed.items ≡ [] → IsWindow left scanner 0 None
window_anew left scanner at lists unclosed = record {
  rests = rests_of left;
  knows = rw (at, lists, unclosed) (scanned_nothing scanner.compact scanner.total left);
  seen = omega arith;
  ahead = refl;
  opened = tt;
}

-- a list that is still to be seen closed, where the scanner goes no further
pub last_unknown : {compact : Bool} (rests : List (List (List ℕ))) (lists : List Opened) (unclosed : List ℕ) (t : ℕ)
    (left : List (List ℕ)) (i most : ℕ)
    → IsScanned compact rests lists unclosed t left → i < length lists → (list_at lists i).width ≡ None → IsLast compact left
    → most < greatest_width → IsWidthUpTo compact most (rest_at rests i) None
last_unknown {compact} rests lists unclosed t left i most k within none last narrow =
    let at = k.unknown i within none in
    let open_here = k.inner at.0 at.1 in
    let wide = last_wide compact _ _ t _ most left open_here last narrow in
    subst (λ (j : ℕ). IsWidthUpTo compact most (rest_at rests j) None) at.2 wide

-- an element that is there, whatever stands for one that is not
there : (lists : List Opened) (i : ℕ) (d : Opened) → i < length lists → get_or lists i d ≡ list_at lists i
there [] i d h = absurd (omega (arith, h))
there (x ∷ xs) zero d h = refl
there (x ∷ xs) (suc i) d h = there xs i d (omega (arith, h))

pub unknown_there : {l : Opened} (lists : List Opened) (i : ℕ) → i < length lists → l ≡ get_or lists i l → l ≡ list_at lists i
unknown_there {l} lists i h e = e ∙ there lists i l h

-- a list that is still to be seen closed, of which the scanner has passed too much
pub far_unknown : {compact : Bool} (rests : List (List (List ℕ))) (lists : List Opened) (unclosed : List ℕ) (t : ℕ)
    (left : List (List ℕ)) (i most : ℕ)
    → IsScanned compact rests lists unclosed t left → i < length lists → (list_at lists i).width ≡ None
    → most < t - (list_at lists i).start → IsWidthUpTo compact most (rest_at rests i) None
far_unknown {compact} rests lists unclosed t left i most k within none far =
    let at = k.unknown i within none in
    let open_here = subst (λ (j : ℕ). IsUnclosed compact (rest_at rests j) (list_at lists j).start t (length unclosed - at.0) left) at.2
    (k.inner at.0 at.1) in
    λ w is.
    let least = within_wider (t - (list_at lists i).start) w _ (sym open_here.width ∙ is) in
    omega (arith, far, least)

-- what is so of a success
pub if_ok : {A E P : Type 0} (r : Result A E) → is_err r ≡ false → IfOk r (λ done. P) → P
if_ok (Ok x) e p = p
if_ok (Err x) e p = absurd (cc)

-- the reader has passed a piece that opens a list, where the scanner has begun anew
pub window_opened : (left : List (List ℕ)) (scanner : Scanner) → scanner.pieces ≡ left
    → scanner.lists.items ≡ record { start = scanner.total; width = None } ∷ [] → scanner.unclosed.items ≡ 0 ∷ []
    → IsWindow left scanner 1 (Some 0)
window_opened left scanner at lists unclosed = record {
  rests = left ∷ rests_of left;
  knows = rw (at, lists, unclosed) (one_scanned scanner.compact scanner.total left);
  seen = omega (arith, ap length lists);
  ahead = refl;
  opened = (omega (arith, ap length lists), refl);
}
  where
    one_scanned : (compact : Bool) (t : ℕ) (left : List (List ℕ))
        → IsScanned compact (left ∷ rests_of left) (record { start = t; width = None } ∷ []) (0 ∷ []) t left
    one_scanned compact t left =
        let one : List Opened = record { start = t; width = None } ∷ [] in
        record {
          unseen = refl;
          known = λ i w h e.
              let first : i ≡ 0 = omega (arith, h) in
              let none : None ≡ Some w = ap (λ (j : ℕ). (list_at one j).width) (sym first) ∙ e in
              cc;
          unknown = λ i h e. (0, omega arith, sym (omega (arith, h)));
          within = λ p h.
              let first : p ≡ 0 = omega (arith, h) in
              subst (λ (q : ℕ). get_or (0 ∷ []) q 0 < 1) (sym first) (omega arith);
          inner = λ p h.
              let first : p ≡ 0 = omega (arith, h) in
              let zero_more : t - t ≡ 0 = omega arith in
              subst
              (λ (q : ℕ).
              IsUnclosed compact (rest_at (left ∷ rests_of left) (get_or (0 ∷ []) q 0)) (list_at one (get_or (0 ∷ []) q 0)).start t (1 - q) left)
              (sym first)
              (record {
                begun = omega arith;
                width = sym (ap (λ (j : ℕ). wider j (width_with_comma compact 1 left)) zero_more ∙ wider_none (width_with_comma compact 1 left));
              });
        }
