-- Documents, statement by statement.
use Rattle.std.proofs.Common.{◌≡◌, refl, sym, ◌∙◌, ap, subst, ℕ, Bool, true, false, List, [], ◌∷◌, ◌++◌, append_assoc, append-nil, inl, inr}
use Rattle.std.specs.Prelude.{◌⊎◌}
use Rattle.prettyless_model.specs.Tree.{Tree}
use Rattle.prettyless_model.specs.Shows as shown
use Rattle.prettyless_model.specs.Shows.{Item, AnyLine, LineEnd, ended, more, shows}
use Rattle.toml_lexemes.specs.Bytes.{line_feed}
use Rattle.toml_lexemes.specs.Lexemes.{toml_lexemes_of}
use Rattle.toml_lexemes.specs.Statements.{Collected, none_collected, line_ended, with_lexemes, statements_of, statements}
use Rattle.toml_lexemes.specs.Shown.{Stage, first_stage, IsReady, AreRead, least_between}
use Rattle.toml_lexemes.proofs.LineEnds.{ended_twice, statements_ended}
use Rattle.toml_formatter.specs.Lines.{directly_after, before_next, StatementRead, TakesStatement, after_line_of, IsAtLine, DocumentRead}
use Rattle.toml_formatter.specs.Lines.{IsDocument, HasStatements}
use Rattle.toml_formatter.proofs.Stages.{read_both, with_both}

-- ---- where statements begin

line_end_is_most : (l : shown.Least) → more l LineEnd ≡ LineEnd
line_end_is_most shown.Nothing = refl
line_end_is_most shown.Spacing = refl
line_end_is_most shown.LineEnd = refl

-- the same stage, or after one more line end
abbrev at_blank : Bool → Stage → Stage
at_blank false b = b
at_blank true b = record b { place = shown.with_gap AnyLine LineEnd b.place }

abbrev pub blank_items : Bool → List Item
blank_items false = []
blank_items true = ended ∷ []

ready_first : (blank : Bool) → IsReady (at_blank blank first_stage)
ready_first true s = record { apart = refl; lines = refl; mark = tt }
ready_first false s = record { apart = refl; lines = tt; mark = tt }

ready_line : (blank : Bool) (k : Collected) (t : List ℕ) → IsReady (at_blank blank (after_line_of k t))
ready_line true k t s = record { apart = line_end_is_most (least_between t s); lines = tt; mark = tt }
ready_line false k t s = record { apart = line_end_is_most (least_between t s); lines = tt; mark = tt }

ready : (blank : Bool) (b : Stage) → IsAtLine b → IsReady (at_blank blank b)
ready blank b (inl e) = subst (λ (x : Stage). IsReady (at_blank blank x)) (sym e) (ready_first blank)
ready blank b (inr h) = subst (λ (x : Stage). IsReady (at_blank blank x)) (sym h.2) (ready_line blank h.0 h.1)

first_same : (blank : Bool) → before_next (at_blank blank first_stage) ≡ before_next first_stage
first_same true = refl
first_same false = refl

line_same : (blank : Bool) (k : Collected) (t : List ℕ) → before_next (at_blank blank (after_line_of k t)) ≡ before_next (after_line_of k t)
line_same true k t = refl
line_same false k t = refl

same_there : (blank : Bool) (b : Stage) → IsAtLine b → before_next (at_blank blank b) ≡ before_next b
same_there blank b (inl e) = subst (λ (x : Stage). before_next (at_blank blank x) ≡ before_next x) (sym e) (first_same blank)
same_there blank b (inr h) = subst (λ (x : Stage). before_next (at_blank blank x) ≡ before_next x) (sym h.2) (line_same blank h.0 h.1)

-- a line end more changes nothing there
ended_there : (b : Stage) → IsAtLine b → line_ended (before_next b) ≡ before_next b
ended_there b (inl e) = subst (λ (x : Stage). line_ended (before_next x) ≡ before_next x) (sym e) refl
ended_there b (inr h) = subst (λ (x : Stage). line_ended (before_next x) ≡ before_next x) (sym h.2) (ended_twice h.0)

unmarked_there : (b : Stage) → IsAtLine b → b.marked ≡ false
unmarked_there b (inl e) = ap (λ (x : Stage). x.marked) e
unmarked_there b (inr h) = ap (λ (x : Stage). x.marked) h.2

statements_there : (b : Stage) → IsAtLine b → statements_of b.collected ≡ statements_of (before_next b)
statements_there b (inl e) = subst (λ (x : Stage). statements_of x.collected ≡ statements_of (before_next x)) (sym e) refl
statements_there b (inr h) = subst (λ (x : Stage). statements_of x.collected ≡ statements_of (before_next x)) (sym h.2)
    (sym (statements_ended h.0))

blank_read : (blank : Bool) (b c : Stage) (items : List Item) → AreRead (at_blank blank b) items c
    → AreRead b (blank_items blank ++ items) c
blank_read true b c items h = h
blank_read false b c items h = h

-- ---- documents

pub document_none : (left : List (List ℕ)) (d : Tree) → shows d [] → IsDocument left [] d
document_none left d h = record {
  items = [];
  shown = h;
  read =
      record { stage = first_stage; read = refl; at_line = inl refl; same = inl refl };
}

empty : {P : Type 0} (s : List ℕ) (ss : List (List ℕ)) → s ∷ ss ≡ [] → P
empty s ss e = absurd (cc)

pub document_blank : (left taken : List (List ℕ)) (d : Tree) → IsDocument ((line_feed ∷ []) ∷ left) taken d
    → IsDocument left (taken ++ (line_feed ∷ []) ∷ []) d
document_blank left taken d h =
    let r = h.read in
    let same : before_next r.stage ≡ with_lexemes none_collected taken =
    elim r.same [ inl e ↦ e | inr e ↦ empty (line_feed ∷ []) left e.0 ] in
    record {
      items = h.items;
      shown = h.shown;
      read = record {
        stage = r.stage;
        read = r.read;
        at_line = r.at_line;
        same = inl (sym (ended_there r.stage r.at_line) ∙ ap line_ended same
            ∙ sym (with_both none_collected taken ((line_feed ∷ []) ∷ [])));
      };
    }

-- the whole shows the document, a blank line or none, and the statement with its line end
pub record AddsStatement (blank : Bool) (d statement whole : Tree) : Type 0 where
  pub front : Tree
  pub front_shows : (xs : List Item) → shows d xs → shows front (xs ++ blank_items blank)
  pub whole_shows : (xs ys : List Item) → shows front xs → shows statement ys → shows whole (xs ++ (ys ++ ended ∷ []))

-- a statement more, after a blank line or not
pub document_more : {blank : Bool} {s : List ℕ} {old taken : List (List ℕ)} {d statement whole : Tree}
    (left : List (List ℕ)) → AddsStatement blank d statement whole → IsDocument (s ∷ old) taken d
    → TakesStatement (s ∷ old) left statement
    → (more : List (List ℕ)) × (s ∷ old ≡ more ++ left) × IsDocument left (taken ++ more) whole
document_more {blank} {s} {old} {taken} {whole = whole} left adds h t =
    (more_taken t.2, taken_is t.2, record { items = items; shown = all_shown; read = read_more t.2 })
  where
    items : List Item
    items = (h.items ++ blank_items blank) ++ (t.1.items ++ ended ∷ [])

    all_shown : shows whole items
    all_shown = adds.whole_shows (h.items ++ blank_items blank) t.1.items (adds.front_shows h.items h.shown) t.1.shown

    more_taken : ((s ∷ old ≡ t.0 ++ (line_feed ∷ []) ∷ left) ⊎ ((s ∷ old ≡ t.0) × (left ≡ []))) → List (List ℕ)
    more_taken (inl e) = t.0 ++ (line_feed ∷ []) ∷ []
    more_taken (inr e) = t.0

    taken_is : (w : (s ∷ old ≡ t.0 ++ (line_feed ∷ []) ∷ left) ⊎ ((s ∷ old ≡ t.0) × (left ≡ []))) → s ∷ old ≡ more_taken w ++ left
    taken_is (inl e) = e ∙ sym (append_assoc t.0 ((line_feed ∷ []) ∷ []) left)
    taken_is (inr e) = e.0 ∙ sym (append-nil t.0) ∙ ap (λ (ss : List (List ℕ)). t.0 ++ ss) (sym e.1)

    b : Stage
    b = h.read.stage

    r : StatementRead t.0 t.1.items (at_blank blank b)
    r = t.1.read (at_blank blank b) (ready blank b h.read.at_line)

    same : before_next b ≡ with_lexemes none_collected taken
    same = elim h.read.same [ inl e ↦ e | inr e ↦ empty s old e.0 ]

    collected_is : r.collected ≡ with_lexemes (with_lexemes none_collected taken) t.0
    collected_is = sym r.same ∙ ap (λ (x : Collected). with_lexemes x t.0) (same_there blank b h.read.at_line ∙ same)

    read_all : AreRead first_stage items (after_line_of r.collected r.text)
    read_all =
        subst (λ (xs : List Item). AreRead first_stage xs (after_line_of r.collected r.text))
        (sym (append_assoc h.items (blank_items blank) (t.1.items ++ ended ∷ [])))
        (read_both first_stage b (after_line_of r.collected r.text) h.items (blank_items blank ++ (t.1.items ++ ended ∷ [])) h.read.read
        (blank_read blank b (after_line_of r.collected r.text) (t.1.items ++ ended ∷ [])
        (read_both (at_blank blank b) (directly_after r.collected r.text) (after_line_of r.collected r.text) t.1.items
        (ended ∷ []) r.read refl)))

    ends_same : (w : (s ∷ old ≡ t.0 ++ (line_feed ∷ []) ∷ left) ⊎ ((s ∷ old ≡ t.0) × (left ≡ [])))
        → (line_ended r.collected ≡ with_lexemes none_collected (taken ++ more_taken w))
        ⊎ ((left ≡ []) × (line_ended r.collected ≡ line_ended (with_lexemes none_collected (taken ++ more_taken w))))
    ends_same (inl e) =
        inl (ap line_ended collected_is ∙ sym (with_both (with_lexemes none_collected taken) t.0 ((line_feed ∷ []) ∷ []))
        ∙ sym (with_both none_collected taken (t.0 ++ (line_feed ∷ []) ∷ [])))
    ends_same (inr e) = inr (e.1, ap line_ended (collected_is ∙ sym (with_both none_collected taken t.0)))

    read_more : (w : (s ∷ old ≡ t.0 ++ (line_feed ∷ []) ∷ left) ⊎ ((s ∷ old ≡ t.0) × (left ≡ [])))
        → DocumentRead (taken ++ more_taken w) left items
    read_more w = record {
      stage = after_line_of r.collected r.text;
      read = read_all;
      at_line = inr (r.collected, r.text, refl);
      same = ends_same w;
    }

pub document_whole : (text : List ℕ) (taken : List (List ℕ)) (d : Tree) → toml_lexemes_of text ≡ taken → IsDocument [] taken d
    → HasStatements text d
unfolding statements
document_whole text taken d e h =
    let r = h.read in
    let all = ap (λ (ss : List (List ℕ)). statements_of (with_lexemes none_collected ss)) (sym e) in
    record {
      items = h.items;
      shown = h.shown;
      stage = r.stage;
      read = r.read;
      unmarked = unmarked_there r.stage r.at_line;
      same = statements_there r.stage r.at_line
          ∙ elim r.same [
            | inl p ↦ ap statements_of p ∙ all
            | inr p ↦ ap statements_of p.1 ∙ statements_ended (with_lexemes none_collected taken) ∙ all
          ];
    }
