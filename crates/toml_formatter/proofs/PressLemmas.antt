-- Statements that are laid out one after another.
use Rattle.std.proofs.Common.{◌≡◌, refl, sym, ◌∙◌, ap, subst, Bool, true, false, ◌∷◌, ◌++◌, [], List, ℕ, append_assoc, append-nil, inl, inr}
use Rattle.std.proofs.Common.{Result, Ok, Err}
use Rattle.std.specs.Prelude.{OnOk}
use Rattle.prettyless_trees.specs.Built.{append}
use Rattle.prettyless_model.specs.Layout.{Whole, layout}
use Rattle.prettyless_model.specs.Tree.{Tree, Nil, HardLine}
use Rattle.prettyless_model.proofs.Content.{content_of}
use Rattle.prettyless_laws.proofs.ShownItems.{append_shows, hard_line_shows}
use Rattle.prettyless_model.specs.Shows.{ended, shows}
use Rattle.prettyless_model.specs.declared.options.IndentationPolicy.TheVariants.{Deferred}
use Rattle.prettyless_model.specs.declared.options.RenderOptions.{RenderOptions}
use Rattle.toml_lexemes.specs.Bytes.{line_feed}
use Rattle.toml_lexemes.specs.Lexemes.{toml_lexemes_of}
use Rattle.toml_lexemes.specs.Statements.{statements}
use Rattle.toml_lexemes.proofs.ReadItems.{shown_as_read}
use Rattle.toml_grammar.specs.Nesting.{is_too_deep, max_brackets}
use Rattle.toml_documents.specs.Alignment.{comments_as}
use Rattle.toml_formatter.specs.Depths.{TakesWithin}
use Rattle.toml_documents.specs.Documents.{document_from, lines_with, toml_document, Draft}
use Rattle.toml_formatter.specs.Drafts.{ReadsStatement}
use Rattle.toml_documents.specs.Laid.{HasTomlOptions, IsLaidToml, IsLaidTomlDocument, toml_options}
use Rattle.toml_formatter.specs.Formats.{IsTomlLayout, ShowsToml}
use Rattle.toml_formatter.specs.Lines.{TakesStatement}
use Rattle.toml_formatter.specs.Presses.{blank_after, AddsLines, HasLines, IsPressed}
use Rattle.prettyless_laws.specs.InTurn.{EndsHard}
use Rattle.toml_documents.specs.Sheets.{IsSheet}
use Rattle.toml_formatter.specs.declared.document.Laid.{Laid}
use Rattle.toml_formatter.specs.declared.document.Press.{Press}
use Rattle.toml_documents.specs.declared.sheet.Sheet.{Sheet}
use Rattle.toml_documents.specs.declared.style.Style.{Style}
use Rattle.toml_documents.proofs.Aligning.{aligned_statements}
use Rattle.toml_formatter.proofs.DepthLemmas.{line_end_within, next_within}
use Rattle.toml_formatter.proofs.DraftLemmas.{all_read, blank_reads}
use Rattle.toml_formatter.proofs.Documents.{AddsStatement, document_blank, document_more, document_none, document_whole}
use Rattle.prettyless_laws.proofs.InTurn.{lines_layout, lines_more, lines_none}

-- indents are written with the first content of their lines
pub deferred : (style : Style) (o : RenderOptions) → HasTomlOptions style o → o.indentation_policy ≡ Deferred
deferred style o h = ap (λ (x : RenderOptions). x.indentation_policy) h.1

-- ---- lines

-- the layout of lines more
pub lines_added : (o : RenderOptions) (before after : Sheet) (q : Tree) (c : List ℕ) → o.indentation_policy ≡ Deferred → EndsHard q
    → layout o q ≡ Whole c → ((bytes : List ℕ) → IsSheet before bytes → IsSheet after (bytes ++ c))
    → AddsLines o before after (λ d. append d q)
lines_added o before after q c later hard whole more = λ d h.
    (h.0 ++ c, lines_more o later d q h.0 c h.1 hard whole, more h.0 h.2)

-- no lines
pub none_added : (o : RenderOptions) (sheet : Sheet) (blank : Bool) → blank ≡ false → AddsLines o sheet sheet (blank_after blank)
none_added o sheet blank e = λ d h. subst (λ (b : Bool). HasLines o sheet (blank_after b d)) (sym e) h

-- a blank line
pub blank_added : (o : RenderOptions) (before after : Sheet) (blank : Bool) (q : Tree) → blank ≡ true → q ≡ HardLine
    → AddsLines o before after (λ d. append d q) → AddsLines o before after (blank_after blank)
blank_added o before after true q some is f = λ d h. subst (λ (x : Tree). HasLines o after (append d x)) is (f d h)
blank_added o before after false q some is f = absurd (cc)

lines_with_is : (blank : Bool) (d s : Tree) → append (blank_after blank d) (append s HardLine) ≡ lines_with blank d s
lines_with_is true d s = refl
lines_with_is false d s = refl

-- a blank line or none, and a statement
pub statement_added : (o : RenderOptions) (before between after : Sheet) (blank : Bool) (s : Tree)
    → AddsLines o before between (blank_after blank) → AddsLines o between after (λ d. append d (append s HardLine))
    → AddsLines o before after (λ d. lines_with blank d s)
statement_added o before between after blank s f g = λ d h.
    subst (HasLines o after) (lines_with_is blank d s) (g (blank_after blank d) (f d h))

-- what it shows
statement_shows : (blank : Bool) (d s : Tree) → AddsStatement blank d s (lines_with blank d s)
statement_shows true d s = record {
  front = append d HardLine;
  front_shows = λ xs x. append_shows d HardLine xs (ended ∷ []) x hard_line_shows;
  whole_shows = λ xs ys x y.
      append_shows (append d HardLine) (append s HardLine) xs (ys ++ ended ∷ []) x
      (append_shows s HardLine ys (ended ∷ []) y hard_line_shows);
}
statement_shows false d s = record {
  front = d;
  front_shows = λ xs x. subst (shows d) (sym (append-nil xs)) x;
  whole_shows = λ xs ys x y.
      append_shows d (append s HardLine) xs (ys ++ ended ∷ []) x (append_shows s HardLine ys (ended ∷ []) y hard_line_shows);
}

-- ---- statements

-- between two statements
abbrev draft : Tree → Bool → Bool → Draft
draft done some blank = record { done = done; some = some; blank = blank; levels = [] }

-- the same lexemes are left
pub same_left : (press : Press) (laid : Laid) {left other : List (List ℕ)} → left ≡ other → IsPressed press laid left
    → IsPressed press laid other
same_left press laid e h = subst (IsPressed press laid) e h

-- none is laid out
pub none_laid : (press : Press) (laid : Laid) → HasTomlOptions press.style press.options → laid.sheet.align ≡ press.style.align
    → laid.some ≡ false → laid.blank ≡ false → IsSheet laid.sheet [] → IsPressed press laid (toml_lexemes_of press.text.now)
none_laid press laid options align some blank sheet =
    let ss = toml_lexemes_of press.text.now in
    record {
      done = Nil;
      taken = [];
      options = options;
      align = align;
      cut = refl;
      document = document_none ss Nil refl;
      within = λ n h. refl;
      same = λ i. document_from press.style (record { done = Nil; some = sym some i; blank = sym blank i; levels = [] }) ss;
      lines = ([], lines_none press.options, sheet);
    }

-- a line end is taken
pub line_end_laid : (press : Press) (laid after : Laid) (left : List (List ℕ)) → after.sheet ≡ laid.sheet → after.some ≡ laid.some
    → after.blank ≡ laid.some → IsPressed press laid ((line_feed ∷ []) ∷ left) → IsPressed press after left
line_end_laid press laid after left sheet some blank h =
    let lines : HasLines press.options after.sheet h.done = subst (λ (s : Sheet). HasLines press.options s h.done) (sym sheet) h.lines in
    record {
      done = h.done;
      taken = h.taken ++ (line_feed ∷ []) ∷ [];
      options = h.options;
      align = ap (λ (s : Sheet). s.align) sheet ∙ h.align;
      cut = h.cut ∙ sym (append_assoc h.taken ((line_feed ∷ []) ∷ []) left);
      document = document_blank left h.taken h.done h.document;
      within = next_within max_brackets (toml_lexemes_of press.text.now) left {between = (line_feed ∷ []) ∷ left} h.within refl (line_end_within left);
      same = h.same ∙ blank_reads press.style (draft h.done laid.some laid.blank) left
          ∙ (λ i. document_from press.style
          (record { done = h.done; some = sym some i; blank = sym blank i; levels = [] }) left);
      lines = lines;
    }

-- a statement is laid out
pub statement_laid : (press : Press) (laid after : Laid) (s : List ℕ) (old left : List (List ℕ)) (tree : Tree)
    → TakesStatement (s ∷ old) left tree → ReadsStatement press.style (s ∷ old) left tree → TakesWithin max_brackets (s ∷ old) left
    → AddsLines press.options laid.sheet after.sheet (λ d. lines_with laid.blank d tree)
    → after.sheet.align ≡ laid.sheet.align → after.some ≡ true → after.blank ≡ false
    → IsPressed press laid (s ∷ old) → IsPressed press after left
statement_laid press laid after s old left tree made read within added align some blank h =
    let more = document_more left (statement_shows laid.blank h.done tree) h.document made in
    record {
      done = lines_with laid.blank h.done tree;
      taken = h.taken ++ more.0;
      options = h.options;
      align = align ∙ h.align;
      cut = h.cut ∙ ap (λ (ss : List (List ℕ)). h.taken ++ ss) more.1 ∙ sym (append_assoc h.taken more.0 left);
      document = more.2;
      within = next_within max_brackets (toml_lexemes_of press.text.now) left {between = s ∷ old} h.within refl within;
      same = h.same ∙ read (draft h.done laid.some laid.blank)
          ∙ (λ i. document_from press.style
          (record { done = lines_with laid.blank h.done tree; some = sym some i; blank = sym blank i; levels = [] }) left);
      lines = added h.done h.lines;
    }

-- the same where that may have failed
pub lay_on : {A E : Type 0} (r : Result A E) (press : Press) (laid after : Laid) (s : List ℕ) (old left : List (List ℕ)) (tree : Tree)
    → TakesStatement (s ∷ old) left tree → ReadsStatement press.style (s ∷ old) left tree → TakesWithin max_brackets (s ∷ old) left
    → OnOk r (AddsLines press.options laid.sheet after.sheet (λ d. lines_with laid.blank d tree))
    → after.sheet.align ≡ laid.sheet.align → OnOk r (after.some ≡ true) → OnOk r (after.blank ≡ false)
    → IsPressed press laid (s ∷ old) → OnOk r (IsPressed press after left)
lay_on (Ok x) press laid after s old left tree made read within added align some blank h =
    statement_laid press laid after s old left tree made read within added align some blank h
lay_on (Err e) press laid after s old left tree made read within added align some blank h = tt

-- ---- the whole text

module _ (press : Press) (laid : Laid) (h : IsPressed press laid []) (made : List ℕ)
    (is : (bytes : List ℕ) → IsSheet laid.sheet bytes → made ≡ comments_as laid.sheet.align bytes) where
  all_taken : toml_lexemes_of press.text.now ≡ h.taken
  all_taken = h.cut ∙ append-nil h.taken

  is_laid : layout press.options h.done ≡ Whole h.lines.0
  is_laid = lines_layout press.options h.done h.lines.0 h.lines.1

  document_is : toml_document press.style (toml_lexemes_of press.text.now) ≡ h.done
  document_is = h.same ∙ all_read press.style (draft h.done laid.some laid.blank)

  shown : ShowsToml press.text.now h.lines.0
  shown =
      let has = document_whole press.text.now h.taken h.done all_taken h.document in
      let content = content_of press.options h.done h.lines.0 is_laid in
      record {
        document = h.done;
        options = press.options;
        shows = has;
        laid = is_laid;
        same = shown_as_read h.lines.0 has.items has.stage has.read has.unmarked (content.shown has.items has.shown) ∙ has.same;
      }

  document_laid : IsLaidTomlDocument press.style press.text.now h.lines.0
  document_laid =
      let same : layout (toml_options press.style h.options.0) (toml_document press.style (toml_lexemes_of press.text.now))
      ≡ layout press.options h.done = λ i. layout (sym h.options.1 i) (document_is i) in
      record { ending = h.options.0; laid = same ∙ is_laid }

  made_is : made ≡ comments_as press.style.align h.lines.0
  made_is = is h.lines.0 h.lines.2 ∙ ap (λ (a : Bool). comments_as a h.lines.0) h.align

  pub text_laid : IsLaidToml press.style press.text.now made
  text_laid = record { before = h.lines.0; laid = document_laid; aligned = made_is }

  pub text_shown : IsTomlLayout press.text.now made
  text_shown = go press.style.align made_is
    where
      go : (a : Bool) → made ≡ comments_as a h.lines.0 → IsTomlLayout press.text.now made
      go true e = record {
        before = h.lines.0;
        shown = shown;
        aligned = inr e;
        same = ap statements e ∙ aligned_statements h.lines.0 ∙ shown.same;
      }
      go false e = record {
        before = h.lines.0;
        shown = shown;
        aligned = inl e;
        same = ap statements e ∙ shown.same;
      }

  pub text_shallow : is_too_deep press.text.now ≡ false
  text_shallow = h.within 0 refl
