use Rattle.std.proofs.Common.{◌≡◌, refl, sym, ◌∙◌, ap, subst, Bool, true, false, ◌∷◌, [], List, ℕ, inl, inr}
use Rattle.prettyless_trees.specs.Counted.{text}
use Rattle.prettyless_pointers.specs.Trees.{ref_tree}
use Rattle.toml_lexemes.specs.Bytes.{comma, ends_with_dot}
use Rattle.toml_lexemes.specs.Statements.{trimmed}
use Rattle.toml_lexemes.specs.View.{toml_text_of, HasTomlKind}
use Rattle.toml_lexemes.specs.declared.lexeme.Lexeme.{Lexeme}
use Rattle.toml_lexemes.specs.declared.lexeme.Lexeme.TheVariants as lexeme
use Rattle.toml_grammar.specs.Nesting.{max_brackets}
use Rattle.toml_documents.specs.Kinds.{is_closing, is_opening, last_after_word, last_after, last_after_sort}
use Rattle.toml_grammar.specs.Sorts.{Sort}
use Rattle.toml_grammar.proofs.Allowed.{sort_comment}
use Rattle.toml_documents.specs.Gaps.{is_last_comment}
use Rattle.toml_lexemes.specs.Sound.{IsSound}
use Rattle.toml_documents.specs.Documents.{document_from, new_statement, with_part}
use Rattle.toml_formatter.specs.Drafts.{Stands}
use Rattle.toml_documents.specs.declared.kind.Last.TheVariants as last
use Rattle.toml_formatter.specs.Lines.{ShowsTaken, MayGoOn, begun}
use Rattle.toml_formatter.specs.declared.line.Line.{Line}
use Rattle.toml_formatter.proofs.DepthLemmas.{closing_within, plain_within}
use Rattle.toml_formatter.proofs.DraftLemmas.{begun_stands, closing_first, closing_last, comma_first, first_reads, comment_first_reads}
use Rattle.toml_documents.proofs.LexemeKinds.{part_last}
use Rattle.toml_formatter.proofs.LineLemmas.{trimmed_shows}
use Rattle.toml_formatter.proofs.StatementLemmas.{bracket_begins, comma_begins, part_of, comment_begins, value_begins}
use Rattle.toml_formatter.proofs.Values.{closing_shows, part_whole, comment_whole, ShowsClosing}
use Rattle.toml_formatter.proofs.statement.begun.Goals as goal

pub value-requires-clause-part : goal.value-requires-clause-part
value-requires-clause-part c = part_of c.args.first c.args.lexemes.now c.requires.no_line_end (sym c.closes.ensures ∙ c.if-closes.false)
    c.in_default.not-Comma c.in_default.not-Comment

pub returns-then-closes-clause-line : goal.returns-then-closes-clause-line
returns-then-closes-clause-line c =
    let x = c.args.first in
    let ls = c.args.lexemes.now in
    let d = ref_tree c.in_ok-bracket.bracket in
    let closing : is_closing x ≡ true = sym c.closes.ensures ∙ c.if-closes.true in
    let closer : ShowsClosing x ls d = record {
      closes = closing;
      sound = c.requires.sound;
      shown = closing_shows x d c.text.result.now closing c.text.ensures c.in_ok-bracket.ensures.items;
    } in (
      toml_text_of x ∷ [],
      refl,
      subst (λ (l : Line). ShowsTaken false true l ls (toml_text_of x ∷ [])) (sym c.begun.ensures)
          (bracket_begins c.in_ok-bracket.bracket closer),
    )

pub returns-then-closes-clause-within : goal.returns-then-closes-clause-within
returns-then-closes-clause-within c =
    closing_within c.args.first (sym c.closes.ensures ∙ c.if-closes.true) c.args.lexemes.now

pub returns-in_ok-text-in-Comma-clause-within : goal.returns-in_ok-text-in-Comma-clause-within
returns-in_ok-text-in-Comma-clause-within c =
    plain_within c.args.first c.requires.named (ap is_opening c.in-Comma.is) (ap is_closing c.in-Comma.is) max_brackets c.args.lexemes.now

pub returns-in_ok-text-in-Comment-clause-within : goal.returns-in_ok-text-in-Comment-clause-within
returns-in_ok-text-in-Comment-clause-within c =
    plain_within c.args.first c.requires.named (ap is_opening c.in-Comment.is) (ap is_closing c.in-Comment.is) max_brackets
    c.args.lexemes.now

pub returns-in_ok-text-in-Comma-clause-line : goal.returns-in_ok-text-in-Comma-clause-line
returns-in_ok-text-in-Comma-clause-line c =
    let ls = c.args.lexemes.now in
    let e : toml_text_of c.args.first ≡ comma ∷ [] = ap toml_text_of c.in-Comma.is in (
      (comma ∷ []) ∷ [],
      ap (λ (s : List ℕ). s ∷ ls) e,
      subst (λ (l : Line). ShowsTaken false true l ls ((comma ∷ []) ∷ [])) (sym c.begun-in-Comma.ensures)
          (comma_begins c.in_ok-text-in-Comma.field-0 ls c.in_ok-text-in-Comma.ensures.items),
    )

pub returns-in_ok-text-in-Comment-clause-line : goal.returns-in_ok-text-in-Comment-clause-line
returns-in_ok-text-in-Comment-clause-line c =
    let ls = c.args.lexemes.now in
    let r = c.in-Comment.comment.now in
    let e : toml_text_of c.args.first ≡ r = ap toml_text_of c.in-Comment.is in
    let named = subst HasTomlKind c.in-Comment.is c.requires.named in
    let sound = subst (λ (s : List ℕ). IsSound s ls) e c.requires.sound in
    let d = c.in_ok-text-in-Comment in (
      r ∷ [],
      ap (λ (s : List ℕ). s ∷ ls) e,
      subst (λ (l : Line). ShowsTaken false true l ls (r ∷ [])) (sym c.begun-in-Comment.ensures)
          (comment_begins d.field-0 r ls named (comment_whole r ls named sound).0
          (trimmed_shows (ref_tree d.field-0) r c.trimmed.result.now named c.trimmed.ensures d.ensures.items)),
    )

pub returns-in_ok-text-in-Comment-clause-goes_on : goal.returns-in_ok-text-in-Comment-clause-goes_on
returns-in_ok-text-in-Comment-clause-goes_on c =
    let ls = c.args.lexemes.now in
    let r = c.in-Comment.comment.now in
    let e : toml_text_of c.args.first ≡ r = ap toml_text_of c.in-Comment.is in
    let named = subst HasTomlKind c.in-Comment.is c.requires.named in
    let sound = subst (λ (s : List ℕ). IsSound s ls) e c.requires.sound in
    subst (λ (l : Line). MayGoOn l ls) (sym c.begun-in-Comment.ensures) (inr (λ e. absurd (cc), (comment_whole r ls named sound).1))

pub returns-in_ok-value-in_default-clause-line : goal.returns-in_ok-value-in_default-clause-line
returns-in_ok-value-in_default-clause-line c =
    let x = c.args.first in
    let v = c.in_ok-value-in_default.ensures.made in
    let left = c.value.new.lexemes in
    let part = part_of x c.args.lexemes.now c.requires.no_line_end (sym c.closes.ensures ∙ c.if-closes.false) c.in_default.not-Comma
    c.in_default.not-Comment in (
      toml_text_of x ∷ v.0,
      ap (λ (ss : List (List ℕ)). toml_text_of x ∷ ss) v.1,
      subst (λ (l : Line). ShowsTaken false true l left (toml_text_of x ∷ v.0))
          (sym (c.begun-in_default.ensures ∙ ap (begun c.in_ok-value-in_default.value) c.last_of.ensures))
          (value_begins c.in_ok-value-in_default.value (last_after x) (toml_text_of x) left v.0
          (part_whole x c.args.lexemes.now c.requires.named part c.requires.sound) v.2),
    )

pub returns-in_ok-value-in_default-clause-goes_on : goal.returns-in_ok-value-in_default-clause-goes_on
returns-in_ok-value-in_default-clause-goes_on c =
    subst (λ (l : Line). MayGoOn l c.value.new.lexemes)
    (sym (c.begun-in_default.ensures ∙ ap (begun c.in_ok-value-in_default.value) c.last_of.ensures))
    (inl (refl, no_comment c.args.first))
  where
    no_comment : (x : Lexeme) → is_last_comment (last_after x) ≡ false
    no_comment lexeme.OpenArray = refl
    no_comment lexeme.OpenTable = refl
    no_comment lexeme.CloseArray = refl
    no_comment lexeme.CloseTable = refl
    no_comment lexeme.Comma = refl
    no_comment lexeme.Equals = refl
    no_comment lexeme.LineEnd = refl
    no_comment (lexeme.Comment s) = refl
    no_comment (lexeme.String s) = refl
    no_comment (lexeme.Word s) = after_word (ends_with_dot s.now)
      where
        after_word : (dotted : Bool) → is_last_comment (last_after_word dotted) ≡ false
        after_word true = refl
        after_word false = refl

-- ---- which document is read

pub returns-then-closes-clause-read : goal.returns-then-closes-clause-read
returns-then-closes-clause-read c =
    let s = toml_text_of c.args.first in
    let closing : is_closing c.args.first ≡ true = sym c.closes.ensures ∙ c.if-closes.true in
    record {
      level = with_part new_statement s (text s);
      kind = refl;
      stands = subst (λ (l : Line). Stands (with_part new_statement s (text s)) l) (sym c.begun.ensures)
          (begun_stands c.in_ok-bracket.bracket last.Close s (text s) (c.in_ok-bracket.ensures.ok ∙ ap text c.text.ensures)
          (closing_last c.args.first closing));
      same = λ d. closing_first c.args.setting.now.style c.args.first closing d c.args.lexemes.now;
    }

pub returns-in_ok-text-in-Comma-clause-read : goal.returns-in_ok-text-in-Comma-clause-read
returns-in_ok-text-in-Comma-clause-read c =
    let style = c.args.setting.now.style in
    let ls = c.args.lexemes.now in
    let e : toml_text_of c.args.first ≡ comma ∷ [] = ap toml_text_of c.in-Comma.is in
    record {
      level = with_part new_statement (comma ∷ []) (text (comma ∷ []));
      kind = refl;
      stands = subst (λ (l : Line). Stands (with_part new_statement (comma ∷ []) (text (comma ∷ []))) l) (sym c.begun-in-Comma.ensures)
          (begun_stands c.in_ok-text-in-Comma.field-0 last.Comma (comma ∷ []) (text (comma ∷ [])) c.in_ok-text-in-Comma.ensures.ok refl);
      same = λ d. ap (λ (s : List ℕ). document_from style (record d { levels = [] }) (s ∷ ls)) e ∙ comma_first style d ls;
    }

pub returns-in_ok-text-in-Comment-clause-read : goal.returns-in_ok-text-in-Comment-clause-read
returns-in_ok-text-in-Comment-clause-read c =
    let style = c.args.setting.now.style in
    let ls = c.args.lexemes.now in
    let r = c.in-Comment.comment.now in
    let e : toml_text_of c.args.first ≡ r = ap toml_text_of c.in-Comment.is in
    let named = subst HasTomlKind c.in-Comment.is c.requires.named in
    let d = c.in_ok-text-in-Comment in
    record {
      level = with_part new_statement r (text (trimmed r));
      kind = refl;
      stands = subst (λ (l : Line). Stands (with_part new_statement r (text (trimmed r))) l) (sym c.begun-in-Comment.ensures)
          (begun_stands d.field-0 last.Comment r (text (trimmed r)) (d.ensures.ok ∙ ap text c.trimmed.ensures)
          (ap (λ (k : Sort). last_after_sort k (ends_with_dot r)) (sym (sort_comment r named))));
      same = λ d. ap (λ (s : List ℕ). document_from style (record d { levels = [] }) (s ∷ ls)) e ∙ comment_first_reads style d r ls named;
    }

pub returns-in_ok-value-in_default-clause-read : goal.returns-in_ok-value-in_default-clause-read
returns-in_ok-value-in_default-clause-read c =
    let style = c.args.setting.now.style in
    let x = c.args.first in
    let s = toml_text_of x in
    let v = c.in_ok-value-in_default in
    let tree = ref_tree v.value in
    let part = part_of x c.args.lexemes.now c.requires.no_line_end (sym c.closes.ensures ∙ c.if-closes.false) c.in_default.not-Comma
    c.in_default.not-Comment in
    record {
      level = with_part new_statement s tree;
      kind = refl;
      stands = subst (λ (l : Line). Stands (with_part new_statement s tree) l) (sym (c.begun-in_default.ensures ∙ ap (begun v.value) c.last_of.ensures))
          (begun_stands v.value (last_after x) s tree refl (part_last x c.requires.named part));
      same = λ d. first_reads style x c.requires.named part d c.args.lexemes.now ∙ v.ensures.read d new_statement [] refl;
    }
