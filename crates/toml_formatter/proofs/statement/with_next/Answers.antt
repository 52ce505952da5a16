use Rattle.std.proofs.Common.{◌≡◌, refl, sym, ◌∙◌, ap, subst, true, false, ◌∷◌, [], List, ℕ, inl, inr}
use Rattle.std.proofs.lemmas.Result.{IfOk-weaker}
use Rattle.prettyless_pointers.specs.Trees.{ref_tree}
use Rattle.toml_lexemes.specs.Bytes.{comma}
use Rattle.toml_lexemes.specs.View.{toml_text_of, HasTomlKind}
use Rattle.toml_lexemes.specs.Sound.{IsSound}
use Rattle.toml_formatter.specs.Lines.{ShowsTaken}
use Rattle.toml_grammar.specs.Nesting.{max_brackets}
use Rattle.toml_documents.specs.Gaps.{is_last_comment}
use Rattle.toml_documents.specs.Kinds.{is_closing, is_opening}
use Rattle.toml_documents.specs.declared.kind.Kind.TheVariants.{Statement}
use Rattle.toml_formatter.proofs.DepthLemmas.{closing_within, plain_within}
use Rattle.toml_formatter.proofs.DraftLemmas.{closing_reads, comma_reads, comment_reads, value_reads}
use Rattle.toml_formatter.proofs.StatementLemmas.{part_of}
use Rattle.toml_formatter.proofs.Values.{comment_whole}
use Rattle.toml_formatter.proofs.statement.with_next.Goals as goal

pub value-requires-clause-part : goal.value-requires-clause-part
value-requires-clause-part c = part_of c.args.next c.args.lexemes.now c.requires.no_line_end (sym c.closes.ensures ∙ c.if-closes.false)
    c.in_default.not-Comma c.in_default.not-Comment

pub returns-then-closes-clause-line : goal.returns-then-closes-clause-line
returns-then-closes-clause-line c =
    let ls = c.args.lexemes.now in
    let x = toml_text_of c.args.next in
    IfOk-weaker c.with_closing.result _ _ (λ made f taken h. (x ∷ [], refl, f ls taken c.requires.sound h)) c.with_closing.ensures.line

pub returns-then-closes-clause-goes_on : goal.returns-then-closes-clause-goes_on
returns-then-closes-clause-goes_on c = IfOk-weaker c.with_closing.result _ _ (λ made g. inl g) c.with_closing.ensures.goes_on

pub returns-then-closes-clause-within : goal.returns-then-closes-clause-within
returns-then-closes-clause-within c =
    let closing = sym c.closes.ensures ∙ c.if-closes.true in
    IfOk-weaker c.with_closing.result _ _ (λ made h. closing_within c.args.next closing c.args.lexemes.now) c.with_closing.ensures.line

pub returns-in_ok-with_comma-in-Comma-clause-within : goal.returns-in_ok-with_comma-in-Comma-clause-within
returns-in_ok-with_comma-in-Comma-clause-within c =
    plain_within c.args.next c.requires.named (ap is_opening c.in-Comma.is) (ap is_closing c.in-Comma.is) max_brackets c.args.lexemes.now

pub returns-in_ok-with_comment-in-Comment-clause-within : goal.returns-in_ok-with_comment-in-Comment-clause-within
returns-in_ok-with_comment-in-Comment-clause-within c =
    plain_within c.args.next c.requires.named (ap is_opening c.in-Comment.is) (ap is_closing c.in-Comment.is) max_brackets
    c.args.lexemes.now

pub returns-in_ok-with_comma-in-Comma-clause-line : goal.returns-in_ok-with_comma-in-Comma-clause-line
returns-in_ok-with_comma-in-Comma-clause-line c = λ taken h.
    let ls = c.args.lexemes.now in
    let e : toml_text_of c.args.next ≡ comma ∷ [] = ap toml_text_of c.in-Comma.is in (
      (comma ∷ []) ∷ [],
      ap (λ (s : List ℕ). s ∷ ls) e,
      c.in_ok-with_comma-in-Comma.ensures.line false ls taken c.requires.goes_on
          (subst (λ (s : List ℕ). ShowsTaken false true c.args.line (s ∷ ls) taken) e h),
    )

pub returns-in_ok-with_comma-in-Comma-clause-goes_on : goal.returns-in_ok-with_comma-in-Comma-clause-goes_on
returns-in_ok-with_comma-in-Comma-clause-goes_on c = inl (c.in_ok-with_comma-in-Comma.ensures.goes_on false c.requires.goes_on)

pub returns-in_ok-with_comment-in-Comment-clause-line : goal.returns-in_ok-with_comment-in-Comment-clause-line
returns-in_ok-with_comment-in-Comment-clause-line c = λ taken h.
    let ls = c.args.lexemes.now in
    let r = c.in-Comment.comment.now in
    let e : toml_text_of c.args.next ≡ r = ap toml_text_of c.in-Comment.is in (
      r ∷ [],
      ap (λ (s : List ℕ). s ∷ ls) e,
      c.in_ok-with_comment-in-Comment.ensures.line ls taken (subst (λ (s : List ℕ). ShowsTaken false true c.args.line (s ∷ ls) taken) e h),
    )

pub returns-in_ok-with_comment-in-Comment-clause-goes_on : goal.returns-in_ok-with_comment-in-Comment-clause-goes_on
returns-in_ok-with_comment-in-Comment-clause-goes_on c =
    let ls = c.args.lexemes.now in
    let r = c.in-Comment.comment.now in
    let e : toml_text_of c.args.next ≡ r = ap toml_text_of c.in-Comment.is in
    let named = subst HasTomlKind c.in-Comment.is c.requires.named in
    let sound = subst (λ (s : List ℕ). IsSound s ls) e c.requires.sound in
    inr (λ k. ap is_last_comment c.in_ok-with_comment-in-Comment.ensures.last ∙ c.requires.goes_on.1, (comment_whole r ls named sound).1)

pub returns-in_ok-with_value-in_default-clause-line : goal.returns-in_ok-with_value-in_default-clause-line
returns-in_ok-with_value-in_default-clause-line c = λ taken h.
    let s = toml_text_of c.args.next in
    let v = c.in_ok-value-in_default.ensures.made in
    let left = c.value.new.lexemes in
    (s ∷ v.0, ap (λ (ss : List (List ℕ)). s ∷ ss) v.1, c.in_ok-with_value-in_default.ensures.line left c.args.lexemes.now taken v.0 h v.2)

pub returns-in_ok-with_value-in_default-clause-goes_on : goal.returns-in_ok-with_value-in_default-clause-goes_on
returns-in_ok-with_value-in_default-clause-goes_on c = inl c.in_ok-with_value-in_default.ensures.goes_on

-- ---- which document is read

pub returns-then-closes-clause-read : goal.returns-then-closes-clause-read
returns-then-closes-clause-read c =
    let closing = sym c.closes.ensures ∙ c.if-closes.true in
    IfOk-weaker c.with_closing.result _ _
    (λ made f lv kinds h. closing_reads c.args.setting.now.style lv c.args.next c.args.lexemes.now made closing kinds (f lv kinds h))
    c.with_closing.ensures.stands

pub returns-in_ok-with_comma-in-Comma-clause-read : goal.returns-in_ok-with_comma-in-Comma-clause-read
returns-in_ok-with_comma-in-Comma-clause-read c = λ lv kinds h.
    comma_reads c.args.setting.now.style false lv (toml_text_of c.args.next) c.args.lexemes.now c.in_ok-with_comma-in-Comma.field-0
    (ap toml_text_of c.in-Comma.is) (c.in_ok-with_comma-in-Comma.ensures.stands lv h)

pub returns-in_ok-with_comment-in-Comment-clause-read : goal.returns-in_ok-with_comment-in-Comment-clause-read
returns-in_ok-with_comment-in-Comment-clause-read c = λ lv kinds h.
    comment_reads c.args.setting.now.style false lv (toml_text_of c.args.next) c.in-Comment.comment.now c.args.lexemes.now
    c.in_ok-with_comment-in-Comment.field-0 (ap toml_text_of c.in-Comment.is) (subst HasTomlKind c.in-Comment.is c.requires.named)
    (c.in_ok-with_comment-in-Comment.ensures.stands lv kinds h)

pub returns-in_ok-with_value-in_default-clause-read : goal.returns-in_ok-with_value-in_default-clause-read
returns-in_ok-with_value-in_default-clause-read c = λ lv kinds h.
    let part = part_of c.args.next c.args.lexemes.now c.requires.no_line_end (sym c.closes.ensures ∙ c.if-closes.false)
    c.in_default.not-Comma c.in_default.not-Comment in
    value_reads c.args.setting.now.style false Statement lv c.args.next c.args.lexemes.now c.value.new.lexemes
    (ref_tree c.in_ok-value-in_default.value) c.in_ok-with_value-in_default.field-0 c.requires.named part kinds
    c.in_ok-value-in_default.ensures.read (c.in_ok-with_value-in_default.ensures.stands lv kinds h)
