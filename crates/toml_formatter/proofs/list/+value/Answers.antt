use Rattle.std.proofs.Common.{◌≡◌, refl, sym, ◌∙◌, ap, subst, true, Bool, List, [], ◌∷◌, ◌++◌, ℕ, append_assoc, arith}
use Rattle.std.proofs.lemmas.Result.{IfErr-weaker, IfOk-weaker}
use Rattle.toml_grammar.specs.Nesting.{nest_too_deep}
use Rattle.prettyless_pointers.specs.Trees.{ref_tree}
use Rattle.toml_lexemes.specs.Bytes.{comma, line_feed}
use Rattle.toml_lexemes.specs.View.{toml_text_of, HasTomlKind}
use Rattle.toml_documents.specs.Gaps.{is_nested}
use Rattle.toml_documents.specs.Kinds.{is_opening}
use Rattle.toml_formatter.specs.Errors.{IsRefusalWithin}
use Rattle.toml_formatter.specs.declared.error.FormatError.TheVariants.{TooDeep}
use Rattle.toml_formatter.proofs.DepthLemmas.{bracket_refused, closed_within, ended_within, list_refused, memory_within, next_within}
use Rattle.toml_formatter.proofs.DepthLemmas.{of_memory, part_within, passed_on, plain_within, refused_after}
use Rattle.toml_formatter.proofs.DraftLemmas.{comma_reads, line_end_reads, list_reads, plain_levels, reads_none, reads_then, comment_reads}
use Rattle.toml_formatter.proofs.DraftLemmas.{unclosed_list_reads, value_reads}
use Rattle.toml_documents.proofs.LexemeKinds.{list_part}
use Rattle.toml_formatter.proofs.Values.{part_alone}
use Rattle.toml_documents.specs.Documents.{document_from, Level, lexeme_tree, new_level, with_part}
use Rattle.toml_formatter.specs.Drafts.{ReadsOn}
use Rattle.toml_formatter.specs.Lines.{ShowsTaken, TakesLine}
use Rattle.toml_documents.specs.Numbers.{kind_before}
use Rattle.toml_documents.specs.declared.kind.Kind.{Kind}
use Rattle.toml_formatter.proofs.list.+value.Goals as goal

pub inside-loop-next-preserved : goal.inside-loop-next-preserved
inside-loop-next-preserved t c =
    let before = c.loop-next.invariant.0 in
    let s = toml_text_of c.in-Some.next in
    let left = c.next_inside.new.self in
    let h = subst (λ (ss : List (List ℕ)). ShowsTaken true true c.loop-next.line ss before.0) c.in-Some.ensures.some.0 before.2 in
    let made = c.in_ok-line-2.ensures.made before.0 h in
    let line : TakesLine c.in_ok-line-2.line c.args.lexemes.now c.with_next.new.lexemes = (
      before.0 ++ made.0,
      before.1 ∙ ap (λ (ss : List (List ℕ)). before.0 ++ ss) (c.in-Some.ensures.some.0 ∙ made.1)
          ∙ sym (append_assoc before.0 made.0 c.with_next.new.lexemes),
      made.2,
    ) in
    let read = λ (opening : List ℕ).
    reads_then c.args.setting.now.style true c.args.kind (new_level c.args.kind opening) c.args.lexemes.now c.loop-next.lexemes (s ∷ left)
    c.with_next.new.lexemes c.loop-next.line c.in_ok-line-2.line refl (c.loop-next.invariant.2 opening) c.in-Some.ensures.some.0
    c.in_ok-line-2.ensures.read in
    (line, next_within c.args.depth c.args.lexemes.now c.with_next.new.lexemes c.loop-next.invariant.1 c.in-Some.ensures.some.0 c.in_ok-line-2.ensures.within, read)

pub inside-loop-next-init : goal.inside-loop-next-init
inside-loop-next-init t c =
    let line : TakesLine c.in_ok-line.line c.args.lexemes.now c.args.lexemes.now = ([], refl, c.in_ok-line.ensures.line c.args.lexemes.now) in
    let read = λ (opening : List ℕ).
    reads_none c.args.setting.now.style true (new_level c.args.kind opening) c.args.lexemes.now c.in_ok-line.line
    (c.in_ok-line.ensures.stands c.args.kind opening) in
    (line, λ n h. refl, read)

pub value-returns-then-not-opens-clause-made : goal.value-returns-then-not-opens-clause-made
value-returns-then-not-opens-clause-made t c = (
  [],
  refl,
  part_alone c.args.first c.text.result.now c.args.lexemes.now (ref_tree c.in_ok-lexeme.field-0) c.requires.named c.requires.part
      (sym c.opens.ensures ∙ c.if-not-opens.true) c.text.ensures c.in_ok-lexeme.ensures.items,
)

pub value-returns-then-not-opens-clause-within : goal.value-returns-then-not-opens-clause-within
value-returns-then-not-opens-clause-within t c =
    part_within c.args.first c.requires.named c.requires.part (sym c.opens.ensures ∙ c.if-not-opens.true) c.args.depth c.args.lexemes.now

pub value-returns-in-Some-clause-made : goal.value-returns-in-Some-clause-made
value-returns-in-Some-clause-made t c =
    let line = c.in_ok-line.ensures.made in
    let close = toml_text_of c.in-Some.close in
    let left = c.next.new.self in
    IfOk-weaker c.closed.result _ _
    (λ p made. (
      line.0 ++ close ∷ [],
      line.1 ∙ ap (λ (ss : List (List ℕ)). line.0 ++ ss) c.in-Some.ensures.next ∙ sym (append_assoc line.0 (close ∷ []) left),
      made left line.0 c.in-Some.ensures.sound
          (subst (λ (ss : List (List ℕ)). ShowsTaken true true c.in_ok-line.line ss line.0) c.in-Some.ensures.next line.2),
    ))
    c.closed.ensures.made

pub with_next-returns-in-LineEnd-clause-made : goal.with_next-returns-in-LineEnd-clause-made
with_next-returns-in-LineEnd-clause-made t c = λ taken h.
    let ls = c.args.lexemes.now in
    let e : toml_text_of c.args.next ≡ line_feed ∷ [] = ap toml_text_of c.in-LineEnd.is in (
      (line_feed ∷ []) ∷ [],
      ap (λ (s : List ℕ). s ∷ ls) e,
      c.with_line_end.ensures.line ls taken (subst (λ (s : List ℕ). ShowsTaken true true c.args.line (s ∷ ls) taken) e h),
    )

pub with_next-returns-in-LineEnd-clause-within : goal.with_next-returns-in-LineEnd-clause-within
with_next-returns-in-LineEnd-clause-within t c =
    plain_within c.args.next c.requires.named (ap is_opening c.in-LineEnd.is) c.requires.part c.args.depth c.args.lexemes.now

pub with_next-returns-in_ok-with_comma-in-Comma-clause-within : goal.with_next-returns-in_ok-with_comma-in-Comma-clause-within
with_next-returns-in_ok-with_comma-in-Comma-clause-within t c =
    plain_within c.args.next c.requires.named (ap is_opening c.in-Comma.is) c.requires.part c.args.depth c.args.lexemes.now

pub with_next-returns-in_ok-with_comment-in-Comment-clause-within : goal.with_next-returns-in_ok-with_comment-in-Comment-clause-within
with_next-returns-in_ok-with_comment-in-Comment-clause-within t c =
    plain_within c.args.next c.requires.named (ap is_opening c.in-Comment.is) c.requires.part c.args.depth c.args.lexemes.now

pub with_next-returns-in_ok-with_comma-in-Comma-clause-made : goal.with_next-returns-in_ok-with_comma-in-Comma-clause-made
with_next-returns-in_ok-with_comma-in-Comma-clause-made t c = λ taken h.
    let ls = c.args.lexemes.now in
    let e : toml_text_of c.args.next ≡ comma ∷ [] = ap toml_text_of c.in-Comma.is in (
      (comma ∷ []) ∷ [],
      ap (λ (s : List ℕ). s ∷ ls) e,
      c.in_ok-with_comma-in-Comma.ensures.line true ls taken tt (subst (λ (s : List ℕ).
          ShowsTaken true true c.args.line (s ∷ ls) taken) e h),
    )

pub with_next-returns-in_ok-with_comment-in-Comment-clause-made : goal.with_next-returns-in_ok-with_comment-in-Comment-clause-made
with_next-returns-in_ok-with_comment-in-Comment-clause-made t c = λ taken h.
    let ls = c.args.lexemes.now in
    let r = c.in-Comment.comment.now in
    let n = is_nested c.args.kind in
    let e : toml_text_of c.args.next ≡ r = ap toml_text_of c.in-Comment.is in
    let made = c.in_ok-with_comment-in-Comment in (
      r ∷ [],
      ap (λ (s : List ℕ). s ∷ ls) e,
      subst (λ (m : Bool). ShowsTaken m true made.field-0 ls (taken ++ r ∷ [])) c.requires.kind
          (made.ensures.line ls taken
          (subst (λ (m : Bool). ShowsTaken m true c.args.line (r ∷ ls) taken) (sym c.requires.kind)
          (subst (λ (s : List ℕ). ShowsTaken true true c.args.line (s ∷ ls) taken) e h))),
    )

pub with_next-returns-in_ok-with_value-in_default-clause-made : goal.with_next-returns-in_ok-with_value-in_default-clause-made
with_next-returns-in_ok-with_value-in_default-clause-made t c = λ taken h.
    let s = toml_text_of c.args.next in
    let v = c.in_ok-value-in_default.ensures.made in
    let left = c.value.new.lexemes in
    let made = c.in_ok-with_value-in_default in (
      s ∷ v.0,
      ap (λ (ss : List (List ℕ)). s ∷ ss) v.1,
      subst (λ (m : Bool). ShowsTaken m true made.field-0 left (taken ++ (s ∷ v.0))) c.requires.kind
          (made.ensures.line left c.args.lexemes.now taken v.0
          (subst (λ (m : Bool). ShowsTaken m true c.args.line (s ∷ c.args.lexemes.now) taken) (sym c.requires.kind) h) v.2),
    )

-- ---- how deep brackets are

pub value-returns-in_err-lexeme-clause-err : goal.value-returns-in_err-lexeme-clause-err
value-returns-in_err-lexeme-clause-err t c =
    of_memory _ c.from_residual.result (memory_within c.args.depth (toml_text_of c.args.first ∷ c.args.lexemes.now)) c.from_residual.ensures.1

pub value-returns-then-depth-eq0-clause-err : goal.value-returns-then-depth-eq0-clause-err
value-returns-then-depth-eq0-clause-err t c =
    let ss = toml_text_of c.args.first ∷ c.args.lexemes.now in
    subst (λ (n : ℕ). IsRefusalWithin n ss TooDeep) (sym c.if-depth-eq0.true)
    (bracket_refused c.args.first (sym c.opens.ensures ∙ c.if-not-opens.false) c.args.lexemes.now)

pub value-returns-in_err-line-clause-err : goal.value-returns-in_err-line-clause-err
value-returns-in_err-line-clause-err t c =
    passed_on _ c.from_residual-in_err-line.result c.in_err-line.field-0.0 c.from_residual-in_err-line.ensures.1
    (list_refused c.args.first (sym c.opens.ensures ∙ c.if-not-opens.false) c.args.depth (omega (arith, c.if-depth-eq0.false))
    c.args.lexemes.now c.in_err-line.field-0.0 c.in_err-line.ensures.err)

pub value-returns-in-Some-clause-within : goal.value-returns-in-Some-clause-within
value-returns-in-Some-clause-within t c =
    let line = c.in_ok-line.ensures in
    let within = closed_within c.args.first (sym c.opens.ensures ∙ c.if-not-opens.false) c.args.depth (omega (arith, c.if-depth-eq0.false))
    c.args.lexemes.now (toml_text_of c.in-Some.close) c.next.new.self c.in-Some.ensures.next line.closing line.within in
    IfOk-weaker c.closed.result _ _ (λ p made. within) c.closed.ensures.made

pub value-returns-in-Some-clause-err : goal.value-returns-in-Some-clause-err
value-returns-in-Some-clause-err t c =
    IfErr-weaker c.closed.result _ _ (memory_within c.args.depth (toml_text_of c.args.first ∷ c.args.lexemes.now)) c.closed.ensures.err

pub value-returns-in-None-clause-within : goal.value-returns-in-None-clause-within
value-returns-in-None-clause-within t c =
    let none = c.in-None.ensures.next in
    let within = ended_within c.args.first (sym c.opens.ensures ∙ c.if-not-opens.false) c.args.depth (omega (arith, c.if-depth-eq0.false))
    c.args.lexemes.now none.0 none.1 c.in_ok-line.ensures.within in
    IfOk-weaker c.unclosed.result _ _ (λ p made. within) c.unclosed.ensures.made

pub value-returns-in-None-clause-err : goal.value-returns-in-None-clause-err
value-returns-in-None-clause-err t c =
    IfErr-weaker c.unclosed.result _ _ (memory_within c.args.depth (toml_text_of c.args.first ∷ c.args.lexemes.now)) c.unclosed.ensures.err

pub inside-returns-in_err-line-clause-err : goal.inside-returns-in_err-line-clause-err
inside-returns-in_err-line-clause-err t c =
    of_memory _ c.from_residual.result (memory_within c.args.depth c.args.lexemes.now) c.from_residual.ensures.1

pub inside-returns-in_err-line-2-clause-err : goal.inside-returns-in_err-line-2-clause-err
inside-returns-in_err-line-2-clause-err t c =
    passed_on _ c.from_residual-in_err-line-2.result c.in_err-line-2.field-0.0 c.from_residual-in_err-line-2.ensures.1
    (refused_after c.args.depth c.args.lexemes.now c.in_err-line-2.field-0.0 c.loop-next.invariant.1 c.in-Some.ensures.some.0
    c.in_err-line-2.ensures.err)

pub inside-returns-clause-within : goal.inside-returns-clause-within
inside-returns-clause-within t c = λ n h.
    c.loop-next.invariant.1 n h ∙ ap (λ ss. nest_too_deep n ss) (sym c.in_default.ensures.none)

pub with_next-returns-in_err-with_comma-in-Comma-clause-err : goal.with_next-returns-in_err-with_comma-in-Comma-clause-err
with_next-returns-in_err-with_comma-in-Comma-clause-err t c =
    of_memory _ c.from_residual.result (memory_within c.args.depth (toml_text_of c.args.next ∷ c.args.lexemes.now)) c.from_residual.ensures.1

-- ---- which document is read

pub value-returns-then-not-opens-clause-read : goal.value-returns-then-not-opens-clause-read
value-returns-then-not-opens-clause-read t c = λ d lv lvs kinds.
    let style = c.args.setting.now.style in
    let s = toml_text_of c.args.first in
    let tree : lexeme_tree s ≡ ref_tree c.in_ok-lexeme.field-0 = sym (c.in_ok-lexeme.ensures.ok ∙ ap lexeme_tree c.text.ensures) in
    ap (λ (ls : List Level). document_from style (record d { levels = ls }) c.args.lexemes.now)
    (plain_levels style c.args.first c.requires.named c.requires.part (sym c.opens.ensures ∙ c.if-not-opens.true) c.args.is_first lv lvs
    c.args.lexemes.now
    ∙ (λ i. with_part lv s (tree i) ∷ lvs))

pub value-returns-in-Some-clause-read : goal.value-returns-in-Some-clause-read
value-returns-in-Some-clause-read t c =
    let line = c.in_ok-line.ensures in
    let kinds = c.kind_before-kind.ensures.kind ∙ ap (λ (k : Kind). kind_before k c.args.lexemes.now) c.kind_of.ensures.kind in
    IfOk-weaker c.closed.result _ _
    (λ p trees. list_reads c.args.setting.now.style c.args.first (toml_text_of c.in-Some.close) (sym c.opens.ensures ∙ c.if-not-opens.false)
    c.args.around c.kind_before-kind.result c.args.is_first c.args.lexemes.now c.inside.new.lexemes c.next.new.self kinds
    c.in_ok-line.line (ref_tree p) (line.read (toml_text_of c.args.first)) line.closing c.in-Some.ensures.next trees)
    c.closed.ensures.tree

pub value-returns-in-None-clause-read : goal.value-returns-in-None-clause-read
value-returns-in-None-clause-read t c =
    let line = c.in_ok-line.ensures in
    let none = c.in-None.ensures.next in
    let kinds = c.kind_before-kind.ensures.kind ∙ ap (λ (k : Kind). kind_before k c.args.lexemes.now) c.kind_of.ensures.kind in
    IfOk-weaker c.unclosed.result _ _
    (λ p trees. unclosed_list_reads c.args.setting.now.style c.args.first (sym c.opens.ensures ∙ c.if-not-opens.false)
    c.args.around c.kind_before-kind.result c.args.is_first c.args.lexemes.now c.inside.new.lexemes c.next.new.self kinds
    c.in_ok-line.line (ref_tree p) (line.read (toml_text_of c.args.first)) none.0 none.1 trees)
    c.unclosed.ensures.tree

pub inside-returns-clause-read : goal.inside-returns-clause-read
inside-returns-clause-read t c = λ opening.
    subst (λ (ss : List (List ℕ)). ReadsOn c.args.setting.now.style true (new_level c.args.kind opening) c.args.lexemes.now ss c.loop-next.line)
    (sym c.in_default.ensures.none) (c.loop-next.invariant.2 opening)

pub with_next-returns-in-LineEnd-clause-read : goal.with_next-returns-in-LineEnd-clause-read
with_next-returns-in-LineEnd-clause-read t c = λ lv kinds h.
    line_end_reads c.args.setting.now.style lv (toml_text_of c.args.next) c.args.lexemes.now c.with_line_end.result (ap toml_text_of c.in-LineEnd.is)
    (c.with_line_end.ensures.stands lv h)

pub with_next-returns-in_ok-with_comma-in-Comma-clause-read : goal.with_next-returns-in_ok-with_comma-in-Comma-clause-read
with_next-returns-in_ok-with_comma-in-Comma-clause-read t c = λ lv kinds h.
    comma_reads c.args.setting.now.style true lv (toml_text_of c.args.next) c.args.lexemes.now c.in_ok-with_comma-in-Comma.field-0
    (ap toml_text_of c.in-Comma.is) (c.in_ok-with_comma-in-Comma.ensures.stands lv h)

pub with_next-returns-in_ok-with_comment-in-Comment-clause-read : goal.with_next-returns-in_ok-with_comment-in-Comment-clause-read
with_next-returns-in_ok-with_comment-in-Comment-clause-read t c = λ lv kinds h.
    comment_reads c.args.setting.now.style true lv (toml_text_of c.args.next) c.in-Comment.comment.now c.args.lexemes.now
    c.in_ok-with_comment-in-Comment.field-0 (ap toml_text_of c.in-Comment.is) (subst HasTomlKind c.in-Comment.is c.requires.named)
    (c.in_ok-with_comment-in-Comment.ensures.stands lv kinds h)

pub with_next-returns-in_ok-with_value-in_default-clause-read : goal.with_next-returns-in_ok-with_value-in_default-clause-read
with_next-returns-in_ok-with_value-in_default-clause-read t c = λ lv kinds h.
    value_reads c.args.setting.now.style true c.args.kind lv c.args.next c.args.lexemes.now c.value.new.lexemes
    (ref_tree c.in_ok-value-in_default.value) c.in_ok-with_value-in_default.field-0 c.requires.named
    (list_part c.args.next c.requires.part c.in_default.not-LineEnd c.in_default.not-Comma c.in_default.not-Comment) kinds
    c.in_ok-value-in_default.ensures.read (c.in_ok-with_value-in_default.ensures.stands lv kinds h)
