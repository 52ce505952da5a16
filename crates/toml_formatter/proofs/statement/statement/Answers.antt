use Rattle.std.proofs.Common.{refl, sym, ◌∙◌, ap, subst, true, false, ◌∷◌, ◌++◌, List, ℕ, inl, inr, append_assoc, append-nil, arith, length}
use Rattle.std.proofs.Common.{length-append}
use Rattle.prettyless_pointers.specs.Trees.{ref_tree}
use Rattle.toml_formatter.specs.Lines.{ShowsTaken}
use Rattle.toml_lexemes.specs.View.{toml_text_of}
use Rattle.toml_grammar.specs.Nesting.{max_brackets, nest_too_deep}
use Rattle.toml_formatter.proofs.DepthLemmas.{line_end_within, memory_within, next_within, of_memory, passed_on, refused_after}
use Rattle.toml_formatter.proofs.DraftLemmas.{first_then, statement_reads}
use Rattle.toml_formatter.proofs.LineLemmas.{IsSettled}
use Rattle.toml_formatter.proofs.StatementLemmas.{line_is_statement, may_settle}
use Rattle.toml_formatter.proofs.statement.statement.Goals as goal

pub loop-next-preserved : goal.loop-next-preserved
loop-next-preserved c =
    let before = c.loop-next.invariant in
    let e = c.in-Some.ensures.some in
    let h = subst (λ (ss : List (List ℕ)). ShowsTaken false true c.loop-next.line ss before.0) e before.2 in
    let made = c.in_ok-line-2.ensures.line before.0 h in (
      before.0 ++ made.0,
      before.1 ∙ ap (λ (ss : List (List ℕ)). before.0 ++ ss) (e ∙ made.1) ∙ sym (append_assoc before.0 made.0 c.with_next.new.lexemes),
      made.2,
      c.in_ok-line-2.ensures.goes_on,
      next_within max_brackets (toml_text_of c.args.first ∷ c.args.lexemes.now) c.with_next.new.lexemes before.4 e c.in_ok-line-2.ensures.within,
      first_then c.args.setting.now.style (toml_text_of c.args.first ∷ c.args.lexemes.now) c.loop-next.lexemes _ c.with_next.new.lexemes
          c.loop-next.line c.in_ok-line-2.line before.5 e c.in_ok-line-2.ensures.read,
    )

pub returns-clause-made : goal.returns-clause-made
returns-clause-made c =
    let before = c.loop-next.invariant in
    let ls = c.loop-next.lexemes in
    let after = c.in_ok-settled.ensures in
    let line = c.in_ok-settled.field-0 in
    let settled : IsSettled line = record { no_comma = after.no_comma; no_comments = after.no_comments } in
    let shown = after.line false true ls before.0 (may_settle c.loop-next.line ls before.3) before.2 in (
      before.0,
      line_is_statement line ls before.0 settled shown,
      elim c.in_default.ensures.none [
        | inl p ↦ inr (before.1 ∙ ap (λ (ss : List (List ℕ)). before.0 ++ ss) p.0 ∙ append-nil before.0, p.1)
        | inr p ↦ inl (before.1 ∙ ap (λ (ss : List (List ℕ)). before.0 ++ ss) p)
      ],
    )

pub returns-clause-fewer : goal.returns-clause-fewer
returns-clause-fewer c =
    let before = c.loop-next.invariant in
    elim c.in_default.ensures.none [
      | inl p ↦ omega (arith, ap length p.1)
      | inr p ↦ omega (arith, ap length p, ap length before.1, length-append before.0 c.loop-next.lexemes)
    ]

pub returns-clause-within : goal.returns-clause-within
returns-clause-within c =
    let before = c.loop-next.invariant in
    let left = c.next_on_line.new.self in
    elim c.in_default.ensures.none [
      | inl p ↦ λ n h. before.4 n h ∙ ap (λ ss. nest_too_deep n ss) (p.0 ∙ sym p.1)
      | inr p ↦ next_within max_brackets (toml_text_of c.args.first ∷ c.args.lexemes.now) left before.4 p (line_end_within left)
    ]

pub returns-in_err-line-2-clause-err : goal.returns-in_err-line-2-clause-err
returns-in_err-line-2-clause-err c =
    let e = c.in_err-line-2.field-0.0 in
    passed_on _ c.from_residual-in_err-line-2.result e c.from_residual-in_err-line-2.ensures.1
    (refused_after max_brackets (toml_text_of c.args.first ∷ c.args.lexemes.now) e c.loop-next.invariant.4 c.in-Some.ensures.some
    c.in_err-line-2.ensures.err)

pub returns-in_err-settled-clause-err : goal.returns-in_err-settled-clause-err
returns-in_err-settled-clause-err c =
    of_memory _ c.from_residual-in_err-settled.result (memory_within max_brackets (toml_text_of c.args.first ∷ c.args.lexemes.now))
    c.from_residual-in_err-settled.ensures.1

pub returns-clause-read : goal.returns-clause-read
returns-clause-read c =
    let settled = c.in_ok-settled.field-0 in
    statement_reads c.args.setting.now.style (toml_text_of c.args.first ∷ c.args.lexemes.now) c.loop-next.lexemes c.next_on_line.new.self
    c.loop-next.line (ref_tree settled.doc) c.loop-next.invariant.5 c.in_default.ensures.none settled c.in_ok-settled.ensures.end refl
