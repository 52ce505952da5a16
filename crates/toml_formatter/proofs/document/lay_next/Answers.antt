use Rattle.std.proofs.Common.{refl, subst, ◌∷◌}
use Rattle.std.proofs.lemmas.Result.{IfErr-weaker, on_ok_weaker}
use Rattle.prettyless_pointers.specs.Trees.{ref_tree}
use Rattle.toml_lexemes.specs.View.{toml_text_of}
use Rattle.toml_lexemes.specs.declared.lexeme.Lexeme.{Lexeme}
use Rattle.toml_formatter.specs.Presses.{IsPressed}
use Rattle.toml_formatter.proofs.DepthLemmas.{memory_of, passed_on, text_refused}
use Rattle.toml_formatter.proofs.PressLemmas.{deferred, lay_on, line_end_laid}
use Rattle.toml_formatter.proofs.document.lay_next.Goals as goal

pub push_statement-requires : goal.push_statement-requires
push_statement-requires c = deferred c.args.press.now.style c.args.press.now.options c.requires.laid.options

pub returns-in-LineEnd-clause-laid : goal.returns-in-LineEnd-clause-laid
returns-in-LineEnd-clause-laid c =
    let laid = c.args.laid.now in
    line_end_laid c.args.press.now laid (record laid { blank = laid.some }) c.args.lexemes.now refl refl refl
    (subst (λ (x : Lexeme). IsPressed c.args.press.now laid (toml_text_of x ∷ c.args.lexemes.now)) c.in-LineEnd.is c.requires.laid)

pub returns-in_err-next-clause-err : goal.returns-in_err-next-clause-err
returns-in_err-next-clause-err c =
    let e = c.in_err-next.field-0.0 in
    passed_on _ c.from_residual.result e c.from_residual.ensures.1
    (text_refused c.args.press.now.text.now {between = toml_text_of c.args.first ∷ c.args.lexemes.now} e c.requires.laid.within refl c.in_err-next.ensures.err)

pub returns-clause-laid : goal.returns-clause-laid
returns-clause-laid c =
    let pushed = c.push_statement.ensures in
    lay_on c.push_statement.result c.args.press.now c.args.laid.now c.push_statement.new.self (toml_text_of c.args.first)
    c.args.lexemes.now c.statement.new.lexemes (ref_tree c.in_ok-next.next) c.in_ok-next.ensures.made c.in_ok-next.ensures.read
    c.in_ok-next.ensures.within pushed.lines pushed.align pushed.some pushed.blank c.requires.laid

pub returns-clause-fewer : goal.returns-clause-fewer
returns-clause-fewer c = on_ok_weaker c.push_statement.result (λ h. c.in_ok-next.ensures.fewer) c.push_statement.ensures.some

pub returns-clause-err : goal.returns-clause-err
returns-clause-err c =
    IfErr-weaker c.push_statement.result _ _ (memory_of c.args.press.now.text.now) c.push_statement.ensures.err
