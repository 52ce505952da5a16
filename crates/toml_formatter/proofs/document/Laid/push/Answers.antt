use Rattle.std.proofs.Common.{◌≡◌, ◌∙◌, ap, subst, List, ℕ, ◌++◌}
use Rattle.std.specs.String.{string_bytes}
use Rattle.prettyless_pointers.specs.Trees.{ref_tree}
use Rattle.toml_documents.specs.Sheets.{IsSheet}
use Rattle.toml_formatter.proofs.PressLemmas.{lines_added}
use Rattle.toml_formatter.proofs.document.Laid.push.Goals as goal

pub returns-clause-lines : goal.returns-clause-lines
returns-clause-lines c =
    let laid = c.in_ok-render.ensures.laid in
    let bytes : string_bytes c.render.new.text ≡ laid.0 = laid.2 ∙ ap (λ (l : List ℕ). l ++ laid.0) c.clear.ensures.bytes in
    lines_added c.args.press.now.options c.args.self.now.sheet c.push.new.self (ref_tree c.args.lines) laid.0 c.requires.deferred
    c.requires.ends laid.1
    (λ before h. subst (λ (l : List ℕ). IsSheet c.push.new.self (before ++ l)) (c.as_str.ensures.value ∙ bytes)
    (c.in_ok-push.ensures.sheet before h))
