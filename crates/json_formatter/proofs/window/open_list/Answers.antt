use Rattle.std.proofs.Common.{ℕ, List, [], ◌∷◌, ◌++◌, None, length, sym, ◌∙◌, ap}
use Rattle.json_formatter.specs.declared.scanner.Opened.{Opened}
use Rattle.json_formatter.proofs.WindowScans.{if_ok, window_opened, window_passed}
use Rattle.json_formatter.proofs.window.open_list.Goals as goal

pub returns-then-index-list_count : goal.returns-then-index-list_count
returns-then-index-list_count c = λ s o w.
    window_passed c.args.reader.now c.args.scanner.now c.args.passed.now s o (rw (← c.list_count.ensures) c.if-index-list_count.true) w

pub returns : goal.returns
returns c = λ s o w.
    let begun = c.restart.ensures in
    let new = c.opened.ensures in
    let done = sym c.if-is_err.ensures.value in
    let first : ℕ → List Opened = λ t. record { start = t; width = None } ∷ [] in
    let lists = if_ok c.opened.result done new.lists
    ∙ ap (λ (l : List Opened). l ++ first c.restart.new.self.total) begun.lists ∙ ap first (sym new.total) in
    let unclosed = if_ok c.opened.result done new.unclosed ∙ (λ i. begun.unclosed i ++ length (begun.lists i) ∷ []) in
    window_opened c.args.reader.now c.opened.new.self (new.pieces ∙ begun.pieces ∙ c.again.ensures) lists unclosed
