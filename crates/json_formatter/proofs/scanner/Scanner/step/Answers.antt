use Rattle.std.proofs.Common.{◌≡◌, ◌+◌, true, false, ◌∷◌, sym, ◌∙◌, ap, subst}
use Rattle.json_formatter.specs.PieceTexts.{piece_text}
use Rattle.json_formatter.specs.Documents.{opens, closes}
use Rattle.json_formatter.specs.Flat.{piece_columns}
use Rattle.json_formatter.specs.Window.{IsScanned}
use Rattle.json_formatter.proofs.WindowScans.{scanned_opening, scanned_closing, scanned_plain}
use Rattle.json_formatter.proofs.scanner.Scanner.step.Goals as goal

pub returns-in_ok-opened-clause-scanned : goal.returns-in_ok-opened-clause-scanned
returns-in_ok-opened-clause-scanned c = λ rests k.
    let s = piece_text c.in-Some.piece in
    let old = c.args.self.now in
    let before : IsScanned old.compact rests old.lists.items old.unclosed.items old.total (s ∷ c.next.new.self)
    = subst (IsScanned old.compact rests old.lists.items old.unclosed.items old.total) c.in-Some.ensures.next k in
    let opening : opens s ≡ true = sym c.opens.ensures ∙ c.if-opens.true in
    let total : c.in-Some-checked_add.total ≡ old.total + piece_columns old.compact s c.next.new.self
    = c.in-Some-checked_add.ensures.1 ∙ ap (λ n. old.total + n) c.in-Some-piece_columns.ensures in
    let new = c.in_ok-opened.ensures in
    rw (new.compact, new.lists, new.unclosed, new.total, new.pieces, total) (scanned_opening rests _ _ _ s _ before opening)

pub returns-in_ok-closed-clause-scanned : goal.returns-in_ok-closed-clause-scanned
returns-in_ok-closed-clause-scanned c = λ rests k.
    let s = piece_text c.in-Some.piece in
    let old = c.args.self.now in
    let before : IsScanned old.compact rests old.lists.items old.unclosed.items old.total (s ∷ c.next.new.self)
    = subst (IsScanned old.compact rests old.lists.items old.unclosed.items old.total) c.in-Some.ensures.next k in
    let opening : opens s ≡ false = sym c.opens.ensures ∙ c.if-opens.false in
    let closing : closes s ≡ true = sym c.closes.ensures ∙ c.if-closes.true in
    let total : c.in-Some-checked_add.total ≡ old.total + piece_columns old.compact s c.next.new.self
    = c.in-Some-checked_add.ensures.1 ∙ ap (λ n. old.total + n) c.in-Some-piece_columns.ensures in
    let new = c.in_ok-closed.ensures in
    rw (new.compact, new.lists, new.unclosed, new.total, new.pieces, total) (scanned_closing rests _ _ _ s _ before opening closing)

pub returns-else-closes-clause-scanned : goal.returns-else-closes-clause-scanned
returns-else-closes-clause-scanned c = λ rests k.
    let s = piece_text c.in-Some.piece in
    let old = c.args.self.now in
    let before : IsScanned old.compact rests old.lists.items old.unclosed.items old.total (s ∷ c.next.new.self)
    = subst (IsScanned old.compact rests old.lists.items old.unclosed.items old.total) c.in-Some.ensures.next k in
    let opening : opens s ≡ false = sym c.opens.ensures ∙ c.if-opens.false in
    let closing : closes s ≡ false = sym c.closes.ensures ∙ c.if-closes.false in
    let total : c.in-Some-checked_add.total ≡ old.total + piece_columns old.compact s c.next.new.self
    = c.in-Some-checked_add.ensures.1 ∙ ap (λ n. old.total + n) c.in-Some-piece_columns.ensures in
    rw total (scanned_plain rests _ _ _ s _ before opening closing)
