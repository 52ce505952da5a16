use Rattle.std.proofs.Common.{◌≡◌, ◌+◌, ◌-◌, ◌<◌, ◌≤◌, true, false, ◌∷◌, sym, ◌∙◌, subst, arith}
use Rattle.json_formatter.specs.PieceTexts.{piece_text}
use Rattle.json_formatter.specs.Documents.{opens, closes, greatest_width}
use Rattle.json_formatter.specs.Flat.{piece_columns}
use Rattle.json_formatter.specs.Window.{IsUnclosed, IsWidthUpTo}
use Rattle.json_formatter.proofs.WindowWidths.{opens_wide, unclosed_opening, unclosed_closing, unclosed_plain, too_wide}
use Rattle.json_formatter.proofs.window.width_up_to.Goals as goal

pub loop-piece-preserved-then-opens : goal.loop-piece-preserved-then-opens
loop-piece-preserved-then-opens c =
    let s = piece_text c.in-Some.piece in
    let n = c.loop-piece.inner + 1 in
    let t = c.args.most - c.loop-piece.room in
    let before : IsUnclosed c.args.compact c.args.pieces 0 t n (s ∷ c.next.new.self)
    = subst (IsUnclosed c.args.compact c.args.pieces 0 t n) c.in-Some.ensures.next c.loop-piece.invariant.passed in
    let columns : c.in_ok-columns.columns ≡ piece_columns c.args.compact s c.next.new.self = c.in_ok-columns.ensures in
    let passed : t + piece_columns c.args.compact s c.next.new.self ≡ c.args.most - c.in_ok-room.room = omega arith in
    let opening : opens s ≡ true = sym c.opens.ensures ∙ c.if-opens.true in
    let wide : 1 ≤ piece_columns c.args.compact s c.next.new.self = opens_wide c.args.compact s c.next.new.self opening in
    record {
      room = omega arith;
      inner = omega arith;
      passed = subst (λ u. IsUnclosed c.args.compact c.args.pieces 0 u (n + 1) c.next.new.self) passed
          (unclosed_opening c.args.compact c.args.pieces 0 t n s c.next.new.self before opening);
    }

pub loop-piece-preserved-then-closes : goal.loop-piece-preserved-then-closes
loop-piece-preserved-then-closes c =
    let s = piece_text c.in-Some.piece in
    let n = c.loop-piece.inner + 1 in
    let t = c.args.most - c.loop-piece.room in
    let before : IsUnclosed c.args.compact c.args.pieces 0 t n (s ∷ c.next.new.self)
    = subst (IsUnclosed c.args.compact c.args.pieces 0 t n) c.in-Some.ensures.next c.loop-piece.invariant.passed in
    let columns : c.in_ok-columns.columns ≡ piece_columns c.args.compact s c.next.new.self = c.in_ok-columns.ensures in
    let passed : t + piece_columns c.args.compact s c.next.new.self ≡ c.args.most - c.in_ok-room.room = omega arith in
    let opening : opens s ≡ false = sym c.opens.ensures ∙ c.if-opens.false in
    let closing : closes s ≡ true = sym c.closes.ensures ∙ c.if-closes.true in
    let less : n - 1 ≡ c.loop-piece.inner - 1 + 1 = omega arith in
    record {
      room = omega arith;
      inner = omega arith;
      passed = subst (λ u. IsUnclosed c.args.compact c.args.pieces 0 u (c.loop-piece.inner - 1 + 1) c.next.new.self) passed
          (subst
          (λ m. IsUnclosed c.args.compact c.args.pieces 0 (t + piece_columns c.args.compact s c.next.new.self) m c.next.new.self)
          less
          (unclosed_closing c.args.compact c.args.pieces 0 t n s c.next.new.self before opening closing (omega arith)));
    }

pub loop-piece-preserved : goal.loop-piece-preserved
loop-piece-preserved c =
    let s = piece_text c.in-Some.piece in
    let n = c.loop-piece.inner + 1 in
    let t = c.args.most - c.loop-piece.room in
    let before : IsUnclosed c.args.compact c.args.pieces 0 t n (s ∷ c.next.new.self)
    = subst (IsUnclosed c.args.compact c.args.pieces 0 t n) c.in-Some.ensures.next c.loop-piece.invariant.passed in
    let columns : c.in_ok-columns.columns ≡ piece_columns c.args.compact s c.next.new.self = c.in_ok-columns.ensures in
    let passed : t + piece_columns c.args.compact s c.next.new.self ≡ c.args.most - c.in_ok-room.room = omega arith in
    let opening : opens s ≡ false = sym c.opens.ensures ∙ c.if-opens.false in
    let closing : closes s ≡ false = sym c.closes.ensures ∙ c.if-closes.false in
    record {
      room = omega arith;
      inner = omega arith;
      passed = subst (λ u. IsUnclosed c.args.compact c.args.pieces 0 u n c.next.new.self) passed
          (unclosed_plain c.args.compact c.args.pieces 0 t n s c.next.new.self before opening closing);
    }

pub returns-in_err-room : goal.returns-in_err-room
returns-in_err-room c =
    let s = piece_text c.in-Some.piece in
    let n = c.loop-piece.inner + 1 in
    let t = c.args.most - c.loop-piece.room in
    let before : IsUnclosed c.args.compact c.args.pieces 0 t n (s ∷ c.next.new.self)
    = subst (IsUnclosed c.args.compact c.args.pieces 0 t n) c.in-Some.ensures.next c.loop-piece.invariant.passed in
    let columns : c.in_ok-columns.columns ≡ piece_columns c.args.compact s c.next.new.self = c.in_ok-columns.ensures in
    let past : c.in_ok-columns.columns ≤ c.loop-piece.room → ⊥ = c.in_err-room.ensures in
    let room : c.loop-piece.room ≤ c.args.most = c.loop-piece.invariant.room in
    subst (IsWidthUpTo c.args.compact c.args.most c.args.pieces) (sym c.from_residual-in_err-room.ensures)
    (too_wide c.args.compact c.args.pieces 0 t n c.args.most s c.next.new.self before (omega arith))

pub returns-in_err-columns : goal.returns-in_err-columns
returns-in_err-columns c =
    let s = piece_text c.in-Some.piece in
    let n = c.loop-piece.inner + 1 in
    let t = c.args.most - c.loop-piece.room in
    let before : IsUnclosed c.args.compact c.args.pieces 0 t n (s ∷ c.next.new.self)
    = subst (IsUnclosed c.args.compact c.args.pieces 0 t n) c.in-Some.ensures.next c.loop-piece.invariant.passed in
    let wide : greatest_width ≤ piece_columns c.args.compact s c.next.new.self = c.in_err-columns.ensures in
    let narrow : c.args.most < greatest_width = c.requires in
    subst (IsWidthUpTo c.args.compact c.args.most c.args.pieces) (sym c.from_residual.ensures)
    (too_wide c.args.compact c.args.pieces 0 t n c.args.most s c.next.new.self before (omega arith))
