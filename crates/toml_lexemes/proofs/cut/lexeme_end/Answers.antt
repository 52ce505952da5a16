use Rattle.std.proofs.Common.{◌≡◌, ◌+◌, ◌-◌, ◌<◌, ◌⊎◌, inl, inr, Bool, true, false, length, take, drop, get_or, ◌∷◌, refl, sym, ap, ◌∙◌}
use Rattle.std.proofs.Common.{subst, arith}
use Rattle.text_lexemes.specs.Languages.{between, within, goes_on, ends, stops}
use Rattle.toml_lexemes.specs.Lexemes.{begins_line_feed, turn, cut_toml, toml}
use Rattle.toml_lexemes.specs.Modes.{inner_of, is_after_quote, turn_of}
use Rattle.toml_lexemes.proofs.Turns.{Tied, Tied-turn}
use Rattle.text_lexemes.proofs.Places.{goes_more, ends_here, stops_here, never_ends}
use Rattle.toml_lexemes.proofs.cut.lexeme_end.Goals as goal

either : (b : Bool) (P Q : Type 0) → (b ≡ true → Q) → (b ≡ false → P) → P ⊎ Q
either true P Q f g = inr (f refl)
either false P Q f g = inl (g refl)

pub loop-place-preserved : goal.loop-place-preserved
loop-place-preserved c =
    let d = c.args.bytes.now in
    let place = c.loop-place.place in
    let mode = inner_of c.loop-place.mode in
    let x = get_or d place 0 in
    let here : turn mode x (begins_line_feed (drop (place + 1) d)) ≡ goes_on (inner_of c.in-GoesOn.next) =
    ap (turn mode x) (sym c.is_line_feed_at.ensures) ∙ sym c.turn_at.ensures ∙ ap turn_of c.in-GoesOn.is in
    let tied = subst (Tied mode x) here (Tied-turn mode x (begins_line_feed (drop (place + 1) d))) in
    let last : place ≡ place + 1 - 1 = omega arith in
    record {
      goes = goes_more toml (inner_of c.args.begun) d c.args.from place c.loop-place.auto.place mode (inner_of c.in-GoesOn.next)
          (omega arith) here c.loop-place.invariant.goes;
      after = λ q. (omega arith, subst (λ k. get_or d k 0 < 128) last (tied q));
    }

pub returns-in-Ends : goal.returns-in-Ends
returns-in-Ends c =
    let d = c.args.bytes.now in
    let place = c.loop-place.place in
    let mode = inner_of c.loop-place.mode in
    let x = get_or d place 0 in
    let here : turn mode x (begins_line_feed (drop (place + 1) d)) ≡ ends =
    ap (turn mode x) (sym c.is_line_feed_at.ensures) ∙ sym c.turn_at.ensures ∙ ap turn_of c.in-Ends.is in
    let tied = subst (Tied mode x) here (Tied-turn mode x (begins_line_feed (drop (place + 1) d))) in
    let last : place ≡ place + 1 - 1 = omega arith in
    record {
      bounds = (omega arith, omega arith);
      cut = ends_here toml (inner_of c.args.begun) d c.args.from place c.loop-place.auto.place mode
          (omega arith) here c.loop-place.invariant.goes;
      ended = λ more. inr (omega arith, subst (λ k. get_or d k 0 < 128) last tied);
    }

pub returns-in-Stops : goal.returns-in-Stops
returns-in-Stops c =
    let d = c.args.bytes.now in
    let place = c.loop-place.place in
    let mode = inner_of c.loop-place.mode in
    let x = get_or d place 0 in
    let here : turn mode x (begins_line_feed (drop (place + 1) d)) ≡ stops =
    ap (turn mode x) (sym c.is_line_feed_at.ensures) ∙ sym c.turn_at.ensures ∙ ap turn_of c.in-Stops.is in
    let tied = subst (Tied mode x) here (Tied-turn mode x (begins_line_feed (drop (place + 1) d))) in
    record {
      bounds = (omega arith, omega arith);
      cut = stops_here toml (inner_of c.args.begun) d c.args.from place c.loop-place.auto.place mode
          (omega arith) here c.loop-place.invariant.goes;
      ended = λ more. either (is_after_quote mode) _ _ c.loop-place.invariant.after tied;
    }

pub returns : goal.returns
returns c =
    let d = c.args.bytes.now in
    let place = c.loop-place.place in
    let all : place ≡ length d = omega arith in
    record {
      bounds = (omega arith, omega arith);
      cut = subst (λ k. cut_toml (within (inner_of c.args.begun)) (drop c.args.from d) ≡ take (k - c.args.from)
          (drop c.args.from d) ∷ cut_toml between (drop k d)) all
          (never_ends toml (inner_of c.args.begun) d c.args.from place c.loop-place.auto.place (inner_of c.loop-place.mode)
          (omega arith) c.loop-place.invariant.goes);
      ended = λ more. absurd (omega arith);
    }
