use Rattle.std.proofs.Common.{◌≡◌, sym, ◌∙◌, ap, ℕ, ◌+◌, ◌-◌, List, ◌++◌, append_assoc, arith}
use Rattle.std.proofs.lemmas.List.{replicate-append-replicate}
use Rattle.std.specs.String.{string_bytes}
use Rattle.prettyless_model.specs.Spaces.{spaces}
use Rattle.toml_documents.proofs.alignment.push_spaces.Goals as goal

-- a piece of spaces more
spaces_more : (old mid new piece : List ℕ) (n i k : ℕ) → n ≡ i + k → piece ≡ spaces k → mid ≡ old ++ spaces i → new ≡ mid ++ piece
    → new ≡ old ++ spaces n
spaces_more old mid new piece n i k sum e before after =
    after ∙ (λ j. before j ++ e j) ∙ append_assoc old (spaces i) (spaces k)
    ∙ ap (λ (l : List ℕ). old ++ l) (sym (ap spaces sum ∙ sym (replicate-append-replicate i k 32)))

pub loop-left-preserved : goal.loop-left-preserved
loop-left-preserved c =
    let count = c.args.count in
    let left = c.loop-left.left in
    let i = c.loop-left.invariant in (
      omega (arith, i.0),
      spaces_more (string_bytes c.args.text.now) (string_bytes c.loop-left.text) (string_bytes c.push_str.new.self) c.some_spaces.result.now
          (count - (left - c.min-piece.result)) (count - left) c.min-piece.result
          (omega (arith, i.0, c.min-piece.ensures)) c.some_spaces.ensures i.1
          c.in_ok-push_str.ensures.bytes,
    )
