use Rattle.std.proofs.Common.{rules, ◌≡◌, sym, ◌∙◌, ap, inl, inr, List, ℕ, map}
use Rattle.std.proofs.lemmas.List.Sorted.{answers_always}
use Rattle.std.proofs.lemmas.Result.{IfOk-weaker, IfErr-weaker}
use Rattle.std.proofs.lemmas.Str.{chars-encodes}
use Rattle.std.specs.Fn.{AlwaysReturns}
use Rattle.std.specs.Str.{chars, encode_utf8_all}
use Rattle.std.specs.Str.Iter.{split_text, split_has_more}
use Rattle.prettyless_trees.specs.Counted as counted
use Rattle.prettyless_trees.specs.Built.{softline}
use Rattle.prettyless_trees.specs.Words.{cut_at_whitespace, intersperse}
use Rattle.prettyless_alloc.proofs.Pieces.{pieces_come, pieces_interspersed}
use Rattle.prettyless_alloc.proofs.words.reflow.Goals as goal

-- the pieces come, and no piece is refused
pub returns : goal.returns
returns g c =
    let read = c.utf8.text in
    let characters : List ℕ = read.0 in
    record {
      ok = IfOk-weaker c.intersperse.result _ _
          (λ b h.
          let start = h.1.1 in
          let text = read.1.1 ∙ sym (ap split_text start ∙ c.split.ensures.text) in
          let more = ap split_has_more start ∙ c.split.ensures.has_more in
          let come = pieces_come (λ p k. AlwaysReturns _ (λ a r. r ≡ k a.0) p) h.0 h.1.0 h.1.2.1.0 h.1.2.0 characters text more
          (answers_always _ _ _ (λ f a r f' called. search rules)) h.1.2.1.1 h.1.2.1.2 in
          let known = come ∙ ap (λ (cs : List ℕ). map encode_utf8_all (cut_at_whitespace cs))
          (sym (chars-encodes characters read.1.0) ∙ ap chars read.1.1) in
          pieces_interspersed h.0 _ h.2 ∙ ap (λ (ps : List (List ℕ)). intersperse softline (map counted.text ps)) known)
          c.intersperse.ensures.ok;
      err = IfErr-weaker c.intersperse.result _ _
          (λ e h. elim h [
            | inl m ↦ m
            | inr k ↦ elim k [
              | inl s ↦ s.0
              | inr n ↦ absurd n.2.4
            ]
          ])
          c.intersperse.ensures.err;
    }
