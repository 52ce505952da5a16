use Rattle.std.proofs.Common.{◌≡◌, ◌+◌, ◌-◌, ◌<◌, true, get_or, sym, ◌∙◌, subst, arith}
use Rattle.json.specs.Word.{is_space}
use Rattle.json_lexemes.proofs.Firsts.{past_space, space_ascii, spaces_more}
use Rattle.json_lexemes.proofs.cut.spaces_end.Goals as goal

pub loop-place-preserved : goal.loop-place-preserved
loop-place-preserved c =
    let d = c.args.bytes.now in
    let place = c.loop-place.place in
    let space : is_space (get_or d place 0) ≡ true = sym c.is_space.ensures ∙ c.if-not-is_space.false in
    let last : place ≡ place + 1 - 1 = omega arith in
    record {
      same = past_space d place (omega arith) space ∙ c.loop-place.invariant.same;
      spaces = omega (arith, spaces_more d place (omega arith) space, c.loop-place.invariant.spaces);
      after = λ h. subst (λ k. get_or d k 0 < 128) last (space_ascii (get_or d place 0) space);
    }
