use Rattle.std.proofs.Common.{◌≡◌, ◌∙◌, ◌+◌, sym, ap, subst, arith, Bool, List, ◌++◌, drop, length, take}
use Rattle.std.proofs.lemmas.List.{take_all}
use Rattle.editor_config.specs.Patterns.{IsAtEach, IsUnion, choice_then, parts_then}
use Rattle.editor_config.specs.declared.part.PatternPart.{PatternPart}
use Rattle.editor_config.proofs.Steps.{choice_step, written}
use Rattle.editor_config.proofs.pattern.before_choice.Goals as goal

pub loop-parts-preserved : goal.loop-parts-preserved
loop-parts-preserved c =
    let path = c.args.path.now in
    let alternatives = c.args.alternatives.now in
    let parts = c.parts-item.result in
    let before = c.loop-parts.before.items in
    let after = c.put_parts_before.new.fits in
    let joined = c.join.new.passes in
    let whole : take c.loop-parts.before.len (joined ++ drop (length joined) before) ≡ joined
    = written joined (drop (length joined) before) c.loop-parts.before.len (omega arith) in
    let others_are : c.deref-in-loop-parts.result.now ≡ after
    = c.deref-in-loop-parts.ensures.value ∙ written after _ c.in_ok-after_parts.after_parts.len (omega arith) in
    let both : IsUnion before after joined =
    subst (λ (l : List Bool). IsUnion before l joined) others_are
    (subst (λ (l : List Bool). IsUnion l c.deref-in-loop-parts.result.now joined) c.deref_mut-in-loop-parts.ensures.value
    c.join.ensures) in (
      ap length whole ∙ (both.long ∙ c.loop-parts.invariant.0),
      λ rest each.
          let given : IsAtEach rest path c.deref_mut.result.now =
          subst (λ (l : List Bool). IsAtEach rest path l) (sym (c.deref_mut.ensures.value ∙ c.in_ok-after_parts.ensures.items)) each in
          let own : IsAtEach (parts_then parts.items rest) path after =
          subst (λ (ps : List PatternPart). IsAtEach (parts_then ps rest) path after) c.deref.ensures.value
          (c.put_parts_before.ensures rest given) in
          subst (λ (l : List Bool). IsAtEach (choice_then (take (c.loop-parts.parts-index + 1) alternatives) rest) path l) (sym whole)
          (choice_step path alternatives c.loop-parts.parts-index rest parts before after joined (omega arith) c.parts-item.is both
          (c.loop-parts.invariant.1 rest each) own),
    )

pub returns : goal.returns
returns c rest each =
    subst (λ alternatives. IsAtEach (choice_then alternatives rest) c.args.path.now c.loop-parts.before.items)
    (take_all c.loop-parts.parts-index c.args.alternatives.now (omega arith)) (c.loop-parts.invariant.1 rest each)
