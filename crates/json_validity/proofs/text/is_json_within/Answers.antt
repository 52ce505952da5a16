use Rattle.std.proofs.lemmas.Result.{IfOk-weaker}
use Rattle.json_validity.proofs.Documents.{within}
use Rattle.json_validity.proofs.text.is_json_within.Goals as goal

pub returns : goal.returns
returns c =
    let same = within c.args.most c.args.text.now c.requires in
    IfOk-weaker c.is_value.result _ _ (λ json h. (λ yes. same.0 (h.0 yes), λ is. h.1 (same.1 is))) c.is_value.ensures
