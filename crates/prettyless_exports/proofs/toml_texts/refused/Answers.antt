use Rattle.std.proofs.Common.{refl}
use Rattle.prettyless_exports.proofs.toml_texts.refused.Goals as goal

-- a TOML text that is refused is too deep, so the bracket is named
pub returns-in-Ok : goal.returns-in-Ok
returns-in-Ok c =
    let named = c.put_fault.ensures in
    record {
      refusal = c.in-Ok.refusal;
      at = rw (named.line, named.column) refl;
      place = c.in-Ok.ensures.place;
      name = named.name;
      encoding = c.in-Ok.ensures.encoding;
      fault = c.in-Ok.ensures.fault;
      depth = c.in-Ok.ensures.depth;
      bracket = λ utf8 toml. c.in-Ok.ensures.bracket utf8 toml (c.requires utf8 toml);
    }
