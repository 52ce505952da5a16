use Rattle.prettyless_exports.proofs.json_texts.refused.Goals as goal

pub returns-in-Ok : goal.returns-in-Ok
returns-in-Ok c =
    let named = c.put_fault.ensures in
    record {
      expected = c.in-Ok.fault.expected;
      place = rw (named.line, named.column) c.in-Ok.ensures.place;
      name = rw c.name-name.ensures at named.name;
      encoding = c.in-Ok.ensures.encoding;
      no_utf8 = rw (named.line, named.column) c.in-Ok.ensures.no_utf8;
      stop = rw (named.line, named.column) c.in-Ok.ensures.stop;
    }
