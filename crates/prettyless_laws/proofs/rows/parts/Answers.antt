use Rattle.std.proofs.Common.{refl}
use Rattle.prettyless_laws.proofs.Lists.{wide_list_by_members, wide_texts_on_lines}
use Rattle.prettyless_laws.proofs.rows.parts.Goals as goal

pub returns : goal.returns
returns c = record {
  flat_list = (((tt, ((((tt, tt), tt), tt), tt)), tt), refl, refl);
  flat_nothing = (tt, refl, refl);
  flat_accent = ((((tt, tt), tt), tt), refl, refl);
  flat_alternative = (tt, refl, refl);
  list = wide_list_by_members;
  texts = wide_texts_on_lines;
}
