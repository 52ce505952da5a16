use Rattle.prettyless_laws.proofs.ShownItems.{texts_show, intersperse_shows, punctuated_shows, bracketed_shows, marks_stand_in_gaps}
use Rattle.prettyless_laws.proofs.shown.law_lists.Goals as goal

pub returns : goal.returns
returns c = record {
  texts = texts_show;
  separated = intersperse_shows;
  punctuated = punctuated_shows;
  bracketed = bracketed_shows;
  gaps = marks_stand_in_gaps;
}
