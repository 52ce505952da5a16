use Rattle.std.proofs.lemmas.Str.{IsCharBoundary-start}
use Rattle.json_lexemes.proofs.spaced_lexer.SpacedLexer.new.Goals as goal

pub from_place-requires-clause-boundary : goal.from_place-requires-clause-boundary
from_place-requires-clause-boundary c = IsCharBoundary-start c.args.text.now c.utf8.text
