use Rattle.std.proofs.Common.{◌≡◌, ℕ, ◌≤◌, List, length}
use Rattle.json_formatter.specs.Window.{IsRight, Knows}
use Rattle.json_formatter.proofs.scanner.Scanner.width.Given as goal

-- the scanner knows what it knew, and more
abbrev pub invariant-loop-width : goal.invariant-loop-width
invariant-loop-width l = record {
  compact : l.self.compact ≡ l.initial.self.compact;
  right : IsRight l.self;
  more : length l.initial.self.lists.items ≤ length l.self.lists.items;
  scanned : (rests : List (List (List ℕ))) → Knows l.initial.self rests → Knows l.self rests;
}

abbrev pub decreases-loop-width : goal.decreases-loop-width
decreases-loop-width l = length l.self.pieces
