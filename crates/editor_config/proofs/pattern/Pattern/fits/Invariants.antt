use Rattle.std.proofs.Common.{drop}
use Rattle.editor_config.specs.Patterns.{IsAtEach, fits_pieces}
use Rattle.editor_config.proofs.pattern.Pattern.fits.Given as goal

-- done for the pieces from here on
abbrev pub invariant-loop-place : goal.invariant-loop-place
invariant-loop-place l = IsAtEach (fits_pieces (drop l.place l.self.pieces.items)) l.path l.fits.items
