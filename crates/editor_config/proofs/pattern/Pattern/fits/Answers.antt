use Rattle.std.proofs.Common.{◌≡◌, ◌+◌, ◌-◌, sym, subst, arith, ℕ, Bool, false, List, drop, length, replicate}
use Rattle.editor_config.specs.Patterns.{IsAtEach, Test, choice_then, fits_pieces, piece_then}
use Rattle.editor_config.specs.declared.pattern.PatternPiece.{PatternPiece}
use Rattle.editor_config.proofs.Steps.{ended, no_pieces, pieces_step, written}
use Rattle.editor_config.proofs.pattern.Pattern.fits.Goals as goal

pub loop-place-init : goal.loop-place-init
loop-place-init c =
    let path = c.args.path.now in
    let pieces = c.args.self.now.pieces.items in
    let made : c.in_ok-fits.fits.items ≡ replicate (length path) false = c.in_ok-fits.ensures.items_if_clones_equal (λ y is. cc) in
    subst (λ (l : List Bool). IsAtEach (fits_pieces (drop c.len-place.result pieces)) path l) (sym c.in_ok-push.ensures.items)
    (no_pieces path _ pieces c.len-place.result (omega arith) (ended path c.in_ok-fits.fits.items made))

pub loop-place-preserved-in-Part : goal.loop-place-preserved-in-Part
loop-place-preserved-in-Part c =
    let place : ℕ = c.loop-place.place - 1 in
    let next : c.loop-place.place ≡ place + 1 = omega arith in
    let path = c.args.path.now in
    let pieces = c.args.self.now.pieces.items in
    let piece = c.index.result.now in
    let rest : Test = fits_pieces (drop c.loop-place.place pieces) in
    let after = c.put_before.new.fits in
    let given : IsAtEach rest path c.deref_mut.result.now =
    subst (λ (l : List Bool). IsAtEach rest path l) (sym c.deref_mut.ensures.value) c.loop-place.invariant in
    let own : IsAtEach (piece_then piece rest) path after =
    subst (λ (p : PatternPiece). IsAtEach (piece_then p rest) path after) (sym c.in-Part.is) (c.put_before.ensures rest given) in
    let here : IsAtEach (piece_then piece (fits_pieces (drop (place + 1) pieces))) path after =
    subst (λ (n : ℕ). IsAtEach (piece_then piece (fits_pieces (drop n pieces))) path after) next own in
    subst (λ (l : List Bool). IsAtEach (fits_pieces (drop place pieces)) path l)
    (sym (written after _ c.loop-place.fits.len (omega arith)))
    (pieces_step path after pieces place piece (omega arith) c.index.ensures here)

pub loop-place-preserved : goal.loop-place-preserved
loop-place-preserved c =
    let place : ℕ = c.loop-place.place - 1 in
    let next : c.loop-place.place ≡ place + 1 = omega arith in
    let path = c.args.path.now in
    let pieces = c.args.self.now.pieces.items in
    let piece = c.index.result.now in
    let rest : Test = fits_pieces (drop c.loop-place.place pieces) in
    let after = c.in_ok-fits-in-Choice.fits.items in
    let given : IsAtEach rest path c.deref-in-Choice.result.now =
    subst (λ (l : List Bool). IsAtEach rest path l) (sym c.deref-in-Choice.ensures.value) c.loop-place.invariant in
    let chosen : IsAtEach (choice_then c.in-Choice.alternatives.items rest) path after =
    subst (λ alternatives. IsAtEach (choice_then alternatives rest) path after) c.deref.ensures.value
    (c.in_ok-fits-in-Choice.ensures rest given) in
    let own : IsAtEach (piece_then piece rest) path after =
    subst (λ (p : PatternPiece). IsAtEach (piece_then p rest) path after) (sym c.in-Choice.is) chosen in
    let here : IsAtEach (piece_then piece (fits_pieces (drop (place + 1) pieces))) path after =
    subst (λ (n : ℕ). IsAtEach (piece_then piece (fits_pieces (drop n pieces))) path after) next own in
    pieces_step path after pieces place piece (omega arith) c.index.ensures here
