-- Frames, pushed and popped.
use Rattle.std.proofs.Common.{◌≡◌, ◌+◌, List, [], ◌∷◌, ◌++◌, refl, ap, arith}
use Rattle.prettyless_model.specs.Tree.{Tree}
use Rattle.prettyless_pointers.specs.Copying.{filled, frame_work, frames_work, whole_copy}
use Rattle.prettyless_pointers.specs.declared.copying.CopyFrame.{CopyFrame}

pub whole_of_push : (fs : List CopyFrame) (f : CopyFrame) (x : Tree) → whole_copy (fs ++ f ∷ []) x ≡ whole_copy fs (filled f x)
whole_of_push [] f x = refl
whole_of_push (g ∷ fs) f x = ap (filled g) (whole_of_push fs f x)

pub frames_work_of_push : (fs : List CopyFrame) (f : CopyFrame) → frames_work (fs ++ f ∷ []) ≡ frame_work f + frames_work fs
frames_work_of_push [] f = refl
frames_work_of_push (g ∷ fs) f = omega (arith, frames_work_of_push fs f)
