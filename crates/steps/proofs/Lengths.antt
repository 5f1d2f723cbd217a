-- Every step's frame has 28 bytes.
-- Assumes nothing.
use Prim.Native.Nat.{ℕ}
use mathlib.Core.Path.{◌≡◌}
use mathlib.Core.List.{List}
use lib.ListN.{length}
use Rattle.frames.proofs.Frames.{frame-length}
use Rattle.steps.specs.Steps.{step_frame}

pub step-length : (block : List ℕ) (c b code : ℕ) → length (step_frame block c b code) ≡ 28
unfolding step_frame
step-length block c b code = frame-length _ _ _
