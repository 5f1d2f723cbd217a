-- `blocks::put_failure` meets its contract. Assumes nothing.
use Prim.Native.Nat.{suc}
use mathlib.Core.Path.{◌≡◌}
use mathlib.Core.List.{◌∷◌, ◌++◌}
use lib.ListN.{length, take, drop}
use Rattle.blocks.proofs.put_failure.Given as goal

abbrev pub invariant-loop-i : goal.invariant-loop-i
invariant-loop-i l = (l.body ≡ take (suc l.i) (l.calls ∷ l.fn.frame) ++ drop (suc l.i) l.initial.body) × (length l.body ≡ length l.initial.body)
