-- `bounds::lowest_above` meets its contract. The lowest place from i on is that of all the words. Assumes nothing.
use borrow.Author.Rules.{rules}
use Prim.Native.Nat.{◌≤◌, ◌-◌}
use mathlib.Core.Path.{◌≡◌, refl, sym, ◌∙◌}
use mathlib.Core.Logic.{⊎_elim}
use native.Mathlib.Omega.{arith}
use lib.ListN.{length, drop}
use Rattle.bounds.specs.Bounds.{bound_of, lowest_above}
use Rattle.bounds.proofs.Laws.{lowest-here, lowest-next, lowest-end}
use Rattle.bounds.proofs.lowest_above.Given as goal

abbrev pub invariant-loop-i : goal.invariant-loop-i
invariant-loop-i l = (l.i ≤ length l.block) × (lowest_above bound_of l.i (drop l.i l.block) ≡ lowest_above bound_of 0 l.block)

abbrev pub decreases-loop-i : goal.decreases-loop-i
decreases-loop-i l = length l.block - l.i
