-- `exports::ftm_clock_steps` meets its contract. Assumes nothing.
use Prim.Native.Nat.{◌+◌, ◌*◌, ◌-◌, ◌^◌, ◌<◌, ◌≤◌}
use mathlib.Core.Path.{◌≡◌, ◌∙◌}
use lib.ListN.{length}
use Rattle.exports.proofs.Clock.{Made}
use Rattle.exports.proofs.ftm_clock_steps.Given as goal

abbrev pub invariant-loop-i : goal.invariant-loop-i
invariant-loop-i l =
    (l.i ≤ length l.ticks) × (length l.ticks + 1 ≤ length l.initial.out) × (length l.out ≡ length l.initial.out) × (length l.initial.out * 8 < 2 ^ 63)
    × Made l.initial.board l.ticks l.initial.out l.i l.board l.out
