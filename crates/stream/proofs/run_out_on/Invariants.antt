-- `stream::run_out_on`: what its loop keeps, and what falls with each turn.
use Prim.Native.Nat.{◌≤◌, ◌-◌}
use mathlib.Core.Path.{◌≡◌}
use Rattle.stream.specs.Stream.{time_ups}
use Rattle.stream.proofs.run_out_on.Given as goal

abbrev pub invariant-loop-i : goal.invariant-loop-i
invariant-loop-i l = (l._i ≤ 30) × (time_ups (30 - l._i) l.c l.b ≡ time_ups 30 l.c l.initial.b)
