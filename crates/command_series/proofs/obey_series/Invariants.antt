-- `command_series::obey_series`: what its loop keeps, and what falls with each turn.
use Prim.Native.Nat.{◌-◌, ◌≤◌}
use Rattle.command_series.proofs.Commands.{ObeyedSoFar}
use Rattle.command_series.proofs.obey_series.Given as goal

abbrev pub invariant-loop-i : goal.invariant-loop-i
invariant-loop-i l = (l._i ≤ l.count) × (l.accepted ≤ l._i) × ObeyedSoFar l.words l.count l._i l.rest l.board l.accepted l.refusal
