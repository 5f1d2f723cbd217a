-- `exports::given_triggers` meets its contract. Assumes nothing.
use Prim.Native.Nat.{◌-◌, ◌≤◌}
use Rattle.exports.proofs.Triggers.{TriggersSoFar}
use Rattle.exports.proofs.given_triggers.Given as goal

abbrev pub invariant-loop-i : goal.invariant-loop-i
invariant-loop-i l = (l.i ≤ l.count) × TriggersSoFar l.initial.board.run l.count l.i l.initial.out l.out l.board.run
