-- `ftu_list::answered_in` meets its contract. Assumes nothing.
use Prim.Native.Nat.{◌+◌, ◌-◌, ◌≤◌}
use mathlib.Core.Path.{◌≡◌}
use lib.ListN.{take, drop}
use Rattle.ftu_list.specs.List.{answered}
use Rattle.ftu_list.proofs.answered_in.Given as goal

abbrev pub invariant-loop-k : goal.invariant-loop-k
invariant-loop-k l =
    (l.from ≤ l.k) × (l.k ≤ l.to) × (l.n ≤ l.k)
    × (l.n + answered (take (l.to - l.k) (drop l.k l.entries)) ≡ answered (take (l.to - l.from) (drop l.from l.entries)))
