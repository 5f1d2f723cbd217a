-- `exports::good_packets` meets its contract. Assumes nothing.
use Prim.Native.Nat.{◌+◌, ◌*◌, ◌-◌, ◌≤◌}
use mathlib.Core.Path.{◌≡◌}
use lib.ListN.{drop}
use Rattle.exports.specs.Exports.{good_from}
use Rattle.exports.proofs.good_packets.Given as goal

abbrev pub invariant-loop-i : goal.invariant-loop-i
invariant-loop-i l = (l.i ≤ l.n) × (l.good ≤ l.i) × (l.good + good_from (l.n - l.i) (drop (7 * l.i) l.bytes) ≡ good_from l.n l.bytes)
