-- `four_crates::entries_of` meets its contract. Assumes nothing.
use Prim.Native.Nat.{◌≤◌, ◌-◌}
use mathlib.Core.Path.{◌≡◌}
use mathlib.Core.List.{◌++◌}
use lib.ListN.{length, take, drop, replicate}
use Rattle.crate_pass.specs.Crate.{silent}
use Rattle.four_crates.specs.FourCrates.{entries_of}
use Rattle.four_crates.proofs.entries_of.Given as goal

abbrev pub invariant-loop-k : goal.invariant-loop-k
invariant-loop-k l = (l.k ≤ 40) × (l.entries ≡ take l.k (entries_of l.crates) ++ drop l.k (replicate 40 silent)) × (length l.entries ≡ 40)
