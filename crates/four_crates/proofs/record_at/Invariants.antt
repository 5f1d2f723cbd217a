-- `four_crates::record_at` meets its contract. Assumes nothing.
use Prim.Native.Nat.{◌-◌}
use mathlib.Core.Path.{◌≡◌}
use Rattle.four_crates.specs.FourCrates.{record_answer}
use Rattle.four_crates.proofs.Records.{found}
use Rattle.four_crates.proofs.record_at.Given as goal

abbrev pub invariant-loop-k : goal.invariant-loop-k
invariant-loop-k l = found l.crates l.k l.left ≡ record_answer l.crates l.ordinal
