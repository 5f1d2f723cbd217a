-- `bounds::lowest_measurement` meets its contract. The lowest place from `place` on is that of all the words. Assumes nothing.
use mathlib.Core.Path.{◌≡◌}
use lib.ListN.{drop}
use Rattle.bounds.specs.Bounds.{measurement_bound, lowest_above}
use Rattle.bounds.proofs.lowest_measurement.Given as goal

abbrev pub invariant-loop-place : goal.invariant-loop-place
invariant-loop-place l = lowest_above measurement_bound l.place (drop l.place l.measurements) ≡ lowest_above measurement_bound 0 l.measurements
