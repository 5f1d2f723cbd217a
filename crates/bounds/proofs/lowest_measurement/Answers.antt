-- `bounds::lowest_measurement` meets its contract. Assumes nothing.
use native.Mathlib.Omega.{arith}
use Rattle.bounds.specs.Bounds.{measurement_bound}
use Rattle.bounds.proofs.Laws.{found-here, found-none}
use Rattle.bounds.proofs.lowest_measurement.Goals as goal

pub returns-then-measurement_bound-word : goal.returns-then-measurement_bound-word
returns-then-measurement_bound-word c = found-here measurement_bound _ _ c.loop-place.invariant (omega arith) (omega arith)

pub returns : goal.returns
returns c = found-none measurement_bound _ c.loop-place.place c.loop-place.invariant (omega arith)
