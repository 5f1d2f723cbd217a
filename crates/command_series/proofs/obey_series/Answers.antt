-- `command_series::obey_series` meets its contract. Assumes nothing.
use Rattle.command_series.proofs.Commands.{none-obeyed, one-obeyed, all-obeyed}
use native.Mathlib.Omega.{arith}
use Rattle.command_series.proofs.obey_series.Goals as goal

pub loop-i-init : goal.loop-i-init
loop-i-init c = (omega arith, omega arith, none-obeyed _ _ c.power_up.result c.power_up.ensures)

pub loop-i-preserved : goal.loop-i-preserved
loop-i-preserved c =
    let turn =
    one-obeyed _ _ _ _ _ _ _ c.loop-i.invariant.2 c.obey-done.result c.obey-done.ensures _
    c.rest_after-rest.ensures.contents _ _ _ c.loop-i-test.true
    c.count_given-accepted.ensures.0 c.number_given.ensures c.first_of-refusal.ensures in
    (omega arith, omega (arith, c.count_given-accepted.ensures.1), turn)

pub returns : goal.returns
returns c = all-obeyed _ _ _ _ _ _ _ c.loop-i.invariant.2 (omega arith)
