-- `command_series::first_of` meets its contract. Assumes nothing.
use Rattle.command_series.proofs.Commands.{first-later, first-there}
use Rattle.command_series.proofs.first_of.Goals as goal

pub returns-then-a-eq0 : goal.returns-then-a-eq0
returns-then-a-eq0 c = first-later _ _ c.if-a-eq0.true

pub returns-else-a-eq0 : goal.returns-else-a-eq0
returns-else-a-eq0 c = first-there _ _ c.if-a-eq0.false
