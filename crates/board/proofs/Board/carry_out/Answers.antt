-- `board::Board::carry_out` meets its contract. Assumes nothing.
use mathlib.Core.Path.{ap}
use Rattle.board.specs.State.{with_run}
use Rattle.board.proofs.Obeying.{after-obeyed}
use Rattle.board.proofs.Board.carry_out.Goals as goal

pub returns-in-Start : goal.returns-in-Start
unfolding with_run
returns-in-Start c =
    let a = c.args in
    after-obeyed a.self a.block.now a.answer _ _ c.in-Ok.is
    c.in-Start.is _ (ap (with_run a.self) c.start-self.ensures)

pub returns-in-Stop : goal.returns-in-Stop
unfolding with_run
returns-in-Stop c =
    let a = c.args in
    after-obeyed a.self a.block.now a.answer _ _ c.in-Ok.is
    c.in-Stop.is _ (ap (with_run a.self) c.stop-self.ensures)

pub returns-in-CrateReset : goal.returns-in-CrateReset
unfolding with_run
returns-in-CrateReset c =
    let a = c.args in
    after-obeyed a.self a.block.now a.answer _ _ c.in-Ok.is
    c.in-CrateReset.is _ (ap (with_run a.self) c.crate_reset-self.ensures)
