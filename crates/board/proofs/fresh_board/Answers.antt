-- `board::fresh_board` meets its contract. Assumes nothing.
use Rattle.board.specs.State.{fresh_board}
use Rattle.board.proofs.fresh_board.Goals as goal

pub returns : goal.returns
unfolding fresh_board
returns c = rw (c.crate_at_power_up.ensures, c.run_at_power_up.ensures)
