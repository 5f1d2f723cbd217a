-- `board::Board::with_run` meets its contract. Assumes nothing.
use mathlib.Core.Path.{refl}
use Rattle.board.specs.State.{with_run}
use Rattle.board.proofs.Board.with_run.Goals as goal

pub returns : goal.returns
unfolding with_run
returns c = refl
