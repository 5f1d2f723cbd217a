-- `board::Board::begin` meets its contract. Assumes nothing.
use Rattle.board.proofs.Obeying.{begun-as}
use Rattle.board.proofs.Board.begin.Goals as goal

pub returns : goal.returns
returns c =
    let a = c.args in
    begun-as a.self a.command_block.now _ _ _ _ _ _ a.is_write c.kind_of-kind.ensures c.run_after-next_run.ensures
    c.block_after-next_block.ensures c.active_words-flags.ensures c.active_after-next_active.ensures c.begin_all-begun.ensures
