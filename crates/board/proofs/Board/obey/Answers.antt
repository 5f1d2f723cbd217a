-- `board::Board::obey` meets its contract. Assumes nothing.
use Rattle.board.proofs.Obeying.{block-whole}
use Rattle.board.proofs.Board.obey.Goals as goal

pub carry_out-requires : goal.carry_out-requires
carry_out-requires c =
    let a = c.args in
    let answer = rw c.status.ensures at c.decide-answer.ensures.answer in
    block-whole a.self a.words.now c.decide-answer.result.answer answer
    _ c.decide-answer.ensures.used _ c.block_before-block.ensures.contents
