-- `board::power_up` meets its contract. Assumes nothing.
use borrow.Author.Tests.{le-leb, lt-leb}
use Rattle.board.specs.State.{power_up_answer}
use Rattle.board.proofs.power_up.Goals as goal

pub returns-then-board_id-ge-ID_LIMIT : goal.returns-then-board_id-ge-ID_LIMIT
unfolding power_up_answer
returns-then-board_id-ge-ID_LIMIT c =
    let past = le-leb _ _ c.if-board_id-ge-ID_LIMIT.true in
    record { answer = rw past; board = rw past c.fresh_board.ensures }

pub returns : goal.returns
unfolding power_up_answer
returns c = record { answer = rw (lt-leb _ _ c.if-board_id-ge-ID_LIMIT.false); board = rw (lt-leb _ _ c.if-board_id-ge-ID_LIMIT.false) c.fresh_board-2.ensures }
