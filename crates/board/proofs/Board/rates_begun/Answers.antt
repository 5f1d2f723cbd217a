-- `board::Board::rates_begun` meets its contract. Assumes nothing.
use Rattle.board.proofs.RatePass.{rates-begun-as}
use Rattle.board.proofs.Board.rates_begun.Goals as goal

pub returns : goal.returns
returns c =
    rates-begun-as c.args.self _ _ _ c.finished_rates-rates.ensures c.active_words.ensures
    c.begin_all-begun.ensures
