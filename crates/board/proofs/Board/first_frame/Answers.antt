-- `board::Board::first_frame` meets its contract. Assumes nothing.
use Rattle.board.proofs.Serving.{fetched, fetch-refused}
use mathlib.Core.Path.{◌≡◌, sym, ap, ◌∙◌}
use Rattle.std.specs.Prelude.{Err}
use borrow.Author.Rules.{rules}
use Rattle.board.proofs.Board.first_frame.Goals as goal
use Rattle.refusals.specs.Tables.{answer_of}

pub returns : goal.returns
returns c =
    fetched c.args.self c.args.index _ _ (sym (ap answer_of c.in_ok-board.was) ∙ c.first_on.ensures) _ _ _ _
    c.step_frame.ensures
    c.write_frame.ensures

pub returns-in_err-board : goal.returns-in_err-board
returns-in_err-board c =
    let same : c.from_residual.result ≡ Err c.in_err-board.field-0.0 = search rules in
    rw same (fetch-refused c.args.self c.args.index _ (sym (ap answer_of c.in_err-board.was) ∙ c.first_on.ensures) _)
