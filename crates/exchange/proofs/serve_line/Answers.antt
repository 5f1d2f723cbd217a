-- `exchange::serve_line` meets its contract. Assumes nothing.
use Rattle.exchange.proofs.Lines.{empty, comment, order-form, malformed-form, as_line, passed_over_lem}
use Rattle.exchange.proofs.serve_line.Goals as goal

pub returns-in-Empty : goal.returns-in-Empty
returns-in-Empty c = as_line _ _ _ _ _ _ (empty _ _ c.in-Empty.is) (passed_over_lem _ _)

pub returns-in-Comment : goal.returns-in-Comment
returns-in-Comment c = as_line _ _ _ _ _ _ (comment _ _ c.in-Comment.is) (passed_over_lem _ _)

pub returns-in-Order : goal.returns-in-Order
returns-in-Order c = as_line _ _ _ _ _ _ (order-form _ _ c.in-Order.is) c.serve_read.ensures

pub returns-in-Malformed : goal.returns-in-Malformed
returns-in-Malformed c = as_line _ _ _ _ _ _ (malformed-form _ _ c.in-Malformed.is) c.question.ensures
