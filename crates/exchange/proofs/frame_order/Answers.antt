-- `exchange::frame_order` meets its contract. Assumes nothing.
use borrow.Author.Tests.{ne_eqb}
use Rattle.exchange.proofs.Asking.{question-response, frame-asked}
use borrow.Author.Rules.{rules}
use Rattle.exchange.proofs.frame_order.Goals as goal

pub returns-then-bytes-ne1 : goal.returns-then-bytes-ne1
returns-then-bytes-ne1 c words = question-response _ _ _ (ne_eqb _ _ c.if-bytes-ne1.true)

pub returns : goal.returns
returns c =
    let a = c.args in
    frame-asked a.board a.bytes.now c.bytes_response.result _ _ c.first_frame.result c.if-bytes-ne1.false (search rules)
    c.first_frame.ensures c.bytes_response.ensures
