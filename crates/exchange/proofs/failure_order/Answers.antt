-- `exchange::failure_order` meets its contract. Assumes nothing.
use borrow.Author.Tests.{ne_eqb}
use Rattle.exchange.proofs.Asking.{question-response, failure-asked}
use borrow.Author.Rules.{rules}
use Rattle.exchange.proofs.failure_order.Goals as goal

pub returns-then-bytes-ne1 : goal.returns-then-bytes-ne1
returns-then-bytes-ne1 c bytes = question-response _ _ _ (ne_eqb _ _ c.if-bytes-ne1.true)

pub returns : goal.returns
returns c =
    let a = c.args in
    failure-asked a.board a.bytes.now c.words_response.result _ _ c.failure_message.result c.if-bytes-ne1.false (search rules)
    c.failure_message.ensures c.words_response.ensures
