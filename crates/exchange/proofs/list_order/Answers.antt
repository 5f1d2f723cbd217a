-- `exchange::list_order` meets its contract. Assumes nothing.
use borrow.Author.Tests.{ne_eqb}
use Rattle.exchange.proofs.Asking.{question-response, list-asked}
use borrow.Author.Rules.{rules}
use Rattle.exchange.proofs.list_order.Goals as goal

pub returns-then-bytes-ne0 : goal.returns-then-bytes-ne0
returns-then-bytes-ne0 c bytes = question-response _ _ _ (ne_eqb _ _ c.if-bytes-ne0.true)

pub returns : goal.returns
returns c =
    let a = c.args in
    list-asked a.board a.bytes.now c.words_response.result _ _ c.ftu_list.result c.if-bytes-ne0.false (search rules)
    c.ftu_list.ensures c.words_response.ensures
