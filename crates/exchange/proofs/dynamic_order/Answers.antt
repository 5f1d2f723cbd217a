-- `exchange::dynamic_order` meets its contract. Assumes nothing.
use borrow.Author.Tests.{ne_eqb}
use Rattle.words.proofs.Front.{words-front}
use Rattle.exchange.proofs.Asking.{question-response, dynamic-asked}
use borrow.Author.Rules.{rules}
use Rattle.exchange.proofs.dynamic_order.Goals as goal

pub returns-then-bytes-ne0 : goal.returns-then-bytes-ne0
returns-then-bytes-ne0 c bytes = question-response _ _ _ (ne_eqb _ _ c.if-bytes-ne0.true)

pub returns : goal.returns
returns c =
    let a = c.args in
    dynamic-asked a.board a.bytes.now c.words_response.result _ _ c.dynamic_block.result
    c.if-bytes-ne0.false (search rules) _
    (words-front a.bytes.now _ _ _ c.words_from_bytes.ensures (search rules))
    c.dynamic_block.ensures c.words_response.ensures
