-- `exchange::static_order` meets its contract. Assumes nothing.
use borrow.Author.Tests.{ne_eqb}
use Rattle.exchange.proofs.Asking.{question-response, static-asked}
use borrow.Author.Rules.{rules}
use Rattle.exchange.proofs.static_order.Goals as goal

pub returns-then-bytes-ne0 : goal.returns-then-bytes-ne0
returns-then-bytes-ne0 c bytes = question-response _ _ _ (ne_eqb _ _ c.if-bytes-ne0.true)

pub returns : goal.returns
returns c =
    let a = c.args in
    -- the second field of the board, an array: a search does not look so far into it
    let block_held = c.well_formed.0.1.1.1.0 in
    static-asked a.board a.bytes.now c.words_response.result _ _ c.static_block.result c.if-bytes-ne0.false
    (search rules) block_held.1.0.1 c.static_block.ensures c.words_response.ensures
