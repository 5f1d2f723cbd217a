-- `exchange::power_up_order` meets its contract. Assumes nothing.
use Rattle.words.proofs.Front.{words-whole}
use Rattle.exchange.proofs.Changing.{powered-up, power-up-refused}
use borrow.Author.Rules.{rules}
use Rattle.exchange.proofs.power_up_order.Goals as goal

pub returns-in-Ok : goal.returns-in-Ok
returns-in-Ok c =
    let a = c.args in
    powered-up a.board a.bytes.now _ c.if-bytes-ne10.false
    (words-whole a.bytes.now _ _ _ c.words_from_bytes.ensures (search rules))
    c.number64.result c.number64.ensures c.power_up-up.result c.power_up-up.ensures
    c.in-Ok.is

pub returns-in-Err : goal.returns-in-Err
returns-in-Err c =
    let a = c.args in
    power-up-refused a.board a.bytes.now _ c.if-bytes-ne10.false
    (words-whole a.bytes.now _ _ _ c.words_from_bytes.ensures (search rules))
    c.number64.result c.number64.ensures c.power_up-up.result c.power_up-up.ensures
    _ c.refusal_response.result c.in-Err.is c.refusal_response.ensures
