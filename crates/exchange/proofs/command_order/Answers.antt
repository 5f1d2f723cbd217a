-- `exchange::command_order` meets its contract. Assumes nothing.
use Rattle.words.proofs.Front.{words-front}
use Rattle.exchange.proofs.Changing.{commanded}
use borrow.Author.Rules.{rules}
use Rattle.exchange.proofs.command_order.Goals as goal

pub returns : goal.returns
returns c =
    let a = c.args in
    commanded a.board a.bytes.now _ c.command_response.result c.obey-done.result c.if-bytes-ne0.false
    (words-front a.bytes.now _ _ _ c.words_from_bytes.ensures (search rules))
    c.obey-done.ensures c.command_response.ensures
