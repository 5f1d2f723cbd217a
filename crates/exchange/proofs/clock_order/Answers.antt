-- `exchange::clock_order` meets its contract. Assumes nothing.
use Rattle.words.proofs.Front.{words-whole}
use Rattle.exchange.proofs.Changing.{clocked}
use borrow.Author.Rules.{rules}
use Rattle.exchange.proofs.clock_order.Goals as goal

pub returns : goal.returns
returns c =
    let a = c.args in
    clocked a.board a.bytes.now _ c.number32.result c.clock.result c.if-bytes-ne4.false
    (words-whole a.bytes.now _ _ _ c.words_from_bytes.ensures (search rules))
    c.number32.ensures c.clock.ensures
