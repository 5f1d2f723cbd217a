-- `exchange::trigger_order` meets its contract. Assumes nothing.
use Rattle.exchange.proofs.Changing.{triggered}
use borrow.Author.Rules.{rules}
use Rattle.exchange.proofs.trigger_order.Goals as goal

pub returns-then-are_fields : goal.returns-then-are_fields
returns-then-are_fields c =
    let a = c.args in
    triggered a.board a.bytes.now _ _ c.bytes_response.result c.are_fields.result
    c.fields_from.result c.trigger-triggered.result c.are_fields.ensures c.if-are_fields.true
    c.fields_from.ensures (search rules) c.trigger-triggered.ensures c.bytes_response.ensures
