-- `exchange::event_order` meets its contract. Assumes nothing.
use Rattle.exchange.proofs.Changing.{handed-in}
use borrow.Author.Rules.{rules}
use Rattle.exchange.proofs.event_order.Goals as goal

pub returns : goal.returns
returns c =
    let a = c.args in
    handed-in a.board a.index a.event a.bytes.now _ _ c.outcome_response.result c.hand_in-replied.result (search rules)
    c.hand_in-replied.ensures c.outcome_response.ensures
