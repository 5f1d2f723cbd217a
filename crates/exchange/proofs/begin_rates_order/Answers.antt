-- `exchange::begin_rates_order` meets its contract. Assumes nothing.
use Rattle.exchange.proofs.Changing.{rates-begun, rates-refused}
use Rattle.exchange.proofs.begin_rates_order.Goals as goal

pub returns-in-Ok : goal.returns-in-Ok
returns-in-Ok c =
    let a = c.args in
    rates-begun a.board a.bytes.now c.if-bytes-ne0.false c.begin_rate_pass-begun.result c.begin_rate_pass-begun.ensures c.in-Ok.is

pub returns-in-Err : goal.returns-in-Err
returns-in-Err c =
    let a = c.args in
    rates-refused a.board a.bytes.now c.if-bytes-ne0.false c.begin_rate_pass-begun.result c.begin_rate_pass-begun.ensures
    _ c.refusal_response.result c.in-Err.is c.refusal_response.ensures
