-- `exports::ftm_rate_pass` meets its contract. Assumes nothing.
use Rattle.call_refusals.proofs.Numbers.{room-one}
use Rattle.exports.proofs.Refusing.{items_refused, items-counted}
use Rattle.exports.proofs.AfterOne.{rates-counted, pass-refused}
use borrow.Author.Rules.{rules}
use Rattle.exports.proofs.ftm_rate_pass.Goals as goal

pub returns-then-refusal-ne0 : goal.returns-then-refusal-ne0
returns-then-refusal-ne0 c =
    let refusal = pass-refused _ c.obey_series-done.result c.obey_series-done.ensures _ _ _ c.pass_refusal-refusal.ensures in
    items_refused _ _ _ _ _ _ _ refusal c.if-refusal-ne0.true

pub bounds-good-0 : goal.bounds-good-0
bounds-good-0 c =
    let refusal = pass-refused _ c.obey_series-done.result c.obey_series-done.ensures _ _ _ c.pass_refusal-refusal.ensures in
    let h = room-one _ _ _ refusal c.if-refusal-ne0.false in
    search rules

pub returns : goal.returns
returns c =
    let refusal = pass-refused _ c.obey_series-done.result c.obey_series-done.ensures _ _ _ c.pass_refusal-refusal.ensures in
    let counted =
    rates-counted _ c.obey_series-done.result c.obey_series-done.ensures _ c.run_out.ensures c.begin_rate_pass-begun.result
    c.begin_rate_pass-begun.ensures _ _ _ _ c.count_on_board.ensures in
    items-counted _ _ _ _ _ _ _ refusal c.if-refusal-ne0.false _ _ counted
