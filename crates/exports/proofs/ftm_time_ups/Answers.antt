-- `exports::ftm_time_ups` meets its contract. Assumes nothing.
use mathlib.Core.Path.{ap₂, ◌∙◌}
use Rattle.call_refusals.specs.CallRefusals.{lower_of}
use Rattle.call_refusals.proofs.Numbers.{room-one}
use Rattle.exports.proofs.Refusing.{items_refused, items-counted}
use Rattle.exports.proofs.AfterOne.{counted-after}
use borrow.Author.Rules.{rules}
use Rattle.exports.proofs.ftm_time_ups.Goals as goal

pub returns-then-refusal-ne0 : goal.returns-then-refusal-ne0
returns-then-refusal-ne0 c =
    let refusal = c.lower_of-refusal.ensures ∙ ap₂ lower_of c.obey_series-done.ensures.refusal c.no_room.ensures in
    items_refused _ _ _ _ _ _ _ refusal c.if-refusal-ne0.true

pub bounds-served-0 : goal.bounds-served-0
bounds-served-0 c =
    let refusal = c.lower_of-refusal.ensures ∙ ap₂ lower_of c.obey_series-done.ensures.refusal c.no_room.ensures in
    let h = room-one _ _ _ refusal c.if-refusal-ne0.false in
    search rules

pub returns : goal.returns
returns c =
    let refusal = c.lower_of-refusal.ensures ∙ ap₂ lower_of c.obey_series-done.ensures.refusal c.no_room.ensures in
    let counted = counted-after _ c.obey_series-done.result c.obey_series-done.ensures _ _ _ _ _ c.count_on_board.ensures in
    items-counted _ _ _ _ _ _ _ refusal c.if-refusal-ne0.false _ _ counted
