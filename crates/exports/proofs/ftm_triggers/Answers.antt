-- `exports::ftm_triggers` meets its contract. Assumes nothing.
use mathlib.Core.Path.{sym, ◌∙◌}
use Rattle.call_refusals.proofs.Numbers.{room_for, room-one, lower-none}
use Rattle.exports.proofs.Refusing.{gives-refused, gives, gives-count}
use Rattle.exports.proofs.Triggers.{output_on, triggers-refused}
use borrow.Author.Rules.{rules}
use Rattle.exports.proofs.ftm_triggers.Goals as goal

pub returns-then-refusal-ne0 : goal.returns-then-refusal-ne0
returns-then-refusal-ne0 c =
    let refusal = triggers-refused _ c.obey_series-done.result c.obey_series-done.ensures _ _ _ _ c.triggers_refusal-refusal.ensures in
    record { bytes = gives-refused _ _ _ _ refusal c.if-refusal-ne0.true; many = gives-refused _ _ _ _ refusal c.if-refusal-ne0.true }

pub given_triggers-requires : goal.given_triggers-requires
given_triggers-requires c =
    let refusal = triggers-refused _ c.obey_series-done.result c.obey_series-done.ensures _ _ _ _ c.triggers_refusal-refusal.ensures in
    room_for _ _ (lower-none _ _ (lower-none _ _ (sym refusal ∙ c.if-refusal-ne0.false)).0).1

pub bounds-number-0 : goal.bounds-number-0
bounds-number-0 c =
    let refusal = triggers-refused _ c.obey_series-done.result c.obey_series-done.ensures _ _ _ _ c.triggers_refusal-refusal.ensures in
    let h = room-one _ _ _ refusal c.if-refusal-ne0.false in
    search rules

pub returns : goal.returns
returns c =
    let refusal = triggers-refused _ c.obey_series-done.result c.obey_series-done.ensures _ _ _ _ c.triggers_refusal-refusal.ensures in
    let output_after = output_on _ c.obey_series-done.result c.obey_series-done.ensures _ _ _ _ c.given_triggers.ensures in
    record {
      bytes = gives _ _ _ _ refusal c.if-refusal-ne0.false _ output_after.packets;
      many = gives-count _ _ _ _ refusal c.if-refusal-ne0.false _ output_after.number;
    }
