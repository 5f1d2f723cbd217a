-- `exports::ftm_commands` meets its contract. Assumes nothing.
use mathlib.Core.Path.{refl, ◌∙◌}
use Rattle.call_refusals.proofs.Numbers.{lower-second, room-one}
use Rattle.exports.proofs.Refusing.{gives-refused, gives-count}
use borrow.Author.Rules.{rules}
use Rattle.exports.proofs.ftm_commands.Goals as goal

pub returns-then-refusal-ne0 : goal.returns-then-refusal-ne0
returns-then-refusal-ne0 c = gives-refused _ _ _ _ (c.no_room-refusal.ensures ∙ lower-second _ _ refl) c.if-refusal-ne0.true

pub bounds-accepted-0 : goal.bounds-accepted-0
bounds-accepted-0 c =
    let h = room-one 0 _ _ (c.no_room-refusal.ensures ∙ lower-second _ _ refl) c.if-refusal-ne0.false in
    search rules

pub returns : goal.returns
returns c =
    gives-count _ _ _ _ (c.no_room-refusal.ensures ∙ lower-second _ _ refl) c.if-refusal-ne0.false _ c.obey_series-done.ensures.accepted
