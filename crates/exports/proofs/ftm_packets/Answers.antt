-- `exports::ftm_packets` meets its contract. Assumes nothing.
use Rattle.call_refusals.proofs.Numbers.{room-one}
use Rattle.exports.proofs.Refusing.{gives-refused, gives-count}
use borrow.Author.Rules.{rules}
use Rattle.exports.proofs.ftm_packets.Goals as goal

pub returns-then-refusal-ne0 : goal.returns-then-refusal-ne0
returns-then-refusal-ne0 c = gives-refused _ _ _ _ c.packets_refusal-refusal.ensures c.if-refusal-ne0.true

pub bounds-good-0 : goal.bounds-good-0
bounds-good-0 c =
    let h = room-one _ _ _ c.packets_refusal-refusal.ensures c.if-refusal-ne0.false in
    search rules

pub returns : goal.returns
returns c =
    gives-count _ _ _ _ c.packets_refusal-refusal.ensures c.if-refusal-ne0.false _ c.good_packets.ensures
