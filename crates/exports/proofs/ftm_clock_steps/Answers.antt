-- `exports::ftm_clock_steps` meets its contract. Assumes nothing.
use Prim.Native.Nat.{◌+◌, ◌*◌, ◌-◌, ◌^◌, ◌<◌, ◌≤◌}
use native.Mathlib.Omega.{arith}
use mathlib.Core.Path.{◌≡◌, refl, sym, ap₂, ◌∙◌}
use lib.ListN.{length, length-set}
use Rattle.call_refusals.specs.CallRefusals.{lower_of}
use Rattle.call_refusals.proofs.Numbers.{room_for, lower-none}
use Rattle.exports.proofs.Refusing.{gives-refused, gives}
use Rattle.exports.proofs.Clock.{Made, none_made, one_more, all_made, steps-output}
use borrow.Author.Rules.{rules}
use Rattle.exports.proofs.ftm_clock_steps.Goals as goal

pub returns-then-refusal-ne0 : goal.returns-then-refusal-ne0
returns-then-refusal-ne0 c =
    let refusal = c.lower_of-refusal.ensures ∙ ap₂ lower_of c.obey_series-done.ensures.refusal c.no_room.ensures in
    gives-refused _ _ _ _ refusal c.if-refusal-ne0.true

pub loop-i-init : goal.loop-i-init
loop-i-init c =
    let size : length c.args.out.now * 8 < 2 ^ 63 = search rules in
    let refusal = c.lower_of-refusal.ensures ∙ ap₂ lower_of c.obey_series-done.ensures.refusal c.no_room.ensures in
    (omega arith, room_for _ _ (lower-none _ _ (sym refusal ∙ c.if-refusal-ne0.false)).1, refl, size, none_made _ _ _ _ refl)

pub loop-i-preserved : goal.loop-i-preserved
loop-i-preserved c =
    let loop = c.loop-i in
    let n = loop.invariant.2 in (
      omega arith,
      loop.invariant.1,
      simp length-set n,
      loop.invariant.3,
      one_more _ _ _ loop.i _ _ loop.invariant.4 (omega arith) (omega arith) _ c.clock-board.ensures _ refl,
    )

pub returns : goal.returns
returns c =
    let loop = c.loop-i in
    let refusal = c.lower_of-refusal.ensures ∙ ap₂ lower_of c.obey_series-done.ensures.refusal c.no_room.ensures in
    let made = all_made _ _ _ loop.i _ _ loop.invariant.4 (omega arith) loop.invariant.1 _ refl in
    gives _ _ _ _ refusal c.if-refusal-ne0.false _ (steps-output _ _ _ _ _ c.obey_series-done.ensures.board made)
