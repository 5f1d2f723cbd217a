-- `reply_series::count_on_board` meets its contract. Assumes nothing.
use Prim.Native.Nat.{◌+◌}
use mathlib.Core.Path.{◌∙◌}
use Rattle.reply_series.proofs.Items.{few-counted, item-turn, items-end}
use borrow.Author.Rules.{rules}
use native.Mathlib.Omega.{arith}
use Rattle.reply_series.proofs.count_on_board.Goals as goal

pub loop-rest-preserved : goal.loop-rest-preserved
loop-rest-preserved c =
    let loop = c.loop-rest in
    let size = c.item_size-size.ensures in
    let l = c.loop-rest-test.true in
    let few = few-counted loop.rest.now _ loop.count (loop.count + c.count_of-count.result) _ size.1 l (omega arith) loop.invariant.1 in (
      search rules,
      few,
      item-turn _ _ size.0 _ _ _ _ c.hand_in-replied.result _ c.hand_in-replied.ensures _ c.count_of-count.ensures.0 l ∙ loop.invariant.2,
    )

pub returns : goal.returns
returns c =
    items-end _ _ c.item_size-size.ensures.0 _ (omega arith) _ _ _ _ c.loop-rest.invariant.2
