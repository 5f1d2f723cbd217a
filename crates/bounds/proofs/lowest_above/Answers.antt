-- `bounds::lowest_above` meets its contract. The lowest place from i on is that of all the words. Assumes nothing.
use Prim.Native.Nat.{◌≤◌, ◌-◌}
use mathlib.Core.Path.{◌≡◌, sym, ◌∙◌}
use mathlib.Core.Logic.{⊎_elim}
use native.Mathlib.Omega.{arith}
use Rattle.bounds.specs.Bounds.{bound_of}
use Rattle.bounds.proofs.Laws.{lowest-next, found-here, found-none}
use Rattle.bounds.proofs.lowest_above.Goals as goal

pub loop-i-preserved : goal.loop-i-preserved
loop-i-preserved c =
    let l = c.loop-i in
    let s = c.args.block.now in
    let within = rw c.bound_of.ensures at c.if-bound_of-word.false in
    let word = c.shared_slice_known-1.given in
    let next = c.next_bounded-i.ensures in
    (next.0, sym (lowest-next s (λ j. (word j).fits) l.i _ c.loop-i-test.true next.0 within next.1) ∙ l.invariant.1)

pub returns-then-bound_of-word : goal.returns-then-bound_of-word
returns-then-bound_of-word c =
    let above = rw c.bound_of.ensures at c.if-bound_of-word.true in
    found-here bound_of _ _ c.loop-i.invariant.1 c.loop-i-test.true above

pub returns : goal.returns
returns c = found-none bound_of _ c.loop-i.i c.loop-i.invariant.1 (omega arith)
