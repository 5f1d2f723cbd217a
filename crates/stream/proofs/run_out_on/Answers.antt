-- `stream::run_out_on` meets its contract. Assumes nothing.
use Prim.Native.Nat.{◌-◌, ◌+◌}
use mathlib.Core.Path.{sym, ap, ◌∙◌}
use native.Mathlib.Omega.{arith}
use Rattle.board.specs.declared.Board.{Board}
use Rattle.stream.proofs.RunOut.{more-time-ups, no-time-ups}
use Rattle.stream.specs.Stream.{time_ups}
use Rattle.stream.proofs.run_out_on.Goals as goal

pub loop-i-preserved : goal.loop-i-preserved
loop-i-preserved c =
    let l = c.loop-i in
    let a = c.args in (
      omega arith,
      ap (λ (β : Board). time_ups (30 - (l._i + 1)) a.c β) c.hand_in-r.ensures.board
          ∙ sym (more-time-ups 30 a.c l.b l._i (omega arith)) ∙ l.invariant.1,
    )

pub returns : goal.returns
returns c = sym (no-time-ups 30 c.args.c c.loop-i.b c.loop-i._i (omega arith)) ∙ c.loop-i.invariant.1
