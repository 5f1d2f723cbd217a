-- `exports::given_triggers` meets its contract. Assumes nothing.
use Prim.Native.Nat.{◌-◌, ◌≤◌}
use Rattle.exports.proofs.Triggers.{at-end, one-given, one-refused}
use native.Mathlib.Omega.{arith}
use Rattle.exports.proofs.given_triggers.Goals as goal

pub returns-in-Err : goal.returns-in-Err
returns-in-Err c =
    one-refused _ _ _ c.args.out.now _ _ c.loop-i.invariant.1 c.requires c.loop-i-test.true
    c.trigger-t.result _ c.trigger-t.ensures _ c.in-Err.is

pub loop-i-preserved : goal.loop-i-preserved
loop-i-preserved c =
    let turn =
    one-given _ _ _ c.args.out.now _ _ c.loop-i.invariant.1 c.requires c.loop-i-test.true
    c.trigger-t.result _ c.trigger-t.ensures _ c.in-Ok.is in
    (omega arith, turn)

pub returns : goal.returns
returns c =
    let loop = c.loop-i in
    at-end _ _ _ c.args.out.now _ _ loop.invariant.1 c.requires (omega arith) (omega arith)
