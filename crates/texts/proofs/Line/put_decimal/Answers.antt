-- `texts::Line::put_decimal` meets its contract. Assumes nothing.
use Prim.Native.Nat.{◌≤◌}
use Rattle.texts.specs.Texts.{decimal}
use Rattle.texts.proofs.Laws.{twenty, decimal-digits}
use native.Mathlib.Omega.{arith}
use Rattle.texts.proofs.Line.put_decimal.Goals as goal

pub returns-clause-text : goal.returns-clause-text
unfolding decimal
returns-clause-text c =
    let e = c.decimal-count.ensures in
    let k : c.decimal-count.result ≤ 20 = twenty c.args.n _ (omega arith) e.len in
    rw (← decimal-digits 20 _ _ k e.len, ← e.digits) c.put.ensures
