-- `ftu_list::answered_in` meets its contract. Assumes nothing.
use borrow.Author.Tests.{eq-eqb, ne_eqb}
use mathlib.Core.Path.{◌≡◌}
use lib.ListN.{length}
use Rattle.ftu_list.proofs.Laws.{answered-on}
use borrow.Author.Rules.{rules}
use native.Mathlib.Omega.{arith}
use Rattle.ftu_list.proofs.answered_in.Goals as goal
use Rattle.ftu_list.proofs.answered_in.Goals.{then-e-ne0, else-e-ne0}

pub loop-k-preserved : goal.loop-k-preserved
loop-k-preserved c =
    let a = c.args in
    let l = c.loop-k in
    let n : length a.entries ≡ 40 = search rules in
    let st = answered-on a.entries l.k a.to (omega arith) (omega arith) in
    elim c.if-e-ne0.branch [
      | then-e-ne0 w ↦ let q = simp (ne_eqb _ _ w.if-e-ne0.true) at st in let m = w.n-is in (omega arith, omega arith, omega arith, omega arith)
      | else-e-ne0 w ↦ let q = simp (eq-eqb _ _ w.if-e-ne0.false) at st in let m = w.n-is in (omega arith, omega arith, omega arith, omega arith)
    ]
