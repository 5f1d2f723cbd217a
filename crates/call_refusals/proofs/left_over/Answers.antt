-- `call_refusals::left_over` meets its contract. Assumes nothing.
use borrow.Author.Tests.{eq-eqb, ne_eqb}
use Rattle.call_refusals.specs.CallRefusals.{left_over}
use Rattle.call_refusals.proofs.left_over.Goals as goal

pub returns-then-length-size-eq0 : goal.returns-then-length-size-eq0
unfolding left_over
returns-then-length-size-eq0 c = rw (eq-eqb _ _ c.if-length-size-eq0.true)

pub returns-else-length-size-eq0 : goal.returns-else-length-size-eq0
unfolding left_over
returns-else-length-size-eq0 c = rw (ne_eqb _ _ c.if-length-size-eq0.false)
