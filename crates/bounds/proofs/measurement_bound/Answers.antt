-- `bounds::measurement_bound` meets its contract. Assumes nothing.
use borrow.Author.Tests.{lt-ltb, le-ltb, eq-eqb, ne_eqb}
use Rattle.bounds.specs.Bounds.{measurement_bound}
use Rattle.bounds.proofs.measurement_bound.Goals as goal

pub returns-then-place-lt4 : goal.returns-then-place-lt4
unfolding measurement_bound
returns-then-place-lt4 c = simp (lt-ltb _ _ c.if-place-lt4.true)

pub returns-then-register-ge10 : goal.returns-then-register-ge10
unfolding measurement_bound
returns-then-register-ge10 c = simp (le-ltb _ _ c.if-place-lt4.false, le-ltb _ _ c.if-register-ge10.true)

pub returns-then-register-eq0 : goal.returns-then-register-eq0
unfolding measurement_bound
returns-then-register-eq0 c = simp (le-ltb _ _ c.if-place-lt4.false, lt-ltb _ _ c.if-register-ge10.false, eq-eqb _ _ c.if-register-eq0.true)

pub returns-else-register-eq0 : goal.returns-else-register-eq0
unfolding measurement_bound
returns-else-register-eq0 c = simp (le-ltb _ _ c.if-place-lt4.false, lt-ltb _ _ c.if-register-ge10.false, ne_eqb _ _ c.if-register-eq0.false)
