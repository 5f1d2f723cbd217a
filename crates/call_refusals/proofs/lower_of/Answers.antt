-- `call_refusals::lower_of` meets its contract. Assumes nothing.
use Rattle.call_refusals.proofs.Numbers.{lower-second, lower-first, lower-below, lower-above}
use Rattle.call_refusals.proofs.lower_of.Goals as goal

pub returns-then-a-eq0 : goal.returns-then-a-eq0
returns-then-a-eq0 c = lower-second _ _ c.if-a-eq0.true

pub returns-then-b-eq0 : goal.returns-then-b-eq0
returns-then-b-eq0 c = lower-first _ _ c.if-a-eq0.false c.if-b-eq0.true

pub returns-then-b-a : goal.returns-then-b-a
returns-then-b-a c = lower-below _ _ c.if-a-eq0.false c.if-b-eq0.false c.if-b-a.true

pub returns-else-b-a : goal.returns-else-b-a
returns-else-b-a c = lower-above _ _ c.if-a-eq0.false c.if-b-eq0.false c.if-b-a.false
