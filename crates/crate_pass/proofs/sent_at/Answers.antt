-- `crate_pass::sent_at` meets its contract. Assumes nothing.
use borrow.Author.Tests.{lt-ltb, le-ltb}
use Rattle.crate_pass.specs.Crate.{sent_at}
use Rattle.crate_pass.proofs.sent_at.Goals as goal

pub returns-then-board-lt10 : goal.returns-then-board-lt10
unfolding sent_at
returns-then-board-lt10 c = rw (lt-ltb _ _ c.if-board-lt10.true)

pub returns-else-board-lt10 : goal.returns-else-board-lt10
unfolding sent_at
returns-else-board-lt10 c = rw (le-ltb _ _ c.if-board-lt10.false)
