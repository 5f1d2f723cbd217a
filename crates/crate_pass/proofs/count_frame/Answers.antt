-- `crate_pass::count_frame` meets its contract. Assumes nothing.
use borrow.Author.Tests.{lt-ltb, le-ltb}
use Rattle.crate_pass.specs.Crate.{counted_frame}
use Rattle.crate_pass.proofs.count_frame.Goals as goal

pub returns-then-sent-lt65535 : goal.returns-then-sent-lt65535
unfolding counted_frame
returns-then-sent-lt65535 c = rw (lt-ltb _ _ c.if-board-lt10.true, lt-ltb _ _ c.if-sent-lt65535.true)

pub returns-else-sent-lt65535 : goal.returns-else-sent-lt65535
unfolding counted_frame
returns-else-sent-lt65535 c = rw (lt-ltb _ _ c.if-board-lt10.true, le-ltb _ _ c.if-sent-lt65535.false)

pub returns-else-board-lt10 : goal.returns-else-board-lt10
unfolding counted_frame
returns-else-board-lt10 c = rw (le-ltb _ _ c.if-board-lt10.false)
