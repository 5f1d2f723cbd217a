-- `call_refusals::no_room` meets its contract. Assumes nothing.
use borrow.Author.Tests.{lt-ltb, le-ltb}
use Rattle.call_refusals.specs.CallRefusals.{no_room}
use Rattle.call_refusals.proofs.no_room.Goals as goal

pub returns-then-length-due : goal.returns-then-length-due
unfolding no_room
returns-then-length-due c = rw (lt-ltb _ _ c.if-length-due.true)

pub returns-else-length-due : goal.returns-else-length-due
unfolding no_room
returns-else-length-due c = rw (le-ltb _ _ c.if-length-due.false)
