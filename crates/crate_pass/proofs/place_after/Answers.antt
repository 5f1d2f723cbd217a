-- `crate_pass::place_after` meets its contract. Assumes nothing.
use borrow.Author.Tests.{lt-ltb, le-ltb}
use Rattle.crate_pass.specs.CodeShape.{place_after}
use Rattle.crate_pass.proofs.place_after.Goals as goal

pub returns-then-at-lt3 : goal.returns-then-at-lt3
unfolding place_after
returns-then-at-lt3 c = rw (c.if-good.true, lt-ltb _ _ c.if-at-lt3.true)

pub returns-then-good : goal.returns-then-good
unfolding place_after
returns-then-good c = rw (c.if-good.true, le-ltb _ _ c.if-at-lt3.false, c.next_place.ensures)

pub returns-then-at-lt2 : goal.returns-then-at-lt2
unfolding place_after
returns-then-at-lt2 c = rw (c.if-good.false, lt-ltb _ _ c.if-at-lt2.true)

pub returns : goal.returns
unfolding place_after
returns c = rw (c.if-good.false, le-ltb _ _ c.if-at-lt2.false, c.next_place-2.ensures)
