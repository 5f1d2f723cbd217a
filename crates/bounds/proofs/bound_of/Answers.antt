-- `bounds::bound_of` meets its contract. Assumes nothing.
use borrow.Author.Tests.{lt-ltb, le-ltb}
use Rattle.bounds.specs.Bounds.{bound_of}
use Rattle.bounds.proofs.bound_of.Goals as goal

pub returns-then-place-lt2 : goal.returns-then-place-lt2
unfolding bound_of
returns-then-place-lt2 c = simp (lt-ltb _ _ c.if-place-lt2.true)

pub returns-then-place-lt3 : goal.returns-then-place-lt3
unfolding bound_of
returns-then-place-lt3 c = simp (le-ltb _ _ c.if-place-lt2.false, lt-ltb _ _ c.if-place-lt3.true)

pub returns-then-place-lt4 : goal.returns-then-place-lt4
unfolding bound_of
returns-then-place-lt4 c = simp (le-ltb _ _ c.if-place-lt2.false, le-ltb _ _ c.if-place-lt3.false, lt-ltb _ _ c.if-place-lt4.true)

pub returns-then-place-lt432 : goal.returns-then-place-lt432
unfolding bound_of
returns-then-place-lt432 c =
    simp (le-ltb _ _ c.if-place-lt2.false, le-ltb _ _ c.if-place-lt3.false, le-ltb _ _ c.if-place-lt4.false, lt-ltb _ _ c.if-place-lt432.true)

pub returns-else-place-lt432 : goal.returns-else-place-lt432
unfolding bound_of
returns-else-place-lt432 c =
    simp (le-ltb _ _ c.if-place-lt2.false, le-ltb _ _ c.if-place-lt3.false, le-ltb _ _ c.if-place-lt4.false, le-ltb _ _ c.if-place-lt432.false)
