-- `command_reader::spare_set` meets its contract. Assumes nothing.
use borrow.Author.Tests.{eq-eqb, ne_eqb}
use Rattle.command_reader.specs.Reading.{spare_set}
use Rattle.command_reader.proofs.spare_set.Goals as goal

pub returns-then-word_at-ne0 : goal.returns-then-word_at-ne0
unfolding spare_set
returns-then-word_at-ne0 c = simp (ne_eqb _ _ (rw c.word_at.ensures at c.if-word_at-ne0.true))

pub returns : goal.returns
unfolding spare_set
returns c = simp (eq-eqb _ _ (rw c.word_at.ensures at c.if-word_at-ne0.false), c.word_at-2.ensures)
