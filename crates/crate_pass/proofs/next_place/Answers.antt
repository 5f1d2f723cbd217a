-- `crate_pass::next_place` meets its contract. Assumes nothing.
use Rattle.crate_pass.specs.CodeShape.{next_place}
use Rattle.crate_pass.proofs.next_place.Goals as goal

pub returns : goal.returns
unfolding next_place
returns c = rw (c.first_code.ensures, c.next_board.ensures)
