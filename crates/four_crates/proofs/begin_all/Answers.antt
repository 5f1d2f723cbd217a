-- `four_crates::begin_all` meets its contract. Assumes nothing.
use Rattle.four_crates.specs.FourCrates.{begun_all}
use Rattle.four_crates.proofs.begin_all.Goals as goal

pub returns : goal.returns
unfolding begun_all
returns c = rw (c.begin-4.ensures, c.begin-3.ensures, c.begin-2.ensures, c.begin.ensures)
