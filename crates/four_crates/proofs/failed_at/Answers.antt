-- `four_crates::failed_at` meets its contract. Assumes nothing.
use native.Mathlib.Omega.{arith}
use Rattle.four_crates.specs.FourCrates.{failed_at}
use borrow.Author.Tests.{lt-ltb, le-ltb}
use Rattle.four_crates.proofs.failed_at.Goals as goal

pub returns-then-k-lt40 : goal.returns-then-k-lt40
unfolding failed_at
returns-then-k-lt40 c = rw (lt-ltb c.args.k 40 (omega arith))

pub returns-else-k-lt40 : goal.returns-else-k-lt40
unfolding failed_at
returns-else-k-lt40 c = rw (le-ltb c.args.k 40 (omega arith))
