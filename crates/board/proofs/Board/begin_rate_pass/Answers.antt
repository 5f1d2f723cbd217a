-- `board::Board::begin_rate_pass` meets its contract. Assumes nothing.
use mathlib.Core.Path.{◌≡◌, sym, ◌∙◌}
use mathlib.Core.Bool.{false}
use Rattle.four_crates.specs.FourCrates.{in_pass}
use Rattle.board.proofs.RatePass.{begins-refused, begins-given}
use Rattle.board.proofs.Board.begin_rate_pass.Goals.{After-rates_begun}
use Rattle.board.proofs.Board.begin_rate_pass.Goals as goal

-- no pass is under way
free : (c : After-rates_begun) → in_pass c.args.self.crates ≡ false
free c = sym c.in_pass.ensures ∙ c.if-in_pass.false

pub returns-then-in_pass : goal.returns-then-in_pass
returns-then-in_pass c = begins-refused c.args.self (sym c.in_pass.ensures ∙ c.if-in_pass.true)

pub returns : goal.returns
returns c = begins-given c.args.self (free (goal.at.returns c).After-rates_begun) _ c.rates_begun.ensures
