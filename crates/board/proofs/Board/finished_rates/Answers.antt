-- `board::Board::finished_rates` meets its contract. Assumes nothing.
use mathlib.Core.Path.{sym, ◌∙◌}
use Rattle.board.proofs.RatePass.{other-rates, own-rates, rates-before}
use Rattle.board.proofs.Board.finished_rates.Goals as goal

pub returns-then-in_pass : goal.returns-then-in_pass
returns-then-in_pass c =
    rates-before c.args.self (sym c.is_rate_pass.ensures ∙ c.if-is_rate_pass.true)
    (sym c.in_pass.ensures ∙ c.if-in_pass.true)

pub returns-then-is_rate_pass : goal.returns-then-is_rate_pass
returns-then-is_rate_pass c =
    c.rates_of.ensures
    ∙ own-rates c.args.self (sym c.is_rate_pass.ensures ∙ c.if-is_rate_pass.true)
    (sym c.in_pass.ensures ∙ c.if-in_pass.false)

pub returns : goal.returns
returns c =
    c.rates_of-2.ensures ∙ other-rates c.args.self (sym c.is_rate_pass.ensures ∙ c.if-is_rate_pass.false)
