-- `bounds::check_bounds` meets its contract. Assumes nothing.
use mathlib.Core.Path.{◌≡◌, sym, ◌∙◌}
use Rattle.bounds.proofs.Checked.{answer-found}
use Rattle.bounds.proofs.check_bounds.Goals as goal

pub returns-in-Some : goal.returns-in-Some
returns-in-Some c = answer-found _ _ _ (sym c.in-Some.is ∙ c.lowest_in.ensures)

pub returns-in-None : goal.returns-in-None
returns-in-None c = answer-found _ _ _ (sym c.in-None.is ∙ c.lowest_in.ensures)
