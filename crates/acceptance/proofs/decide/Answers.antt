-- `acceptance::decide` meets its contract. Assumes nothing.
use Rattle.acceptance.proofs.Deciding.{decides-state, decides-refused}
use mathlib.Core.Path.{sym, ap, ◌∙◌}
use Rattle.acceptance.proofs.decide.Goals as goal
use Rattle.refusals.specs.Tables.{answer_of}

pub returns-in-Ok : goal.returns-in-Ok
returns-in-Ok c =
    decides-state _ _ _ _ (sym c.read_command.ensures ∙ ap answer_of c.in-Ok.is) _ c.accept.ensures

pub returns-in-Err : goal.returns-in-Err
returns-in-Err c = decides-refused _ _ _ (sym (ap answer_of c.in-Err.is) ∙ c.read_command.ensures)
