-- `run::Run::trigger` meets its contract. Assumes nothing.
use mathlib.Core.Path.{sym, ap, ◌∙◌}
use native.Mathlib.Omega.{arith}
use Rattle.run.proofs.Laws.{room}
use Rattle.run.proofs.Run.trigger.Goals as goal
use Rattle.refusals.specs.Tables.{answer_of}

pub count-run-requires : goal.count-run-requires
count-run-requires c =
    omega (arith, room _ _ _ _ (sym c.give-answer.ensures.answer ∙ ap answer_of c.in-Ok.is))
