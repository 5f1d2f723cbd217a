-- `run::Run::clock` meets its contract. Assumes nothing.
use Rattle.run.proofs.Laws.{clock-is}
use mathlib.Core.Path.{◌∙◌, sym}
use Rattle.run.proofs.Run.clock.Goals as goal
use Rattle.run.proofs.Run.clock.Goals.{then-is_running, else-is_running}

pub returns : goal.returns
returns c =
    clock-is c.args.self _ _ _ c.later.ensures
    (elim c.if-is_running.branch [
      | then-is_running w ↦ rw (sym c.is_running.ensures ∙ w.if-is_running.true) (w.on_time-is ∙ w.later-on_time.ensures)
      | else-is_running w ↦ rw (sym c.is_running.ensures ∙ w.if-is_running.false) w.on_time-is
    ])
