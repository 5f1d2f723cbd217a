-- `steps::step_frame` meets its contract. Assumes nothing.
use Rattle.steps.specs.Steps.{step_frame}
use Rattle.steps.proofs.step_frame.Goals as goal

pub returns : goal.returns
unfolding step_frame
returns c = rw (c.frame.ensures, c.code_numbered.ensures, c.settings_of-settings.ensures, c.board_words.ensures)
