-- `configuration::board_words` meets its contract. Assumes nothing.
use mathlib.Core.Path.{◌∙◌}
use Rattle.configuration.proofs.Parts.{board-whole}
use Rattle.configuration.proofs.board_words.Goals as goal

pub returns : goal.returns
returns c = c.part.ensures.contents ∙ board-whole _ _ _ _ c.begin_of-from.ensures
