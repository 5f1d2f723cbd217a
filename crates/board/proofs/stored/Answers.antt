-- `board::stored` meets its contract. Assumes nothing.
use mathlib.Core.Path.{◌∙◌}
use Rattle.board.proofs.Obeying.{block-copied}
use Rattle.board.proofs.stored.Goals as goal

pub returns : goal.returns
returns c =
    c.copy_words.ensures ∙ block-copied c.args.block.now c.requires
