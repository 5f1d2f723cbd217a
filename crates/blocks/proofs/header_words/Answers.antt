-- `blocks::header_words` meets its contract. Assumes nothing.
use Rattle.blocks.specs.Blocks.{header_words}
use Rattle.blocks.proofs.header_words.Goals as goal

pub returns : goal.returns
unfolding header_words
returns c = rw (c.words-id.ensures, c.words-counter.ensures, c.words-time.ensures)
