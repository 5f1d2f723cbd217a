-- `block_reader::header_in` meets its contract. Assumes nothing.
use Rattle.block_reader.specs.Reading.{header_in}
use Rattle.block_reader.proofs.header_in.Goals as goal

pub returns : goal.returns
unfolding header_in
returns c =
    rw (
      c.number64.ensures,
      c.number32.ensures,
      c.number48.ensures,
      c.word_at.ensures,
      c.word_at-2.ensures,
      c.word_at-3.ensures,
      c.word_at-4.ensures,
      c.word_at-5.ensures,
      c.word_at-6.ensures,
      c.word_at-7.ensures,
      c.word_at-8.ensures,
      c.word_at-9.ensures,
      c.word_at-10.ensures,
    )
