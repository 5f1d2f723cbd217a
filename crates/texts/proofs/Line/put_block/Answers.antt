-- `texts::Line::put_block` meets its contract. Assumes nothing.
use mathlib.Core.List.{append_assoc}
use Rattle.texts.proofs.Line.put_block.Goals as goal

pub returns-clause-text : goal.returns-clause-text
returns-clause-text c =
    rw (
      c.put_words-2.ensures.text,
      c.put-5.ensures,
      c.put_decimal-2.ensures.text,
      c.put-4.ensures,
      c.put_decimal.ensures.text,
      c.put-3.ensures,
      c.put_hex_word.ensures.text,
      c.put-2.ensures,
      c.put_words.ensures.text,
      c.put.ensures,
      c.words.ensures,
      c.from.ensures,
    ) (simp append_assoc)
