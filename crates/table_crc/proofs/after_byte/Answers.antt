-- `table_crc::after_byte` meets its contract: eight steps are four and four. Assumes nothing.
use mathlib.Core.Path.{ap, ◌∙◌}
use Rattle.crc.specs.Crc.{crc_bits, crc_byte}
use Rattle.table_crc.proofs.after_byte.Goals as goal

pub returns : goal.returns
unfolding crc_byte
returns c = c.after_four_bits.ensures ∙ ap (crc_bits 4) c.after_four_bits-high.ensures
