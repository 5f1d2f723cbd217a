-- `table_crc::after_four_bits` meets its contract. Assumes nothing.
use native.Mathlib.Omega.{arith}
use Rattle.table_crc.proofs.Table.{lookup}
use Rattle.table_crc.proofs.after_four_bits.Goals as goal

pub returns : goal.returns
returns c =
    rw c.requires (lookup c.args.register (omega arith))
