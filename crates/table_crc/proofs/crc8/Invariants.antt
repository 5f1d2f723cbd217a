-- `table_crc::crc8` meets its contract. The register is that after the bytes before the next, from the start. Assumes nothing.
use mathlib.Core.Path.{◌≡◌}
use lib.ListN.{drop}
use Rattle.crc.specs.Crc.{crc}
use Rattle.table_crc.proofs.crc8.Given as goal

abbrev pub invariant-loop-byte : goal.invariant-loop-byte
invariant-loop-byte l = crc l.register (drop l.byte-index l.bytes) ≡ crc l.start l.bytes
