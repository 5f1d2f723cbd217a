-- `crc::crc_byte` meets its contract. Assumes nothing.
use native.Mathlib.Omega.{arith}
use Rattle.crc.proofs.Steps.{byte_step_lem}
use Rattle.crc.proofs.crc_byte.Goals as goal

pub returns : goal.returns
returns c = byte_step_lem c.args.byte (omega arith)
