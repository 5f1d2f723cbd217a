-- `crc::bytes_on` meets its contract. Assumes nothing.
use native.Mathlib.Omega.{arith}
use Rattle.crc.proofs.Steps.{on_step}
use Rattle.crc.proofs.bytes_on.Goals as goal

pub returns : goal.returns
returns c = on_step c.args.count c.args.word (omega arith) (omega arith) (omega arith)
