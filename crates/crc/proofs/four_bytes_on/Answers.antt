-- `crc::four_bytes_on` meets its contract. Assumes nothing.
use native.Mathlib.Omega.{arith}
use Rattle.crc.proofs.Steps.{four-on-step}
use Rattle.crc.proofs.four_bytes_on.Goals as goal

pub returns : goal.returns
returns c = four-on-step c.args.word (omega arith)
