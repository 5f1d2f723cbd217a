-- `quick_crc::crc_of_six` meets its contract. Assumes nothing.
use Rattle.crc.proofs.Steps.{six-from}
use native.Mathlib.Omega.{arith}
use Rattle.quick_crc.proofs.crc_of_six.Goals as goal

pub returns : goal.returns
returns c =
    let v = c.args in
    six-from v.start v.a v.b v.c v.d v.e v.f c.from_be_bytes-top.result c.from_be_bytes-low.result
    (omega arith) (omega arith) (omega arith) (omega arith) (omega arith) (omega arith) (omega arith)
    (omega arith) (omega arith)
