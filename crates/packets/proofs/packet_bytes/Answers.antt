-- `packets::packet_bytes` meets its contract. Assumes nothing.
use Rattle.packets.proofs.Laws.{packet-is}
use native.Mathlib.Omega.{arith}
use Rattle.packets.proofs.packet_bytes.Goals as goal

pub returns : goal.returns
returns c = packet-is _ _ _ _ _ (omega arith) (omega arith) c.crc_of_six-c.ensures
