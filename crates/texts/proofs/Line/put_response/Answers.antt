-- `texts::Line::put_response` meets its contract. Assumes nothing.
use mathlib.Core.Path.{refl}
use Rattle.texts.proofs.Line.put_response.Goals as goal

pub returns-in-Packet-clause-text : goal.returns-in-Packet-clause-text
returns-in-Packet-clause-text c = rw (c.in-Packet.is, c.put_numbers-in-Packet.ensures.text, c.packet_numbers.ensures) refl

pub returns-in-Block-clause-text : goal.returns-in-Block-clause-text
returns-in-Block-clause-text c = rw (c.in-Block.is, c.put_block.ensures.text, c.prefix-in-Block.ensures) refl
