-- 01's examples marked *, and those of 02, g, hold of the definitions that the contracts cite.
-- Assumes nothing.
use mathlib.Core.Path.{refl}
use Rattle.crc.specs.Crc.{crc_byte}
use Rattle.packets.specs.Packets.{first_six}
use Rattle.bounds.specs.Bounds.{bound_of}
use Rattle.commands.specs.Commands.{listed_as}
use Rattle.command_reader.specs.Reading.{spare_set, read_rules, command_answer}
use Rattle.packet_reader.specs.Reading.{packet_answer}
use Rattle.packet_reader.specs.Reading as reader
use Rattle.examples.specs.Examples.{AllHold, examples}

pub examples-hold : AllHold examples
unfolding crc_byte first_six bound_of listed_as spare_set read_rules command_answer packet_answer reader.read_rules
examples-hold = (refl, (refl, (refl, (refl, (refl, (refl, (refl, (refl, (refl, (refl, (refl, (refl, (refl, (refl, (refl, (refl, tt))))))))))))))))
