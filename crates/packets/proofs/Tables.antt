-- A packet is written exactly where no row of the table applies, and refused with the lowest that does.
-- Assumes nothing.
use Prim.Native.Nat.{ℕ}
use mathlib.Core.List.{List}
use lib.ListN.{length}
use Rattle.refusals.specs.Writing.{writing_rules, writing}
use Rattle.refusals.proofs.Tables.{Exactly}
use Rattle.refusals.proofs.Writing.{writing-exactly}
use Rattle.packets.specs.Packets.{packet_bytes, write_rules}
use Rattle.packets.specs.declared.Fields.{Fields}

-- the writer's table, with 19 after its own row
pub write-exactly : (number : ℕ) (f : Fields) (out : List ℕ)
    → Exactly (writing_rules (write_rules f) (packet_bytes number f) out) (length (packet_bytes number f)) (writing (write_rules f) (packet_bytes number f) out)
unfolding writing_rules
write-exactly number f out = writing-exactly (writing_rules (write_rules f) (packet_bytes number f) out) (packet_bytes number f) out tt
