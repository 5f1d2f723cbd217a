-- A packet is read exactly where no row of the table applies, and refused with the lowest that does.
-- Assumes nothing.
use Prim.Native.Nat.{ℕ}
use mathlib.Core.List.{List}
use lib.Dec.{T}
use Rattle.refusals.specs.Tables.{rising}
use Rattle.refusals.proofs.Tables.{Exactly, exactly}
use Rattle.packet_reader.specs.Reading.{packet_in, read_rules, packet_answer}

pub read-rises : (b : List ℕ) → T (rising (read_rules b))
unfolding read_rules
read-rises b = tt

pub read-exactly : (b : List ℕ) → Exactly (read_rules b) (packet_in b) (packet_answer b)
unfolding packet_answer
read-exactly b = exactly (read_rules b) (packet_in b) (read-rises b)
