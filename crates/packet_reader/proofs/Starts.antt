-- 02, g: a packet whose CRC is that of another start is refused with 14, and so are seven zero bytes, which are right from 0x00; no number of zero
-- bytes reads as a packet.
-- Assumes nothing.
use Prim.Native.Nat.{ℕ, ◌<◌}
use mathlib.Core.Path.{◌≡◌, refl, sym, ◌∙◌}
use mathlib.Core.Bool.{Bool, true, false, cond}
use mathlib.Core.List.{List}
use native.Mathlib.Omega.{arith}
use borrow.Author.Tests.{eqb-true, eqb-false}
use lib.Dec.{eqb}
use lib.ListN.{length, take, get_or, replicate, length-replicate}
use Rattle.std.specs.Prelude.{Result, Err}
use Rattle.crc.specs.Crc.{crc_byte, crc, packet_start}
use Rattle.crc.proofs.Starts.{start-told}
use Rattle.refusals.specs.Tables.{refused, answer_of}
use Rattle.refusals.specs.declared.Refusal.TheVariants.{WrongPacketCrc}
use Rattle.packet_reader.specs.Reading.{packet_answer}
use Rattle.refusals.proofs.Injective.{answer-injective}
use Rattle.packet_reader.proofs.Laws.{read-13, wrong-crc}
use Rattle.refusals.specs.declared.Refusal.{Refusal}
use Rattle.packets.specs.declared.Packet.{Packet}

-- "packets read and write with the new start only"
pub other-start : (s : ℕ) (b : List ℕ) → s < 256 → (s ≡ packet_start → ⊥) → length b ≡ 7 → crc s (take 6 b) ≡ get_or b 6 0 → packet_answer b ≡ refused 14 0
other-start s b h n l e = sym (wrong-crc b l (λ q. n (start-told s packet_start (take 6 b) h (omega arith) (e ∙ sym q))))

-- "seven zero bytes now get 14"
pub dead-cable : packet_answer (replicate 7 0x00) ≡ refused 14 0
unfolding crc_byte
dead-cable = other-start 0x00 (replicate 7 0x00) (omega arith) (omega arith) refl refl

-- and so whatever `read_packet` returns for them, by its contract, is that refusal
pub dead-cable-read : (r : Result Packet Refusal) → answer_of r ≡ packet_answer (replicate 7 0x00) → r ≡ Err WrongPacketCrc
dead-cable-read r e = answer-injective r (Err WrongPacketCrc) (e ∙ dead-cable)

-- of any other number of them, 13
pub zeros-refused : (n : ℕ) → packet_answer (replicate n 0x00) ≡ refused (cond (eqb n 7) 14 13) 0
zeros-refused n = go (eqb n 7) refl
  where
    go : (t : Bool) → eqb n 7 ≡ t → packet_answer (replicate n 0x00) ≡ refused (cond t 14 13) 0
    go true e = rw (eqb-true n 7 e) dead-cable
    go false e = sym (read-13 (replicate n 0x00) (λ q. eqb-false n 7 e (sym (length-replicate n 0x00) ∙ q)))
