-- 02, e: "Each half byte is one lookup, proved equal to four single-bit steps." The rule of the table at each entry, and with linearity the step of any
-- register. That the code's sixteen numbers are those of the rule is one computed test of the whole table, in the proof of `crc8`.
-- Assumes nothing.
use Prim.Native.Nat.{ℕ, zero, suc, ◌+◌, ◌*◌, ◌/◌, ◌%◌, ◌<◌}
use mathlib.Core.Path.{◌≡◌, sym, ap, ap₂, ◌∙◌}
use mathlib.Core.Bool.{Bool}
use native.Mathlib.Omega.{arith}
use lib.Bits.{bit_xor, xor_comm, xor_shifted}
use lib.Dec.{eqb, eqb→eq}
use lib.ListN.{get_or}
use lib.Pow.{split}
use Rattle.crc.specs.Crc.{crc_bits}
use Rattle.table_crc.specs.CodeShape.{entries_from, table_of_sixteen}
use Rattle.crc.proofs.Below.{below}
use Rattle.crc.proofs.Linear.{crc_bits-linear}

-- the rule at each entry: at place i stands that of k + i
entry : (k n i m : ℕ) → i < n → m ≡ k + i → get_or (entries_from k n) i 0 ≡ crc_bits 4 (m * 16)
entry k zero i m h e = absurd (let z : ⊥ = omega arith in z)
entry k (suc n) zero m h e = let e' : k ≡ m = omega arith in ap (λ (x : ℕ). crc_bits 4 (x * 16)) e'
entry k (suc n) (suc i) m h e = entry (suc k) n i m (omega arith) (omega arith)

-- a low half moves up, and no one leaves at the top
moves : ℕ → Bool
moves r = eqb (crc_bits 4 r) (r * 16)

low-moves : (r : ℕ) → r < 16 → crc_bits 4 r ≡ r * 16
unfolding moves
low-moves r h = eqb→eq (crc_bits 4 r) (r * 16) (below moves 16 tt r h)

-- as `after_four_bits` computes it
pub lookup : (r : ℕ) → r < 256 → bit_xor (r * 16 % 256) (get_or table_of_sixteen (r / 16) 0) ≡ crc_bits 4 r
lookup r h =
    let e : r * 16 % 256 ≡ r % 16 * 16 = omega arith in
    ap₂ bit_xor (e ∙ sym (low-moves (r % 16) (omega arith))) (entry 0 16 (r / 16) (r / 16) (omega arith) (omega arith))
    ∙ sym (crc_bits-linear 4 (r % 16) (r / 16 * 16))
    ∙ ap (crc_bits 4) (xor_comm (r % 16) (r / 16 * 16) ∙ xor_shifted (r / 16) 4 (r % 16) (omega arith) ∙ split r 4)
