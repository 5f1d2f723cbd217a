-- The start of a CRC: the first byte meets it; what it adds is the same for all bytes; different starts never give the same CRC; and a CRC is right
-- exactly if the register is 0 after it, from every start.
-- Assumes nothing.
use Prim.Native.Nat.{ℕ, ◌*◌, ◌/◌, ◌%◌, ◌<◌}
use mathlib.Core.Path.{◌≡◌, refl, sym, ap, ap₂, ◌∙◌}
use mathlib.Core.Bool.{Bool, true, cond}
use mathlib.Core.List.{List, [], ◌∷◌, ◌++◌}
use native.Mathlib.Omega.{arith}
use lib.Bits.{bit_xor, xor_lt, xor_self, xor_zero_l, xor_zero_r}
use lib.Dec.{eqb, eqb→eq}
use lib.ListN.{length, replicate, length-replicate}
use borrow.Author.Tests.{eq-eqb}
use Rattle.crc.specs.Crc.{crc_bits, crc_byte, crc}
use Rattle.crc.proofs.Below.{below}
use Rattle.crc.proofs.Linear.{xors, crc_byte-linear, crc-linear}
use Rattle.crc.proofs.Xor.{xor_assoc}

-- ---- the first byte

pub start-met : (s b : ℕ) (bs : List ℕ) → crc 0 (bit_xor s b ∷ bs) ≡ crc s (b ∷ bs)
unfolding crc_byte
start-met s b bs = ap (λ (x : ℕ). crc (crc_bits 8 x) bs) (xor_zero_l (bit_xor s b))

-- ---- what a start adds

zeros-added : (bs : List ℕ) → xors (replicate (length bs) 0) bs ≡ bs
zeros-added [] = refl
zeros-added (b ∷ bs) = ap₂ (λ (x : ℕ) (l : List ℕ). x ∷ l) (xor_zero_l b) (zeros-added bs)

-- the CRC of as many zeros, to that from 0x00
pub start-adds : (s : ℕ) (bs : List ℕ) → crc s bs ≡ bit_xor (crc s (replicate (length bs) 0)) (crc 0 bs)
start-adds s bs =
    ap₂ crc (sym (xor_zero_r s)) (sym (zeros-added bs)) ∙ crc-linear s 0 (replicate (length bs) 0) bs (length-replicate (length bs) 0)

-- ---- a register of 0

-- only the register 0 is 0 eight bits later
only_zero : ℕ → Bool
only_zero x = cond (eqb (crc_bits 8 x) 0) (eqb x 0) true

only_zero_lem : (x : ℕ) → x < 256 → crc_bits 8 x ≡ 0 → x ≡ 0
unfolding only_zero
only_zero_lem x h e = eqb→eq x 0 (rw (eq-eqb _ _ e) at (below only_zero 256 tt x h))

xor-zero-eq : (a b : ℕ) → bit_xor a b ≡ 0 → a ≡ b
xor-zero-eq a b e =
    sym (xor_zero_r a) ∙ ap (bit_xor a) (sym (xor_self b)) ∙ sym (xor_assoc a b b) ∙ ap (λ (x : ℕ). bit_xor x b) e ∙ xor_zero_l b

pub same-zero : (r : ℕ) → crc_byte r r ≡ 0
unfolding crc_byte
same-zero r = ap (crc_bits 8) (xor_self r)

pub zero_same : (r b : ℕ) → r < 256 → b < 256 → crc_byte r b ≡ 0 → r ≡ b
unfolding crc_byte
zero_same r b hr hb e = xor-zero-eq r b (only_zero_lem (bit_xor r b) (xor_lt 8 r b hr hb) e)

-- ---- registers of eight bits, and bytes after bytes

byte-below : (r b : ℕ) → crc_byte r b < 256
unfolding crc_byte
byte-below r b = let x = crc_bits 7 (bit_xor r b) in xor_lt 8 (x * 2 % 256) (x / 128 % 2 * 7) (omega arith) (omega arith)

pub crc-below : (s : ℕ) (bs : List ℕ) → s < 256 → crc s bs < 256
crc-below s [] h = h
crc-below s (b ∷ bs) h = crc-below (crc_byte s b) bs (byte-below s b)

pub crc-append : (s : ℕ) (a b : List ℕ) → crc s (a ++ b) ≡ crc (crc s a) b
crc-append s [] b = refl
crc-append s (x ∷ a) b = crc-append (crc_byte s x) a b

-- ---- different starts

-- the register meets a byte as it meets another register, over a byte that is cancelled
cancelled : (r s b : ℕ) → crc_byte r s ≡ crc_byte (bit_xor r s) (bit_xor b b)
unfolding crc_byte
cancelled r s b = ap (crc_bits 8) (sym (ap (bit_xor (bit_xor r s)) (xor_self b) ∙ xor_zero_r (bit_xor r s)))

byte-injective : (r s b : ℕ) → r < 256 → s < 256 → crc_byte r b ≡ crc_byte s b → r ≡ s
byte-injective r s b hr hs e =
    zero_same r s hr hs
    (cancelled r s b ∙ crc_byte-linear r s b b ∙ ap (λ (x : ℕ). bit_xor x (crc_byte s b)) e ∙ xor_self (crc_byte s b))

pub start-told : (r s : ℕ) (bs : List ℕ) → r < 256 → s < 256 → crc r bs ≡ crc s bs → r ≡ s
start-told r s [] hr hs e = e
start-told r s (b ∷ bs) hr hs e =
    byte-injective r s b hr hs (start-told (crc_byte r b) (crc_byte s b) bs (byte-below r b) (byte-below s b) e)
