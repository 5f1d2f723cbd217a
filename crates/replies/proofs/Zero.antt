-- A reply's CRC is right exactly if the register is 0 after it.
-- Assumes nothing.
use Prim.Native.Nat.{ℕ, ◌<◌}
use mathlib.Core.Path.{◌≡◌, sym, ap, ◌∙◌}
use mathlib.Core.List.{List, [], ◌∷◌}
use native.Mathlib.Omega.{arith}
use lib.ListN.{length, get_or, take}
use lib.Seq.{take-suc, take_all}
use Rattle.crc.specs.Crc.{crc_byte, crc, frame_start}
use Rattle.crc.proofs.Starts.{same-zero, zero_same, crc-below, crc-append}

-- a reply of 28 bytes is its own first 28
pub whole : (r : List ℕ) → length r ≡ 28 → crc frame_start r ≡ crc frame_start (take 28 r)
whole r h = ap (crc frame_start) (sym (take_all 28 r (omega arith)))

module _ (r : List ℕ) (h : 27 < length r) where
  last_byte : crc frame_start (take 28 r) ≡ crc_byte (crc frame_start (take 27 r)) (get_or r 27 0)
  last_byte = ap (crc frame_start) (take-suc r 27 0 h) ∙ crc-append frame_start (take 27 r) (get_or r 27 0 ∷ [])

  pub right_zero : crc frame_start (take 27 r) ≡ get_or r 27 0 → crc frame_start (take 28 r) ≡ 0
  right_zero e = last_byte ∙ ap (λ (x : ℕ). crc_byte x (get_or r 27 0)) e ∙ same-zero (get_or r 27 0)

  pub zero_right : get_or r 27 0 < 256 → crc frame_start (take 28 r) ≡ 0 → crc frame_start (take 27 r) ≡ get_or r 27 0
  zero_right l e = zero_same _ _ (crc-below frame_start (take 27 r) (omega arith)) l (sym last_byte ∙ e)
