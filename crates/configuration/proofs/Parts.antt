-- A board's part of the block, and its flag.
-- Assumes nothing.
use Prim.Native.Nat.{ℕ, ◌+◌, ◌-◌, ◌/◌, ◌^◌, ◌<◌, ◌≤◌}
use mathlib.Core.Path.{◌≡◌, ap}
use mathlib.Core.Bool.{false}
use mathlib.Core.List.{List}
use native.Mathlib.Nat.{pow-le-pow_right, div-eq_of_lt}
use native.Mathlib.Omega.{arith}
use lib.ListN.{length, take, drop, length-drop}
use lib.Seq.{length-take-le}
use Rattle.configuration.specs.Configuration.{begin_of, board_words, flag_set}

-- ---- a board's ten words

module _ (block : List ℕ) (c b : ℕ) where
  pub board-whole : (from : ℕ) → from ≡ begin_of c b → take (from + 10 - from) (drop from block) ≡ board_words block c b
  unfolding board_words
  board-whole from e = let n : from + 10 - from ≡ 10 = omega arith in rw n (ap (λ (k : ℕ). take 10 (drop k block)) e)

  -- each of the forty boards has its ten words in the block
  pub length-board : length block ≡ 436 → c ≤ 3 → b ≤ 9 → length (board_words block c b) ≡ 10
  unfolding board_words
  length-board n hc hb = length-take-le 10 (drop (begin_of c b) block) (rw length-drop (omega arith))

-- ---- its flag

-- a word has no flag above bit 15
pub flag-high : (word b : ℕ) → word < 65536 → 16 ≤ b → false ≡ flag_set word b
flag-high word b h l =
    let p : 2 ^ 16 ≤ 2 ^ b = pow-le-pow_right (omega arith) l in
    let z : word / 2 ^ b ≡ 0 = div-eq_of_lt (omega arith) in
    rw z
