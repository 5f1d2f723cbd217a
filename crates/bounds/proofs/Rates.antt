-- Each board's twelve measurements have the same bounds (`period`); a list of which each word is within its bound (`within-each`).
-- Assumes nothing.
use Prim.Native.Nat.{ℕ, zero, suc, ◌+◌, ◌*◌, ◌-◌, ◌%◌, ◌<◌, ◌≤◌}
use mathlib.Core.Path.{◌≡◌, refl}
use mathlib.Core.Bool.{Bool, true, false, cond, ◌&&◌}
use mathlib.Core.List.{List, [], ◌∷◌}
use native.Mathlib.Omega.{arith}
use borrow.Author.Tests.{lt-ltb, le-ltb}
use lib.Dec.{ltb}
use lib.ListN.{get_or}
use Rattle.bounds.specs.Bounds.{measurement_bound}

pub period : (b i : ℕ) → measurement_bound (4 + (12 * b + i)) ≡ measurement_bound (4 + i)
unfolding measurement_bound
period b i =
    let same : (4 + (12 * b + i) - 4) % 12 ≡ (4 + i - 4) % 12 = omega arith in
    rw (le-ltb (4 + (12 * b + i)) 4 (omega arith), le-ltb (4 + i) 4 (omega arith), same)

-- each word of a list is within its bound, the first one's place being i
abbrev pub Within : (ℕ → ℕ) → ℕ → List ℕ → Type 0
Within bound i [] = Unit
Within bound i (x ∷ xs) = (x ≤ bound i) × Within bound (suc i) xs

pub within-each : (bound : ℕ → ℕ) (i : ℕ) (l : List ℕ) → Within bound i l → (j : ℕ) → get_or l j 0 ≤ bound (i + j)
within-each bound i [] w j = omega arith
within-each bound i (x ∷ xs) w zero = let e : i + 0 ≡ i = omega arith in rw e w.0
within-each bound i (x ∷ xs) w (suc j) = let e : suc i + j ≡ i + suc j = omega arith in rw (← e) (within-each bound (suc i) xs w.1 j)

-- ---- of a count in two words: "High words are at most 0x3FFF"

pub high_word : (p : ℕ) → p < 5 → measurement_bound (4 + 2 * p) ≡ 0x3FFF
unfolding measurement_bound
high_word p h =
    let place : (4 + 2 * p - 4) % 12 ≡ 2 * p = omega arith in
    let even : 2 * p % 2 ≡ 0 = omega arith in
    rw (le-ltb (4 + 2 * p) 4 (omega arith), place, lt-ltb (2 * p) 10 (omega arith), even)

pub low_word : (p : ℕ) → measurement_bound (4 + (2 * p + 1)) ≡ 0xFFFF
unfolding measurement_bound
low_word p =
    let odd : (4 + (2 * p + 1) - 4) % 12 % 2 ≡ 1 = omega arith in
    rw (le-ltb (4 + (2 * p + 1)) 4 (omega arith), odd) (neither (ltb ((4 + (2 * p + 1) - 4) % 12) 10))
  where
    neither : (t : Bool) → ◌≡◌ {A = ℕ} (cond (t && false) 0x3FFF 0xFFFF) 0xFFFF
    neither true = refl
    neither false = refl
