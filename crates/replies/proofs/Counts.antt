-- The counts of a reply: a turn of the loop that looks at them, and the twelve words that they make.
-- Assumes nothing.
use Prim.Native.Nat.{ℕ, suc, ◌-◌, ◌+◌, ◌%◌, ◌<◌, ◌≤◌}
use mathlib.Core.Path.{◌≡◌, ap}
use mathlib.Core.Bool.{false, ◌&&◌}
use mathlib.Core.List.{List, [], ◌∷◌}
use native.Mathlib.Omega.{arith}
use native.Mathlib.Numerals.{add-one}
use borrow.Author.Tests.{lt-ltb, le-ltb}
use lib.Dec.{ltb}
use lib.ListN.{get_or}
use Rattle.numbers.specs.Numbers.{digits}
use Rattle.replies.specs.Replies.{count_in, count_limit, counts_below, rates_in}

module _ (r : List ℕ) (p : ℕ) (h : p < 5) where
  turn : counts_below (5 - p) p r ≡ ltb (count_in r p) count_limit && counts_below (5 - suc p) (suc p) r
  turn = let e : 5 - p ≡ suc (5 - suc p) = omega arith in ap (λ (n : ℕ). counts_below n p r) e

  -- a count that is below leaves it to those after it
  pub count-below : count_in r p < count_limit → counts_below (5 - (p + 1)) (p + 1) r ≡ counts_below (5 - p) p r
  count-below l = rw (turn, lt-ltb _ _ l, add-one)

  -- one that is not decides
  pub count-above : count_limit ≤ count_in r p → counts_below (5 - p) p r ≡ false
  count-above l = rw (turn, le-ltb _ _ l)

-- a byte fills a word
pub as-word : (x y : ℕ) → x ≡ y → x < 65536 → x ≡ y % 65536
as-word x y e h = omega arith

-- the words as the code lays them side by side
pub rates-of : (r a b c d total : List ℕ)
    → a ≡ digits 65536 2 (count_in r 0)
    → b ≡ digits 65536 2 (count_in r 1)
    → c ≡ digits 65536 2 (count_in r 2)
    → d ≡ digits 65536 2 (count_in r 3)
    → total ≡ digits 65536 2 (count_in r 4)
    → (overflow errors : ℕ)
    → overflow ≡ get_or r 25 0 % 65536
    → errors ≡ get_or r 26 0 % 65536
    → get_or a 0 0 ∷ get_or a 1 0 ∷ get_or b 0 0 ∷ get_or b 1 0 ∷ get_or c 0 0 ∷ get_or c 1 0 ∷ get_or d 0 0 ∷ get_or d 1 0
    ∷ get_or total 0 0 ∷ get_or total 1 0 ∷ overflow ∷ errors ∷ []
    ≡ rates_in r
unfolding rates_in
rates-of r a b c d total p q s t u overflow errors v w = rw (p, q, s, t, u, v, w)
