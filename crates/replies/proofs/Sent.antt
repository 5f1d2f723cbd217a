-- Of the frame sent, the CRC says nothing of a reply: frames that agree before it have the same good replies.
-- Assumes nothing.
use Prim.Native.Nat.{ℕ, zero, suc, ◌+◌, ◌<◌, ◌≤◌}
use mathlib.Core.Path.{◌≡◌, refl, ap₂}
use mathlib.Core.Bool.{Bool, cond}
use mathlib.Core.List.{List}
use native.Mathlib.Omega.{arith}
use lib.Dec.{eqb}
use lib.ListN.{get_or}
use Rattle.replies.specs.Replies.{same_from, ping_data, rate_data, data_right, conditions, good_reply}

module _ (a b r : List ℕ) (alike : (k : ℕ) → k < 27 → get_or a k 0 ≡ get_or b k 0) where
  same_sent : (n i : ℕ) → i + n ≤ 27 → same_from n i a r ≡ same_from n i b r
  same_sent zero i h = refl
  same_sent (suc n) i h = rw (alike i (omega arith), same_sent n (suc i) (omega arith))

  data-sent : data_right a r ≡ data_right b r
  unfolding data_right
  data-sent =
      ap₂ (λ (x : ℕ) (t : Bool). cond (eqb x 4) (ping_data r) (cond (eqb x 5) (rate_data r) t)) (alike 4 (omega arith)) (same_sent 21 5 (omega arith))

  pub good-sent : good_reply a r ≡ good_reply b r
  unfolding good_reply conditions
  good-sent = rw (alike 2 (omega arith), alike 1 (omega arith), alike 4 (omega arith), data-sent)
