-- Numbers of refusals, of which 0 is none.
-- Assumes nothing.
use Prim.Native.Nat.{ℕ, ◌*◌, ◌/◌, ◌<◌, ◌≤◌}
use native.Mathlib.Omega.{arith}
use mathlib.Core.Path.{◌≡◌, refl, sym, ◌∙◌}
use mathlib.Core.Bool.{Bool, true, false, cond}
use lib.Dec.{eqb, ltb}
use borrow.Author.Tests.{eq-eqb, ne_eqb, eqb-true, eqb-false, lt-ltb, le-ltb, ltb-true, ltb-false}
use Rattle.call_refusals.specs.CallRefusals.{lower_of, no_room}

-- ---- the lower of two numbers

module _ (m n : ℕ) where
  pub lower-second : m ≡ 0 → n ≡ lower_of m n
  unfolding lower_of
  lower-second e = rw (eq-eqb m 0 e) refl

  module _ (a : m ≡ 0 → ⊥) where
    pub lower-first : n ≡ 0 → m ≡ lower_of m n
    unfolding lower_of
    lower-first e = rw (ne_eqb m 0 a, eq-eqb n 0 e) refl

    module _ (b : n ≡ 0 → ⊥) where
      pub lower-below : n < m → n ≡ lower_of m n
      unfolding lower_of
      lower-below h = rw (ne_eqb m 0 a, ne_eqb n 0 b, lt-ltb n m h) refl

      pub lower-above : m ≤ n → m ≡ lower_of m n
      unfolding lower_of
      lower-above h = rw (ne_eqb m 0 a, ne_eqb n 0 b, le-ltb n m h) refl

  -- where it is 0, both are
  pub lower-none : lower_of m n ≡ 0 → (m ≡ 0) × (n ≡ 0)
  unfolding lower_of
  lower-none = go (eqb m 0) refl (eqb n 0) refl (ltb n m)
    where
      go : (s : Bool) → eqb m 0 ≡ s → (t : Bool) → eqb n 0 ≡ t → (u : Bool) → cond s n (cond t m (cond u n m)) ≡ 0 → (m ≡ 0) × (n ≡ 0)
      go true p t q u e = (eqb-true m 0 p, e)
      go false p true q u e = absurd (eqb-false m 0 p e)
      go false p false q true e = absurd (eqb-false n 0 q e)
      go false p false q false e = absurd (eqb-false m 0 p e)

-- ---- room

pub room_for : (due n : ℕ) → no_room due n ≡ 0 → due ≤ n
unfolding no_room
room_for due n = go (ltb n due) refl
  where
    go : (t : Bool) → ltb n due ≡ t → ◌≡◌ {A = ℕ} (cond t 19 0) 0 → due ≤ n
    go true p e = absurd (let z : ⊥ = omega arith in z)
    go false p e = ltb-false n due p

-- for as many packets, or for their bytes
pub room-packets : (count n : ℕ) → no_room count (n / 7) ≡ no_room (7 * count) n
unfolding no_room
room-packets count n = go (ltb (n / 7) count) refl
  where
    go : (t : Bool) → ltb (n / 7) count ≡ t → no_room count (n / 7) ≡ no_room (7 * count) n
    go true p = let h = ltb-true (n / 7) count p in rw (p, lt-ltb n (7 * count) (omega arith)) refl
    go false p = let h = ltb-false (n / 7) count p in rw (p, le-ltb n (7 * count) (omega arith)) refl

-- where nothing is refused there is room for a count
pub room-one : (own n r : ℕ) → r ≡ lower_of own (no_room 1 n) → r ≡ 0 → 1 ≤ n
room-one own n r e z = room_for 1 n (lower-none own (no_room 1 n) (sym e ∙ z)).1
