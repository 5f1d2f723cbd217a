-- A turn of the loop that compares the data of two frames.
-- Assumes nothing.
use Prim.Native.Nat.{ℕ, suc, ◌-◌, ◌+◌, ◌<◌}
use mathlib.Core.Path.{◌≡◌, refl, ap}
use mathlib.Core.Bool.{Bool, true, false, ◌&&◌}
use mathlib.Core.List.{List}
use native.Mathlib.Omega.{arith}
use native.Mathlib.Numerals.{add-one}
use borrow.Author.Tests.{eq-eqb, ne_eqb}
use lib.ListN.{get_or}
use lib.Dec.{eqb}
use Rattle.replies.specs.Replies.{same_from}

pub and-true : (t : Bool) → t && true ≡ t
and-true true = refl
and-true false = refl

pub and-false : (t : Bool) → t && false ≡ false
and-false true = refl
and-false false = refl

module _ (a b : List ℕ) (i : ℕ) (h : i < 26) where
  turn : same_from (26 - i) i a b ≡ eqb (get_or b i 0) (get_or a i 0) && same_from (26 - suc i) (suc i) a b
  turn = let e : 26 - i ≡ suc (26 - suc i) = omega arith in ap (λ (n : ℕ). same_from n i a b) e

  -- what stands compared as t before the turn stands so as u after it
  pub same_more : (t u : Bool) → get_or b i 0 ≡ get_or a i 0 → u ≡ t → u && same_from (26 - (i + 1)) (i + 1) a b ≡ t && same_from (26 - i) i a b
  same_more t u e p = rw (p, turn, eq-eqb _ _ e, add-one)

  pub same_not : (t u : Bool) → (get_or b i 0 ≡ get_or a i 0 → ⊥) → u ≡ false → u && same_from (26 - (i + 1)) (i + 1) a b ≡ t && same_from (26 - i) i a b
  same_not t u n p = rw (p, turn, ne_eqb _ _ n, and-false t)
