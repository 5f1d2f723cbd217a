-- The items for one index, and a list put in the order of its indices, each index's items in their own order.
use Rattle.std.specs.Prelude.{ℕ, zero, suc, List, [], ◌∷◌, ◌++◌, cond, leb, eqb}

module _ {Z : Type 0} (key : Z → ℕ) where
  -- what has the index c
  unfoldable pub only : ℕ → List Z → List Z
  only c [] = []
  only c (z ∷ zs) = cond (eqb (key z) c) (z ∷ only c zs) (only c zs)

  -- what has an index of n or more
  unfoldable pub from : ℕ → List Z → List Z
  from n [] = []
  from n (z ∷ zs) = cond (leb n (key z)) (z ∷ from n zs) (from n zs)

  -- the items for 0, then those for 1, .. then those for n - 1
  unfoldable pub below : ℕ → List Z → List Z
  below zero zs = []
  below (suc k) zs = below k zs ++ only k zs

  unfoldable pub ordered : ℕ → List Z → List Z
  ordered n zs = below n zs ++ from n zs
