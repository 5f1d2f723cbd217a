-- What only the code's shape needs: the place that a search gives, or none.
use Rattle.std.specs.Prelude.{ℕ, cond, List, ltb, length, Option, Some, None}
use Rattle.bounds.specs.Bounds.{lowest_above}

-- the lowest place of a list whose word is above its bound, where there is one
unfoldable pub found : (ℕ → ℕ) → List ℕ → Option ℕ
found bound l = cond (ltb (lowest_above bound 0 l) (length l)) (Some (lowest_above bound 0 l)) None
