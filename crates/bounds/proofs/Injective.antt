-- Two different findings of a check of bounds are never read as the same.
-- Assumes nothing.
use mathlib.Core.Path.{◌≡◌, refl}
use Rattle.refusals.specs.Refusals.{place_of}
use Rattle.refusals.proofs.Injective.{Injective, value_of, inverse-injective}
use Rattle.bounds.specs.Bounds.{checked_meaning}
use Rattle.std.specs.Prelude.{Result, Ok, Err}
use Rattle.bounds.specs.declared.WordAboveBound.{WordAboveBound}

pub checked-injective : Injective checked_meaning
checked-injective = inverse-injective checked_meaning Ok (λ r. Err (record { place = place_of r })) go
  where
    go : (x : Result Unit WordAboveBound) → value_of Ok (λ r. Err (record { place = place_of r })) (checked_meaning x) ≡ x
    go (Ok u) = refl
    go (Err e) = refl
