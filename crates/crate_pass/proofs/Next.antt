-- The search for the next board that a pass serves, one board at a time.
-- Assumes nothing.
use Prim.Native.Nat.{ℕ, zero, suc, ◌+◌, ◌-◌, ◌<◌, ◌≤◌}
use mathlib.Core.Path.{◌≡◌, refl, ap}
use mathlib.Core.Bool.{true, false, cond}
use native.Mathlib.Omega.{arith}
use native.Mathlib.Numerals.{add-one}
use Rattle.configuration.specs.Configuration.{flag_set}
use Rattle.crate_pass.specs.declared.PassKind.{PassKind}
use Rattle.crate_pass.specs.declared.PassKind.TheVariants.{Reprogramming, Rates}
use Rattle.crate_pass.specs.Crate.{serves, first_served, next_board}

module _ (kind : PassKind) (w b : ℕ) where
  -- below ten the count of boards left is a successor
  left-suc : b < 10 → 10 - b ≡ suc (10 - (b + 1))
  left-suc h = omega arith

  pub next_here : b < 10 → serves kind w b ≡ true → next_board kind w b ≡ b
  unfolding next_board first_served
  next_here h e = rw (left-suc h) (rw e refl)

  pub next-skip : b < 10 → serves kind w b ≡ false → next_board kind w b ≡ next_board kind w (b + 1)
  unfolding next_board first_served
  next-skip h e = rw (left-suc h) (rw e (rw (add-one b) refl))

  pub next-none : 10 ≤ b → next_board kind w b ≡ 10
  unfolding next_board first_served
  next-none h = let z : 10 - b ≡ 0 = omega arith in rw z refl

-- a rate pass serves the boards that a reprogramming pass does: the active ones
first-rates : (w n b : ℕ) → first_served Reprogramming w n b ≡ first_served Rates w n b
unfolding first_served
first-rates w zero b = refl
first-rates w (suc n) b = ap (cond (flag_set w b) b) (first-rates w n (suc b))

pub next-rates : (w b : ℕ) → next_board Reprogramming w b ≡ next_board Rates w b
unfolding next_board
next-rates w b = first-rates w (10 - b) b
