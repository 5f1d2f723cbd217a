-- A trigger's fields: the flags, and that there are eight bytes.
-- Assumes nothing.
use Prim.Native.Nat.{ℕ, ◌<◌, ◌≤◌}
use mathlib.Core.Path.{◌≡◌, refl, sym, ◌∙◌}
use mathlib.Core.Bool.{Bool, true, false, ◌&&◌}
use mathlib.Core.List.{List}
use native.Mathlib.Omega.{arith}
use lib.Dec.{leb, eqb}
use lib.ListN.{length, get_or}
use borrow.Author.Tests.{le-leb, lt-leb, eq-eqb, ne_eqb, eqb-true}
use Rattle.exchange.specs.Orders.{are_flags, are_fields}

module _ (a b c : ℕ) where
  pub flag-above : 1 < a → false ≡ are_flags a b c
  flag-above h = rw (lt-leb _ _ h)

  pub second_above : a ≤ 1 → 1 < b → false ≡ are_flags a b c
  second_above k h = rw (le-leb _ _ k, lt-leb _ _ h)

  pub third-flag : a ≤ 1 → b ≤ 1 → leb c 1 ≡ are_flags a b c
  third-flag k h = rw (le-leb _ _ k, le-leb _ _ h)

module _ (b : List ℕ) where
  pub not_eight : (length b ≡ 8 → ⊥) → false ≡ are_fields b
  not_eight n = rw (ne_eqb _ _ n)

  module _ (l : length b ≡ 8) (t : Bool) (e : t ≡ are_flags (get_or b 1 0) (get_or b 2 0) (get_or b 3 0)) where
    pub first-flags : t ≡ true → (u : Bool) → u ≡ are_flags (get_or b 5 0) (get_or b 6 0) (get_or b 7 0) → u ≡ are_fields b
    first-flags h u q = q ∙ rw (eq-eqb _ _ l, sym e ∙ h)

    pub no-flags : t ≡ false → false ≡ are_fields b
    no-flags h = rw (eq-eqb _ _ l, sym e ∙ h)

  -- fields are eight bytes
  pub eight : (t : Bool) → t ≡ are_fields b → t ≡ true → length b ≡ 8
  eight t e h = go (eqb (length b) 8) refl (sym e ∙ h)
    where
      go : (u : Bool) → eqb (length b) 8 ≡ u
          → (u && are_flags (get_or b 1 0) (get_or b 2 0) (get_or b 3 0) && are_flags (get_or b 5 0) (get_or b 6 0) (get_or b 7 0)) ≡ true → length b ≡ 8
      go true q x = eqb-true _ _ q
      go false q x = absurd (let z : ◌≡◌ {A = ℕ} 0 1 = cc in omega arith)
