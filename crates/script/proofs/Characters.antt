-- The values of digits, and what each character of an order does.
-- Assumes nothing.
use Prim.Native.Nat.{ℕ, min, ◌%◌, ◌<◌}
use mathlib.Core.Path.{◌≡◌}
use mathlib.Core.Bool.{true, false}
use mathlib.Core.List.{List}
use native.Mathlib.Omega.{arith}
use borrow.Author.Tests.{lt-ltb, le-ltb, eq-eqb, ne_eqb}
use Rattle.std.specs.Char.{digit_value}
use Rattle.std.proofs.lemmas.Bool.Decides.{nat_tests}
use Rattle.script.specs.Script.{value_of}
use Rattle.script.specs.ByCharacter.{in_form, takes_digit, with_digit, with_byte, order_on, order_bytes_on}
use Rattle.script.specs.declared.Form.TheVariants.{Malformed}
use Rattle.script.specs.declared.Reading.{Reading}

-- a digit's value is what the library makes of it
pub value_is : (c : ℕ) → value_of c ≡ min (digit_value c) 16
unfolding value_of
value_is c = grind (arith, nat_tests)

-- ---- a character of an order after its letter

module _ (r : Reading) (c : ℕ) (bytes : List ℕ) where
  pub order-space : c ≡ 32 → (r ≡ order_on r c) × (bytes ≡ order_bytes_on r c bytes)
  unfolding order_on order_bytes_on
  order-space h = (rw (eq-eqb c 32 h), rw (eq-eqb c 32 h))

  module _ (other : c ≡ 32 → ⊥) where
    order-refused : takes_digit r c ≡ false → (in_form Malformed r ≡ order_on r c) × (bytes ≡ order_bytes_on r c bytes)
    unfolding order_on order_bytes_on
    order-refused h = (rw (ne_eqb c 32 other, h), rw (ne_eqb c 32 other, h))

    pub order-no-digit : 15 < value_of c → (in_form Malformed r ≡ order_on r c) × (bytes ≡ order_bytes_on r c bytes)
    order-no-digit h = order-refused (rw (le-ltb (value_of c) 16 h))

    module _ (digit : value_of c < 16) where
      pub order-full : 4095 < r.digits → (in_form Malformed r ≡ order_on r c) × (bytes ≡ order_bytes_on r c bytes)
      order-full h = order-refused (rw (lt-ltb (value_of c) 16 digit, le-ltb r.digits 4096 h))

      module _ (room : r.digits < 4096) where
        taken : takes_digit r c ≡ true
        taken = rw (lt-ltb (value_of c) 16 digit, lt-ltb r.digits 4096 room)

        pub order-digit : with_digit r (value_of c) ≡ order_on r c
        unfolding order_on
        order-digit = rw (ne_eqb c 32 other, taken)

        pub order-high : (r.digits % 2 ≡ 1 → ⊥) → bytes ≡ order_bytes_on r c bytes
        unfolding order_bytes_on
        order-high h = rw (ne_eqb c 32 other, taken, ne_eqb (r.digits % 2) 1 h)

        pub order-low : r.digits % 2 ≡ 1 → with_byte r (value_of c) bytes ≡ order_bytes_on r c bytes
        unfolding order_bytes_on
        order-low h = rw (ne_eqb c 32 other, taken, eq-eqb (r.digits % 2) 1 h)
