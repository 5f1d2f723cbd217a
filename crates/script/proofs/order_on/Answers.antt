-- `script::order_on` meets its contract. Assumes nothing.
use Prim.Native.Nat.{ℕ, ◌<◌}
use mathlib.Core.Path.{◌≡◌, ap, ◌∙◌}
use native.Mathlib.Omega.{arith}
use Rattle.std.specs.Char.{digit_value}
use Rattle.script.specs.Script.{value_of}
use Rattle.script.specs.ByCharacter.{with_digit, with_byte}
use Rattle.script.proofs.Characters.{value_is, order-digit, order-high, order-low}
use Rattle.script.proofs.order_on.Goals as goal
use Rattle.script.proofs.order_on.Goals.{then-reading-eq1, else-reading-eq1}

-- v is what the library makes of the character
value-of : {c k v : ℕ} → k ≡ c → (digit_value k < 16) × (v ≡ digit_value k) → v ≡ value_of c
value-of {k = k} e d = let v = value_is k in omega arith ∙ ap value_of e

pub returns-clause-value : goal.returns-clause-value
returns-clause-value c =
    let a = c.args in
    let d = c.in-Some.ensures.value in
    let v : c.in-Some.digit ≡ value_of a.character = value-of c.from.ensures d in
    ap (with_digit a.reading) v ∙ order-digit a.reading a.character a.bytes.now (omega arith) (omega arith) (omega arith)

pub returns-clause-bytes_after : goal.returns-clause-bytes_after
returns-clause-bytes_after c =
    let a = c.args in
    let bytes = a.bytes.now in
    let d = c.in-Some.ensures.value in
    let v : c.in-Some.digit ≡ value_of a.character = value-of c.from.ensures c.in-Some.ensures.value in
    elim c.if-reading-eq1.branch [
      | then-reading-eq1 w ↦
          w.bytes-is ∙ ap (λ (v : ℕ). with_byte a.reading v bytes) v
          ∙ order-low a.reading a.character bytes (omega arith) (omega arith) (omega arith) w.if-reading-eq1.true
      | else-reading-eq1 w ↦ w.bytes-is ∙ order-high a.reading a.character bytes (omega arith) (omega arith) (omega arith) w.if-reading-eq1.false
    ]
