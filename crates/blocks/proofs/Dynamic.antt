-- The dynamic block's own row, and the length of its body.
-- Assumes nothing.
use Prim.Native.Nat.{ℕ}
use mathlib.Core.Path.{◌≡◌, ◌∙◌}
use mathlib.Core.List.{List, ◌++◌}
use borrow.Author.Tests.{eq-eqb, ne_eqb}
use lib.ListN.{length, length-append}
use Rattle.numbers.specs.Numbers.{digits}
use Rattle.refusals.specs.Tables.{refused, lowest}
use Rattle.refusals.proofs.Tables.{Clear}
use Rattle.blocks.specs.Blocks.{temperature_rules, dynamic_body}

module _ (t : List ℕ) where
  pub wrong-length : (length t ≡ 4 → ⊥) → lowest {A = ℕ} (temperature_rules t) 0 ≡ refused 6 0
  wrong-length n = simp (ne_eqb _ _ n)

  pub right-length : length t ≡ 4 → Clear (temperature_rules t)
  right-length n = (rw (eq-eqb _ _ n), tt)

  pub length-dynamic : (on_time : ℕ) (rates : List ℕ) → length t ≡ 4 → length rates ≡ 480 → length (dynamic_body on_time t rates) ≡ 487
  length-dynamic on_time rates n m = length-append (digits 65536 3 on_time ++ t) rates ∙ rw (length-append (digits 65536 3 on_time) t, n, m)
