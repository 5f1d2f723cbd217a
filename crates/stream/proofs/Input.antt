-- The listing of a whole input, of any length, is that of its front that is read (`front-listed`).
-- Assumes nothing.
use Prim.Native.Nat.{ℕ, ◌<◌}
use mathlib.Core.Path.{◌≡◌, refl, ap}
use mathlib.Core.Bool.{Bool, true, false}
use mathlib.Core.List.{List}
use native.Mathlib.Omega.{arith}
use lib.Dec.{ltb}
use lib.ListN.{length, take, replicate}
use lib.Seq.{take_all, length-take-le}
use borrow.Author.Tests.{ltb-true, ltb-false, lt-ltb}
use Rattle.stream.specs.Stream.{listed, input_bytes}

-- the front shows that the input is longer than 65,536 bytes
longer-shown : (input : List ℕ) → 65536 < length input → 65536 < length (take input_bytes input)
unfolding input_bytes
longer-shown input h = let n = length-take-le input_bytes input (omega arith) in omega arith

pub front-listed : (input : List ℕ) → listed (take input_bytes input) ≡ listed input
unfolding listed input_bytes
front-listed input = go (ltb 65536 (length input)) refl
  where
    go : (t : Bool) → ltb 65536 (length input) ≡ t → listed (take input_bytes input) ≡ listed input
    go true e = rw (lt-ltb _ _ (longer-shown input (ltb-true _ _ e)), e) refl
    go false e = let h = ltb-false 65536 (length input) e in ap listed (take_all input_bytes input (omega arith))

-- a buffer of n zeros has as many bytes as are read
pub buffer-enough : (n : ℕ) → n ≡ input_bytes → replicate {A = ℕ} n 0 ≡ replicate input_bytes 0
buffer-enough n e = ap (λ (k : ℕ). replicate {A = ℕ} k 0) e
