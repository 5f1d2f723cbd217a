-- `words::words_from_bytes` meets its contract. Assumes nothing.
use Prim.Native.Nat.{◌≤◌}
use mathlib.Core.Path.{◌≡◌}
use mathlib.Core.List.{◌++◌}
use lib.ListN.{length, take, drop}
use Rattle.words.specs.Words.{words_in}
use Rattle.words.proofs.words_from_bytes.Given as goal

abbrev pub invariant-loop-i : goal.invariant-loop-i
invariant-loop-i l = (l.i ≤ l.count) × (l.out ≡ take l.i (words_in l.bytes) ++ drop l.i l.initial.out) × (length l.out ≡ length l.initial.out)
