-- `words::bytes_from_words` meets its contract. Assumes nothing.
use Prim.Native.Nat.{◌≤◌, ◌*◌}
use mathlib.Core.Path.{◌≡◌}
use mathlib.Core.List.{◌++◌}
use lib.ListN.{length, take, drop}
use Rattle.words.specs.Words.{bytes_of}
use Rattle.words.proofs.bytes_from_words.Given as goal

abbrev pub invariant-loop-i : goal.invariant-loop-i
invariant-loop-i l = (l.i ≤ length l.words) × (l.out ≡ bytes_of (take l.i l.words) ++ drop (2 * l.i) l.initial.out) × (length l.out ≡ length l.initial.out)
