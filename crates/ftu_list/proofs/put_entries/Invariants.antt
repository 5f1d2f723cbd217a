-- `ftu_list::put_entries` meets its contract. Assumes nothing.
use Prim.Native.Nat.{◌-◌, ◌*◌, ◌≤◌}
use mathlib.Core.Path.{◌≡◌}
use mathlib.Core.List.{◌++◌}
use lib.ListN.{length, take, drop}
use Rattle.ftu_list.specs.List.{entry_words_from}
use Rattle.ftu_list.proofs.put_entries.Given as goal

abbrev pub invariant-loop-k : goal.invariant-loop-k
invariant-loop-k l = (l.k ≤ 40) × (l.body ≡ entry_words_from 0 (take l.k l.entries) ++ drop (6 * l.k) l.initial.body) × (length l.body ≡ length l.initial.body)
