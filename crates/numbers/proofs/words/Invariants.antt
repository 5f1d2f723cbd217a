-- `numbers::words` meets its contract: the digits that are left, and after them those that are written. Assumes nothing.
use Rattle.std.proofs.Common.{◌≡◌, ◌++◌, drop, length}
use Rattle.numbers.specs.Numbers.{digits}
use Rattle.numbers.proofs.words.Given as goal

abbrev pub invariant-loop-place : goal.invariant-loop-place
invariant-loop-place g l = record {
  full : length l.words ≡ g.row.N;
  written : digits 65536 l.place l.rest ++ drop l.place l.words ≡ digits 65536 g.row.N l.fn.x;
}
