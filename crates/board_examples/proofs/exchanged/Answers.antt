-- The exchange keeps the frame's 28 bytes, so 27 of them can be taken.
use Rattle.std.proofs.Common.{length, ◌≡◌}
use lib.ListN.{length-take}
use native.Mathlib.Omega.{arith}
use borrow.Author.Rules.{rules}
use Rattle.board_examples.proofs.exchanged.Goals as goal

pub slice_bounds-crc8-end : goal.slice_bounds-crc8-end
slice_bounds-crc8-end c = let n : length c.swap.new.self ≡ 28 = search rules in simp length-take (omega arith)
