-- `reply_series::count_on_board`: what its loop keeps, and what falls with each turn.
use Prim.Native.Nat.{◌+◌, ◌≤◌}
use mathlib.Core.Path.{◌≡◌}
use lib.ListN.{length}
use Rattle.reply_series.specs.Series.{after_all, series_on}
use Rattle.reply_series.proofs.Items.{so_far}
use Rattle.reply_series.proofs.count_on_board.Given as goal

abbrev pub invariant-loop-rest : goal.invariant-loop-rest
invariant-loop-rest l = (length l.frame ≡ length l.initial.frame) × (l.count + length l.rest ≤ length l.items)
    × (after_all l.event (so_far l.board l.frame l.count) l.rest ≡ series_on l.event l.initial.board l.items l.initial.frame)

abbrev pub decreases-loop-rest : goal.decreases-loop-rest
decreases-loop-rest l = length l.rest
