-- `reply_series::good_replies`: what its loop keeps, and what falls with each turn.
use Prim.Native.Nat.{◌+◌, ◌≤◌}
use mathlib.Core.Path.{◌≡◌}
use lib.ListN.{length}
use Rattle.steps.specs.declared.Event.TheVariants.{Reply}
use Rattle.board.specs.declared.Board.{Board}
use Rattle.reply_series.specs.Series.{after_all, series_on, with_pass}
use Rattle.reply_series.proofs.Items.{so_far}
use Rattle.reply_series.proofs.good_replies.Given as goal

abbrev pub invariant-loop-rest : goal.invariant-loop-rest
invariant-loop-rest l = (length l.frame ≡ length l.initial.frame) × (l.good + length l.rest ≤ length l.items)
    × ((β : Board) → after_all Reply (so_far (with_pass β l.block l.kind l.crates) l.frame l.good) l.rest
    ≡ series_on Reply (with_pass β l.block l.kind l.initial.crates) l.items l.initial.frame)

abbrev pub decreases-loop-rest : goal.decreases-loop-rest
decreases-loop-rest l = length l.rest
