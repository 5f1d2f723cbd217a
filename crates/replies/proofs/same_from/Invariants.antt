-- `replies::same_from` meets its contract: what was compared and what is left to compare decide together. Assumes nothing.
use Prim.Native.Nat.{◌-◌}
use mathlib.Core.Path.{◌≡◌}
use mathlib.Core.Bool.{◌&&◌}
use Rattle.replies.specs.Replies.{same_from}
use Rattle.replies.proofs.same_from.Given as goal

abbrev pub invariant-loop-i : goal.invariant-loop-i
invariant-loop-i l = l.same && same_from (26 - l.i) l.i l.other l.reply ≡ same_from (26 - l.from) l.from l.other l.reply

abbrev pub decreases-loop-i : goal.decreases-loop-i
decreases-loop-i l = 26 - l.i
