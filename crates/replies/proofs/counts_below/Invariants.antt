-- `replies::counts_below` meets its contract: the counts looked at are below, so those left decide. Assumes nothing.
use Prim.Native.Nat.{◌-◌}
use mathlib.Core.Path.{◌≡◌}
use Rattle.replies.specs.Replies.{counts_below, rate_data}
use Rattle.replies.proofs.counts_below.Given as goal

abbrev pub invariant-loop-patch : goal.invariant-loop-patch
invariant-loop-patch l = counts_below (5 - l.patch) l.patch l.reply ≡ rate_data l.reply
