-- `replies::counts_below` meets its contract: the counts looked at are below, so those left decide. Assumes nothing.
use Prim.Native.Nat.{◌<◌}
use mathlib.Core.Path.{◌∙◌}
use native.Mathlib.Omega.{arith}
use Rattle.replies.specs.Replies.{count_in, count_limit}
use Rattle.replies.proofs.Counts.{count-below}
use Rattle.replies.proofs.counts_below.Goals as goal

pub loop-patch-preserved : goal.loop-patch-preserved
loop-patch-preserved c =
    let l = c.loop-patch in
    let reply = c.args.reply.now in
    let below : count_in reply l.patch < count_limit = rw (← c.count_in.ensures) (omega arith) in
    count-below _ l.patch (omega arith) below ∙ l.invariant
