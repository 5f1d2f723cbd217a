-- `replies::same_from` meets its contract: what was compared and what is left to compare decide together. Assumes nothing.
use mathlib.Core.Path.{◌∙◌}
use native.Mathlib.Omega.{arith}
use Rattle.replies.proofs.Same.{same_more, same_not}
use Rattle.replies.proofs.same_from.Goals as goal
use Rattle.replies.proofs.same_from.Goals.{then-reply-i, else-reply-i}

pub loop-i-preserved : goal.loop-i-preserved
loop-i-preserved c =
    let a = c.args in
    let l = c.loop-i in
    elim c.if-reply-i.branch [
      | then-reply-i w ↦ same_not a.other a.reply.now l.i (omega arith) l.same c.if-reply-i.same w.if-reply-i.true w.same-is ∙ l.invariant
      | else-reply-i w ↦ same_more a.other a.reply.now l.i (omega arith) l.same c.if-reply-i.same w.if-reply-i.false w.same-is ∙ l.invariant
    ]
