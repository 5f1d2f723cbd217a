-- `steps::judge` meets its contract. Assumes nothing.
use mathlib.Core.Path.{◌≡◌}
use lib.ListN.{take, length}
use lib.Seq.{take-length}
use Rattle.steps.specs.Steps.{judged_reply}
use Rattle.steps.proofs.judge.Goals as goal

pub returns : goal.returns
unfolding judged_reply
returns c =
    let r = c.args.reply.now in
    let whole : take (length r) r ≡ r = take-length r in
    rw (c.is_good.ensures, c.carried-ping.ensures, c.rates_in.ensures, whole)
