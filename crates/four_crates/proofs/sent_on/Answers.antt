-- `four_crates::sent_on` meets its contract. Assumes nothing.
use Rattle.four_crates.proofs.OneCrate.{sent-11, sent-given}
use Rattle.four_crates.proofs.sent_on.Goals as goal

pub returns-then-index-gt3 : goal.returns-then-index-gt3
returns-then-index-gt3 c = sent-11 c.args.crates _ c.if-index-gt3.true

pub returns : goal.returns
returns c = sent-given c.args.crates _ c.if-index-gt3.false
