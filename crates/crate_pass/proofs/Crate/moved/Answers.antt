-- `crate_pass::Crate::moved` meets its contract. Assumes nothing.
use Rattle.crate_pass.proofs.Serving.{moved-good, moved-again, moved-failed}
use Rattle.crate_pass.proofs.Crate.moved.Goals as goal

pub returns-then-judged : goal.returns-then-judged
returns-then-judged c =
    let a = c.args in
    moved-good a.kind a.word a.self a.judged c.place_after-to.result c.place_after-to.ensures
    c.count_frame.result c.count_frame.ensures c.noted.result c.noted.ensures c.if-judged.true

pub returns-then-tries-lt2 : goal.returns-then-tries-lt2
returns-then-tries-lt2 c =
    let a = c.args in
    moved-again a.kind a.word a.self a.judged c.place_after-to.result c.place_after-to.ensures
    c.count_frame.result c.count_frame.ensures c.if-judged.false c.if-tries-lt2.true

pub returns : goal.returns
returns c =
    let a = c.args in
    moved-failed a.kind a.word a.self a.judged c.place_after-to.result c.place_after-to.ensures
    c.count_frame.result c.count_frame.ensures c.if-judged.false c.if-tries-lt2.false
