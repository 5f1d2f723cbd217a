-- `crate_pass::Crate::serve` meets its contract. Assumes nothing.
use Rattle.crate_pass.proofs.Serving.{serves-high, serves-none, serves-short, serves-next, serves-done}
use Rattle.crate_pass.proofs.Crate.serve.Goals as goal

pub returns-then-index-gt3 : goal.returns-then-index-gt3
returns-then-index-gt3 c = serves-high _ _ _ _ _ _ _ _ c.refused.ensures c.if-index-gt3.true

pub returns-then-self-ge10 : goal.returns-then-self-ge10
returns-then-self-ge10 c = serves-none _ _ _ _ _ _ _ _ c.refused-then-self-ge10.ensures c.if-index-gt3.false c.if-self-ge10.true

pub returns-then-out-lt28 : goal.returns-then-out-lt28
returns-then-out-lt28 c =
    serves-short _ _ _ _ _ _ _ _ c.refused-then-out-lt28.ensures c.if-index-gt3.false c.if-self-ge10.false c.if-out-lt28.true

-- the frame then outstanding is written
pub returns-then-state-lt10 : goal.returns-then-state-lt10
returns-then-state-lt10 c =
    let judging = c.judge_event-judged in
    serves-next _ _ _ _ _ _ _ judging.result judging.ensures c.moved-served.result c.moved-served.ensures
    c.if-index-gt3.false c.if-self-ge10.false c.if-out-lt28.false
    _ _ _ c.if-state-lt10.true c.step_frame.ensures c.write_frame.ensures

-- the crate is done
pub returns-else-state-lt10 : goal.returns-else-state-lt10
returns-else-state-lt10 c =
    let asked = c.judge_event-judged in
    serves-done _ _ _ _ _ _ _ asked.result asked.ensures c.moved-served.result c.moved-served.ensures
    c.if-index-gt3.false c.if-self-ge10.false c.if-out-lt28.false c.if-state-lt10.false
