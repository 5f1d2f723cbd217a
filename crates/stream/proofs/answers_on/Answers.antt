-- `stream::answers_on` meets its contract. Assumes nothing.
use mathlib.Core.Path.{sym, ◌∙◌}
use native.Mathlib.Omega.{arith}
use Rattle.stream.proofs.Answers.{Turn, answered-none, fresh_up, answered-end, answered-last, fewer-left, answered-more}
use Rattle.stream.proofs.answers_on.Goals.{After-number_given-number}
use Rattle.stream.proofs.answers_on.Goals as goal

pub loop-rest-init : goal.loop-rest-init
loop-rest-init c = answered-none _ _ (c.power_up-up.ensures.board ∙ fresh_up) _ c.requires.0

-- the turn that the body of the loop is, for each of the three goals at its end
turn : (c : After-number_given-number)
    → Turn c.args.bytes.now c.loop-rest.count c.loop-rest.board c.loop-rest.answers c.loop-rest.rest.now c.obey-done.result
    c.number_given-number.result
turn c =
    record {
      short = c.requires.1;
      before = c.loop-rest.invariant;
      more = omega arith;
      obeys = c.obey-done.ensures;
      number = c.number_given-number.ensures;
    }

pub returns-then-is_last : goal.returns-then-is_last
returns-then-is_last c =
    answered-last _ _ _ _ _ _ _ (turn (goal.at.returns-then-is_last c).After-number_given-number) (sym c.is_last.ensures ∙ c.if-is_last.true)

pub loop-rest-smaller : goal.loop-rest-smaller
loop-rest-smaller c =
    fewer-left _ _ _ _ _ _ _ (turn (goal.at.loop-rest-smaller c).After-number_given-number) (sym c.is_last.ensures ∙ c.if-is_last.false)
    _ c.rest_after-after.ensures.contents

pub loop-rest-preserved : goal.loop-rest-preserved
loop-rest-preserved c =
    answered-more _ _ _ _ _ _ _ (turn (goal.at.loop-rest-preserved c).After-number_given-number) (sym c.is_last.ensures ∙ c.if-is_last.false)
    _ c.rest_after-after.ensures.contents _ c.run_out-board.ensures

pub returns : goal.returns
returns c = answered-end _ _ _ _ _ c.loop-rest.invariant (omega arith)
