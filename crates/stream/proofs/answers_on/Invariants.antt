-- `stream::answers_on`: what its loop keeps, and what falls with each turn.
use lib.ListN.{length}
use Rattle.stream.proofs.Answers.{Answered}
use Rattle.stream.proofs.answers_on.Given as goal

abbrev pub invariant-loop-rest : goal.invariant-loop-rest
invariant-loop-rest l = Answered l.bytes l.count l.board l.answers l.rest

abbrev pub decreases-loop-rest : goal.decreases-loop-rest
decreases-loop-rest l = length l.rest
